use Rattle.std.proofs.Common.{take}
use Rattle.std.specs.List.{flat_map}
use Rattle.print.specs.Printed.{Prints}
use Rattle.script.specs.Written.{event_text}
use Rattle.script.proofs.written.put_events.Given as goal

abbrev pub invariant-loop-event : goal.invariant-loop-event
invariant-loop-event g l = Prints (g.S.Sink.page l.initial.sink) (flat_map event_text (take l.event-index l.events)) (g.S.Sink.page l.sink)
