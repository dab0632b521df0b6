use Rattle.std.proofs.Common.{◌≡◌, ◌≤◌, length, take}
use Rattle.list.specs.Held.{KeepsRest, list_items, list_len, list_room}
use Rattle.text.specs.Ahead.{ahead}
use Rattle.script.specs.Reads.{Reads}
use Rattle.script.proofs.schedule.fill.Given as goal

abbrev pub invariant-loop-event : goal.invariant-loop-event
invariant-loop-event l = record {
  len : length (list_items l.events) ≡ list_len l.events;
  room : l.most ≤ list_room l.events;
  rest : KeepsRest l.fn.events l.events;
  reads : Reads l.most (take 32768 l.text) l.kind (list_items l.events) l.read;
}

abbrev pub decreases-loop-event : goal.decreases-loop-event
decreases-loop-event l = length (ahead l.read.reader)
