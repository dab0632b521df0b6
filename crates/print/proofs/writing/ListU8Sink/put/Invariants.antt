use Rattle.std.proofs.Common.{take}
use Rattle.print.specs.Printed.{Appended}
use Rattle.print.proofs.writing.ListU8Sink.put.Given as goal

abbrev pub invariant-loop-b : goal.invariant-loop-b
invariant-loop-b l = Appended l.initial.self (take l.b-index l.bytes) l.self
