use Rattle.std.proofs.Common.{length, take}
use Rattle.text.specs.Ahead.{ahead}
use Rattle.script.specs.Stages.{Events}
use Rattle.script.specs.Reads.{Reads}
use Rattle.script.proofs.schedule.survey.Given as goal

abbrev pub invariant-loop : goal.invariant-loop
invariant-loop l = (es : Events) × Reads l.most (take 32768 l.text) l.kind es l.read

abbrev pub decreases-loop : goal.decreases-loop
decreases-loop l = length (ahead l.read.reader)
