use Rattle.std.proofs.Common.{take}
use Rattle.std.specs.List.{flat_map}
use Rattle.print.specs.Printed.{Prints}
use Rattle.transcript.specs.Transcribed.{answer_text}
use Rattle.transcript.proofs.answers.put_answers.Given as goal

abbrev pub invariant-loop-answer : goal.invariant-loop-answer
invariant-loop-answer g l = Prints (g.S.Sink.page l.initial.sink) (flat_map answer_text (take l.answer-index l.answers)) (g.S.Sink.page l.sink)
