use Rattle.std.proofs.Common.{◌++◌, length, take, Ok, codes, decimal, ap, ◌∙◌, subst, arith}
use Rattle.std.specs.List.{flat_map}
use Rattle.text.proofs.Exits.{exit_err}
use Rattle.lock.specs.declared.answer.Answer.TheVariants.{Done}
use Rattle.text.specs.Lines.{line_text}
use Rattle.print.specs.Printed.{Prints}
use Rattle.print.proofs.Appending.{prints_more}
use Rattle.print.proofs.Joining.{joined_next, joined_short}
use Rattle.transcript.specs.Transcribed.{answer_text}
use Rattle.transcript.proofs.answers.put_answers.Goals as goal

pub returns-in_err-put_number_line : goal.returns-in_err-put_number_line
returns-in_err-put_number_line g c =
    let page = g.S.Sink.page in
    let same = ap (λ n. length (line_text (codes "answer") (decimal n))) c.outcome_number.ensures in
    rw (exit_err c.from_residual.result c.from_residual.ensures.1) (joined_short (page c.args.sink.now) (page c.loop-answer.sink) answer_text c.args.answers.now c.loop-answer.answer-index (Ok Done) c.loop-answer-test.true c.loop-answer.invariant (omega (arith, c.in_err-put_number_line.ensures, same)))

pub loop-answer-preserved : goal.loop-answer-preserved
loop-answer-preserved g c =
    let page = g.S.Sink.page in
    let xs = c.args.answers.now in
    let i = c.loop-answer.answer-index in
    let done = flat_map answer_text (take i xs) in
    let here = line_text (codes "answer") (decimal c.outcome_number.result) in
    let next = ap (λ n. done ++ line_text (codes "answer") (decimal n)) c.outcome_number.ensures ∙ joined_next answer_text xs i _ c.loop-answer-test.true in
    subst (λ l. Prints (page c.args.sink.now) l (page c.put_number_line.new.sink)) next
    (prints_more (page c.args.sink.now) (page c.loop-answer.sink) (page c.put_number_line.new.sink) done here c.loop-answer.invariant c.in_ok-put_number_line.ensures)
