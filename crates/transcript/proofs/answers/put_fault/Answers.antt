use Rattle.std.proofs.Common.{◌++◌, codes, decimal}
use Rattle.text.specs.Lines.{line_text}
use Rattle.print.proofs.Appending.{then, printed_same}
use Rattle.transcript.proofs.answers.put_fault.Goals as goal

pub returns : goal.returns
returns g c =
    let page = g.S.Sink.page in
    let a = page c.args.sink.now in
    let z = page c.put_number_line-2.new.sink in
    let one = c.number.ensures in
    let two = c.line.ensures in
    printed_same a z _ _ c.put_number_line-2.result (λ i. line_text (codes "fault") (decimal (one i)) ++ line_text (codes "line") (decimal (two i)))
    (then a _ z _ _ c.put_number_line-2.result c.in_ok-put_number_line.ensures c.put_number_line-2.ensures)
