use Rattle.std.proofs.Common.{codes, decimal}
use Rattle.text.specs.Lines.{line_text}
use Rattle.print.proofs.Appending.{then}
use Rattle.transcript.proofs.answers.put_ending.Goals as goal

pub returns : goal.returns
returns g c =
    let page = g.S.Sink.page in
    let i = page c.put_inside.new.sink in
    let m = page c.put_number_line.new.sink in
    let n = page c.put_number_line-2.new.sink in
    let z = page c.put_number_line-3.new.sink in
    let r = c.put_number_line-3.result in
    then (page c.args.sink.now) i z _ _ r c.in_ok-put_inside.ensures
    (then i m z (line_text (codes "misuse") (decimal c.args.misuse)) _ r c.in_ok-put_number_line.ensures
    (then m n z (line_text (codes "chests") (decimal c.args.ending.chests)) _ r c.in_ok-put_number_line-2.ensures c.put_number_line-3.ensures))
