use Rattle.std.proofs.Common.{codes, decimal}
use Rattle.text.specs.Lines.{line_text}
use Rattle.print.proofs.Appending.{then}
use Rattle.script.proofs.written.put_look.Goals as goal

pub returns : goal.returns
returns g c =
    let page = g.S.Sink.page in
    let e = page c.put_number_line-2.new.sink in
    then (page c.args.sink.now) (page c.put_line.new.sink) e _ _ c.put_number_line-2.result c.in_ok-put_line.ensures
    (then (page c.put_line.new.sink) (page c.put_number_line.new.sink) e (line_text (codes "chest") (decimal c.args.chest)) _ c.put_number_line-2.result c.in_ok-put_number_line.ensures c.put_number_line-2.ensures)
