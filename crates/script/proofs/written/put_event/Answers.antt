use Rattle.print.proofs.Appending.{then}
use Rattle.script.proofs.written.put_event.Goals as goal

pub returns : goal.returns
returns g c = then _ _ (g.S.Sink.page c.put_call.new.sink) _ _ c.put_call.result c.in_ok-put_number_line.ensures c.put_call.ensures
