use Rattle.std.proofs.Common.{◌++◌, codes, ap}
use Rattle.std.specs.List.{flat_map}
use Rattle.text.specs.Lines.{line_text}
use Rattle.print.proofs.Appending.{then, printed_same}
use Rattle.script.specs.Written.{event_text, schedule_text}
use Rattle.script.proofs.written.put_schedule.Goals as goal

pub returns : goal.returns
returns g c =
    let page = g.S.Sink.page in
    let a = page c.args.sink.now in
    let d = page c.put_events.new.sink in
    let rest = flat_map event_text c.args.events.now in
    printed_same a d _ (schedule_text c.args.kind c.args.events.now) c.put_events.result (ap (λ n. line_text (codes "lock") n ++ rest) c.name.ensures)
    (then a (page c.put_line.new.sink) d (line_text (codes "lock") c.name.result.now) rest c.put_events.result c.in_ok-put_line.ensures c.put_events.ensures)
