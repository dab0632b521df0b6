use Rattle.std.proofs.Common.{◌++◌, ap}
use Rattle.std.specs.List.{flat_map}
use Rattle.print.proofs.Appending.{then, printed_same}
use Rattle.transcript.specs.Transcribed.{answer_text, ending_text}
use Rattle.transcript.proofs.answers.put_run.Goals as goal

pub returns : goal.returns
returns g c =
    let page = g.S.Sink.page in
    let a = page c.args.sink.now in
    let z = page c.put_ending.new.sink in
    let answers = flat_map answer_text c.args.answers.now in
    printed_same a z _ _ c.put_ending.result (ap (λ n. answers ++ ending_text c.args.ending n) c.misuse_count.ensures)
    (then a (page c.put_answers.new.sink) z answers _ c.put_ending.result c.in_ok-put_answers.ensures c.put_ending.ensures)
