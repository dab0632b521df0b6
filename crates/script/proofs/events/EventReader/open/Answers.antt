use Rattle.std.proofs.Common.{take, arith}
use Rattle.script.proofs.Whole.{opened}
use Rattle.script.proofs.events.EventReader.open.Goals as goal

pub returns : goal.returns
returns c = record { counted = omega arith; then = λ v j. opened c.args.most (take 32768 c.args.text.now) c.new-reader.result v c.new-reader.ensures ((c.in_ok-kind.ensures c.args.most).then v j) }
