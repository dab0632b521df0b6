use Rattle.std.proofs.Common.{take, refl, ap, ◌∙◌}
use Rattle.std.proofs.lemmas.List.{take_min}
use Rattle.text.specs.Lines.{lines}
use Rattle.text.proofs.reader.Reader.new.Goals as goal

pub returns : goal.returns
returns c = record { all = ap lines (ap (λ n. take n c.args.text.now) c.min.ensures ∙ take_min 32768 c.args.text.now); first = refl }
