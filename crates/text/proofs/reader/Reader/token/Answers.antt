use Rattle.std.proofs.Common.{◌∷◌, sym, refl, ap, ◌∙◌}
use Rattle.text.specs.Cuts.{before, after}
use Rattle.text.specs.Lines.{whole, lines}
use Rattle.text.proofs.Cutting.{found, missing}
use Rattle.text.proofs.First.{lines_whole, lines_cut, some_lines}
use Rattle.text.proofs.reader.Reader.token.Goals as goal

pub returns-in_default : goal.returns-in_default
returns-in_default c =
    let left = c.args.self.now.left.now in
    (refl, lines_cut left (missing 10 left (sym c.find.ensures ∙ c.in_default.is)) (some_lines left c.if-is_done.ensures), refl)

pub returns : goal.returns
returns c =
    let left = c.args.self.now.left.now in
    let cut = found 10 left c.in-Some.end (sym c.find.ensures ∙ c.in-Some.is) in
    let key = c.split.ensures.key ∙ ap (before 61) cut.front in
    let value = c.split.ensures.value ∙ ap (after 61) cut.front in
    (refl, record { next = lines_whole left cut.there ∙ sym (λ i. whole (key i) (value i) ∷ lines (cut.back i)); count = refl })
