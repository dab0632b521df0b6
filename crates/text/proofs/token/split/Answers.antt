use Rattle.std.proofs.Common.{◌≡◌, false, sym, ◌∙◌}
use Rattle.text.specs.Cuts.{has}
use Rattle.text.proofs.Cutting.{found, missing, before_all, after_all}
use Rattle.text.proofs.token.split.Goals as goal

pub returns-in_default : goal.returns-in_default
returns-in_default c =
    let row = c.args.row.now in
    let none : has 61 row ≡ false = missing 61 row (sym c.find.ensures ∙ c.in_default.is) in
    record { key = sym (before_all 61 row none); value = sym (after_all 61 row none) }

pub returns : goal.returns
returns c =
    let cut = found 61 c.args.row.now c.in-Some.sign (sym c.find.ensures ∙ c.in-Some.is) in
    record { key = cut.front; value = cut.back }
