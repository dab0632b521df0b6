use Rattle.std.proofs.Common.{◌≡◌, ℕ, cond, eqb, List, [], ◌∷◌, take, refl, ◌∙◌, ap, arith, rules, tests}
use Rattle.std.specs.List.{list_any}
use Rattle.std.proofs.lemmas.Bool.Decides.{nat_tests}
use Rattle.std.proofs.lemmas.Iterator.{YieldsList-from_slice}
use Rattle.std.proofs.lemmas.Iterator.Search.{any_from_yields_List}
use Rattle.std.proofs.lemmas.List.{take_min}
use Rattle.std.proofs.lemmas.List.Sums.{sum_by-cons}
use Rattle.book.specs.declared.table.Record.{Record}
use Rattle.book.specs.Stock.{holds, records_of}
use Rattle.book.proofs.table.Table.has.Goals as goal

any_holds : (chest : ℕ) (rs : List Record) → list_any (λ (r : Record). eqb r.chest chest) rs ≡ holds rs chest
any_holds chest [] = refl
any_holds chest (r ∷ rs) = let more = sum_by-cons (λ (x : Record). cond (eqb x.chest chest) 1 0) r rs in grind (arith, nat_tests, any_holds chest rs)

pub returns : goal.returns
returns c =
    let all = c.as_slice-all.result.now in
    let start : c.iter.result.rest.now ≡ records_of c.args.self.now = c.iter.ensures.rest ∙ ap (λ n. take n all) c.min.ensures ∙ take_min c.args.self.now.len all ∙ ap (λ xs. take c.args.self.now.len xs) c.as_slice-all.ensures
    in any_from_yields_List (λ (r : Record). eqb r.chest c.args.chest) _ _ _ c.any.ensures.ran
    (YieldsList-from_slice (records_of c.args.self.now) start)
    (λ x b q k. search (rules, tests)) ∙ any_holds c.args.chest (records_of c.args.self.now)
