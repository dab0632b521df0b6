use Rattle.std.proofs.Common.{refl, rules}
use Rattle.std.proofs.lemmas.Iterator.{YieldsList-from_range}
use Rattle.std.proofs.lemmas.Iterator.Search.{find_from_yields_List}
use Rattle.runner.proofs.Ends.{asked, found}
use Rattle.runner.proofs.running.inside_of.Goals as goal

pub returns : goal.returns
returns g c =
    let ps = g.L.Lock.places c.args.book.now.lock in
    found ps (g.met.L.Lock.sound c.args.book.now.lock).sixteen _ (find_from_yields_List (asked ps) _ _ _ c.find.ensures.ran (YieldsList-from_range 0 16 16 refl refl) (λ x b q k. search rules))
