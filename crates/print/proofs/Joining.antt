-- Parts of a text printed in a loop.
use Rattle.std.proofs.Common.{◌≡◌, ℕ, ◌+◌, ◌<◌, List, [], ◌++◌, length, get_or, take, sym, ap, ◌∙◌, arith}
use Rattle.std.specs.List.{flat_map}
use Rattle.print.specs.Printed.{Page, Prints}
use Rattle.std.proofs.lemmas.List.{take_more, flat_map_more}
use Rattle.std.proofs.lemmas.List.Folds.{length-flat_map-take}

-- one part more
pub joined_next : {X : Type 0} (f : X → List ℕ) (xs : List X) (i : ℕ) (d : X) → i < length xs → flat_map f (take i xs) ++ f (get_or xs i d) ≡ flat_map f (take (i + 1) xs)
joined_next f xs i d h = flat_map_more f [] (take i xs) (get_or xs i d) ∙ sym (ap (flat_map f) (take_more xs i d h))

-- a part that does not fit
pub joined_short : {X : Type 0} (a b : Page) (f : X → List ℕ) (xs : List X) (i : ℕ) (d : X) → i < length xs → Prints a (flat_map f (take i xs)) b → b.space < length (f (get_or xs i d)) → a.space < length (flat_map f xs)
joined_short a b f xs i d h p short = omega (arith, p.spent, length-flat_map-take f xs i d h)
