-- Small facts that the kinds, the book and the runs all use.
use Rattle.std.proofs.Common.{◌≡◌, ℕ, zero, suc, true, get_or, replicate, Some, None, refl, arith}
use Rattle.std.proofs.lemmas.Bool.{false≢true}
use Rattle.lock.specs.declared.place.Place.{Place}
use Rattle.lock.specs.declared.place.Place.TheVariants.{Out, Waiting, Inside, Leaving}
use Rattle.lock.specs.Distance.{is_inside, is_waiting}

pub inside_is : (p : Place) → is_inside p ≡ true → p ≡ Inside
inside_is Out e = absurd (false≢true e)
inside_is Waiting e = absurd (false≢true e)
inside_is Inside e = refl
inside_is Leaving e = absurd (false≢true e)

pub waiting_is : (p : Place) → is_waiting p ≡ true → p ≡ Waiting
waiting_is Out e = absurd (false≢true e)
waiting_is Waiting e = refl
waiting_is Inside e = absurd (false≢true e)
waiting_is Leaving e = absurd (false≢true e)

pub never : {A : Type 0} {d : ℕ} → None ≡ Some d → A
never {A} {d} e = let z : ◌≡◌ {A = ℕ} 0 1 = cc in absurd (omega arith)

-- n times the same
pub all_same : {A : Type 0} (n : ℕ) (x : A) (v : ℕ) → get_or (replicate n x) v x ≡ x
all_same zero x v = refl
all_same (suc n) x zero = refl
all_same (suc n) x (suc v) = all_same n x v
