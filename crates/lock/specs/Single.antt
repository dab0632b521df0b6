-- The rule for a state holds in one way at most, so a lock's type can carry it.
use Rattle.std.proofs.Common.{ℕ, Option, None, Some, List}
use mathlib.Core.Logic.{∥∥₁_prop}
use mathlib.Core.HLevel.{Π_prop, ⊥_prop}
use native.Mathlib.Nat.{ℕ_set}
use native.Mathlib.Bridge.{le_prop}
use Rattle.lock.specs.declared.place.Place.{Place}
use Rattle.lock.specs.Rules.{Due, Fits, Sound}

due_prop : (bound : ℕ) (ps : List Place) (v d : ℕ) → IsProp (Due bound ps v d)
due_prop bound ps v d p q = λ i. record {
  free = Π_prop (λ w. Π_prop (λ e. ⊥_prop)) p.free q.free i;
  wanted = ∥∥₁_prop p.wanted q.wanted i;
  moving = ∥∥₁_prop p.moving q.moving i;
  least = le_prop p.least q.least i;
  most = le_prop p.most q.most i;
}

fits_prop : (bound : ℕ) (ps : List Place) (o : Option (ℕ × ℕ)) → IsProp (Fits bound ps o)
fits_prop bound ps None = ∥∥₁_prop
fits_prop bound ps (Some p) = due_prop bound ps p.0 p.1

pub sound_prop : (bound : ℕ) (ps : List Place) (o : Option (ℕ × ℕ)) → IsProp (Sound bound ps o)
sound_prop bound ps o p q = λ i. record {
  sixteen = ℕ_set _ _ p.sixteen q.sixteen i;
  alone = Π_prop (λ v. Π_prop (λ w. Π_prop (λ a. Π_prop (λ b. ℕ_set v w)))) p.alone q.alone i;
  fits = fits_prop bound ps o p.fits q.fits i;
}
