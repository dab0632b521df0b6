-- What it takes for a look or an enter to be accepted.
use Rattle.std.proofs.Common.{◌≡◌, ℕ, ◌<◌, Bool, true, false, not, ltb, leb, List, [], ◌∷◌, Some, None, Option, refl}
use Rattle.std.proofs.lemmas.Bool.{leb-false, not-false}
use Rattle.lock.specs.declared.place.Place.{Place}
use Rattle.lock.specs.declared.place.Place.TheVariants.{Out, Waiting, Inside, Leaving}
use Rattle.lock.specs.declared.refusal.Refusal.{Refusal}
use Rattle.lock.specs.declared.refusal.Refusal.TheVariants.{NoWorker, NotInside, NoSlip, Known, Heavy, BookFull}
use Rattle.book.specs.declared.call.Call.TheVariants.{Look, Enter}
use Rattle.book.specs.declared.table.Slip.{Slip}
use Rattle.book.specs.Causes.{Row, causes, first, cause, is_at, no_slip, says_found}

pub first_none : (b : Bool) (e : Refusal) (rs : List Row) → first ((b, e) ∷ rs) ≡ None → (b ≡ false) × (first rs ≡ None)
first_none true e rs k = cc
first_none false e rs k = (refl, k)

inside_is : (p : Place) → is_at Inside p ≡ true → p ≡ Inside
inside_is Out e = cc
inside_is Waiting e = cc
inside_is Inside e = refl
inside_is Leaving e = cc

-- of a call that only a worker inside may make, what is left to test
inside_only : (w : ℕ) (p : Place) (rs : List Row) → first ((leb 16 w, NoWorker) ∷ ((not (is_at Inside p), NotInside) ∷ rs)) ≡ None → (w < 16) × (p ≡ Inside) × (first rs ≡ None)
inside_only w p rs e =
    let a = first_none (leb 16 w) NoWorker ((not (is_at Inside p), NotInside) ∷ rs) e in
    let b = first_none (not (is_at Inside p)) NotInside rs a.1 in
    (leb-false 16 w a.0, inside_is p (not-false _ b.0), b.1)

pub look_inside : (w c g : ℕ) (p : Place) (o : Option Slip) (n : ℕ) → cause (Look c g) w p o n ≡ None → (w < 16) × (p ≡ Inside)
look_inside w c g p o n e = let k = inside_only w p ((ltb 1000000 g, Heavy) ∷ []) e in (k.0, k.1)

pub enter_inside : (w : ℕ) (p : Place) (o : Option Slip) (n : ℕ) → cause Enter w p o n ≡ None → (w < 16) × (p ≡ Inside) × (first (causes Enter Inside o n) ≡ None)
enter_inside w p o n e = inside_only w p ((no_slip o, NoSlip) ∷ ((says_found o, Known) ∷ ((leb 256 n, BookFull) ∷ []))) e

-- an enter by a worker inside
pub enter_accepted : (o : Option Slip) (n : ℕ) → first (causes Enter Inside o n) ≡ None → (s : Slip) × (o ≡ Some s) × (s.found ≡ false) × (n < 256)
enter_accepted None n e = cc
enter_accepted (Some s) n e =
    let a = first_none s.found Known ((leb 256 n, BookFull) ∷ []) e in
    (s, refl, a.0, leb-false 256 n (first_none (leb 256 n) BookFull [] a.1).0)
