-- Why a call on a book is refused.
use Rattle.std.specs.Prelude.{ℕ, Bool, true, false, if◌then◌else◌, not, ◌||◌, List, [], ◌∷◌, Some, None, Ok, Err, Option, Result, ◌==◌, nat_le, nat_lt}
use Rattle.lock.specs.declared.place.Place.{Place}
use Rattle.lock.specs.declared.place.Place.TheVariants.{Out, Waiting, Inside, Leaving}
use Rattle.lock.specs.declared.refusal.Refusal.{Refusal}
use Rattle.lock.specs.declared.refusal.Refusal.TheVariants.{NoWorker, Busy, Held, NotHeld, Idle, NotInside, NoSlip, Known, Heavy, BookFull}
use Rattle.lock.specs.Numbers.{place_number}
use Rattle.book.specs.declared.call.Call.{Call}
use Rattle.book.specs.declared.call.Call.TheVariants.{Lock, Unlock, Step, Look, Enter}
use Rattle.book.specs.declared.table.Slip.{Slip}

abbrev pub is_at : Place → Place → Bool
is_at q p = place_number p == place_number q

abbrev pub no_slip : Option Slip → Bool
no_slip None = true
no_slip (Some s) = false

abbrev pub says_found : Option Slip → Bool
says_found None = false
says_found (Some s) = s.found

-- a cause, whether it applies, and the refusal that it gives
abbrev pub Row : Type 0
Row = Bool × Refusal

-- the causes for which each call may be refused, the smallest number first: by the caller's place and slip, and the number of records
abbrev pub causes : Call → Place → Option Slip → ℕ → List Row
causes Lock p s n = (is_at Waiting p || is_at Leaving p, Busy) ∷ ((is_at Inside p, Held) ∷ [])
causes Unlock p s n = (is_at Waiting p || is_at Leaving p, Busy) ∷ ((is_at Out p, NotHeld) ∷ [])
causes Step p s n = (is_at Out p || is_at Inside p, Idle) ∷ []
causes (Look c g) p s n = (not (is_at Inside p), NotInside) ∷ ((nat_lt 1000000 g, Heavy) ∷ [])
causes Enter p s n = (not (is_at Inside p), NotInside) ∷ ((no_slip s, NoSlip) ∷ ((says_found s, Known) ∷ ((nat_le 256 n, BookFull) ∷ [])))

abbrev pub first : List Row → Option Refusal
first [] = None
first (r ∷ rs) = if r.0 then Some r.1 else first rs

-- the first cause that applies to a call by the worker w, if any does
abbrev pub cause : Call → ℕ → Place → Option Slip → ℕ → Option Refusal
cause c w p s n = first ((nat_le 16 w, NoWorker) ∷ causes c p s n)

-- what a worker gets that has to be inside
abbrev pub inside_answer : Place → ℕ → Result (Unit {0}) Refusal
inside_answer p w = if nat_lt w 16 then (if is_at Inside p then Ok tt else Err NotInside) else Err NoWorker
