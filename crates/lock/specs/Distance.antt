-- Who is due, by distances: how many accesses at most are left until the worker, or another that it
-- brings on, is inside. Most workers have no distance.
use Rattle.std.specs.Prelude.{ℕ, zero, suc, Bool, true, false, if◌then◌else◌, ◌||◌, List, map, Some, None, Option, nat_le}
use Rattle.std.specs.List.{range_with_len}
use Rattle.lock.specs.declared.place.Place.{Place}
use Rattle.lock.specs.declared.place.Place.TheVariants.{Out, Waiting, Inside, Leaving}

-- the sixteen places, given by worker
unfoldable pub listed : (ℕ → Place) → List Place
listed f = map f (range_with_len 0 16)

-- the nearer of two, the first where they are as near
abbrev pub nearer : Option (ℕ × ℕ) → ℕ → Option ℕ → Option (ℕ × ℕ)
nearer best v None = best
nearer None v (Some d) = Some (v, d)
nearer (Some b) v (Some d) = if nat_le b.1 d then Some b else Some (v, d)

-- the least distance among the first n workers, the lowest worker first
unfoldable pub nearest : (ℕ → Option ℕ) → ℕ → Option (ℕ × ℕ)
nearest u zero = None
nearest u (suc n) = nearer (nearest u n) n (u n)

abbrev pub is_inside : Place → Bool
is_inside Out = false
is_inside Waiting = false
is_inside Inside = true
is_inside Leaving = false

abbrev pub is_waiting : Place → Bool
is_waiting Out = false
is_waiting Waiting = true
is_waiting Inside = false
is_waiting Leaving = false

-- whether one of the first n workers is at such a place
unfoldable pub anyone : (Place → Bool) → (ℕ → Place) → ℕ → Bool
anyone test f zero = false
anyone test f (suc n) = test (f n) || anyone test f n

-- nobody is due where somebody is inside or nobody waits
abbrev pub due_of : (ℕ → Place) → (ℕ → Option ℕ) → Option (ℕ × ℕ)
due_of f u = if anyone is_inside f 16 then None else (if anyone is_waiting f 16 then nearest u 16 else None)
