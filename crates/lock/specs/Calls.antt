-- What the calls of every kind of lock have in common, over the words that a kind has.
use Rattle.std.specs.Prelude.{ℕ, Bool, false, if◌then◌else◌, Some, None, Ok, Err, Option, Result, ◌==◌, nat_lt}
use Rattle.lock.specs.declared.place.Place.{Place}
use Rattle.lock.specs.declared.place.Place.TheVariants.{Out, Waiting, Inside, Leaving}
use Rattle.lock.specs.declared.answer.Answer.{Answer}
use Rattle.lock.specs.declared.answer.Answer.TheVariants.{Done}
use Rattle.lock.specs.declared.refusal.Refusal.{Refusal}
use Rattle.lock.specs.declared.refusal.Refusal.TheVariants.{NoWorker, Busy, Held, NotHeld}

-- what `index_of` answers
abbrev pub index_answer : ℕ → Result ℕ Refusal
index_answer w = if nat_lt w 16 then Ok w else Err NoWorker

-- the words that a call leaves, and its answer
abbrev pub Outcome : Type 0 → Type 0
Outcome S = S × Result Answer Refusal

-- a call looks at its worker's number first
abbrev pub known : {S : Type 0} → ℕ → S → Outcome S → Outcome S
known w s o = if nat_lt w 16 then o else (s, Err NoWorker)

-- `lock` on the words s by a worker at a place, where an accepted one leaves t
abbrev pub locks : {S : Type 0} → Place → S → S → Outcome S
locks Out s t = (t, Ok Done)
locks Waiting s t = (s, Err Busy)
locks Inside s t = (s, Err Held)
locks Leaving s t = (s, Err Busy)

-- `unlock` likewise; it goes by the mark, not by whether its caller is inside
abbrev pub unlocks : {S : Type 0} → Place → Bool → S → S → Outcome S
unlocks Out marked s t = if marked then (t, Ok Done) else (s, Err NotHeld)
unlocks Waiting marked s t = (s, Err Busy)
unlocks Inside marked s t = if marked then (t, Ok Done) else (s, Err NotHeld)
unlocks Leaving marked s t = (s, Err Busy)

-- whether a word that names a worker or nobody names w
abbrev pub names : Option ℕ → ℕ → Bool
names None w = false
names (Some h) w = h == w

-- f with x at i
abbrev pub upd : {A : Type 0} → (ℕ → A) → ℕ → A → ℕ → A
upd f i x j = if j == i then x else f j
