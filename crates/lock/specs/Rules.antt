-- What a lock means: sixteen places and the due pair, and what each call does to them.
use Rattle.std.specs.Prelude.{◌≡◌, ℕ, ◌<◌, ◌≤◌, if◌then◌else◌, ◌⊎◌, List, length, Some, None, Ok, Err, Option, Result, ◌≢◌, nat_lt, slice_index_or}
use Rattle.lock.specs.declared.place.Place.{Place}
use Rattle.lock.specs.declared.place.Place.TheVariants.{Out, Waiting, Inside, Leaving}
use Rattle.lock.specs.declared.answer.Answer.{Answer}
use Rattle.lock.specs.declared.answer.Answer.TheVariants.{Done, Entered, Left, Found}
use Rattle.lock.specs.declared.refusal.Refusal.{Refusal}
use Rattle.lock.specs.declared.refusal.Refusal.TheVariants.{NoWorker, Busy, Held, NotHeld, Idle}

-- ## Places

-- the place of a worker; whoever is not among the sixteen is out
abbrev pub place_at : List Place → ℕ → Place
place_at ps w = slice_index_or ps w Out

abbrev pub Nobody : List Place → Place → Type 0
Nobody ps p = (w : ℕ) → place_at ps w ≢ p

abbrev pub Somebody : List Place → Place → Type 0
Somebody ps p = ∥ ((w : ℕ) × (place_at ps w ≡ p)) ∥₁

-- what `place` answers, where f gives each worker's place
abbrev pub place_answer : (ℕ → Place) → ℕ → Result Place Refusal
place_answer f w = if nat_lt w 16 then Ok (f w) else Err NoWorker

-- ## One call

pub data Request : Type 0 where
  locking : Request
  unlocking : Request
  stepping : Request

-- what a call answers and where it leaves its caller, by the caller's place before it
abbrev pub Leads : Request → Place → Result Answer Refusal → Place → Type 0
Leads locking Out r p = (r ≡ Ok Done) × (p ≡ Waiting)
Leads locking Waiting r p = (r ≡ Err Busy) × (p ≡ Waiting)
Leads locking Inside r p = (r ≡ Err Held) × (p ≡ Inside)
Leads locking Leaving r p = (r ≡ Err Busy) × (p ≡ Leaving)
Leads unlocking Out r p = (r ≡ Err NotHeld) × (p ≡ Out)
Leads unlocking Waiting r p = (r ≡ Err Busy) × (p ≡ Waiting)
Leads unlocking Inside r p = (r ≡ Ok Done) × (p ≡ Leaving)
Leads unlocking Leaving r p = (r ≡ Err Busy) × (p ≡ Leaving)
Leads stepping Out r p = (r ≡ Err Idle) × (p ≡ Out)
Leads stepping Waiting (Ok Done) p = p ≡ Waiting
Leads stepping Waiting (Ok Entered) p = p ≡ Inside
Leads stepping Waiting (Ok Left) p = ⊥
Leads stepping Waiting (Ok Found) p = ⊥
Leads stepping Waiting (Err e) p = ⊥
Leads stepping Inside r p = (r ≡ Err Idle) × (p ≡ Inside)
Leads stepping Leaving (Ok Done) p = p ≡ Leaving
Leads stepping Leaving (Ok Left) p = p ≡ Out
Leads stepping Leaving (Ok Entered) p = ⊥
Leads stepping Leaving (Ok Found) p = ⊥
Leads stepping Leaving (Err e) p = ⊥

-- while there is a due pair, its distance does not grow
abbrev pub NotFarther : Option (ℕ × ℕ) → Option (ℕ × ℕ) → Type 0
NotFarther None after = Unit {0}
NotFarther (Some b) None = Unit {0}
NotFarther (Some b) (Some a) = a.1 ≤ b.1

-- a step by the due worker enters or lowers the distance
abbrev pub Nearer : ℕ → Result Answer Refusal → Option (ℕ × ℕ) → Option (ℕ × ℕ) → Type 0
Nearer w r None after = Unit {0}
Nearer w r (Some b) None = b.0 ≡ w → r ≡ Ok Entered
Nearer w r (Some b) (Some a) = b.0 ≡ w → a.1 < b.1

-- the call q by the worker w, answered by r
pub record Obeys {S : Type 0} (places : S → List Place) (pair : S → Option (ℕ × ℕ)) (q : Request) (w : ℕ) (r : Result Answer Refusal) (before after : S) : Type 0 where
  pub unknown : 16 ≤ w → r ≡ Err NoWorker
  pub caller : w < 16 → Leads q (place_at (places before) w) r (place_at (places after) w)
  pub others : (v : ℕ) → (v ≢ w) → place_at (places after) v ≡ place_at (places before) v
  pub refused : (e : Refusal) → r ≡ Err e → after ≡ before
  pub approach : NotFarther (pair before) (pair after)
  pub due_step : q ≡ stepping → Nearer w r (pair before) (pair after)

-- ## Every state

-- v is due, at the distance d
pub record Due (bound : ℕ) (ps : List Place) (v d : ℕ) : Type 0 where
  pub free : Nobody ps Inside
  pub wanted : Somebody ps Waiting
  pub moving : ∥ (place_at ps v ≡ Waiting) ⊎ (place_at ps v ≡ Leaving) ∥₁
  pub least : 1 ≤ d
  pub most : d ≤ bound

-- nobody is due exactly where somebody is inside or nobody waits
abbrev pub Fits : ℕ → List Place → Option (ℕ × ℕ) → Type 0
Fits bound ps None = ∥ Somebody ps Inside ⊎ Nobody ps Waiting ∥₁
Fits bound ps (Some p) = Due bound ps p.0 p.1

pub record Sound (bound : ℕ) (ps : List Place) (pair : Option (ℕ × ℕ)) : Type 0 where
  pub sixteen : length ps ≡ 16
  pub alone : (v w : ℕ) → place_at ps v ≡ Inside → place_at ps w ≡ Inside → v ≡ w
  pub fits : Fits bound ps pair
