-- What a kind of lock shows of its words, so that a lock of them keeps the rules.
use Rattle.std.specs.Prelude.{◌≡◌, ℕ, List, Option}
use Rattle.lock.specs.declared.place.Place.{Place}
use Rattle.lock.specs.declared.place.Place.TheVariants.{Out}
use Rattle.lock.specs.Rules.{Request, locking, unlocking, stepping, Obeys, Sound}
use Rattle.lock.specs.Calls.{Outcome, known, locks, unlocks}
use Rattle.lock.specs.Distance.{listed, due_of}
use Rattle.lock.specs.declared.algorithm.Algorithm.{Ghosts}

module _ {S : Type 0} (a : Ghosts S) where
  abbrev pub places : S → List Place
  places s = listed (a.place_of s)

  abbrev pub pair : S → Option (ℕ × ℕ)
  pair s = due_of (a.place_of s) (a.distance_of s)

  -- ## The calls

  abbrev pub locked : S → ℕ → Outcome S
  locked s w = known w s (locks (a.place_of s w) s (a.come s w))

  -- it goes by the mark, not by whether its caller is inside
  abbrev pub unlocked : S → ℕ → Outcome S
  unlocked s w = known w s (unlocks (a.place_of s w) (a.shows s w) s (a.leave s w))

  abbrev pub stepped : S → ℕ → Outcome S
  stepped s w = known w s (a.access s w)

  -- ## The laws

  -- a call by w on the words s keeps what holds of them, and the rules
  abbrev pub Keeps : Request → ℕ → S → Outcome S → Type 0
  Keeps q w s o = (a.Holds s → a.Holds o.0) × Obeys places pair q w o.1 s o.0

  pub record Lawful : Type 0 where
    pub starts : ∥ a.Holds a.new ∥₁
    pub out : (w : ℕ) → a.place_of a.new w ≡ Out
    pub sound : (s : S) → ∥ a.Holds s ∥₁ → Sound a.BOUND (places s) (pair s)
    pub lock : (s : S) (w : ℕ) → ∥ a.Holds s ∥₁ → Keeps locking w s (locked s w)
    pub unlock : (s : S) (w : ℕ) → ∥ a.Holds s ∥₁ → Keeps unlocking w s (unlocked s w)
    pub step : (s : S) (w : ℕ) → ∥ a.Holds s ∥₁ → Keeps stepping w s (stepped s w)
