-- Ways to cheat, over any states and calls. That each of them is at odds with the rules shows that the rules are not hollow.
use Rattle.std.specs.Prelude.{◌≡◌, ℕ, zero, suc, List, replicate, Some, Ok, Err, Option, ◌≢◌}
use Rattle.lock.specs.declared.place.Place.{Place}
use Rattle.lock.specs.declared.place.Place.TheVariants.{Out, Waiting, Inside}
use Rattle.lock.specs.declared.answer.Answer.TheVariants.{Done, Entered}
use Rattle.lock.specs.declared.refusal.Refusal.{Refusal}
use Rattle.lock.specs.Rules.{Obeys, Sound, place_at, locking, unlocking, stepping}
use Rattle.lock.specs.Calls.{Outcome}

-- a lock by its states and calls
pub record Calls (S : Type 0) : Type 0 where
  pub places : S → List Place
  pub pair : S → Option (ℕ × ℕ)
  pub new : S
  pub lock : S → ℕ → Outcome S
  pub unlock : S → ℕ → Outcome S
  pub step : S → ℕ → Outcome S

module _ {S : Type 0} where
  -- it keeps the rules of the trait `Lock`
  pub record Keeps (bound : ℕ) (c : Calls S) : Type 0 where
    pub sound : (s : S) → Sound bound (c.places s) (c.pair s)
    pub fresh : c.places c.new ≡ replicate 16 Out
    pub locks : (s : S) (w : ℕ) → Obeys c.places c.pair locking w (c.lock s w).1 s (c.lock s w).0
    pub unlocks : (s : S) (w : ℕ) → Obeys c.places c.pair unlocking w (c.unlock s w).1 s (c.unlock s w).0
    pub steps : (s : S) (w : ℕ) → Obeys c.places c.pair stepping w (c.step s w).1 s (c.step s w).0

  -- no step enters
  abbrev pub LetsNobodyIn : Calls S → Type 0
  LetsNobodyIn c = (s : S) (w : ℕ) → (c.step s w).1 ≢ Ok Entered

  -- each step of a waiting worker enters
  abbrev pub LetsEverybodyIn : Calls S → Type 0
  LetsEverybodyIn c = (s : S) (w : ℕ) → place_at (c.places s) w ≡ Waiting → (c.step s w).1 ≡ Ok Entered

  -- no unlock is accepted
  abbrev pub DeniesEachUnlock : Calls S → Type 0
  DeniesEachUnlock c = (s : S) (w : ℕ) → (c.unlock s w).1 ≢ Ok Done

  -- so many due steps in a row, none of which enters
  pub data Fruitless (c : Calls S) : ℕ → S → Type 0 where
    stop : {s : S} → Fruitless c zero s
    on : {n : ℕ} {s : S} (p : ℕ × ℕ) → c.pair s ≡ Some p → ((c.step s p.0).1 ≢ Ok Entered) → Fruitless c n (c.step s p.0).0 → Fruitless c (suc n) s

  -- somebody is due, and as many due steps as its distance says enter nobody
  abbrev pub MakesUpDistances : Calls S → Type 0
  MakesUpDistances c = (s : S) × (p : ℕ × ℕ) × (c.pair s ≡ Some p) × Fruitless c p.1 s

  -- a call of `lock` brings its caller from out to inside
  abbrev pub EntersAtOnce : Calls S → Type 0
  EntersAtOnce c = (s : S) × (w : ℕ) × (place_at (c.places s) w ≡ Out) × (place_at (c.places (c.lock s w).0) w ≡ Inside)

  -- no lock is refused
  abbrev pub NeverRefuses : Calls S → Type 0
  NeverRefuses c = (s : S) (w : ℕ) (e : Refusal) → (c.lock s w).1 ≢ Err e

  -- a lock that does such a thing does not keep the rules
  abbrev pub ShutOut : (Calls S → Type 0) → Type 0
  ShutOut Cheats = (bound : ℕ) (c : Calls S) → Keeps bound c → Cheats c → ⊥
