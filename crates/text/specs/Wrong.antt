-- What is wrong with the next line, which should have a given key and an allowed value.
use Rattle.std.specs.Prelude.{◌≡◌, ℕ, ◌≤◌, List, [], ◌∷◌, decimal, ◌≢◌}
use Rattle.text.specs.Lines.{Line, whole, cut}
use Rattle.text.specs.declared.fault.Fault.{Fault}
use Rattle.text.specs.declared.fault.Fault.TheVariants.{Key, Value, Ended}

abbrev pub Any : List ℕ → Type 0
Any value = Unit {0}

abbrev pub UpTo : ℕ → List ℕ → Type 0
UpTo most value = (n : ℕ) × (n ≤ most) × (value ≡ decimal n)

-- the key is looked at first
pub data Amiss (expected : List ℕ) (Allowed : List ℕ → Type 0) (key value : List ℕ) (n : ℕ) (f : Fault) : Type 0 where
  other_key : (key ≢ expected) → f ≡ Key n → Amiss expected Allowed key value n f
  bad_value : key ≡ expected → (Allowed value → ⊥) → f ≡ Value n → Amiss expected Allowed key value n f

-- the lines from the number n on
abbrev pub Wrong : List ℕ → (List ℕ → Type 0) → List Line → ℕ → Fault → Type 0
Wrong expected Allowed [] n f = f ≡ Ended n
Wrong expected Allowed (cut ∷ ls) n f = f ≡ Ended n
Wrong expected Allowed (whole key value ∷ ls) n f = Amiss expected Allowed key value n f
