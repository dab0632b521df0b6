-- Decimal numbers without leading zeros.
use Rattle.std.specs.Prelude.{◌≡◌, ℕ, ◌<◌, ◌≤◌, List, length, Some, None, decimal, Option, ◌≢◌, slice_index}
use Rattle.std.specs.Int.{IsInRange}

-- the number up to a limit that the bytes write, if there is one
abbrev pub ReadsUpTo : ℕ → List ℕ → Option ℕ → Type 0
ReadsUpTo most bytes (Some n) = (n ≤ most) × (bytes ≡ decimal n)
ReadsUpTo most bytes None = (n : ℕ) → n ≤ most → bytes ≢ decimal n

-- a digit first, which is 0 only where it stands alone
pub record Plain (bytes : List ℕ) : Type 0 where
  pub some : 0 < length bytes
  pub digit : IsInRange 48 57 (slice_index bytes 0)
  pub zero : slice_index bytes 0 ≡ 48 → length bytes ≡ 1
