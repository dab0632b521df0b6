-- The workers that have joined a queue and not yet handed on, in their order.
use Rattle.std.specs.Prelude.{◌≡◌, ℕ, ◌+◌, ◌<◌, ◌≤◌, Bool, true}
use Rattle.lock.specs.Calls.{upd}

-- Ranks are given out one by one. Those from first on and below end are in the line.
pub record Line : Type 0 where
  pub rank : ℕ → ℕ
  pub who : ℕ → ℕ
  pub first : ℕ
  pub end : ℕ

abbrev pub empty : Line
empty = record { rank = λ w. 0; who = λ r. 0; first = 0; end = 0 }

-- a worker joins at the end
abbrev pub joined : Line → ℕ → Line
joined o w = record { rank = upd o.rank w o.end; who = upd o.who o.end w; first = o.first; end = o.end + 1 }

-- the first one hands on
abbrev pub handed : Line → Line
handed o = record { rank = o.rank; who = o.who; first = o.first + 1; end = o.end }

-- Whoever is queued has a rank of the line, and each of these ranks has its worker.
pub record Order (o : Line) (queued : ℕ → Bool) : Type 0 where
  pub sorted : o.first ≤ o.end
  pub within : (w : ℕ) → queued w ≡ true → (w < 16) × (o.first ≤ o.rank w) × (o.rank w < o.end) × (o.who (o.rank w) ≡ w)
  pub member : (r : ℕ) → o.first ≤ r → r < o.end → (queued (o.who r) ≡ true) × (o.rank (o.who r) ≡ r)
