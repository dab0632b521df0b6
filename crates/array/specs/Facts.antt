-- What holds of the words at every moment: they count the line of the workers that have taken a slot
-- number and not yet opened the slot after it.
use Rattle.std.specs.Prelude.{◌≡◌, ℕ, ◌%◌, ◌^◌, ◌<◌, Bool, true, false, if◌then◌else◌, length, Some, None, Option, ◌==◌}
use Rattle.queue.specs.declared.stage.Stage.{Stage}
use Rattle.queue.specs.declared.stage.Stage.TheVariants.{Away, Coming, Queued, Ready, Within, Leaving}
use Rattle.queue.specs.Stages.{in_line, Staged}
use Rattle.queue.specs.Line.{Line}
use Rattle.array.specs.declared.words.Words.{Words}
use Rattle.array.specs.Accesses.{number, opened, stage}

abbrev pub Sixteen : Words → Type 0
Sixteen s = (length s.workers ≡ 16) × (length s.slots ≡ 16)

-- the stages at which a worker has shut its slot and not yet opened the one after it
abbrev pub holds : Stage → Bool
holds Away = false
holds Coming = false
holds Queued = false
holds Ready = false
holds Within = true
holds (Leaving n) = true

pub record Counted (next : ℕ) (slots : ℕ → Bool) (numbers : ℕ → Option ℕ) (stage : ℕ → Stage) (o : Line) : Type 0 where
  pub staged : Staged o stage
  -- the next number counts the ranks given out
  pub gives : next ≡ o.end % 2 ^ 32
  -- whoever is in the line has its rank for a slot number, modulo 16
  pub numbered : (w : ℕ) → numbers w ≡ (if in_line (stage w) then Some (o.rank w % 16) else None)
  -- no slot is open while somebody holds, else the slot of the first rank alone
  pub shut : (w : ℕ) → holds (stage w) ≡ true → (k : ℕ) → k < 16 → slots k ≡ false
  pub opens : ((w : ℕ) → holds (stage w) ≡ false) → (k : ℕ) → k < 16 → slots k ≡ (o.first % 16 == k)

-- some line is counted so
abbrev pub Ordered : Words → Type 0
Ordered s = (o : Line) × Counted s.next (opened s) (number s) (stage s) o

abbrev pub Holds : Words → Type 0
Holds s = Sixteen s × Ordered s
