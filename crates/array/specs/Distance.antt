-- How far off each worker is: by its stage, and by whether its slot is open.
use Rattle.std.specs.Prelude.{ℕ, ◌%◌, Bool, false, Some, None, Option}
use Rattle.queue.specs.declared.stage.Stage.{Stage}
use Rattle.queue.specs.declared.stage.Stage.TheVariants.{Away, Coming, Queued, Ready, Within, Leaving}
use Rattle.queue.specs.Stages.{distance_of}
use Rattle.array.specs.declared.words.Words.{Words}
use Rattle.array.specs.Accesses.{number, opened, stage}

-- its own slot, or that which it would be given
abbrev pub turn_at : (next : ℕ) (slots : ℕ → Bool) → Stage → Option ℕ → Bool
turn_at next slots Away k = false
turn_at next slots Coming k = slots (next % 16)
turn_at next slots Queued None = false
turn_at next slots Queued (Some k) = slots k
turn_at next slots Ready k = false
turn_at next slots Within k = false
turn_at next slots (Leaving n) k = false

abbrev pub turn : Words → ℕ → Bool
turn s w = turn_at s.next (opened s) (stage s w) (number s w)

abbrev pub distance : Words → ℕ → Option ℕ
distance s w = distance_of (stage s w) (turn s w)
