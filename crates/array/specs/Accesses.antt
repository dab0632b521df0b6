-- Every word of the array lock after every call that is let through; `lock/specs/Calls.antt` says which calls are.
use Rattle.std.specs.Prelude.{ℕ, ◌+◌, ◌%◌, Bool, true, false, if◌then◌else◌, ◌∷◌, replicate, is_some, Some, None, Ok, Err, Option, slice_index_or, slice_set}
use Rattle.lock.specs.declared.place.Place.{Place}
use Rattle.lock.specs.declared.answer.Answer.TheVariants.{Done, Entered, Left}
use Rattle.lock.specs.declared.refusal.Refusal.TheVariants.{Idle}
use Rattle.lock.specs.Calls.{Outcome}
use Rattle.queue.specs.declared.stage.Stage.{Stage}
use Rattle.queue.specs.declared.stage.Stage.TheVariants.{Away, Coming, Queued, Ready, Within, Leaving}
use Rattle.queue.specs.Stages.{place_of}
use Rattle.queue.specs.Counter.{more}
use Rattle.array.specs.declared.words.Label.{Label}
use Rattle.array.specs.declared.words.Label.TheVariants.{Out, W0, W1, W2, Inside, X0}
use Rattle.array.specs.declared.words.Worker.{Worker}
use Rattle.array.specs.declared.words.Words.{Words}

abbrev pub outside : Worker
outside = record { number = None; label = Out }

abbrev pub new_words : Words
new_words = record { next = 0; slots = true ∷ replicate 15 false; workers = replicate 16 outside }

abbrev pub worker : Words → ℕ → Worker
worker s w = slice_index_or s.workers w outside

abbrev pub label : Words → ℕ → Label
label s w = (worker s w).label

-- a worker's own slot number
abbrev pub number : Words → ℕ → Option ℕ
number s w = (worker s w).number

abbrev pub opened : Words → ℕ → Bool
opened s k = slice_index_or s.slots k false

abbrev pub stage_at : Label → Stage
stage_at Out = Away
stage_at W0 = Coming
stage_at W1 = Queued
stage_at W2 = Ready
stage_at Inside = Within
stage_at X0 = Leaving 4

abbrev pub stage : Words → ℕ → Stage
stage s w = stage_at (label s w)

abbrev pub place : Words → ℕ → Place
place s w = place_of (stage s w)

-- the mark: w has a slot number
abbrev pub mark : Words → ℕ → Bool
mark s w = is_some (number s w)

abbrev pub put : Words → ℕ → Label → Words
put s w l = record { next = s.next; slots = s.slots; workers = slice_set s.workers w (record { number = number s w; label = l }) }

-- after an accepted `lock`
abbrev pub come : Words → ℕ → Words
come s w = put s w W0

-- after an accepted `unlock`
abbrev pub leave : Words → ℕ → Words
leave s w = put s w X0

-- W0 takes the next slot number, W1 stays until that slot is open, W2 shuts it, X0 opens the slot after
-- it and gives the number back. From W1 on a worker has a number; without one it would stay.
abbrev pub access : Label → Option ℕ → Words → ℕ → Outcome Words
access Out k s w = (s, Err Idle)
access W0 k s w = (record { next = more s.next; slots = s.slots; workers = slice_set s.workers w (record { number = Some (s.next % 16); label = W1 }) }, Ok Done)
access W1 None s w = (s, Ok Done)
access W1 (Some k) s w = if opened s k then (put s w W2, Ok Done) else (s, Ok Done)
access W2 None s w = (s, Ok Done)
access W2 (Some k) s w = (record { next = s.next; slots = slice_set s.slots k false; workers = (put s w Inside).workers }, Ok Entered)
access Inside k s w = (s, Err Idle)
access X0 None s w = (s, Ok Done)
access X0 (Some k) s w = (record { next = s.next; slots = slice_set s.slots ((k + 1) % 16) true; workers = slice_set s.workers w outside }, Ok Left)

-- after the access that the worker has before it
abbrev pub accessed : Words → ℕ → Outcome Words
accessed s w = access (label s w) (number s w) s w
