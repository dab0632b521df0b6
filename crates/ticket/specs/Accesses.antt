-- Every word of the ticket lock after every call that is let through; `lock/specs/Calls.antt` says which calls are.
use Rattle.std.specs.Prelude.{ℕ, Bool, if◌then◌else◌, replicate, Some, None, Ok, Err, ◌==◌, slice_index_or, slice_set}
use Rattle.lock.specs.declared.place.Place.{Place}
use Rattle.lock.specs.declared.answer.Answer.TheVariants.{Done, Entered, Left}
use Rattle.lock.specs.declared.refusal.Refusal.TheVariants.{Idle}
use Rattle.lock.specs.Calls.{Outcome, names}
use Rattle.queue.specs.declared.stage.Stage.{Stage}
use Rattle.queue.specs.declared.stage.Stage.TheVariants.{Away, Coming, Queued, Ready, Within, Leaving}
use Rattle.queue.specs.Stages.{place_of}
use Rattle.queue.specs.Counter.{more}
use Rattle.ticket.specs.declared.words.Label.{Label}
use Rattle.ticket.specs.declared.words.Label.TheVariants.{Out, W0, W1, W2, Inside, X0, X1}
use Rattle.ticket.specs.declared.words.Words.{Words}

abbrev pub new_words : Words
new_words = record { next = 0; serving = 0; holder = None; at = replicate 16 Out }

abbrev pub label : Words → ℕ → Label
label s w = slice_index_or s.at w Out

abbrev pub stage_at : Label → Stage
stage_at Out = Away
stage_at W0 = Coming
stage_at (W1 t) = Queued
stage_at W2 = Ready
stage_at Inside = Within
stage_at X0 = Leaving 5
stage_at X1 = Leaving 4

abbrev pub stage : Words → ℕ → Stage
stage s w = stage_at (label s w)

abbrev pub place : Words → ℕ → Place
place s w = place_of (stage s w)

-- the mark: the holder is w
abbrev pub mark : Words → ℕ → Bool
mark s w = names s.holder w

abbrev pub put : Words → ℕ → Label → Words
put s w l = record { next = s.next; serving = s.serving; holder = s.holder; at = slice_set s.at w l }

-- after an accepted `lock`
abbrev pub come : Words → ℕ → Words
come s w = put s w W0

-- after an accepted `unlock`
abbrev pub leave : Words → ℕ → Words
leave s w = put s w X0

-- W0 draws a ticket, W1 stays until it is served, W2 writes the holder, X0 clears it, X1 serves the next ticket
abbrev pub access : Label → Words → ℕ → Outcome Words
access Out s w = (s, Err Idle)
access W0 s w = (record { next = more s.next; serving = s.serving; holder = s.holder; at = slice_set s.at w (W1 s.next) }, Ok Done)
access (W1 t) s w = if s.serving == t then (put s w W2, Ok Done) else (s, Ok Done)
access W2 s w = (record { next = s.next; serving = s.serving; holder = Some w; at = slice_set s.at w Inside }, Ok Entered)
access Inside s w = (s, Err Idle)
access X0 s w = (record { next = s.next; serving = s.serving; holder = None; at = slice_set s.at w X1 }, Ok Done)
access X1 s w = (record { next = s.next; serving = more s.serving; holder = s.holder; at = slice_set s.at w Out }, Ok Left)

-- after the access that the worker has before it
abbrev pub accessed : Words → ℕ → Outcome Words
accessed s w = access (label s w) s w
