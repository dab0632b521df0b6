-- Every word of the mcs lock after every call that is let through; `lock/specs/Calls.antt` says which calls are.
use Rattle.std.specs.Prelude.{ℕ, Bool, true, false, if◌then◌else◌, replicate, Some, None, Ok, Err, Option, Result, ◌==◌, slice_index_or, slice_set, refl}
use Rattle.lock.specs.declared.place.Place.{Place}
use Rattle.lock.specs.declared.place.Place.TheVariants as places
use Rattle.lock.specs.declared.answer.Answer.{Answer}
use Rattle.lock.specs.declared.answer.Answer.TheVariants.{Done, Entered, Left}
use Rattle.lock.specs.declared.refusal.Refusal.{Refusal}
use Rattle.lock.specs.declared.refusal.Refusal.TheVariants.{Idle}
use Rattle.lock.specs.Calls.{Outcome}
use Rattle.rows.specs.With.{with}
use Rattle.mcs.specs.declared.words.Label.{Label}
use Rattle.mcs.specs.declared.words.Label.TheVariants.{Out, W0, W1, W2, W3, W4, W5, Inside, X0, X1, X2, X3, X4}
use Rattle.mcs.specs.declared.words.Node.{Node}
use Rattle.mcs.specs.declared.words.Words.{Words}

abbrev pub place_of : Label → Place
place_of Out = places.Out
place_of W0 = places.Waiting
place_of W1 = places.Waiting
place_of (W2 p) = places.Waiting
place_of (W3 p) = places.Waiting
place_of W4 = places.Waiting
place_of W5 = places.Waiting
place_of Inside = places.Inside
place_of X0 = places.Leaving
place_of X1 = places.Leaving
place_of X2 = places.Leaving
place_of (X3 n) = places.Leaving
place_of X4 = places.Leaving

-- what a step answers
abbrev pub answer_of : Label → Result Answer Refusal
answer_of Out = Err Idle
answer_of W0 = Ok Done
answer_of W1 = Ok Done
answer_of (W2 p) = Ok Done
answer_of (W3 p) = Ok Done
answer_of W4 = Ok Done
answer_of W5 = Ok Entered
answer_of Inside = Err Idle
answer_of X0 = Ok Done
answer_of X1 = Ok Done
answer_of X2 = Ok Done
answer_of (X3 n) = Ok Done
answer_of X4 = Ok Left

abbrev pub blank : Node
blank = record { next = None; locked = false }

abbrev pub new_words : Words
new_words = record { last = None; nodes = record { items = replicate 16 blank; whole = refl }; at = replicate 16 Out }

abbrev pub label : Words → ℕ → Label
label s w = slice_index_or s.at w Out

abbrev pub place : Words → ℕ → Place
place s w = place_of (label s w)

abbrev pub node : Words → ℕ → Node
node s w = slice_index_or s.nodes.items w blank

abbrev pub set_last : Words → Option ℕ → Words
set_last s l = record { last = l; nodes = s.nodes; at = s.at }

abbrev pub set_node : Words → ℕ → Node → Words
set_node s w x = record { last = s.last; nodes = with s.nodes w x; at = s.at }

abbrev pub set_next : Words → ℕ → Option ℕ → Words
set_next s w n = set_node s w (record { next = n; locked = (node s w).locked })

abbrev pub set_locked : Words → ℕ → Bool → Words
set_locked s w b = set_node s w (record { next = (node s w).next; locked = b })

abbrev pub put : Words → ℕ → Label → Words
put s w l = record { last = s.last; nodes = s.nodes; at = slice_set s.at w l }

-- the mark is the own `locked`
abbrev pub mark : Words → ℕ → Bool
mark s w = (node s w).locked

-- after an accepted `lock`
abbrev pub come : Words → ℕ → Words
come s w = put s w W0

-- after an accepted `unlock`
abbrev pub leave : Words → ℕ → Words
leave s w = put s w X0

-- whether the last of the line is w
abbrev pub ends : Option ℕ → ℕ → Bool
ends None w = false
ends (Some l) w = l == w

-- the label after the swap, by what came back
abbrev pub swapped : Option ℕ → Label
swapped None = W5
swapped (Some p) = W2 p

-- the label after reading the own `next`, where l is that for none
abbrev pub linked : Label → Option ℕ → Label
linked l None = l
linked l (Some n) = X3 n

-- the access at a label: what it writes, and the label after it
abbrev pub access : Label → Words → ℕ → Words × Label
access Out s w = (s, Out)
access W0 s w = (set_next s w None, W1)
access W1 s w = (set_last s (Some w), swapped s.last)
access (W2 p) s w = (set_locked s w true, W3 p)
access (W3 p) s w = (set_next s p (Some w), W4)
access W4 s w = (s, if (node s w).locked then W4 else W5)
access W5 s w = (set_locked s w true, Inside)
access Inside s w = (s, Inside)
access X0 s w = (s, linked X1 (node s w).next)
access X1 s w = if ends s.last w then (set_last s None, X4) else (s, X2)
access X2 s w = (s, linked X2 (node s w).next)
access (X3 n) s w = (set_locked s n false, X4)
access X4 s w = (set_locked s w false, Out)

-- a step that is refused changes nothing
abbrev pub answered : Result Answer Refusal → Words → Words → Outcome Words
answered (Ok a) s t = (t, Ok a)
answered (Err e) s t = (s, Err e)

abbrev pub moved : Words × Label → ℕ → Words
moved t w = put t.0 w t.1

-- after the access that the worker has before it
abbrev pub accessed : Words → ℕ → Outcome Words
accessed s w = answered (answer_of (label s w)) s (moved (access (label s w) s w) w)
