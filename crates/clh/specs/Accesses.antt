-- Every word of the clh lock after every call that is let through; `lock/specs/Calls.antt` says which calls are.
use Rattle.std.specs.Prelude.{ℕ, Bool, true, false, if◌then◌else◌, map, replicate, is_some, Some, None, Ok, Err, Option, slice_index_or, slice_set, refl}
use Rattle.std.specs.List.{range_with_len}
use Rattle.std.specs.Option.{unwrap_or}
use Rattle.lock.specs.declared.place.Place.{Place}
use Rattle.lock.specs.declared.place.Place.TheVariants as places
use Rattle.lock.specs.declared.answer.Answer.TheVariants.{Done, Entered, Left}
use Rattle.lock.specs.declared.refusal.Refusal.TheVariants.{Idle}
use Rattle.lock.specs.Calls.{Outcome}
use Rattle.rows.specs.With.{with}
use Rattle.clh.specs.declared.words.Label.{Label}
use Rattle.clh.specs.declared.words.Label.TheVariants.{Out, W0, W1, W2, W3, Inside, X0, X1}
use Rattle.clh.specs.declared.words.Node.{Node}
use Rattle.clh.specs.declared.words.Worker.{Worker}
use Rattle.clh.specs.declared.words.Words.{Words}

abbrev pub place_of : Label → Place
place_of Out = places.Out
place_of W0 = places.Waiting
place_of W1 = places.Waiting
place_of (W2 p) = places.Waiting
place_of (W3 p) = places.Waiting
place_of Inside = places.Inside
place_of (X0 p) = places.Leaving
place_of (X1 p) = places.Leaving

abbrev pub blank : Node
blank = record { wait = false; prev = None }

abbrev pub outside : ℕ → Worker
outside n = record { own = n; label = Out }

-- each worker owns the node of its number, and node 16 is spare
abbrev pub new_words : Words
new_words = record { tail = 16; nodes = record { items = replicate 17 blank; whole = refl }; workers = map outside (range_with_len 0 16) }

-- whoever is not among the sixteen is outside
abbrev pub worker : Words → ℕ → Worker
worker s w = slice_index_or s.workers w (outside 0)

abbrev pub label : Words → ℕ → Label
label s w = (worker s w).label

abbrev pub place : Words → ℕ → Place
place s w = place_of (label s w)

abbrev pub own : Words → ℕ → ℕ
own s w = (worker s w).own

abbrev pub node : Words → ℕ → Node
node s n = slice_index_or s.nodes.items n blank

abbrev pub set_node : Words → ℕ → Node → Words
set_node s n x = record { tail = s.tail; nodes = with s.nodes n x; workers = s.workers }

abbrev pub set_wait : Words → ℕ → Bool → Words
set_wait s n b = set_node s n (record { wait = b; prev = (node s n).prev })

abbrev pub set_prev : Words → ℕ → Option ℕ → Words
set_prev s n p = set_node s n (record { wait = (node s n).wait; prev = p })

abbrev pub put : Words → ℕ → Label → Words
put s w l = record { tail = s.tail; nodes = s.nodes; workers = slice_set s.workers w (record { own = own s w; label = l }) }

-- `prev` of the own node; the mark is that it is there
abbrev pub before : Words → ℕ → Option ℕ
before s w = (node s (own s w)).prev

abbrev pub mark : Words → ℕ → Bool
mark s w = is_some (before s w)

-- after an accepted `lock`
abbrev pub come : Words → ℕ → Words
come s w = put s w W0

-- after an accepted `unlock`: the worker keeps what it read
abbrev pub leave : Words → ℕ → Words
leave s w = put s w (X0 (unwrap_or (before s w) 0))

abbrev pub access : Label → Words → ℕ → Outcome Words
access Out s w = (s, Err Idle)
access W0 s w = (put (set_wait s (own s w) true) w W1, Ok Done)
access W1 s w = (record { tail = own s w; nodes = s.nodes; workers = (put s w (W2 s.tail)).workers }, Ok Done)
access (W2 p) s w = (put (set_prev s (own s w) (Some p)) w (W3 p), Ok Done)
access (W3 p) s w = if (node s p).wait then (s, Ok Done) else (put s w Inside, Ok Entered)
access Inside s w = (s, Err Idle)
access (X0 p) s w = (put (set_wait s (own s w) false) w (X1 p), Ok Done)
access (X1 p) s w = (record { tail = s.tail; nodes = (set_prev s p None).nodes; workers = slice_set s.workers w (outside p) }, Ok Left)

-- after the access that the worker has before it
abbrev pub accessed : Words → ℕ → Outcome Words
accessed s w = access (label s w) s w
