-- How far off each worker is: by its stage, and by whether the ticket that is served is its own.
use Rattle.std.specs.Prelude.{ℕ, Bool, false, Option, ◌==◌}
use Rattle.queue.specs.Stages.{distance_of}
use Rattle.ticket.specs.declared.words.Label.{Label}
use Rattle.ticket.specs.declared.words.Label.TheVariants.{Out, W0, W1, W2, Inside, X0, X1}
use Rattle.ticket.specs.declared.words.Words.{Words}
use Rattle.ticket.specs.Accesses.{label, stage}

-- the ticket drawn, or at W0 the one that would be drawn
abbrev pub turn_at : (next serving : ℕ) → Label → Bool
turn_at next serving Out = false
turn_at next serving W0 = serving == next
turn_at next serving (W1 t) = serving == t
turn_at next serving W2 = false
turn_at next serving Inside = false
turn_at next serving X0 = false
turn_at next serving X1 = false

abbrev pub turn : Words → ℕ → Bool
turn s w = turn_at s.next s.serving (label s w)

abbrev pub distance : Words → ℕ → Option ℕ
distance s w = distance_of (stage s w) (turn s w)
