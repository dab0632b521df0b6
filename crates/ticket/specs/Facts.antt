-- What holds of the words at every moment: they count the line of the workers that have drawn a
-- ticket and not yet served the next one.
use Rattle.std.specs.Prelude.{◌≡◌, ℕ, ◌%◌, ◌^◌, Bool, true, false, length, Option}
use Rattle.lock.specs.Calls.{names}
use Rattle.queue.specs.Line.{Line}
use Rattle.queue.specs.Stages.{Staged}
use Rattle.ticket.specs.declared.words.Label.{Label}
use Rattle.ticket.specs.declared.words.Label.TheVariants.{Out, W0, W1, W2, Inside, X0, X1}
use Rattle.ticket.specs.declared.words.Words.{Words}
use Rattle.ticket.specs.Accesses.{label, stage_at}

abbrev pub Sixteen : Words → Type 0
Sixteen s = length s.at ≡ 16

-- the labels at which the mark shows a worker
abbrev pub holding : Label → Bool
holding Out = false
holding W0 = false
holding (W1 t) = false
holding W2 = false
holding Inside = true
holding X0 = true
holding X1 = false

pub record Counted (next serving : ℕ) (holder : Option ℕ) (at : ℕ → Label) (o : Line) : Type 0 where
  pub staged : Staged o (λ w. stage_at (at w))
  -- the next ticket counts the ranks given out, the one that is served those handed on
  pub gives : next ≡ o.end % 2 ^ 32
  pub serves : serving ≡ o.first % 2 ^ 32
  -- a ticket is its worker's rank
  pub drew : (w t : ℕ) → at w ≡ W1 t → t ≡ o.rank w % 2 ^ 32
  -- the holder is whoever is inside or about to clear it
  pub marks : (w : ℕ) → holding (at w) ≡ names holder w

-- some line is counted so
abbrev pub Ordered : Words → Type 0
Ordered s = (o : Line) × Counted s.next s.serving s.holder (label s) o

abbrev pub Holds : Words → Type 0
Holds s = Sixteen s × Ordered s
