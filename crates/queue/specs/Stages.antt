-- What a stage says of its worker.
use Rattle.std.specs.Prelude.{◌≡◌, ℕ, Bool, true, false, if◌then◌else◌, Some, None, Option}
use Rattle.lock.specs.declared.place.Place.{Place}
use Rattle.lock.specs.declared.place.Place.TheVariants as place
use Rattle.queue.specs.declared.stage.Stage.{Stage}
use Rattle.queue.specs.declared.stage.Stage.TheVariants.{Away, Coming, Queued, Ready, Within, Leaving}
use Rattle.queue.specs.Line.{Line, Order}

abbrev pub place_of : Stage → Place
place_of Away = place.Out
place_of Coming = place.Waiting
place_of Queued = place.Waiting
place_of Ready = place.Waiting
place_of Within = place.Inside
place_of (Leaving d) = place.Leaving

-- the stages of those that have joined the queue and not yet handed on
abbrev pub in_line : Stage → Bool
in_line Away = false
in_line Coming = false
in_line Queued = true
in_line Ready = true
in_line Within = true
in_line (Leaving d) = true

-- the stages of the first in the queue alone
abbrev pub at_front : Stage → Bool
at_front Away = false
at_front Coming = false
at_front Queued = false
at_front Ready = true
at_front Within = true
at_front (Leaving d) = true

-- how many accesses at most are left, where the flag says whether the turn is the worker's own
abbrev pub distance_of : Stage → Bool → Option ℕ
distance_of Away turn = None
distance_of Coming turn = if turn then Some 3 else None
distance_of Queued turn = if turn then Some 2 else None
distance_of Ready turn = Some 1
distance_of Within turn = None
distance_of (Leaving d) turn = Some d

-- the line is that of the stages
pub record Staged (o : Line) (stage : ℕ → Stage) : Type 0 where
  pub order : Order o (λ w. in_line (stage w))
  pub front : (w : ℕ) → at_front (stage w) ≡ true → o.rank w ≡ o.first
