use Rattle.std.proofs.Common.{◌≡◌}
use Rattle.lock.specs.Distance.{nearest, anyone, is_inside, is_waiting}
use Rattle.lock.proofs.due.due_over.Given as goal

abbrev pub invariant-loop-v : goal.invariant-loop-v
invariant-loop-v g l = (l.inside ≡ anyone is_inside (g.D.Distances.stands l.lock) l.v)
    × (l.waiting ≡ anyone is_waiting (g.D.Distances.stands l.lock) l.v)
    × (l.best ≡ nearest (g.D.Distances.distances l.lock) l.v)
