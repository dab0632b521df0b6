use Rattle.std.proofs.Common.{◌∙◌, ap}
use Rattle.lock.specs.Algorithms.{places}
use Rattle.lock.proofs.Pair.{listed_out}
use Rattle.lock.proofs.spinlock.SpinlockLock.new.Goals as goal

pub returns-clause-out : goal.returns-clause-out
returns-clause-out g c = ap (places g.A.Algorithm) c.new.ensures ∙ listed_out (g.A.Algorithm.place_of g.A.Algorithm.new) c.keeps_rules.ensures.out
