use Rattle.std.proofs.Common.{◌∙◌}
use Rattle.lock.proofs.Pair.{place_listed}
use Rattle.lock.proofs.spinlock.SpinlockLock.TheImpl.Goals as goal

pub place-tells : goal.place-tells
place-tells g c = c.ensures ∙ place_listed (g.A.Algorithm.place_of c.args.self.now.words) c.args.w
