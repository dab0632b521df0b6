use Rattle.std.proofs.Common.{◌≡◌, Ok, rules}
use Rattle.lock.specs.declared.answer.Answer.TheVariants.{Done}
use Rattle.lock.specs.Calls.{Outcome}
use Rattle.lock.specs.Rules.{unlocking}
use Rattle.lock.specs.Algorithms.{unlocked}
use Rattle.lock.proofs.Spinning.{kept}
use Rattle.lock.proofs.spinlock.SpinlockLock.unlock.Goals as goal

pub invariant_of-self : goal.invariant_of-self
invariant_of-self g c =
    let s = c.args.self.now in
    let is : ◌≡◌ {A = Outcome g.row.A.Denot} (c.leave.new.self, Ok Done) (unlocked g.A.Algorithm s.words c.args.w) = search rules in
    kept c.keeps_rules.ensures unlocking c.args.w s _ _ _ is (c.keeps_rules.ensures.unlock s.words c.args.w s.holds)
