use Rattle.std.proofs.Common.{◌≡◌, rules}
use Rattle.lock.specs.Calls.{Outcome}
use Rattle.lock.specs.Rules.{stepping}
use Rattle.lock.specs.Algorithms.{stepped}
use Rattle.lock.proofs.Spinning.{kept, told}
use Rattle.lock.proofs.spinlock.SpinlockLock.step.Goals as goal

pub invariant_of-self : goal.invariant_of-self
invariant_of-self g c =
    let s = c.args.self.now in
    let is : ◌≡◌ {A = Outcome g.row.A.Denot} (c.access.new.self, c.access.result) (stepped g.A.Algorithm s.words c.args.w) = search rules in
    kept c.keeps_rules.ensures stepping c.args.w s _ _ _ is (c.keeps_rules.ensures.step s.words c.args.w s.holds)

pub returns-clause-rules : goal.returns-clause-rules
returns-clause-rules g c =
    let s = c.args.self.now in
    let is : ◌≡◌ {A = Outcome g.row.A.Denot} (c.access.new.self, c.access.result) (stepped g.A.Algorithm s.words c.args.w) = search rules in
    told stepping c.args.w s _ _ _ is (c.keeps_rules.ensures.step s.words c.args.w s.holds)
