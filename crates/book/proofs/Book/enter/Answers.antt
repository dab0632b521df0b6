use Rattle.std.proofs.Common.{rules}
use Rattle.book.proofs.Safe.{safe_entered}
use Rattle.book.proofs.Book.enter.Goals as goal

pub invariant_of-self : goal.invariant_of-self
invariant_of-self g c =
    let before = c.args.self.now in
    record { safe = safe_entered before.table c.enter.new.self c.args.w c.enter.result (c.enter.ensures (search rules)) before.safe }
