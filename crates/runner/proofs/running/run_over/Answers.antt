use mathlib.Core.Logic.{∥∥₁_map}
use Rattle.std.proofs.Common.{length, ap}
use Rattle.runner.proofs.Ends.{ended}
use Rattle.runner.proofs.running.run_over.Goals as goal

pub returns : goal.returns
returns g c =
    let r = c.in_ok-book.ensures in
    record {
      value = r.value;
      cases = ∥∥₁_map r.cases (ended g.L.Lock _ _ c.in_ok-book.book _ c.inside_of-inside.ensures (ap length c.records-chests.ensures) c.weight-grams.ensures);
      rest = r.rest;
    }
