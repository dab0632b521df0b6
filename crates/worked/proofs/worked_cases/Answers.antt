use Rattle.std.proofs.Common.{refl}
use Rattle.lock.specs.Distance.{listed}
use Rattle.rows.specs.With.{with}
use Rattle.worked.proofs.worked_cases.Goals as goal

-- the checker computes both sides
pub returns : goal.returns
unfolding with listed
returns c = refl
