use Rattle.std.proofs.Common.{refl, arith, rules}
use Rattle.std.proofs.lemmas.List.{get_or_default}
use Rattle.rows.specs.With.{with}
use Rattle.rows.proofs.Lending.{lent}
use Rattle.rows.proofs.table.Rows.item.Goals as goal

pub returns-then-i : goal.returns-then-i
unfolding with
returns-then-i g c = (
  lent _ _ (with c.args.self.now c.args.i) (λ x. refl),
  record {
    follows = tt;
    test = search rules;
    value = λ d. get_or_default c.args.self.now.items c.args.i _ _ (omega (arith, c.args.self.now.whole));
  },
)
