use Rattle.std.proofs.Common.{◌≡◌, [], refl}
use Rattle.text.proofs.Exits.{exit_err}
use Rattle.script.specs.Stages.{at_lock, at_worker}
use Rattle.script.specs.Names.{kind_name}
use Rattle.script.specs.declared.kind.Kind.{Kind}
use Rattle.script.proofs.Steps.{no_line, chosen}
use Rattle.script.proofs.events.read_kind.Goals as goal

pub returns-in_err-name : goal.returns-in_err-name
returns-in_err-name c most =
    rw (exit_err c.from_residual.result c.from_residual.ensures.1) (no_line most at_lock c.args.reader.now _ (λ e. refl) c.in_err-name.ensures.value)

pub returns : goal.returns
returns c most =
    let name = c.in_ok-name.name.now in
    chosen most at_lock _ _ _ _ c.named.result c.ok_or.result (λ k. at_worker k []) ((k : Kind) → name ≡ kind_name k → ⊥) (λ k. name ≡ kind_name k) c.in_ok-name.ensures.value c.line-line.ensures c.ok_or.ensures.value c.named.ensures (λ none a. none a.1.0 a.1.1) (λ k e. (k, e, refl)) (λ full. full)
