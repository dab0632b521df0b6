use Rattle.std.proofs.Common.{refl, arith}
use Rattle.text.proofs.Exits.{exit_err}
use Rattle.script.specs.Stages.{at_worker, at_call}
use Rattle.script.proofs.Steps.{passes, no_number, crowds}
use Rattle.script.proofs.event.read_worker.Goals as goal

pub returns-in_err-worker-clause-value : goal.returns-in_err-worker-clause-value
returns-in_err-worker-clause-value c most k es room some =
    rw (exit_err c.from_residual.result c.from_residual.ensures.1) (no_number most (at_worker k es) c.args.reader.now _ 255 (λ e. absurd (some e)) (λ v a. (a.1.0, a.1.1, a.1.2)) c.in_err-worker.ensures.value)

pub returns-then-room-eq0-clause-value : goal.returns-then-room-eq0-clause-value
returns-then-room-eq0-clause-value c most k es room some =
    let n = c.in_ok-worker.ensures.value in
    crowds most (at_worker k es) _ _ _ _ n.1 (at_call k es c.in_ok-worker.worker, (c.in_ok-worker.worker, n.0, refl, refl)) (omega arith) c.line-line.ensures

pub returns-clause-value : goal.returns-clause-value
returns-clause-value c most k es room some =
    let n = c.in_ok-worker.ensures.value in
    passes most (at_worker k es) _ _ _ _ n.1 (c.in_ok-worker.worker, n.0, refl, refl) (λ full. omega arith)
