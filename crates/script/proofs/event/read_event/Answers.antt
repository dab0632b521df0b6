use Rattle.text.proofs.Exits.{exit_err}
use Rattle.script.specs.Stages.{at_worker, at_call}
use Rattle.script.proofs.Steps.{onward, stops}
use Rattle.script.proofs.event.read_event.Goals as goal

pub returns-in_err-call-clause-value : goal.returns-in_err-call-clause-value
returns-in_err-call-clause-value c most k es room some =
    rw (exit_err c.from_residual-in_err-call.result c.from_residual-in_err-call.ensures.1) (stops most (at_worker k es) _ _ _ _ (c.in_ok-worker.ensures.value most k es room some) (c.in_err-call.ensures most k es c.in_ok-worker.worker))

pub returns-clause-value : goal.returns-clause-value
returns-clause-value c most k es room some =
    let on = c.in_ok-worker.ensures.value most k es room some in
    onward most (at_worker k es) c.args.reader.now (at_call k es c.in_ok-worker.worker) c.read_worker.new.reader _ c.read_call.new.reader on (c.in_ok-call.ensures most k es c.in_ok-worker.worker)
