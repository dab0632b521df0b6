use Rattle.std.proofs.Common.{◌≡◌, true, false, [], ◌∷◌, ◌++◌, take, Some, None, Option, MatchOption, is_some}
use Rattle.text.proofs.Exits.{exit_err}
use Rattle.script.proofs.schedule.survey.Goals as goal

-- by whether there is a value
with_value : {X : Type 0} (o : Option X) (P : Type 0) (Q : X → Type 0) → is_some o ≡ true → MatchOption o P Q → (x : X) × Q x
with_value None P Q e m = cc e
with_value (Some x) P Q e m = (x, m)

without : {X : Type 0} (o : Option X) (P : Type 0) (Q : X → Type 0) → is_some o ≡ false → MatchOption o P Q → P
without None P Q e m = m
without (Some x) P Q e m = cc e

pub loop-smaller : goal.loop-smaller
loop-smaller c =
    let step = with_value c.in_ok-next_event.field-0 _ _ (cc) (c.in_ok-next_event.ensures c.args.most (take 32768 c.args.text.now) c.in_ok-kind.kind c.loop.invariant.0 c.loop.invariant.1) in
    step.1.1

pub loop-preserved : goal.loop-preserved
loop-preserved c =
    let step = with_value c.in_ok-next_event.field-0 _ _ (cc) (c.in_ok-next_event.ensures c.args.most (take 32768 c.args.text.now) c.in_ok-kind.kind c.loop.invariant.0 c.loop.invariant.1) in
    (c.loop.invariant.0 ++ step.0 ∷ [], step.1.0)

pub returns-in_err-next_event : goal.returns-in_err-next_event
returns-in_err-next_event c =
    rw (exit_err c.from_residual-in_err-next_event.result c.from_residual-in_err-next_event.ensures.1) (c.in_err-next_event.ensures c.args.most (take 32768 c.args.text.now) c.in_ok-kind.kind c.loop.invariant.0 c.loop.invariant.1)

pub returns : goal.returns
returns c = (c.loop.invariant.0, without c.in_ok-next_event.field-0 _ _ (cc) (c.in_ok-next_event.ensures c.args.most (take 32768 c.args.text.now) c.in_ok-kind.kind c.loop.invariant.0 c.loop.invariant.1))
