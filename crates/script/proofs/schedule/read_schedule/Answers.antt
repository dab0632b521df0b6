use Rattle.std.proofs.Common.{◌≡◌, ℕ, ◌≤◌, min, List, length, take, IfErr, Ok, Err, Result, ap, ◌∙◌, subst}
use Rattle.std.proofs.lemmas.List.{take_all}
use Rattle.text.proofs.Exits.{exit_err}
use Rattle.list.specs.Held.{list_items}
use Rattle.text.specs.Lines.{lines}
use Rattle.text.specs.declared.fault.Fault.{Fault}
use Rattle.script.specs.declared.kind.Kind.{Kind}
use Rattle.script.specs.Stages.{at_lock}
use Rattle.script.specs.Verdicts.{Verdict, Judged}
use Rattle.script.specs.Schedule.{Gives}
use Rattle.script.proofs.Once.{once}
use Rattle.script.proofs.Whole.{given, only, told_ok, form, complete}
use Rattle.script.proofs.schedule.read_schedule.Goals as goal

-- the code's limits are the text's
limits : (room : ℕ) (text : List ℕ) (most : ℕ) (v : Verdict) → length text ≤ 32768 → most ≡ min room 1024 → Judged most at_lock 1 (lines (take 32768 text)) v → Gives room text v
limits room text most v h e j = given room text v h (subst (λ t. Judged (min room 1024) at_lock 1 (lines t) v) (take_all 32768 text h) (subst (λ m. Judged m at_lock 1 (lines (take 32768 text)) v) e j))

never_refused : (r : Result Kind Fault) (P : Type 0) (k : Kind) → r ≡ Ok k → IfErr r (λ f. P)
never_refused (Ok j) P k e = tt
never_refused (Err f) P k e = cc e

pub returns-in_err-survey-clause-value : goal.returns-in_err-survey-clause-value
returns-in_err-survey-clause-value c =
    rw (exit_err c.from_residual.result c.from_residual.ensures.1) (limits _ _ c.min-most.result _ c.if-text-gt-MOST_BYTES.false (c.min-most.ensures ∙ ap (λ n. min n 1024) c.room.ensures) c.in_err-survey.ensures)

pub returns-in_err-survey-clause-only : goal.returns-in_err-survey-clause-only
returns-in_err-survey-clause-only c v h = only _ _ _ v (returns-in_err-survey-clause-value c) h

pub returns-in_err-survey-clause-complete : goal.returns-in_err-survey-clause-complete
returns-in_err-survey-clause-complete c = complete _ _ c.from_residual.result _ (returns-in_err-survey-clause-value c)

pub returns-clause-value : goal.returns-clause-value
returns-clause-value c = limits _ _ c.min-most.result _ c.if-text-gt-MOST_BYTES.false (c.min-most.ensures ∙ ap (λ n. min n 1024) c.room.ensures) c.fill.ensures.value

pub returns-clause-only : goal.returns-clause-only
returns-clause-only c v h = only _ _ _ v (returns-clause-value c) h

pub returns-clause-form : goal.returns-clause-form
returns-clause-form c = form _ _ c.fill.result _ c.if-text-gt-MOST_BYTES.false (returns-clause-value c)

pub returns-clause-complete : goal.returns-clause-complete
returns-clause-complete c = complete _ _ c.fill.result _ (returns-clause-value c)

pub returns-clause-refused : goal.returns-clause-refused
returns-clause-refused c =
    let seen = c.in_ok-survey.ensures in
    let ok = told_ok c.fill.result (list_items c.fill.new.events) _ _ (once c.min-most.result at_lock 1 (lines (take 32768 c.args.text.now)) _ _ c.fill.ensures.value seen.1) in
    never_refused c.fill.result _ _ ok.0
