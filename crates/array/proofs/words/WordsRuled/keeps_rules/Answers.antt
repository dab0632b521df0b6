use Rattle.std.proofs.Common.{ap}
use Rattle.lock.proofs.Small.{all_same}
use Rattle.lock.proofs.Labelled as labelled
use Rattle.queue.specs.Stages.{place_of}
use Rattle.queue.proofs.Turnwise as turnwise
use Rattle.array.specs.Accesses.{outside, stage_at}
use Rattle.array.proofs.Kind.{kind}
use Rattle.array.proofs.Rules.{lock_good, unlock_good, step_good, new_holds}
use Rattle.array.proofs.words.WordsRuled.keeps_rules.Goals as goal

pub returns : goal.returns
returns c = record {
  starts = ∣ new_holds ∣₁;
  out = λ w. ap (λ y. place_of (stage_at y.label)) (all_same 16 outside w);
  sound = λ s h. labelled.sound (turnwise.kind kind) s h;
  lock = λ s w h. lock_good s w h;
  unlock = λ s w h. unlock_good s w h;
  step = λ s w h. step_good s w h;
}
