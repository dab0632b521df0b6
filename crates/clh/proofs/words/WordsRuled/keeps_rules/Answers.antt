use Rattle.std.proofs.Common.{ap}
use Rattle.lock.proofs.Labelled as labelled
use Rattle.clh.specs.Accesses.{place_of}
use Rattle.clh.proofs.Rules.{kind, new_label, lock_good, unlock_good, step_good, new_holds}
use Rattle.clh.proofs.words.WordsRuled.keeps_rules.Goals as goal

pub returns : goal.returns
returns c = record {
  starts = ∣ new_holds ∣₁;
  out = λ w. ap place_of (new_label w);
  sound = λ s h. labelled.sound kind s h;
  lock = λ s w h. lock_good s w h;
  unlock = λ s w h. unlock_good s w h;
  step = λ s w h. step_good s w h;
}
