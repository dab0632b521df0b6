use Rattle.std.proofs.Common.{ap}
use Rattle.lock.proofs.Small.{all_same}
use Rattle.lock.proofs.Labelled as labelled
use Rattle.mcs.specs.Accesses.{place_of}
use Rattle.mcs.proofs.Rules.{kind, lock_good, unlock_good, step_good, new_holds}
use Rattle.mcs.proofs.words.WordsRuled.keeps_rules.Goals as goal

pub returns : goal.returns
returns c = record {
  starts = ∣ new_holds ∣₁;
  out = λ w. ap place_of (all_same 16 _ w);
  sound = λ s h. labelled.sound kind s h;
  lock = λ s w h. lock_good s w h;
  unlock = λ s w h. unlock_good s w h;
  step = λ s w h. step_good s w h;
}
