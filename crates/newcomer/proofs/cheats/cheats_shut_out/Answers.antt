use Rattle.newcomer.proofs.Refuted as refuted
use Rattle.newcomer.proofs.cheats.cheats_shut_out.Goals as goal

pub returns : goal.returns
returns g c = record {
  nobody = refuted.nobody;
  everybody = refuted.everybody;
  denied = refuted.denied;
  distances = refuted.distances;
  at_once = refuted.at_once;
  unrefused = refuted.unrefused;
}
