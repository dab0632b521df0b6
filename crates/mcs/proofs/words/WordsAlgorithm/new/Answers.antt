use Rattle.rows.proofs.Lending.{same_rows}
use Rattle.mcs.specs.Accesses.{new_words}
use Rattle.mcs.proofs.words.WordsAlgorithm.new.Goals as goal

pub returns : goal.returns
returns c = cc (same_rows c.new.result new_words.nodes c.new.ensures)
