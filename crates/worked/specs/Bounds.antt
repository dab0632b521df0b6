-- The bounds that the rules of the kinds name.
use Rattle.std.specs.Prelude.{ℕ, List, [], ◌∷◌}
use Rattle.lock.specs.Spinlocks.{lock_of}
use Rattle.tas.specs.contracts.words.WordsAlgorithm.TheImpl as tas
use Rattle.ticket.specs.contracts.words.WordsAlgorithm.TheImpl as ticket
use Rattle.array.specs.contracts.words.WordsAlgorithm.TheImpl as array
use Rattle.mcs.specs.contracts.words.WordsAlgorithm.TheImpl as mcs
use Rattle.clh.specs.contracts.words.WordsAlgorithm.TheImpl as clh

abbrev pub ruled : List ℕ
ruled = (lock_of tas.ghosts).BOUND ∷ (lock_of ticket.ghosts).BOUND ∷ (lock_of array.ghosts).BOUND ∷ (lock_of mcs.ghosts).BOUND ∷ (lock_of clh.ghosts).BOUND ∷ []
