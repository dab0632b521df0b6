-- How far off each worker is: by its label, and by whether the node that it waits at, or would wait at, is shut.
use Rattle.std.specs.Prelude.{ℕ, Bool, true, false, Some, None, Option}
use Rattle.clh.specs.declared.words.Label.{Label}
use Rattle.clh.specs.declared.words.Label.TheVariants.{Out, W0, W1, W2, W3, Inside, X0, X1}
use Rattle.clh.specs.declared.words.Node.{Node}
use Rattle.clh.specs.declared.words.Words.{Words}
use Rattle.clh.specs.Accesses.{label, node}

abbrev pub unless : Bool → ℕ → Option ℕ
unless true d = None
unless false d = Some d

abbrev pub distance_at : (tail : ℕ) (node : ℕ → Node) → Label → Option ℕ
distance_at tail node Out = None
distance_at tail node W0 = unless (node tail).wait 4
distance_at tail node W1 = unless (node tail).wait 3
distance_at tail node (W2 p) = unless (node p).wait 2
distance_at tail node (W3 p) = unless (node p).wait 1
distance_at tail node Inside = None
distance_at tail node (X0 p) = Some 5
distance_at tail node (X1 p) = None

abbrev pub distance : Words → ℕ → Option ℕ
distance s w = distance_at s.tail (node s) (label s w)
