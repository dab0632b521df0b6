-- How far off each worker is: by its label, its own node, whether anybody is last, and whether the one before it waits to be linked.
use Rattle.std.specs.Prelude.{ℕ, Bool, true, false, if◌then◌else◌, is_some, Some, None, Option}
use Rattle.mcs.specs.declared.words.Label.{Label}
use Rattle.mcs.specs.declared.words.Label.TheVariants.{Out, W0, W1, W2, W3, W4, W5, Inside, X0, X1, X2, X3, X4}
use Rattle.mcs.specs.declared.words.Node.{Node}
use Rattle.mcs.specs.declared.words.Words.{Words}
use Rattle.mcs.specs.Accesses.{label, node}

-- whether a worker at a label waits to be linked
abbrev pub unlinked : Label → Bool
unlinked Out = false
unlinked W0 = false
unlinked W1 = false
unlinked (W2 p) = false
unlinked (W3 p) = false
unlinked W4 = false
unlinked W5 = false
unlinked Inside = false
unlinked X0 = false
unlinked X1 = false
unlinked X2 = true
unlinked (X3 n) = false
unlinked X4 = false

abbrev pub distance_at : (last : Option ℕ) (own : Node) (label : ℕ → Label) → Label → Option ℕ
distance_at last own label Out = None
distance_at last own label W0 = if is_some last then None else Some 3
distance_at last own label W1 = if is_some last then None else Some 2
distance_at last own label (W2 p) = if unlinked (label p) then Some 6 else None
distance_at last own label (W3 p) = if unlinked (label p) then Some 5 else None
distance_at last own label W4 = if own.locked then None else Some 2
distance_at last own label W5 = Some 1
distance_at last own label Inside = None
distance_at last own label X0 = if is_some own.next then Some 4 else Some 8
distance_at last own label X1 = if is_some own.next then Some 5 else Some 7
distance_at last own label X2 = if is_some own.next then Some 4 else None
distance_at last own label (X3 n) = Some 3
distance_at last own label X4 = None

abbrev pub distance : Words → ℕ → Option ℕ
distance s w = distance_at s.last (node s w) (label s) (label s w)
