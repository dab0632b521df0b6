-- What holds of the words at every moment: the workers that have swapped the tail and not yet opened their own node
-- stand in a line, and each looks at the node of the one before it. The nodes that the workers keep are
-- distinct, and one node is spare.
use Rattle.std.specs.Prelude.{◌≡◌, ℕ, ◌+◌, ◌<◌, Bool, true, false, length, Some, None, Option}
use Rattle.queue.specs.Line.{Line, Order}
use Rattle.clh.specs.declared.words.Label.{Label}
use Rattle.clh.specs.declared.words.Label.TheVariants.{Out, W0, W1, W2, W3, Inside, X0, X1}
use Rattle.clh.specs.declared.words.Node.{Node}
use Rattle.clh.specs.declared.words.Words.{Words}
use Rattle.clh.specs.Accesses.{label, own, node}

abbrev pub Sixteen : Words → Type 0
Sixteen s = length s.workers ≡ 16

-- the labels of the workers in the line
abbrev pub queued : Label → Bool
queued Out = false
queued W0 = false
queued W1 = false
queued (W2 p) = true
queued (W3 p) = true
queued Inside = true
queued (X0 p) = true
queued (X1 p) = false

-- those of the first in the line alone
abbrev pub ahead : Label → Bool
ahead Out = false
ahead W0 = false
ahead W1 = false
ahead (W2 p) = false
ahead (W3 p) = false
ahead Inside = true
ahead (X0 p) = true
ahead (X1 p) = false

-- those at which the node that the worker keeps is shut
abbrev pub shuts : Label → Bool
shuts Out = false
shuts W0 = false
shuts W1 = true
shuts (W2 p) = true
shuts (W3 p) = true
shuts Inside = true
shuts (X0 p) = true
shuts (X1 p) = false

-- what `prev` of the own node is, where q is the node that the worker looks at; at X1 the own node is no longer the worker's
abbrev pub Marked : Label → (prev : Option ℕ) (q : ℕ) → Type 0
Marked Out prev q = prev ≡ None
Marked W0 prev q = prev ≡ None
Marked W1 prev q = prev ≡ None
Marked (W2 p) prev q = prev ≡ None
Marked (W3 p) prev q = prev ≡ Some q
Marked Inside prev q = prev ≡ Some q
Marked (X0 p) prev q = prev ≡ Some q
Marked (X1 p) prev q = Unit {0}

-- the node before, where a worker in the line has it in its label
abbrev pub link : Label → Option ℕ
link Out = None
link W0 = None
link W1 = None
link (W2 p) = Some p
link (W3 p) = Some p
link Inside = None
link (X0 p) = Some p
link (X1 p) = None

-- the node that a worker keeps: its own, and after handing on the one that it takes over
abbrev pub kept : Label → ℕ → ℕ
kept Out n = n
kept W0 n = n
kept W1 n = n
kept (W2 p) n = n
kept (W3 p) n = n
kept Inside n = n
kept (X0 p) n = n
kept (X1 p) n = p

-- The line; the node that the worker of each rank looks at; and the worker that keeps each node, 16 for the spare one.
pub record Chain : Type 0 where
  pub line : Line
  pub at : ℕ → ℕ
  pub keeper : ℕ → ℕ

-- of one worker, by its label and its own node
pub record Stands (node : ℕ → Node) (c : Chain) (w : ℕ) (l : Label) (own : ℕ) : Type 0 where
  pub own_in : own < 17
  pub kept_in : kept l own < 17
  pub keeps : c.keeper (kept l own) ≡ w
  pub flag : (node (kept l own)).wait ≡ shuts l
  pub owns : queued l ≡ true → own ≡ c.at (c.line.rank w + 1)
  pub front : ahead l ≡ true → c.line.rank w ≡ c.line.first
  pub before : (p : ℕ) → link l ≡ Some p → p ≡ c.at (c.line.rank w)
  pub marked : Marked l (node own).prev (c.at (c.line.rank w))

pub record Chained (tail : ℕ) (node : ℕ → Node) (own : ℕ → ℕ) (label : ℕ → Label) (c : Chain) : Type 0 where
  pub order : Order c.line (λ w. queued (label w))
  -- the first looks at the spare node, which is open
  pub spare_in : c.at c.line.first < 17
  pub spare_free : c.keeper (c.at c.line.first) ≡ 16
  pub spare_open : (node (c.at c.line.first)).wait ≡ false
  pub last : tail ≡ c.at c.line.end
  pub stands : (w : ℕ) → w < 16 → Stands node c w (label w) (own w)

abbrev pub Ordered : Words → Type 0
Ordered s = (c : Chain) × Chained s.tail (node s) (own s) (label s) c

abbrev pub Holds : Words → Type 0
Holds s = Sixteen s × Ordered s
