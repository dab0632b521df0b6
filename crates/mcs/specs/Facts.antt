-- What holds of the words at every moment: the workers that have swapped `last` and not yet handed on stand in a
-- line, and the `next` of each names the one behind it where that one has linked itself and waits.
use Rattle.std.specs.Prelude.{◌≡◌, ℕ, ◌+◌, ◌-◌, ◌<◌, Bool, true, false, if◌then◌else◌, length, Some, None, Option, ◌==◌, nat_lt}
use Rattle.queue.specs.Line.{Line, Order}
use Rattle.mcs.specs.declared.words.Label.{Label}
use Rattle.mcs.specs.declared.words.Label.TheVariants.{Out, W0, W1, W2, W3, W4, W5, Inside, X0, X1, X2, X3, X4}
use Rattle.mcs.specs.declared.words.Node.{Node}
use Rattle.mcs.specs.declared.words.Words.{Words}
use Rattle.mcs.specs.Accesses.{label, node}

abbrev pub Sixteen : Words → Type 0
Sixteen s = length s.at ≡ 16

-- the labels of the workers in the line
abbrev pub queued : Label → Bool
queued Out = false
queued W0 = false
queued W1 = false
queued (W2 p) = true
queued (W3 p) = true
queued W4 = true
queued W5 = true
queued Inside = true
queued X0 = true
queued X1 = true
queued X2 = true
queued (X3 n) = true
queued X4 = false

-- those of the first in the line alone
abbrev pub ahead : Label → Bool
ahead Out = false
ahead W0 = false
ahead W1 = false
ahead (W2 p) = false
ahead (W3 p) = false
ahead W4 = false
ahead W5 = true
ahead Inside = true
ahead X0 = true
ahead X1 = true
ahead X2 = true
ahead (X3 n) = true
ahead X4 = false

-- the labels of a worker that the one before it names
abbrev pub named : Label → Bool
named Out = false
named W0 = false
named W1 = false
named (W2 p) = false
named (W3 p) = false
named W4 = true
named W5 = false
named Inside = false
named X0 = false
named X1 = false
named X2 = false
named (X3 n) = false
named X4 = false

-- the own `locked`; that of a named worker is cleared when it becomes the first
abbrev pub shut : Label → (first : Bool) → Bool
shut Out first = false
shut W0 first = false
shut W1 first = false
shut (W2 p) first = false
shut (W3 p) first = true
shut W4 first = if first then false else true
shut W5 first = false
shut Inside first = true
shut X0 first = true
shut X1 first = true
shut X2 first = true
shut (X3 n) first = true
shut X4 first = true

-- the one before, where a worker keeps it
abbrev pub link : Label → Option ℕ
link Out = None
link W0 = None
link W1 = None
link (W2 p) = Some p
link (W3 p) = Some p
link W4 = None
link W5 = None
link Inside = None
link X0 = None
link X1 = None
link X2 = None
link (X3 n) = None
link X4 = None

-- the worker of the rank r, where there is one and it is named
abbrev pub behind : Line → (ℕ → Label) → ℕ → Option ℕ
behind o label r = if nat_lt r o.end then (if named (label (o.who r)) then Some (o.who r) else None) else None

-- the last of the line
abbrev pub final : Line → Option ℕ
final o = if nat_lt o.first o.end then Some (o.who (o.end - 1)) else None

-- of one worker, by its node and its label
pub record Stands (own : Node) (o : Line) (label : ℕ → Label) (w : ℕ) (l : Label) : Type 0 where
  pub flag : own.locked ≡ shut l (o.rank w == o.first)
  pub front : ahead l ≡ true → o.rank w ≡ o.first
  pub before : (p : ℕ) → link l ≡ Some p → (o.first < o.rank w) × (p ≡ o.who (o.rank w - 1))
  pub linked : queued l ≡ true → own.next ≡ behind o label (o.rank w + 1)
  pub fresh : l ≡ W1 → own.next ≡ None
  pub follows : l ≡ X2 → o.rank w + 1 < o.end
  pub hands : (n : ℕ) → l ≡ X3 n → own.next ≡ Some n

pub record Chained (last : Option ℕ) (node : ℕ → Node) (label : ℕ → Label) (o : Line) : Type 0 where
  pub order : Order o (λ w. queued (label w))
  pub ends : last ≡ final o
  pub stands : (w : ℕ) → w < 16 → Stands (node w) o label w (label w)

abbrev pub Ordered : Words → Type 0
Ordered s = (o : Line) × Chained s.last (node s) (label s) o

abbrev pub Holds : Words → Type 0
Holds s = Sixteen s × Ordered s
