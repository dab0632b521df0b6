-- The array lock goes by turns: the slot that is open is that of the first in the line.
use Rattle.std.proofs.Common.{◌≡◌, ℕ, ◌%◌, ◌<◌, ◌≤◌, Bool, true, false, cond, is_some, Some, None, sym, ap, ◌∙◌, arith}
use Rattle.queue.specs.declared.stage.Stage.TheVariants.{Queued, Leaving}
use Rattle.queue.specs.Stages.{in_line}
use Rattle.lock.proofs.Small.{never}
use Rattle.queue.proofs.Turns.{Turns}
use Rattle.queue.proofs.Turnwise.{Turnwise}
use Rattle.array.specs.declared.words.Label.{Label}
use Rattle.array.specs.declared.words.Label.TheVariants.{Out, W0, W1, W2, Inside, X0}
use Rattle.array.specs.declared.words.Words.{Words}
use Rattle.array.specs.Accesses.{label, number, opened, stage_at, stage, mark}
use Rattle.array.specs.Distance.{turn_at, turn}
use Rattle.array.specs.Facts.{Ordered, Holds}
use Rattle.array.proofs.Keeps.{its_number, first_open, next_open}

-- ## What a stage tells of the label

far : (l : Label) (n : ℕ) → stage_at l ≡ Leaving n → (4 ≤ n) × (n ≤ 4)
far Out n e = grind (arith, e)
far W0 n e = grind (arith, e)
far W1 n e = grind (arith, e)
far W2 n e = grind (arith, e)
far Inside n e = grind (arith, e)
far X0 n e = let k : 4 ≡ n = cc in (omega arith, omega arith)

-- ## The turns

turns : (s : Words) (f : Holds s) → Turns f.1.0 (stage s) (turn s)
turns s (len, (o, f)) = record {
  staged = f.staged;
  own = λ w at. ap (λ x. turn_at s.next (opened s) x (number s w)) at ∙ (ap (turn_at s.next (opened s) Queued) (its_number f w (ap in_line at)) ∙ first_open f w at);
  vacant = λ w lt at. ap (λ x. turn_at s.next (opened s) x (number s w)) at ∙ next_open f w lt at;
}

marked : (s : Words) → Holds s → (w : ℕ) (b : Bool) → in_line (stage s w) ≡ b → mark s w ≡ b
marked s f w true e = ap is_some (f.1.1.numbered w ∙ ap (λ b. cond b (Some (f.1.0.rank w % 16)) None) e)
marked s f w false e = ap is_some (f.1.1.numbered w ∙ ap (λ b. cond b (Some (f.1.0.rank w % 16)) None) e)

pub kind : Turnwise stage turn mark 4 Holds (λ s f. f.1.0)
kind = record {
  wide = omega arith;
  far = λ s w. far (label s w);
  turns = turns;
  held = λ s f w at. marked s f w true (ap in_line at);
  free = λ s f w at. marked s f w false (ap in_line at);
}

-- ## The slot numbers

-- a worker's slot is one of the sixteen
pub in_range : (s : Words) → Ordered s → (w k : ℕ) → number s w ≡ Some k → k < 16
in_range s (o, f) w k e = below (in_line (stage s w)) (sym (f.numbered w) ∙ e)
  where
    below : (b : Bool) → cond b (Some (o.rank w % 16)) None ≡ Some k → k < 16
    below true z = let i : o.rank w % 16 ≡ k = cc in omega (arith, i)
    below false z = never z
