-- The ticket lock goes by turns: the ticket that is served is that of the first in the line.
use Rattle.std.proofs.Common.{◌≡◌, ℕ, ◌≤◌, true, false, eqb, sym, refl, ◌∙◌, arith}
use Rattle.queue.specs.declared.stage.Stage.TheVariants.{Away, Coming, Queued, Within, Leaving}
use Rattle.queue.proofs.Turns.{Turns}
use Rattle.queue.proofs.Turnwise.{Turnwise}
use Rattle.ticket.specs.declared.words.Label.{Label}
use Rattle.ticket.specs.declared.words.Label.TheVariants.{Out, W0, W1, W2, Inside, X0, X1}
use Rattle.ticket.specs.declared.words.Words.{Words}
use Rattle.ticket.specs.Accesses.{label, stage_at, stage, mark}
use Rattle.ticket.specs.Distance.{turn_at, turn}
use Rattle.ticket.specs.Facts.{holding, Holds}
use Rattle.ticket.proofs.Keeps.{first_served, none_drawn}

-- ## What a stage tells of the label

pub within_holds : (l : Label) → stage_at l ≡ Within → holding l ≡ true
within_holds Out e = grind (arith, e)
within_holds W0 e = grind (arith, e)
within_holds (W1 t) e = grind (arith, e)
within_holds W2 e = grind (arith, e)
within_holds Inside e = refl
within_holds X0 e = refl
within_holds X1 e = grind (arith, e)

pub away_free : (l : Label) → stage_at l ≡ Away → holding l ≡ false
away_free Out e = refl
away_free W0 e = refl
away_free (W1 t) e = refl
away_free W2 e = refl
away_free Inside e = grind (arith, e)
away_free X0 e = grind (arith, e)
away_free X1 e = refl

far : (l : Label) (n : ℕ) → stage_at l ≡ Leaving n → (4 ≤ n) × (n ≤ 5)
far Out n e = grind (arith, e)
far W0 n e = grind (arith, e)
far (W1 t) n e = grind (arith, e)
far W2 n e = grind (arith, e)
far Inside n e = grind (arith, e)
far X0 n e = let k : 5 ≡ n = cc in (omega arith, omega arith)
far X1 n e = let k : 4 ≡ n = cc in (omega arith, omega arith)

-- ## The turns

turns : (s : Words) (f : Holds s) → Turns f.1.0 (stage s) (turn s)
turns s (len, (o, f)) = record { staged = f.staged; own = λ w. own w (label s w) refl; vacant = λ w lt. vacant w (label s w) refl }
  where
    own : (w : ℕ) (l : Label) → label s w ≡ l → stage_at l ≡ Queued → turn_at s.next s.serving l ≡ eqb o.first (o.rank w)
    own w Out at e = grind (arith, e)
    own w W0 at e = grind (arith, e)
    own w (W1 t) at e = first_served f w t at
    own w W2 at e = grind (arith, e)
    own w Inside at e = grind (arith, e)
    own w X0 at e = grind (arith, e)
    own w X1 at e = grind (arith, e)

    vacant : (w : ℕ) (l : Label) → label s w ≡ l → stage_at l ≡ Coming → turn_at s.next s.serving l ≡ eqb o.first o.end
    vacant w Out at e = grind (arith, e)
    vacant w W0 at e = none_drawn f
    vacant w (W1 t) at e = grind (arith, e)
    vacant w W2 at e = grind (arith, e)
    vacant w Inside at e = grind (arith, e)
    vacant w X0 at e = grind (arith, e)
    vacant w X1 at e = grind (arith, e)

pub kind : Turnwise stage turn mark 5 Holds (λ s f. f.1.0)
kind = record {
  wide = omega arith;
  far = λ s w. far (label s w);
  turns = turns;
  held = λ s f w at. sym (f.1.1.marks w) ∙ within_holds (label s w) at;
  free = λ s f w at. sym (f.1.1.marks w) ∙ away_free (label s w) at;
}
