-- What each access does to the counted line.
use Rattle.std.proofs.Common.{◌≡◌, ℕ, ◌%◌, ◌^◌, ◌<◌, true, false, eqb, Option, sym, refl, ap, ◌∙◌, arith}
use Rattle.lock.specs.Calls.{names, upd}
use Rattle.lock.proofs.Labelled.{upd_same, upd_other}
use Rattle.queue.specs.declared.stage.Stage.TheVariants.{Away, Queued}
use Rattle.queue.specs.Stages.{in_line, at_front}
use Rattle.queue.specs.Counter.{more}
use Rattle.queue.specs.Line.{Line, joined, handed}
use Rattle.queue.proofs.Written.{each, else_false}
use Rattle.queue.proofs.Counting.{near_test, counts_on}
use Rattle.queue.proofs.Ordering.{few}
use Rattle.queue.proofs.Staging.{sole, stays, joins, hands_on, over}
use Rattle.ticket.specs.declared.words.Label.{Label}
use Rattle.ticket.specs.declared.words.Label.TheVariants.{Out, W0, W1, W2, Inside, X0, X1}
use Rattle.ticket.specs.Accesses.{stage_at}
use Rattle.ticket.specs.Facts.{holding, Counted}

holding_front : (l : Label) → holding l ≡ true → at_front (stage_at l) ≡ true
holding_front Out e = e
holding_front W0 e = e
holding_front (W1 t) e = e
holding_front W2 e = refl
holding_front Inside e = refl
holding_front X0 e = refl
holding_front X1 e = refl

drawn_same : (n t : ℕ) → W1 n ≡ W1 t → n ≡ t
drawn_same n t e = cc

module _ {n s : ℕ} {h : Option ℕ} {L : ℕ → Label} {o : Line} (f : Counted n s h L o) where
  -- the ticket that is served is that of the first in the line
  pub first_served : (w t : ℕ) → L w ≡ W1 t → eqb s t ≡ eqb o.first (o.rank w)
  first_served w t at =
      let i = f.staged.order.within w (ap in_line (ap stage_at at)) in
      ap (λ x. eqb x t) f.serves ∙ (ap (eqb (o.first % 2 ^ 32)) (f.drew w t at) ∙ near_test (2 ^ 32) o.first (o.rank w) i.1 (omega (arith, i, few f.staged.order)))

  -- it is the next to be drawn where nobody is in the line
  pub none_drawn : eqb s n ≡ eqb o.first o.end
  none_drawn = ap (λ x. eqb x n) f.serves ∙ (ap (eqb (o.first % 2 ^ 32)) f.gives ∙ near_test (2 ^ 32) o.first o.end f.staged.order.sorted (omega (arith, few f.staged.order)))

  module _ (w : ℕ) where
    -- w moves in the line or outside it, and the holder may change
    pub moved : (l : Label) (k : Option ℕ) → in_line (stage_at l) ≡ in_line (stage_at (L w)) → (at_front (stage_at l) ≡ true → o.rank w ≡ o.first)
        → ((t : ℕ) → l ≡ W1 t → ⊥) → holding l ≡ names k w → ((v : ℕ) → (v ≡ w → ⊥) → names h v ≡ names k v)
        → Counted n s k (upd L w l) o
    moved l k line front none here there = record {
      staged = over stage_at L w l (stays f.staged w (stage_at l) line front);
      gives = f.gives;
      serves = f.serves;
      drew = each (λ v m. (t : ℕ) → m ≡ W1 t → t ≡ o.rank v % 2 ^ 32) L w l (λ t e. absurd (none t e)) (λ v ne. f.drew v);
      marks = each (λ v m. holding m ≡ names k v) L w l here (λ v ne. f.marks v ∙ there v ne);
    }

    -- whoever else the mark could show is not at the front
    pub other_free : at_front (stage_at (L w)) ≡ true → (v : ℕ) → (v ≡ w → ⊥) → names h v ≡ false
    other_free a v ne = sym (f.marks v) ∙ else_false (holding (L v)) (λ e. ne (sole f.staged v w (holding_front (L v) e) a))

    pub drawn : w < 16 → L w ≡ W0 → Counted (more n) s h (upd L w (W1 n)) (joined o w)
    drawn lt at = record {
      staged = over stage_at L w (W1 n) (joins f.staged w Queued lt (ap in_line (ap stage_at at)) refl refl);
      gives = counts_on n o.end f.gives;
      serves = f.serves;
      drew = each (λ v m. (t : ℕ) → m ≡ W1 t → t ≡ upd o.rank w o.end v % 2 ^ 32) L w (W1 n)
          (λ t e. sym (drawn_same n t e) ∙ (f.gives ∙ ap (λ x. x % 2 ^ 32) (sym (upd_same o.rank w o.end))))
          (λ v ne t e. f.drew v t e ∙ ap (λ x. x % 2 ^ 32) (sym (upd_other o.rank w v o.end ne)));
      marks = each (λ v m. holding m ≡ names h v) L w (W1 n) (sym (ap holding at) ∙ f.marks w) (λ v ne. f.marks v);
    }

    pub served : L w ≡ X1 → Counted n (more s) h (upd L w Out) (handed o)
    served at = record {
      staged = over stage_at L w Out (hands_on f.staged w Away (ap at_front (ap stage_at at)) refl);
      gives = f.gives;
      serves = counts_on s o.first f.serves;
      drew = each (λ v m. (t : ℕ) → m ≡ W1 t → t ≡ o.rank v % 2 ^ 32) L w Out (λ t e. grind (arith, e)) (λ v ne. f.drew v);
      marks = each (λ v m. holding m ≡ names h v) L w Out (sym (ap holding at) ∙ f.marks w) (λ v ne. f.marks v);
    }
