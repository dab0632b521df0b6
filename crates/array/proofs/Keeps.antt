-- What each access does to the counted line.
use Rattle.std.proofs.Common.{◌≡◌, ℕ, ◌+◌, ◌%◌, ◌^◌, ◌<◌, ◌≤◌, Bool, true, false, cond, eqb, Some, None, Option, sym, refl, ap, ◌∙◌, arith}
use native.Mathlib.Nat.{mod-add-mod}
use Rattle.std.proofs.lemmas.Bool.{eq-eqb, ne_eqb, false≢true}
use Rattle.lock.specs.Calls.{upd}
use Rattle.lock.proofs.Labelled.{upd_same, upd_other}
use Rattle.queue.specs.declared.stage.Stage.{Stage}
use Rattle.queue.specs.declared.stage.Stage.TheVariants.{Away, Coming, Queued, Ready, Within, Leaving}
use Rattle.queue.specs.Counter.{more}
use Rattle.queue.specs.Stages.{in_line, at_front}
use Rattle.queue.specs.Line.{Line, joined, handed}
use Rattle.queue.proofs.Written.{each, else_false}
use Rattle.queue.proofs.Counting.{near_test, counts_on}
use Rattle.queue.proofs.Ordering.{few, room, same_rank}
use Rattle.queue.proofs.Staging.{sole, front_in_line, stays, joins, hands_on}
use Rattle.array.specs.Facts.{holds, Counted}

holds_front : (x : Stage) → holds x ≡ true → at_front x ≡ true
holds_front Away e = e
holds_front Coming e = e
holds_front Queued e = e
holds_front Ready e = refl
holds_front Within e = refl
holds_front (Leaving n) e = refl

module _ {n : ℕ} {O : ℕ → Bool} {N : ℕ → Option ℕ} {g : ℕ → Stage} {o : Line} (f : Counted n O N g o) where
  -- whoever holds is the first
  first_holds : (v : ℕ) → holds (g v) ≡ true → (in_line (g v) ≡ true) × (o.rank v ≡ o.first)
  first_holds v e = let a = holds_front (g v) e in (front_in_line (g v) a, f.staged.front v a)

  none_holds : holds (g (o.who o.first)) ≡ false → (v : ℕ) → holds (g v) ≡ false
  none_holds e v = else_false (holds (g v)) (λ h.
      let i = first_holds v h in
      false≢true (sym e ∙ (ap (λ u. holds (g u)) (ap o.who (sym i.1) ∙ (f.staged.order.within v i.0).3) ∙ h)))

  -- a slot within reach of the line is open where it is that of the first rank and nobody holds
  turned : (r : ℕ) → o.first ≤ r → r < o.first + 16 → ((v : ℕ) → holds (g v) ≡ true → o.first ≡ r → ⊥) → O (r % 16) ≡ eqb o.first r
  turned r l u free = go (holds (g (o.who o.first))) refl
    where
      go : (b : Bool) → holds (g (o.who o.first)) ≡ b → O (r % 16) ≡ eqb o.first r
      go true e = f.shut (o.who o.first) e (r % 16) (omega arith) ∙ sym (ne_eqb o.first r (free (o.who o.first) e))
      go false e = f.opens (none_holds e) (r % 16) (omega arith) ∙ near_test 16 o.first r l u

  -- the number of one in the line
  pub its_number : (w : ℕ) → in_line (g w) ≡ true → N w ≡ Some (o.rank w % 16)
  its_number w q = f.numbered w ∙ ap (λ b. cond b (Some (o.rank w % 16)) None) q

  pub first_open : (w : ℕ) → g w ≡ Queued → O (o.rank w % 16) ≡ eqb o.first (o.rank w)
  first_open w at =
      let q : in_line (g w) ≡ true = ap in_line at in
      let i = f.staged.order.within w q in
      turned (o.rank w) i.1 (omega (arith, i, few f.staged.order)) (λ v h e.
      let k = first_holds v h in
      false≢true (sym (ap holds at) ∙ (ap (λ u. holds (g u)) (same_rank f.staged.order w v q k.0 (sym e ∙ sym k.1)) ∙ h)))

  next_slot : n % 16 ≡ o.end % 16
  next_slot = ap (λ x. x % 16) f.gives ∙ (let z : o.end % 2 ^ 32 % 16 ≡ o.end % 16 = omega arith in z)

  pub next_open : (w : ℕ) → w < 16 → g w ≡ Coming → O (n % 16) ≡ eqb o.first o.end
  next_open w lt at = ap O next_slot ∙ turned o.end f.staged.order.sorted (room f.staged.order w lt (ap in_line at)) (λ v h e.
      let k = first_holds v h in omega (arith, f.staged.order.within v k.0))

  module _ (w : ℕ) where
    as_held : (x : Stage) → holds x ≡ holds (g w) → (v : ℕ) → holds (upd g w x v) ≡ holds (g v)
    as_held x same = each (λ v y. holds y ≡ holds (g v)) g w x same (λ v ne. refl)

    -- w moves in the line or outside it
    pub moved : (x : Stage) → in_line x ≡ in_line (g w) → (at_front x ≡ true → o.rank w ≡ o.first) → holds x ≡ holds (g w) → Counted n O N (upd g w x) o
    moved x line front same = record {
      staged = stays f.staged w x line front;
      gives = f.gives;
      numbered = each (λ v y. N v ≡ cond (in_line y) (Some (o.rank v % 16)) None) g w x (f.numbered w ∙ ap (λ b. cond b (Some (o.rank w % 16)) None) (sym line)) (λ v ne. f.numbered v);
      shut = λ v h. f.shut v (sym (as_held x same v) ∙ h);
      opens = λ h. f.opens (λ v. sym (as_held x same v) ∙ h v);
    }

    pub drawn : w < 16 → g w ≡ Coming → Counted (more n) O (upd N w (Some (n % 16))) (upd g w Queued) (joined o w)
    drawn lt at = record {
      staged = joins f.staged w Queued lt (ap in_line at) refl refl;
      gives = counts_on n o.end f.gives;
      numbered = each (λ v y. upd N w (Some (n % 16)) v ≡ cond (in_line y) (Some (upd o.rank w o.end v % 16)) None) g w Queued
          (upd_same N w (Some (n % 16)) ∙ ap Some (next_slot ∙ ap (λ r. r % 16) (sym (upd_same o.rank w o.end))))
          (λ v ne. upd_other N w v (Some (n % 16)) ne ∙ (f.numbered v ∙ ap (λ r. cond (in_line (g v)) (Some (r % 16)) None) (sym (upd_other o.rank w v o.end ne))));
      shut = λ v h. f.shut v (sym (as_held Queued (sym (ap holds at)) v) ∙ h);
      opens = λ h. f.opens (λ v. sym (as_held Queued (sym (ap holds at)) v) ∙ h v);
    }

    pub shuts : g w ≡ Ready → Counted n (upd O (o.rank w % 16) false) N (upd g w Within) o
    shuts at = record {
      staged = stays f.staged w Within (sym (ap in_line at)) (λ a. first);
      gives = f.gives;
      numbered = each (λ v y. N v ≡ cond (in_line y) (Some (o.rank v % 16)) None) g w Within (its_number w (ap in_line at)) (λ v ne. f.numbered v);
      shut = λ v h. each (λ k b. k < 16 → b ≡ false) O (o.rank w % 16) false (λ l. refl)
          (λ k ne l. f.opens alone k l ∙ ne_eqb (o.first % 16) k (λ e. ne (sym e ∙ ap (λ r. r % 16) (sym first))));
      opens = λ h. absurd (false≢true (sym (h w) ∙ ap holds (upd_same g w Within)));
    }
      where
        first : o.rank w ≡ o.first
        first = f.staged.front w (ap at_front at)

        alone : (v : ℕ) → holds (g v) ≡ false
        alone v = else_false (holds (g v)) (λ h. false≢true (sym (ap holds at) ∙ (ap (λ u. holds (g u)) (sole f.staged w v (ap at_front at) (holds_front (g v) h)) ∙ h)))

    pub handed_on : (m : ℕ) → g w ≡ Leaving m → Counted n (upd O ((o.rank w % 16 + 1) % 16) true) (upd N w None) (upd g w Away) (handed o)
    handed_on m at = record {
      staged = hands_on f.staged w Away (ap at_front at) refl;
      gives = f.gives;
      numbered = each (λ v y. upd N w None v ≡ cond (in_line y) (Some (o.rank v % 16)) None) g w Away (upd_same N w None) (λ v ne. upd_other N w v None ne ∙ f.numbered v);
      shut = λ v h. absurd (each (λ u y. holds y ≡ true → ⊥) g w Away (λ e. false≢true e)
          (λ u ne e. ne (sole f.staged u w (holds_front (g u) e) (ap at_front at))) v h);
      opens = λ h. each (λ k b. k < 16 → b ≡ eqb ((o.first + 1) % 16) k) O ((o.rank w % 16 + 1) % 16) true
          (λ l. sym (eq-eqb _ _ (sym after)))
          (λ k ne l. f.shut w (ap holds at) k l ∙ sym (ne_eqb ((o.first + 1) % 16) k (λ e. ne (sym e ∙ sym after))));
    }
      where
        after : (o.rank w % 16 + 1) % 16 ≡ (o.first + 1) % 16
        after = mod-add-mod (o.rank w) 16 1 ∙ ap (λ r. (r + 1) % 16) (f.staged.front w (ap at_front at))
