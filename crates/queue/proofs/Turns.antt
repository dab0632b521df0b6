-- Where the turn is the first one's alone, somebody always has a distance, and each access leads on.
use Rattle.std.proofs.Common.{◌≡◌, ℕ, ◌<◌, ◌≤◌, Bool, true, false, cond, eqb, ◌⊎◌, Some, None, Option, sym, refl, ap, ◌∙◌, inl, inr, ⊎_elim, arith}
use Rattle.std.proofs.lemmas.Bool.{cases_lt, cases_eq, eqb-true, eq-eqb, false≢true}
use Rattle.lock.specs.declared.place.Place.TheVariants as place
use Rattle.lock.specs.Calls.{upd}
use Rattle.lock.proofs.Small.{never}
use Rattle.lock.proofs.Pair.{SomeDistance, Fitting, Onward}
use Rattle.lock.proofs.Labelled.{Free, Waits, upd_same, upd_other}
use Rattle.queue.specs.declared.stage.Stage.{Stage}
use Rattle.queue.specs.declared.stage.Stage.TheVariants.{Away, Coming, Queued, Ready, Within, Leaving}
use Rattle.queue.specs.Stages.{place_of, in_line, at_front, distance_of, Staged}
use Rattle.queue.specs.Line.{Line, joined}
use Rattle.queue.proofs.Ordering.{same_rank}
use Rattle.queue.proofs.Staging.{sole}

-- the turn of one in the line is its own where it is the first, that of one who comes where nobody is in the line
pub record Turns (o : Line) (g : ℕ → Stage) (turn : ℕ → Bool) : Type 0 where
  pub staged : Staged o g
  pub own : (w : ℕ) → g w ≡ Queued → turn w ≡ eqb o.first (o.rank w)
  pub vacant : (w : ℕ) → w < 16 → g w ≡ Coming → turn w ≡ eqb o.first o.end

abbrev pub distances : (ℕ → Stage) → (ℕ → Bool) → ℕ → Option ℕ
distances g turn v = distance_of (g v) (turn v)

-- a distance that depends on a turn
of_turn : (n d : ℕ) (b : Bool) → cond b (Some n) None ≡ Some d → (b ≡ true) × (d ≡ n)
of_turn n d true e = (refl, cc)
of_turn n d false e = never e

to_turn : (n : ℕ) (b : Bool) → b ≡ true → cond b (Some n) None ≡ Some n
to_turn n b e = ap (λ x. cond x (Some n) None) e

-- whoever is at a distance waits or leaves, and the distance is from 1 to the bound
pub fits : (bound : ℕ) → 3 ≤ bound → (x : Stage) (b : Bool) (d : ℕ) → ((n : ℕ) → x ≡ Leaving n → (4 ≤ n) × (n ≤ bound)) → distance_of x b ≡ Some d → Fitting bound (place_of x) d
fits bound l Away b d far e = never e
fits bound l Coming b d far e = let k = of_turn 3 d b e in (inl refl, omega (arith, k.1), omega (arith, k.1))
fits bound l Queued b d far e = let k = of_turn 2 d b e in (inl refl, omega (arith, k.1), omega (arith, k.1))
fits bound l Ready b d far e = let k : 1 ≡ d = cc in (inl refl, omega arith, omega arith)
fits bound l Within b d far e = never e
fits bound l (Leaving n) b d far e = let k : n ≡ d = cc in let f = far n refl in (inr refl, omega arith, omega arith)

-- whoever is not at the front is nearer than one on its way out
low : (x : Stage) (b : Bool) (d : ℕ) → (at_front x ≡ true → ⊥) → distance_of x b ≡ Some d → d < 4
low Away b d n e = never e
low Coming b d n e = omega (arith, (of_turn 3 d b e).1)
low Queued b d n e = omega (arith, (of_turn 2 d b e).1)
low Ready b d n e = absurd (n refl)
low Within b d n e = absurd (n refl)
low (Leaving m) b d n e = absurd (n refl)

module _ {o : Line} {g : ℕ → Stage} {turn : ℕ → Bool} (t : Turns o g turn) where
  -- who can be at a distance: one who comes to an empty line, or the first in it
  abbrev Nearest : ℕ → ℕ → Type 0
  Nearest v d = ((o.first ≡ o.end) × (g v ≡ Coming) × (d ≡ 3)) ⊎ ((in_line (g v) ≡ true) × (o.rank v ≡ o.first))

  nearest : (v d : ℕ) → v < 16 → distances g turn v ≡ Some d → Nearest v d
  nearest v d l = go (g v) refl
    where
      go : (x : Stage) → g v ≡ x → distance_of x (turn v) ≡ Some d → Nearest v d
      go Away at e = never e
      go Coming at e = let k = of_turn 3 d (turn v) e in inl (eqb-true _ _ (sym (t.vacant v l at) ∙ k.0), at, k.1)
      go Queued at e = let k = of_turn 2 d (turn v) e in inr (ap in_line at, sym (eqb-true _ _ (sym (t.own v at) ∙ k.0)))
      go Ready at e = inr (ap in_line at, t.staged.front v (ap at_front at))
      go Within at e = never e
      go (Leaving n) at e = inr (ap in_line at, t.staged.front v (ap at_front at))

  -- ## While somebody waits and nobody is inside, somebody is at a distance

  pub some : Free place_of g → Waits place_of g → SomeDistance (distances g turn)
  some free (z, lz, waits) = ⊎_elim led (λ l. alone (g z) refl waits (omega (arith, t.staged.order.sorted))) (cases_lt o.first o.end)
    where
      first : ℕ
      first = o.who o.first

      leads : (x : Stage) → g first ≡ x → first < 16 → in_line x ≡ true → o.rank first ≡ o.first → SomeDistance (distances g turn)
      leads Away at l q r = absurd (false≢true q)
      leads Coming at l q r = absurd (false≢true q)
      leads Queued at l q r = (first, 2, l, ap (λ x. distance_of x (turn first)) at ∙ to_turn 2 (turn first) (t.own first at ∙ eq-eqb _ _ (sym r)))
      leads Ready at l q r = (first, 1, l, ap (λ x. distance_of x (turn first)) at)
      leads Within at l q r = absurd (free first l (ap place_of at))
      leads (Leaving n) at l q r = (first, n, l, ap (λ x. distance_of x (turn first)) at)

      led : o.first < o.end → SomeDistance (distances g turn)
      led l = let m = t.staged.order.member o.first (omega arith) l in leads (g first) refl (t.staged.order.within first m.0).0 m.0 m.1

      alone : (x : Stage) → g z ≡ x → place_of x ≡ place.Waiting → o.first ≡ o.end → SomeDistance (distances g turn)
      alone Away at p k = grind (arith, p)
      alone Coming at p k = (z, 3, lz, ap (λ x. distance_of x (turn z)) at ∙ to_turn 3 (turn z) (t.vacant z lz at ∙ eq-eqb _ _ k))
      alone Queued at p k = absurd (omega (arith, t.staged.order.within z (ap in_line at)))
      alone Ready at p k = absurd (omega (arith, t.staged.order.within z (ap in_line at)))
      alone Within at p k = grind (arith, p)
      alone (Leaving n) at p k = grind (arith, p)

  -- ## One access

  module _ (w : ℕ) (lt : w < 16) where
    -- while w is the first nobody else is at a distance
    only : in_line (g w) ≡ true → o.rank w ≡ o.first → (v d : ℕ) → v < 16 → distances g turn v ≡ Some d → v ≡ w
    only q r v d l e = elim (nearest v d l e) [
      | inl n ↦ absurd (omega (arith, n.0, t.staged.order.within w q))
      | inr n ↦ same_rank t.staged.order v w n.0 q (n.1 ∙ sym r)
    ]

    own_is : (x : Stage) (d : ℕ) → g w ≡ x → distances g turn w ≡ Some d → distance_of x (turn w) ≡ Some d
    own_is x d at e = sym (ap (λ y. distance_of y (turn w)) at) ∙ e

    -- w finds that the turn is not its own
    pub on_wait : g w ≡ Queued → turn w ≡ false → Onward w (distances g turn) (distances g turn)
    on_wait at other = record {
      others = λ v d l ne e. (v, d, l, e, omega arith);
      own = λ d e. absurd (false≢true (sym other ∙ (of_turn 2 d (turn w) (own_is Queued d at e)).0));
    }

    module _ (after : ℕ → Bool) where
      moved : (x : Stage) → distances (upd g w x) after w ≡ distance_of x (after w)
      moved x = ap (λ y. distance_of y (after w)) (upd_same g w x)

      pub on_join : g w ≡ Coming → Turns (joined o w) (upd g w Queued) after → Onward w (distances g turn) (distances (upd g w Queued) after)
      on_join at u = record {
        others = λ v d l ne e. elim (nearest v d l e) [
          | inl n ↦ (w, 2, lt, here n.0, omega (arith, n.2))
          | inr n ↦ (v, d, l, ap (λ x. distance_of x (after v)) (upd_other g w v Queued ne) ∙ (there v ne n.1 (g v) refl n.0 ∙ e), omega arith)
        ];
        own = λ d e. elim (nearest w d lt e) [
          | inl n ↦ (w, 2, lt, here n.0, omega (arith, n.2))
          | inr n ↦ absurd (false≢true (sym (ap in_line at) ∙ n.0))
        ];
      }
        where
          here : o.first ≡ o.end → distances (upd g w Queued) after w ≡ Some 2
          here k = moved Queued ∙ to_turn 2 (after w) (u.own w (upd_same g w Queued) ∙ eq-eqb _ _ (k ∙ sym (upd_same o.rank w o.end)))

          there : (v : ℕ) → (v ≡ w → ⊥) → o.rank v ≡ o.first → (x : Stage) → g v ≡ x → in_line x ≡ true → distance_of x (after v) ≡ distance_of x (turn v)
          there v ne r Away k q = absurd (false≢true q)
          there v ne r Coming k q = absurd (false≢true q)
          there v ne r Queued k q = ap (distance_of Queued) (u.own v (upd_other g w v Queued ne ∙ k) ∙ (ap (eqb o.first) (upd_other o.rank w v o.end ne) ∙ sym (t.own v k)))
          there v ne r Ready k q = refl
          there v ne r Within k q = refl
          there v ne r (Leaving n) k q = refl

      pub on_ready : g w ≡ Queued → turn w ≡ true → Onward w (distances g turn) (distances (upd g w Ready) after)
      on_ready at mine = record {
        others = λ v d l ne e. absurd (ne (only (ap in_line at) (sym (eqb-true _ _ (sym (t.own w at) ∙ mine))) v d l e));
        own = λ d e. (w, 1, lt, moved Ready, omega (arith, (of_turn 2 d (turn w) (own_is Queued d at e)).1));
      }

      -- w is on its way out
      module _ (n : ℕ) (at : g w ≡ Leaving n) where
        first : o.rank w ≡ o.first
        first = t.staged.front w (ap at_front at)

        own_distance : (d : ℕ) → distances g turn w ≡ Some d → n ≡ d
        own_distance d e = let k : ◌≡◌ {A = Option ℕ} (Some n) (Some d) = own_is (Leaving n) d at e in cc

        pub on_leave : (m : ℕ) → m < n → Onward w (distances g turn) (distances (upd g w (Leaving m)) after)
        on_leave m l = record {
          others = λ v d lv ne e. absurd (ne (only (ap in_line at) first v d lv e));
          own = λ d e. (w, m, lt, moved (Leaving m), omega (arith, own_distance d e));
        }

        pub on_hand : 4 ≤ n → SomeDistance (distances (upd g w Away) after) → Onward w (distances g turn) (distances (upd g w Away) after)
        on_hand l (v, d, lv, e) = record {
          others = λ v d lv ne e. absurd (ne (only (ap in_line at) first v d lv e));
          own = λ c k. (v, d, lv, e, omega (arith, own_distance c k, ⊎_elim gone rest (cases_eq v w)));
        }
          where
            gone : v ≡ w → d < 4
            gone is = never (sym (ap (λ u. distances (upd g w Away) after u) is ∙ moved Away) ∙ e)

            rest : (v ≡ w → ⊥) → d < 4
            rest ne = low (g v) (after v) d (λ a. ne (sole t.staged v w a (ap at_front at))) (sym (ap (λ x. distance_of x (after v)) (upd_other g w v Away ne)) ∙ e)
