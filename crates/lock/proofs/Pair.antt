-- A lock whose due pair goes by distances keeps the rules of the pair.
use Rattle.std.proofs.Common.{◌≡◌, ℕ, ◌+◌, ◌<◌, ◌≤◌, Bool, true, false, cond, ltb, ◌⊎◌, List, length, replicate, Some, None, Ok, Err, Option, Result, sym, refl, ap, ◌∙◌, subst, inl, inr, ⊎_elim, arith}
use mathlib.Core.Logic.{∥∥₁_elim, ∥∥₁_map}
use mathlib.Core.HLevel.{⊥_prop}
use native.Mathlib.Bridge.{le_prop}
use Rattle.std.proofs.lemmas.List.FromFn.{length-map-range_with_len, get_or-map-range_with_len}
use Rattle.std.proofs.lemmas.List.{get_or_past}
use Rattle.std.proofs.lemmas.Bool.{cases_lt, cases_eq, false≢true, ltb-true}
use Rattle.lock.specs.declared.place.Place.{Place}
use Rattle.lock.specs.declared.place.Place.TheVariants.{Out, Waiting, Inside, Leaving}
use Rattle.lock.specs.declared.answer.Answer.{Answer}
use Rattle.lock.specs.declared.answer.Answer.TheVariants.{Done, Entered, Left, Found}
use Rattle.lock.specs.declared.refusal.Refusal.{Refusal}
use Rattle.lock.specs.declared.refusal.Refusal.TheVariants.{NoWorker}
use Rattle.lock.specs.Rules.{Request, stepping, place_at, place_answer, Nobody, Leads, Obeys, Sound, Fits, NotFarther, Nearer}
use Rattle.lock.specs.Distance.{listed, nearest, anyone, is_inside, is_waiting, due_of}
use Rattle.lock.proofs.Small.{inside_is, waiting_is, never}
use Rattle.lock.proofs.Least.{Nearest, nearest_is, anyone_true, anyone_false}

-- ## Places by worker

abbrev pub Nowhere : (ℕ → Place) → Place → Type 0
Nowhere f p = (v : ℕ) → v < 16 → f v ≡ p → ⊥

pub listed_length : (f : ℕ → Place) → length (listed f) ≡ 16
unfolding listed
listed_length f = length-map-range_with_len f 0 16

pub listed_at : (f : ℕ → Place) (v : ℕ) → v < 16 → place_at (listed f) v ≡ f v
unfolding listed
listed_at f v l = get_or-map-range_with_len f 0 16 v v Out l (omega arith)

-- where everybody is out
pub listed_out : (f : ℕ → Place) → ((w : ℕ) → f w ≡ Out) → listed f ≡ replicate 16 Out
unfolding listed
listed_out f out = λ i. listed (λ w. out w i)

past : (f : ℕ → Place) (v : ℕ) → 16 ≤ v → place_at (listed f) v ≡ Out
past f v l = get_or_past (listed f) v Out (omega (arith, listed_length f))

-- what `place` answers
pub place_listed : (f : ℕ → Place) (w : ℕ) → place_answer f w ≡ place_answer (place_at (listed f)) w
place_listed f w = go (ltb w 16) refl
  where
    go : (b : Bool) → ltb w 16 ≡ b → ◌≡◌ {A = Result Place Refusal} (cond b (Ok (f w)) (Err NoWorker)) (cond b (Ok (place_at (listed f) w)) (Err NoWorker))
    go true t = ap Ok (sym (listed_at f w (ltb-true w 16 t)))
    go false t = refl

-- whoever is not out is one of the sixteen
pub one_of : (f : ℕ → Place) (v : ℕ) (p : Place) → (p ≡ Out → ⊥) → place_at (listed f) v ≡ p → (v < 16) × (f v ≡ p)
one_of f v p ne e = ⊎_elim (λ l. (l, sym (listed_at f v l) ∙ e)) (λ l. absurd (ne (sym e ∙ past f v l))) (cases_lt v 16)

nowhere : (f : ℕ → Place) (p : Place) → Nobody (listed f) p → Nowhere f p
nowhere f p n v l e = n v (listed_at f v l ∙ e)

nobody : (f : ℕ → Place) (p : Place) → (p ≡ Out → ⊥) → Nowhere f p → Nobody (listed f) p
nobody f p ne n v e = let k = one_of f v p ne e in n v k.0 k.1

waiting_out : Waiting ≡ Out → ⊥
waiting_out e = false≢true (ap is_waiting (sym e))

inside_out : Inside ≡ Out → ⊥
inside_out e = false≢true (ap is_inside (sym e))

-- ## What a kind owes

-- a distance below n
abbrev pub Below : (ℕ → Option ℕ) → ℕ → Type 0
Below u n = (v : ℕ) × (d : ℕ) × (v < 16) × (u v ≡ Some d) × (d < n)

abbrev pub SomeDistance : (ℕ → Option ℕ) → Type 0
SomeDistance u = (v : ℕ) × (d : ℕ) × (v < 16) × (u v ≡ Some d)

-- a worker at p may be at the distance d
abbrev pub Fitting : ℕ → Place → ℕ → Type 0
Fitting bound p d = ((p ≡ Waiting) ⊎ (p ≡ Leaving)) × (1 ≤ d) × (d ≤ bound)

-- at every state
pub record Measured (bound : ℕ) (f : ℕ → Place) (u : ℕ → Option ℕ) : Type 0 where
  pub some : Nowhere f Inside → (w : ℕ) → w < 16 → f w ≡ Waiting → SomeDistance u
  pub fitting : (v d : ℕ) → u v ≡ Some d → Fitting bound (f v) d

-- at a call by w: what another is at is matched by one as near, what w is at by a nearer one
pub record Onward (w : ℕ) (before after : ℕ → Option ℕ) : Type 0 where
  pub others : (v d : ℕ) → v < 16 → (v ≡ w → ⊥) → before v ≡ Some d → Below after (d + 1)
  pub own : (d : ℕ) → before w ≡ Some d → Below after d

-- asked only where there was a pair and there is one
abbrev pub Calls : (ℕ → Place) → (ℕ → Place) → (ℕ → Option ℕ) → (ℕ → Option ℕ) → ℕ → Type 0
Calls f g u t w = Nowhere f Inside → Nowhere g Inside → (z : ℕ) → z < 16 → g z ≡ Waiting → Onward w u t

-- ## The ways in which a pair comes about

data Look (f : ℕ → Place) (u : ℕ → Option ℕ) : Option (ℕ × ℕ) → Type 0 where
  taken : (w : ℕ) → w < 16 → f w ≡ Inside → Look f u None
  calm : Nowhere f Waiting → Look f u None
  still : Nowhere f Inside → (w : ℕ) → w < 16 → f w ≡ Waiting → ((v : ℕ) → v < 16 → u v ≡ None) → Look f u None
  due : {p : ℕ × ℕ} → Nowhere f Inside → (w : ℕ) → w < 16 → f w ≡ Waiting → Nearest u 16 (Some p) → Look f u (Some p)

look : (f : ℕ → Place) (u : ℕ → Option ℕ) → Look f u (due_of f u)
look f u = by_inside (anyone is_inside f 16) refl
  where
    by_nearest : Nowhere f Inside → (w : ℕ) → w < 16 → f w ≡ Waiting → (o : Option (ℕ × ℕ)) → Nearest u 16 o → Look f u o
    by_nearest n w l e None k = still n w l e k
    by_nearest n w l e (Some p) k = due n w l e k

    by_waiting : Nowhere f Inside → (b : Bool) → anyone is_waiting f 16 ≡ b → Look f u (cond b (nearest u 16) None)
    by_waiting n false e = calm (λ v l k. false≢true (sym (anyone_false is_waiting f 16 e v l) ∙ ap is_waiting k))
    by_waiting n true e = let t = anyone_true is_waiting f 16 e in by_nearest n t.0 t.1 (waiting_is _ t.2) (nearest u 16) (nearest_is u 16)

    by_inside : (b : Bool) → anyone is_inside f 16 ≡ b → Look f u (cond b None (cond (anyone is_waiting f 16) (nearest u 16) None))
    by_inside true e = let t = anyone_true is_inside f 16 e in taken t.0 t.1 (inside_is _ t.2)
    by_inside false e = by_waiting (λ v l k. false≢true (sym (anyone_false is_inside f 16 e v l) ∙ ap is_inside k)) (anyone is_waiting f 16) refl

-- ## Every state

module _ (bound : ℕ) (f : ℕ → Place) (u : ℕ → Option ℕ) (m : ∥ Measured bound f u ∥₁) where
  fits : (o : Option (ℕ × ℕ)) → Look f u o → Fits bound (listed f) o
  fits None (taken w l e) = ∣ inl ∣ (w, listed_at f w l ∙ e) ∣₁ ∣₁
  fits None (calm n) = ∣ inr (nobody f Waiting waiting_out n) ∣₁
  fits None (still n w l e z) = absurd (∥∥₁_elim m ⊥_prop (λ k. let s = k.some n w l e in never (sym (z s.0 s.2) ∙ s.3)))
  fits (Some p) (due n w l e k) = record {
    free = nobody f Inside inside_out n;
    wanted = ∣ (w, listed_at f w l ∙ e) ∣₁;
    moving = ∥∥₁_map m (λ h. let at = listed_at f p.0 k.0 in ⊎_elim (λ x. inl (at ∙ x)) (λ x. inr (at ∙ x)) (h.fitting p.0 p.1 k.1).0);
    least = ∥∥₁_elim m le_prop (λ h. (h.fitting p.0 p.1 k.1).1);
    most = ∥∥₁_elim m le_prop (λ h. (h.fitting p.0 p.1 k.1).2);
  }

  pub sound : ((v w : ℕ) → v < 16 → w < 16 → f v ≡ Inside → f w ≡ Inside → v ≡ w) → Sound bound (listed f) (due_of f u)
  sound one = record {
    sixteen = listed_length f;
    alone = λ v w a b. let x = one_of f v Inside inside_out a in let y = one_of f w Inside inside_out b in one v w x.0 y.0 x.1 y.1;
    fits = fits (due_of f u) (look f u);
  }

-- ## One accepted call

-- a due step that leaves no pair has entered
enters : (p q : Place) (r : Result Answer Refusal) → Leads stepping p r q → (p ≡ Inside → ⊥) → (q ≡ Inside) ⊎ ((p ≡ Waiting) × (q ≡ Waiting → ⊥)) → r ≡ Ok Entered
enters Out q r k n c = absurd (⊎_elim (λ x. inside_out (sym x ∙ k.1)) (λ x. waiting_out (sym x.0)) c)
enters Waiting q (Ok Done) k n c = absurd (⊎_elim (λ x. false≢true (ap is_waiting (sym x ∙ k))) (λ x. x.1 k) c)
enters Waiting q (Ok Entered) k n c = refl
enters Waiting q (Ok Left) k n c = absurd k
enters Waiting q (Ok Found) k n c = absurd k
enters Waiting q (Err e) k n c = absurd k
enters Inside q r k n c = absurd (n refl)
enters Leaving q (Ok Done) k n c = absurd (⊎_elim (λ x. false≢true (ap is_inside (sym k ∙ x))) (λ x. false≢true (ap is_waiting x.0)) c)
enters Leaving q (Ok Left) k n c = absurd (⊎_elim (λ x. false≢true (ap is_inside (sym k ∙ x))) (λ x. false≢true (ap is_waiting x.0)) c)
enters Leaving q (Ok Entered) k n c = absurd k
enters Leaving q (Ok Found) k n c = absurd k
enters Leaving q (Err e) k n c = absurd k

module _ (f g : ℕ → Place) (u t : ℕ → Option ℕ) (w : ℕ) (on : ∥ Calls f g u t w ∥₁) where
  not_farther : (b a : Option (ℕ × ℕ)) → Look f u b → Look g t a → NotFarther b a
  not_farther None a x y = tt
  not_farther (Some b) None x y = tt
  not_farther (Some b) (Some a) (due n v l e k) (due m z c d j) = ∥∥₁_elim on le_prop (λ calls. let o = calls n m z c d in ⊎_elim
      (λ e. let x = o.own b.1 (ap u (sym e) ∙ k.1) in omega (arith, j.2 x.0 x.1 x.2 x.3, x.4))
      (λ e. let x = o.others b.0 b.1 k.0 e k.1 in omega (arith, j.2 x.0 x.1 x.2 x.3, x.4))
      (cases_eq b.0 w))

  module _ (r : Result Answer Refusal) (lt : w < 16) (same : (v : ℕ) → (v ≡ w → ⊥) → g v ≡ f v) (leads : Leads stepping (f w) r (g w)) where
    comes_nearer : (b a : Option (ℕ × ℕ)) → Look f u b → Look g t a → Nearer w r b a
    comes_nearer None a x y = tt
    comes_nearer (Some b) None (due n v l e k) (taken z c d) = λ x. enters _ _ r leads (n w lt)
        (inl (⊎_elim (λ is. ap g (sym is) ∙ d) (λ ne. absurd (n z c (sym (same z ne) ∙ d))) (cases_eq z w)))
    comes_nearer (Some b) None (due n v l e k) (calm c) = λ x. enters _ _ r leads (n w lt)
        (inr (⊎_elim (λ is. ap f (sym is) ∙ e) (λ ne. absurd (c v l (same v ne ∙ e))) (cases_eq v w), c w lt))
    comes_nearer (Some b) None (due n v l e k) (still m y c d z) = λ x. absurd (∥∥₁_elim on ⊥_prop
        (λ calls. let o = (calls n m y c d).own b.1 (ap u (sym x) ∙ k.1) in never (sym (z o.0 o.2) ∙ o.3)))
    comes_nearer (Some b) (Some a) (due n v l e k) (due m z c d j) = λ x. ∥∥₁_elim on le_prop
        (λ calls. let o = (calls n m z c d).own b.1 (ap u (sym x) ∙ k.1) in omega (arith, j.2 o.0 o.1 o.2 o.3, o.4))

module _ {S : Type 0} (place : S → ℕ → Place) (distance : S → ℕ → Option ℕ) where
  abbrev pub places : S → List Place
  places s = listed (place s)

  abbrev pub pair : S → Option (ℕ × ℕ)
  pair s = due_of (place s) (distance s)

  pub accepted : (q : Request) (w : ℕ) (a : Answer) (s t : S) → w < 16
      → ((v : ℕ) → (v ≡ w → ⊥) → place t v ≡ place s v) → Leads q (place s w) (Ok a) (place t w)
      → ∥ Calls (place s) (place t) (distance s) (distance t) w ∥₁
      → Obeys places pair q w (Ok a) s t
  accepted q w a s t lt same leads on = record {
    unknown = λ l. absurd (omega arith);
    caller = λ l. subst (λ p. Leads q p (Ok a) (place_at (places t) w)) (sym (listed_at (place s) w lt)) (subst (Leads q (place s w) (Ok a)) (sym (listed_at (place t) w lt)) leads);
    others = λ v ne. ⊎_elim (λ l. listed_at (place t) v l ∙ (same v ne ∙ sym (listed_at (place s) v l))) (λ l. past (place t) v l ∙ sym (past (place s) v l)) (cases_lt v 16);
    refused = λ e k. let z : ◌≡◌ {A = ℕ} 0 1 = cc in absurd (omega arith);
    approach = not_farther (place s) (place t) (distance s) (distance t) w on _ _ (look (place s) (distance s)) (look (place t) (distance t));
    due_step = λ is. comes_nearer (place s) (place t) (distance s) (distance t) w on (Ok a) lt same (subst (λ x. Leads x (place s w) (Ok a) (place t w)) is leads)
        _ _ (look (place s) (distance s)) (look (place t) (distance t));
  }

-- ## One refused call

not_farther_self : (o : Option (ℕ × ℕ)) → NotFarther o o
not_farther_self None = tt
not_farther_self (Some p) = omega arith

refused_step : (p : Place) (e : Refusal) → Leads stepping p (Err e) p → (p ≡ Waiting) ⊎ (p ≡ Leaving) → ⊥
refused_step Out e k = ⊎_elim (λ x. waiting_out (sym x)) (λ x. let z : ◌≡◌ {A = ℕ} 0 1 = cc in omega arith)
refused_step Waiting e k = absurd k
refused_step Inside e k = ⊎_elim (λ x. false≢true (ap is_inside (sym x))) (λ x. false≢true (ap is_inside (sym x)))
refused_step Leaving e k = absurd k

module _ {S : Type 0} (places : S → List Place) (pair : S → Option (ℕ × ℕ)) (bound : ℕ) (s : S) (sound : Sound bound (places s) (pair s)) where
  -- a refused worker is not the due one
  not_due : (w : ℕ) (e : Refusal) → ((place_at (places s) w ≡ Waiting) ⊎ (place_at (places s) w ≡ Leaving) → ⊥) → (o : Option (ℕ × ℕ)) → Fits bound (places s) o → Nearer w (Err e) o o
  not_due w e idle None f = tt
  not_due w e idle (Some b) f = λ is. absurd (∥∥₁_elim f.moving ⊥_prop (let P : ℕ → Type 0 = λ v. (place_at (places s) v ≡ Waiting) ⊎ (place_at (places s) v ≡ Leaving) in λ y. idle (subst P is y)))

  pub unknown_refused : (q : Request) (w : ℕ) → 16 ≤ w → Obeys places pair q w (Err NoWorker) s s
  unknown_refused q w l = record {
    unknown = λ k. refl;
    caller = λ k. absurd (omega arith);
    others = λ v ne. refl;
    refused = λ e k. refl;
    approach = not_farther_self (pair s);
    due_step = λ is. not_due w NoWorker (⊎_elim (λ x. waiting_out (sym x ∙ out)) (λ x. false≢true (out_not (sym x ∙ out)))) (pair s) sound.fits;
  }
    where
      out : place_at (places s) w ≡ Out
      out = get_or_past (places s) w Out (omega (arith, sound.sixteen))

      out_not : Leaving ≡ Out → false ≡ true
      out_not e = let z : ◌≡◌ {A = ℕ} 0 1 = cc in absurd (omega arith)

  pub refused : (q : Request) (w : ℕ) (e : Refusal) (p : Place) → w < 16 → place_at (places s) w ≡ p → Leads q p (Err e) p → Obeys places pair q w (Err e) s s
  refused q w e p lt at leads = record {
    unknown = λ l. absurd (omega arith);
    caller = λ l. here;
    others = λ v ne. refl;
    refused = λ x k. refl;
    approach = not_farther_self (pair s);
    due_step = λ is. not_due w e (refused_step (place_at (places s) w) e (subst (λ x. Leads x (place_at (places s) w) (Err e) (place_at (places s) w)) is here)) (pair s) sound.fits;
  }
    where
      here : Leads q (place_at (places s) w) (Err e) (place_at (places s) w)
      here = subst (λ x. Leads q x (Err e) x) (sym at) leads
