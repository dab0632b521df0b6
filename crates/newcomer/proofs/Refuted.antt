-- Each cheat leads to a contradiction with the rules.
use Rattle.std.proofs.Common.{◌≡◌, ℕ, zero, suc, ◌<◌, ◌≤◌, ◌⊎◌, Some, None, Ok, Err, Option, Result, sym, refl, ap, ◌∙◌, subst, inl, inr, ⊎_elim, arith}
use mathlib.Core.Logic.{∥∥₁_elim}
use mathlib.Core.HLevel.{⊥_prop}
use Rattle.std.proofs.lemmas.Bool.{cases_lt, cases_eq}
use Rattle.lock.specs.declared.place.Place.{Place}
use Rattle.lock.specs.declared.place.Place.TheVariants.{Out, Waiting, Inside, Leaving}
use Rattle.lock.specs.declared.answer.Answer.{Answer}
use Rattle.lock.specs.declared.answer.Answer.TheVariants.{Done, Entered, Left, Found}
use Rattle.lock.specs.declared.refusal.Refusal.{Refusal}
use Rattle.lock.specs.declared.refusal.Refusal.TheVariants.{NoWorker}
use Rattle.lock.specs.Rules.{Leads, Nearer, Fits, Nobody, place_at, locking, unlocking, stepping}
use Rattle.lock.proofs.Small.{all_same}
use Rattle.newcomer.specs.Cheats.{Calls, Keeps, LetsNobodyIn, LetsEverybodyIn, DeniesEachUnlock, Fruitless, stop, on, MakesUpDistances, EntersAtOnce, NeverRefuses}

-- ## What the rules say of one call, by the place

waits : (r : Result Answer Refusal) (p : Place) → Leads locking Out r p → p ≡ Waiting
waits r p k = k.1

leaves : (r : Result Answer Refusal) (p : Place) → Leads unlocking Inside r p → r ≡ Ok Done
leaves r p k = k.0

-- whoever a step enters is inside
within : (q p : Place) (r : Result Answer Refusal) → Leads stepping q r p → r ≡ Ok Entered → p ≡ Inside
within Out p r k e = let z : ◌≡◌ {A = ℕ} 0 1 = cc k.0 in absurd (omega arith)
within Waiting p (Ok Done) k e = let z : ◌≡◌ {A = ℕ} 0 1 = cc in absurd (omega arith)
within Waiting p (Ok Entered) k e = k
within Waiting p (Ok Left) k e = absurd k
within Waiting p (Ok Found) k e = absurd k
within Waiting p (Err x) k e = absurd k
within Inside p r k e = let z : ◌≡◌ {A = ℕ} 0 1 = cc k.0 in absurd (omega arith)
within Leaving p (Ok Done) k e = let z : ◌≡◌ {A = ℕ} 0 1 = cc in absurd (omega arith)
within Leaving p (Ok Entered) k e = absurd k
within Leaving p (Ok Left) k e = let z : ◌≡◌ {A = ℕ} 0 1 = cc in absurd (omega arith)
within Leaving p (Ok Found) k e = absurd k
within Leaving p (Err x) k e = absurd k

module _ {S : Type 0} (bound : ℕ) (c : Calls S) (keeps : Keeps bound c) where
  abbrev at : S → ℕ → Place
  at s w = place_at (c.places s) w

  abbrev after_lock : S → ℕ → S
  after_lock s w = (c.lock s w).0

  abbrev after_step : S → ℕ → S
  after_step s w = (c.step s w).0

  out : (w : ℕ) → at c.new w ≡ Out
  out w = ap (λ ps. place_at ps w) keeps.fresh ∙ all_same 16 Out w

  locked : (s : S) (w : ℕ) → w < 16 → at s w ≡ Out → at (after_lock s w) w ≡ Waiting
  locked s w lt e = (subst (λ p. Leads locking p (c.lock s w).1 (at (after_lock s w) w)) e ((keeps.locks s w).caller lt)).1

  entered : (s : S) (w : ℕ) → w < 16 → (c.step s w).1 ≡ Ok Entered → at (after_step s w) w ≡ Inside
  entered s w lt e = within (at s w) (at (after_step s w) w) (c.step s w).1 ((keeps.steps s w).caller lt) e

  -- ## Somebody gets in

  least : (s : S) (p : ℕ × ℕ) → c.pair s ≡ Some p → 1 ≤ p.1
  least s p e = (subst (Fits bound (c.places s)) e (keeps.sound s).fits).least

  -- the due pair after a step by the worker p .0, which was due
  nearer : (s : S) (p : ℕ × ℕ) → c.pair s ≡ Some p → (o : Option (ℕ × ℕ)) → c.pair (after_step s p.0) ≡ o → Nearer p.0 (c.step s p.0).1 (Some p) o
  nearer s p e o i = subst (Nearer p.0 (c.step s p.0).1 (Some p)) i (subst (λ x. Nearer p.0 (c.step s p.0).1 x (c.pair (after_step s p.0))) e ((keeps.steps s p.0).due_step refl))

  -- due steps come to an entry
  enters : (n : ℕ) (s : S) (p : ℕ × ℕ) → c.pair s ≡ Some p → p.1 ≤ n → (t : S) × (v : ℕ) × ((c.step t v).1 ≡ Ok Entered)
  enters zero s p e l = absurd (omega (arith, least s p e))
  enters (suc n) s p e l = go (c.pair (after_step s p.0)) refl (λ a i lt. enters n (after_step s p.0) a i lt)
    where
      go : (o : Option (ℕ × ℕ)) → c.pair (after_step s p.0) ≡ o → ((a : ℕ × ℕ) → c.pair (after_step s p.0) ≡ Some a → a.1 ≤ n → (t : S) × (v : ℕ) × ((c.step t v).1 ≡ Ok Entered)) → (t : S) × (v : ℕ) × ((c.step t v).1 ≡ Ok Entered)
      go None i rest = (s, p.0, nearer s p e None i refl)
      go (Some a) i rest = rest a i (omega (arith, nearer s p e (Some a) i refl))

  -- one worker waits on a new lock
  abbrev one : S
  one = after_lock c.new 0

  free : Nobody (c.places one) Inside
  free v e = ⊎_elim
      (λ i. let k : at one 0 ≡ Inside = subst (λ x. at one x ≡ Inside) i e in let j = locked c.new 0 (omega arith) (out 0) in let z : ◌≡◌ {A = ℕ} 0 1 = cc in omega arith)
      (λ ne. let j = (keeps.locks c.new 0).others v ne ∙ out v in let z : ◌≡◌ {A = ℕ} 0 1 = cc in omega arith)
      (cases_eq v 0)

  due : (o : Option (ℕ × ℕ)) → c.pair one ≡ o → Fits bound (c.places one) o → (p : ℕ × ℕ) × (c.pair one ≡ Some p)
  due None i f = absurd (∥∥₁_elim f ⊥_prop (⊎_elim (λ x. ∥∥₁_elim x ⊥_prop (λ y. free y.0 y.1)) (λ x. x 0 (locked c.new 0 (omega arith) (out 0)))))
  due (Some p) i f = (p, i)

  entry : (t : S) × (v : ℕ) × ((c.step t v).1 ≡ Ok Entered)
  entry = let d = due (c.pair one) refl (keeps.sound one).fits in enters d.0.1 one d.0 d.1 (omega arith)

  -- ## The cheats

  pub nobody : LetsNobodyIn c → ⊥
  nobody cheat = cheat entry.0 entry.1 entry.2

  pub everybody : LetsEverybodyIn c → ⊥
  everybody cheat = let z : ◌≡◌ {A = ℕ} 0 1 = (keeps.sound s₄).alone 0 1 ((keeps.steps s₃ 1).others 0 (omega arith) ∙ in₀) in₁ in omega arith
    where
      s₂ : S
      s₂ = after_lock one 1

      wait₀ : at s₂ 0 ≡ Waiting
      wait₀ = (keeps.locks one 1).others 0 (omega arith) ∙ locked c.new 0 (omega arith) (out 0)

      wait₁ : at s₂ 1 ≡ Waiting
      wait₁ = locked one 1 (omega arith) ((keeps.locks c.new 0).others 1 (omega arith) ∙ out 1)

      s₃ : S
      s₃ = after_step s₂ 0

      in₀ : at s₃ 0 ≡ Inside
      in₀ = entered s₂ 0 (omega arith) (cheat s₂ 0 wait₀)

      s₄ : S
      s₄ = after_step s₃ 1

      in₁ : at s₄ 1 ≡ Inside
      in₁ = entered s₃ 1 (omega arith) (cheat s₃ 1 ((keeps.steps s₂ 0).others 1 (omega arith) ∙ wait₁))

  pub denied : DeniesEachUnlock c → ⊥
  denied cheat = go (cases_lt entry.1 16)
    where
      t : S
      t = entry.0

      v : ℕ
      v = entry.1

      go : (v < 16) ⊎ (16 ≤ v) → ⊥
      go (inl lt) = cheat (after_step t v) v (subst (λ p. Leads unlocking p (c.unlock (after_step t v) v).1 (at (c.unlock (after_step t v) v).0 v)) (entered t v lt entry.2) ((keeps.unlocks (after_step t v) v).caller lt)).0
      go (inr ge) = let k = (keeps.steps t v).unknown ge in let e = entry.2 in let z : ◌≡◌ {A = ℕ} 0 1 = cc in omega arith

  fruitless : (n : ℕ) (s : S) (p : ℕ × ℕ) → c.pair s ≡ Some p → p.1 ≤ n → Fruitless c n s → ⊥
  fruitless zero s p e l stop = omega (arith, least s p e)
  fruitless (suc n) s p e l (on q i none more) = go (c.pair (after_step s q.0)) refl (λ a j lt. fruitless n (after_step s q.0) a j lt more)
    where
      same : q ≡ p
      same = let k : Some q ≡ Some p = sym i ∙ e in cc

      go : (o : Option (ℕ × ℕ)) → c.pair (after_step s q.0) ≡ o → ((a : ℕ × ℕ) → c.pair (after_step s q.0) ≡ Some a → a.1 ≤ n → ⊥) → ⊥
      go None j rest = none (nearer s q i None j refl)
      go (Some a) j rest = rest a j (omega (arith, nearer s q i (Some a) j refl, ap (λ x. x.1) same))

  pub distances : MakesUpDistances c → ⊥
  distances (s, p, e, f) = fruitless p.1 s p e (omega arith) f

  pub at_once : EntersAtOnce c → ⊥
  at_once (s, w, before, after) = ⊎_elim
      (λ lt. let k = locked s w lt before in let z : ◌≡◌ {A = ℕ} 0 1 = cc in omega arith)
      (λ ge. let k = ap (λ x. at x w) ((keeps.locks s w).refused NoWorker ((keeps.locks s w).unknown ge)) in let z : ◌≡◌ {A = ℕ} 0 1 = cc in omega arith)
      (cases_lt w 16)

  pub unrefused : NeverRefuses c → ⊥
  unrefused cheat = cheat c.new 16 NoWorker ((keeps.locks c.new 16).unknown (omega arith))
