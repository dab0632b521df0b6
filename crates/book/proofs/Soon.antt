-- Fewer due steps than the bound come before an entry.
use Rattle.std.proofs.Common.{◌≡◌, ◌≢◌, ℕ, ◌+◌, ◌<◌, ◌≤◌, Bool, cond, ◌&&◌, eqb, List, [], ◌∷◌, ◌++◌, Some, None, count_by, Option, Result, sym, refl, ap, ◌∙◌, subst, ⊎_elim, arith}
use mathlib.Core.Logic.{∥∥₁_elim}
use mathlib.Core.HLevel.{⊥_prop}
use Rattle.std.proofs.lemmas.List.Sums.{sum_by-cons, sum_by-append}
use Rattle.std.proofs.lemmas.Bool.Decides.{nat_tests}
use Rattle.lock.specs.declared.interface.Lock.{Ghosts}
use Rattle.lock.specs.declared.place.Place.{Place}
use Rattle.lock.specs.declared.place.Place.TheVariants.{Out, Waiting, Inside, Leaving}
use Rattle.lock.specs.declared.answer.Answer.{Answer}
use Rattle.lock.specs.declared.refusal.Refusal.{Refusal}
use Rattle.lock.specs.Rules.{Nobody, Fits, Sound, place_at}
use Rattle.book.specs.declared.call.Call.{Call}
use Rattle.book.specs.declared.call.Call.TheVariants.{Lock, Unlock, Step, Look, Enter}
use Rattle.book.specs.declared.table.Table.{Table}
use Rattle.book.specs.declared.Book.{Book}
use Rattle.book.specs.History.{History, Turn, a_lock, an_entry, an_unlock, a_due_step, tally, place_of}
use Rattle.book.specs.Life.{Effect, Life, then}
use Rattle.book.proofs.Alone.{inside_count}
use Rattle.book.proofs.Standing.{At, Stands, turn, stands, agree}

-- ## The book as it was at a moment

pub earlier : {S : Type 0} (lock : Ghosts S) (later h : History) {b : Book S} → Life lock (later ++ h) b → (x : Book S) × Life lock h x
earlier lock [] h {b} life = (b, life)
earlier lock (t ∷ later) h (then b' life due k) = earlier lock later h life

-- ## Counts along a part without an entry

count_by_cons : (test : Turn → Bool) (t : Turn) (h : History) → count_by test (t ∷ h) ≡ cond (test t) 1 0 + count_by test h
count_by_cons test t h = sum_by-cons (λ (x : Turn). cond (test x) 1 0) t h

tally_append : (test : Turn → Bool) (w : ℕ) (later h : History) → tally test w (later ++ h) ≡ tally test w later + tally test w h
tally_append test w later h = sum_by-append (λ (x : Turn). cond (eqb w x.worker && test x) 1 0) later h

tally_le : (test : Turn → Bool) (w : ℕ) (h : History) → tally test w h ≤ count_by test h
tally_le test w [] = omega arith
tally_le test w (t ∷ h) =
    let a = count_by_cons (λ x. eqb w x.worker && test x) t h in
    let b = count_by_cons test t h in
    grind (arith, nat_tests, tally_le test w h)

waiting_by : (p : Place) (l e u d : ℕ) → At p l e u d → e < l → p ≡ Waiting
waiting_by Out l e u d a k = absurd (omega arith)
waiting_by Waiting l e u d a k = refl
waiting_by Inside l e u d a k = absurd (omega arith)
waiting_by Leaving l e u d a k = absurd (omega arith)

-- ## Somebody is due

-- where somebody waits and nobody is inside
somebody_due : (bound : ℕ) (ps : List Place) → Nobody ps Inside → (v : ℕ) → place_at ps v ≡ Waiting → (o : Option (ℕ × ℕ)) → Fits bound ps o → (d : ℕ × ℕ) × (o ≡ Some d) × (1 ≤ d.1) × (d.1 ≤ bound)
somebody_due bound ps free v waits None f = absurd (∥∥₁_elim f ⊥_prop (⊎_elim (λ k. ∥∥₁_elim k ⊥_prop (λ i. free i.0 i.1)) (λ n. n v waits)))
somebody_due bound ps free v waits (Some d) f = (d, refl, f.least, f.most)

module _ {S : Type 0} (lock : Ghosts S) where
  same_distance : (s s' : S) (b a : ℕ × ℕ) → s' ≡ s → lock.pair s ≡ Some b → lock.pair s' ≡ Some a → b.1 ≡ a.1
  same_distance s s' b a e x y = let q : b ≡ a = cc in ap (λ (p : ℕ × ℕ). p.1) q

  nearer : (c : Call) (w : ℕ) (r : Result Answer Refusal) (due : Option (ℕ × ℕ)) (s s' : S) (tb tb' : Table) (b a : ℕ × ℕ) → Effect lock c w r s tb s' tb' → due ≡ lock.pair s → lock.pair s ≡ Some b → lock.pair s' ≡ Some a
      → cond (a_due_step (turn w c r due)) 1 0 + a.1 ≤ b.1
  nearer Lock w r due s s' tb tb' b a k e x y = let n = rw (x, y) at k.0.approach in omega arith
  nearer Unlock w r due s s' tb tb' b a k e x y = let n = rw (x, y) at k.0.approach in omega arith
  nearer Step w r due s s' tb tb' b a k e x y = let n = rw (x, y) at k.0.approach in let m = rw (x, y) at (k.0.due_step refl) in rw (e ∙ x) (grind (arith, nat_tests))
  nearer (Look c g) w r due s s' tb tb' b a k e x y = omega (arith, same_distance s s' b a k.0 x y)
  nearer Enter w r due s s' tb tb' b a k e x y = omega (arith, same_distance s s' b a k.0 x y)

-- ## From a moment when nobody is inside and v waits

module _ {S : Type 0} (lock : Ghosts S) (sound : (s : S) → Sound lock.BOUND (lock.places s) (lock.pair s)) (h : History)
    (free : (w : ℕ) → place_of w h ≢ Inside) (v : ℕ) (waits : place_of v h ≡ Waiting) where
  due_now : (during : History) → count_by an_entry during ≡ 0 → {b : Book S} → Life lock (during ++ h) b → (d : ℕ × ℕ) × (lock.pair b.lock ≡ Some d) × (1 ≤ d.1) × (d.1 ≤ lock.BOUND)
  due_now during none {b} life = somebody_due lock.BOUND (lock.places b.lock) still_free v still_waits (lock.pair b.lock) (sound b.lock).fits
    where
      past : Life lock h (earlier lock during h life).0
      past = (earlier lock during h life).1

      was : (w : ℕ) → Stands (place_of w h) w h
      was w = let P : Place → Type 0 = λ p. Stands p w h in subst P (sym (agree lock past w)) (stands lock past w)

      entries : (w : ℕ) → tally an_entry w (during ++ h) ≡ tally an_entry w h
      entries w = omega (arith, tally_append an_entry w during h, tally_le an_entry w during)

      still_free : Nobody (lock.places b.lock) Inside
      still_free w i =
          let P : Place → Type 0 = λ p. Stands p w (during ++ h) in
          let at : Stands Inside w (during ++ h) = subst P i (stands lock life w) in
          free w (inside_count _ _ _ _ _ (was w) (omega (arith, entries w, tally_append an_unlock w during h)))

      still_waits : place_at (lock.places b.lock) v ≡ Waiting
      still_waits =
          let P : Place → Type 0 = λ p. Stands p v h in
          let at : Stands Waiting v h = subst P waits (was v) in
          waiting_by _ _ _ _ _ (stands lock life v) (omega (arith, entries v, tally_append a_lock v during h))

  approached : (during : History) → count_by an_entry during ≡ 0 → {b : Book S} → Life lock (during ++ h) b → (d : ℕ × ℕ) → lock.pair b.lock ≡ Some d → count_by a_due_step during + d.1 ≤ lock.BOUND
  approached [] none life d e = let k = due_now [] none life in let y : k.0 ≡ d = cc in let z : k.0.1 ≡ d.1 = ap (λ (p : ℕ × ℕ). p.1) y in omega (arith, k.3)
  approached (t ∷ during) none (then {b} b' life due effect) d e =
      let i : count_by an_entry during ≡ 0 = omega (arith, count_by_cons an_entry t during) in
      let k = due_now during i life in
      let m = approached during i life k.0 k.1 in
      omega (arith, count_by_cons a_due_step t during, nearer lock t.call t.worker t.answer t.due b.lock b'.lock b.table b'.table k.0 d effect due k.1 e)

  pub soon : (during : History) → count_by an_entry during ≡ 0 → {b : Book S} → Life lock (during ++ h) b → count_by a_due_step during < lock.BOUND
  soon during none life = let k = due_now during none life in omega (arith, approached during none life k.0 k.1, k.2)
