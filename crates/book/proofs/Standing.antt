-- The lock's places are those that the counts of the history give.
use Rattle.std.proofs.Common.{◌≡◌, ◌≢◌, ℕ, ◌+◌, ◌-◌, Bool, false, cond, ◌&&◌, eqb, ltb, ◌∷◌, Ok, Err, Option, Result, sym, refl, ap, ◌∙◌, subst, ⊎_elim, arith}
use native.Mathlib.Nat.{zero-add}
use Rattle.std.proofs.lemmas.List.Sums.{sum_by-cons}
use Rattle.std.proofs.lemmas.Bool.{cases_eq, cases_lt, and_right, eq-eqb, ne_eqb}
use Rattle.std.proofs.lemmas.Bool.Decides.{nat_tests}
use Rattle.lock.specs.declared.interface.Lock.{Ghosts}
use Rattle.lock.proofs.Small.{all_same}
use Rattle.lock.specs.declared.place.Place.{Place}
use Rattle.lock.specs.declared.place.Place.TheVariants.{Out, Waiting, Inside, Leaving}
use Rattle.lock.specs.declared.answer.Answer.{Answer}
use Rattle.lock.specs.declared.answer.Answer.TheVariants.{Done, Entered, Left, Found}
use Rattle.lock.specs.declared.refusal.Refusal.{Refusal}
use Rattle.lock.specs.declared.refusal.Refusal.TheVariants.{NoWorker}
use Rattle.lock.specs.Rules.{Request, locking, unlocking, stepping, Leads, Obeys, place_at}
use Rattle.book.specs.declared.call.Call.{Call}
use Rattle.book.specs.declared.call.Call.TheVariants.{Lock, Unlock, Step, Look, Enter}
use Rattle.book.specs.declared.table.Table.{Table}
use Rattle.book.specs.declared.Book.{Book}
use Rattle.book.specs.History.{History, Turn, a_lock, an_entry, an_unlock, a_departure, tally, place_of}
use Rattle.book.specs.Life.{Effect, Life, made, then}

-- ## The four counts of a worker

-- locks, entries, unlocks and departures of a worker at a place
abbrev pub At : Place → ℕ → ℕ → ℕ → ℕ → Type 0
At Out l e u d = (l ≡ d) × (e ≡ d) × (u ≡ d)
At Waiting l e u d = (l ≡ d + 1) × (e ≡ d) × (u ≡ d)
At Inside l e u d = (l ≡ d + 1) × (e ≡ d + 1) × (u ≡ d)
At Leaving l e u d = (l ≡ d + 1) × (e ≡ d + 1) × (u ≡ d + 1)

abbrev pub Stands : Place → ℕ → History → Type 0
Stands p w h = At p (tally a_lock w h) (tally an_entry w h) (tally an_unlock w h) (tally a_departure w h)

placed : (p : Place) (l e u d : ℕ) → At p l e u d → cond (eqb (e - u) 1) Inside (cond (ltb e l) Waiting (cond (ltb d u) Leaving Out)) ≡ p
placed Out l e u d a = grind (arith, nat_tests)
placed Waiting l e u d a = grind (arith, nat_tests)
placed Inside l e u d a = grind (arith, nat_tests)
placed Leaving l e u d a = grind (arith, nat_tests)

-- ## One more turn

abbrev pub turn : ℕ → Call → Result Answer Refusal → Option (ℕ × ℕ) → Turn
turn w c r due = record { worker = w; call = c; answer = r; due = due }

abbrev tick : (Turn → Bool) → Turn → ℕ
tick test t = cond (test t) 1 0

module _ (test : Turn → Bool) (w : ℕ) (t : Turn) (h : History) where
  pub tally_own : w ≡ t.worker → tally test w (t ∷ h) ≡ tick test t + tally test w h
  tally_own e = sum_by-cons (λ (x : Turn). cond (eqb w x.worker && test x) 1 0) t h ∙ ap (λ b. cond (b && test t) 1 0 + tally test w h) (eq-eqb w t.worker e)

  pub tally_other : w ≢ t.worker → tally test w (t ∷ h) ≡ tally test w h
  tally_other n = sum_by-cons (λ (x : Turn). cond (eqb w x.worker && test x) 1 0) t h ∙ (ap (λ b. cond (b && test t) 1 0 + tally test w h) (ne_eqb w t.worker n) ∙ omega arith)

module _ (p : Place) (w : ℕ) (t : Turn) (h : History) where
  own_stands : w ≡ t.worker → At p (tick a_lock t + tally a_lock w h) (tick an_entry t + tally an_entry w h) (tick an_unlock t + tally an_unlock w h) (tick a_departure t + tally a_departure w h) → Stands p w (t ∷ h)
  own_stands e s = rw (tally_own a_lock w t h e, tally_own an_entry w t h e, tally_own an_unlock w t h e, tally_own a_departure w t h e) s

  other_stands : w ≢ t.worker → Stands p w h → Stands p w (t ∷ h)
  other_stands n s = rw (tally_other a_lock w t h n, tally_other an_entry w t h n, tally_other an_unlock w t h n, tally_other a_departure w t h n) s

  -- a turn that counts for nothing
  quiet_stands : tick a_lock t ≡ 0 → tick an_entry t ≡ 0 → tick an_unlock t ≡ 0 → tick a_departure t ≡ 0 → Stands p w h → Stands p w (t ∷ h)
  quiet_stands a b c d s = ⊎_elim (λ e. own_stands e (rw (a, b, c, d) (simp zero-add s))) (λ n. other_stands n s) (cases_eq w t.worker)

refused_stands : (c : Call) (p : Place) (w v : ℕ) (e : Refusal) (due : Option (ℕ × ℕ)) (h : History) → Stands p v h → Stands p v (turn w c (Err e) due ∷ h)
refused_stands c p w v e due h = quiet_stands p v (turn w c (Err e) due) h (nothing _) (nothing _) (nothing _) (nothing _)
  where
    nothing : (b : Bool) → cond {A = ℕ} (b && false) 1 0 ≡ 0
    nothing b = ap (λ x. cond {A = ℕ} x 1 0) (and_right b false refl)

-- what an answered call makes of its caller's counts
abbrev Takes : Request → Call → Type 0
Takes q c = (w : ℕ) (due : Option (ℕ × ℕ)) (p p' : Place) (r : Result Answer Refusal) (l e u d : ℕ) → Leads q p r p' → At p l e u d
    → At p' (tick a_lock (turn w c r due) + l) (tick an_entry (turn w c r due) + e) (tick an_unlock (turn w c r due) + u) (tick a_departure (turn w c r due) + d)

takes_lock : Takes locking Lock
takes_lock w due Out p' r l e u d k a = rw (k.0, k.1) (omega arith, omega arith, omega arith)
takes_lock w due Waiting p' r l e u d k a = rw (k.0, k.1) (omega arith, omega arith, omega arith)
takes_lock w due Inside p' r l e u d k a = rw (k.0, k.1) (omega arith, omega arith, omega arith)
takes_lock w due Leaving p' r l e u d k a = rw (k.0, k.1) (omega arith, omega arith, omega arith)

takes_unlock : Takes unlocking Unlock
takes_unlock w due Out p' r l e u d k a = rw (k.0, k.1) (omega arith, omega arith, omega arith)
takes_unlock w due Waiting p' r l e u d k a = rw (k.0, k.1) (omega arith, omega arith, omega arith)
takes_unlock w due Inside p' r l e u d k a = rw (k.0, k.1) (omega arith, omega arith, omega arith)
takes_unlock w due Leaving p' r l e u d k a = rw (k.0, k.1) (omega arith, omega arith, omega arith)

takes_step : Takes stepping Step
takes_step w due Out p' r l e u d k a = rw (k.0, k.1) (omega arith, omega arith, omega arith)
takes_step w due Waiting p' (Ok Done) l e u d k a = rw k (omega arith, omega arith, omega arith)
takes_step w due Waiting p' (Ok Entered) l e u d k a = rw k (omega arith, omega arith, omega arith)
takes_step w due Waiting p' (Ok Left) l e u d k a = absurd k
takes_step w due Waiting p' (Ok Found) l e u d k a = absurd k
takes_step w due Waiting p' (Err x) l e u d k a = absurd k
takes_step w due Inside p' r l e u d k a = rw (k.0, k.1) (omega arith, omega arith, omega arith)
takes_step w due Leaving p' (Ok Done) l e u d k a = rw k (omega arith, omega arith, omega arith)
takes_step w due Leaving p' (Ok Left) l e u d k a = rw k (omega arith, omega arith, omega arith)
takes_step w due Leaving p' (Ok Entered) l e u d k a = absurd k
takes_step w due Leaving p' (Ok Found) l e u d k a = absurd k
takes_step w due Leaving p' (Err x) l e u d k a = absurd k

-- ## Along a life

module _ {S : Type 0} (lock : Ghosts S) where
  moved : (q : Request) (c : Call) → Takes q c → (w : ℕ) (r : Result Answer Refusal) (due : Option (ℕ × ℕ)) (h : History) (s s' : S) → Obeys lock.places lock.pair q w r s s'
      → ((v : ℕ) → Stands (place_at (lock.places s) v) v h) → (v : ℕ) → Stands (place_at (lock.places s') v) v (turn w c r due ∷ h)
  moved q c takes w r due h s s' k was v = ⊎_elim
      (λ (e : v ≡ w). let P : ℕ → Type 0 = λ x. Stands (place_at (lock.places s') x) x (turn w c r due ∷ h) in subst P (sym e) (⊎_elim
      (λ l. own_stands _ w (turn w c r due) h refl (takes w due _ _ r _ _ _ _ (k.caller l) (was w)))
      (λ l. rw (k.refused NoWorker (k.unknown l), k.unknown l) (refused_stands c _ w w NoWorker due h (was w)))
      (cases_lt w 16)))
      (λ n. rw (k.others v n) (other_stands _ v (turn w c r due) h n (was v)))
      (cases_eq v w)

  moves : (c : Call) (w : ℕ) (r : Result Answer Refusal) (due : Option (ℕ × ℕ)) (h : History) (s s' : S) (tb tb' : Table) → Effect lock c w r s tb s' tb'
      → ((v : ℕ) → Stands (place_at (lock.places s) v) v h) → (v : ℕ) → Stands (place_at (lock.places s') v) v (turn w c r due ∷ h)
  moves Lock w r due h s s' tb tb' k was v = moved locking Lock takes_lock w r due h s s' k.0 was v
  moves Unlock w r due h s s' tb tb' k was v = moved unlocking Unlock takes_unlock w r due h s s' k.0 was v
  moves Step w r due h s s' tb tb' k was v = moved stepping Step takes_step w r due h s s' k.0 was v
  moves (Look c g) w r due h s s' tb tb' k was v = rw k.0 (quiet_stands _ v (turn w (Look c g) r due) h refl refl refl refl (was v))
  moves Enter w r due h s s' tb tb' k was v = rw k.0 (quiet_stands _ v (turn w Enter r due) h refl refl refl refl (was v))

  pub stands : {h : History} {b : Book S} → Life lock h b → (w : ℕ) → Stands (place_at (lock.places b.lock) w) w h
  stands (made e f) w = rw (e, all_same 16 Out w) (refl, refl, refl)
  stands (then {h} {b} {t} b' life due k) w = moves t.call t.worker t.answer t.due h b.lock b'.lock b.table b'.table k (stands life) w

  pub agree : {h : History} {b : Book S} → Life lock h b → (w : ℕ) → place_of w h ≡ place_at (lock.places b.lock) w
  agree life w = placed _ _ _ _ _ (stands life w)
