-- What holds of each turn: the table of refusals, unlocks and looks.
use Rattle.std.proofs.Common.{◌≡◌, ℕ, ◌-◌, ◌≤◌, Bool, true, false, ltb, ◌↔◌, List, ◌∷◌, length, Some, None, Ok, Err, Option, Result, sym, refl, ap, ◌∙◌, subst, inl, inr, ⊎_elim, arith}
use Rattle.std.proofs.lemmas.List.{get_or_past, length-take-le}
use Rattle.std.proofs.lemmas.Bool.{cases_lt, lt-leb, le-leb}
use Rattle.std.proofs.lemmas.Bool.Decides.{nat_tests}
use Rattle.lock.specs.declared.interface.Lock.{Ghosts}
use Rattle.lock.specs.declared.place.Place.{Place}
use Rattle.lock.specs.declared.place.Place.TheVariants.{Out, Waiting, Inside, Leaving}
use Rattle.lock.specs.declared.answer.Answer.{Answer}
use Rattle.lock.specs.declared.answer.Answer.TheVariants.{Done, Entered, Left, Found}
use Rattle.lock.specs.declared.refusal.Refusal.{Refusal}
use Rattle.lock.specs.Rules.{Request, locking, unlocking, stepping, Leads, Obeys, Sound, place_at}
use Rattle.lock.specs.Calls.{Outcome}
use Rattle.book.specs.declared.call.Call.{Call}
use Rattle.book.specs.declared.call.Call.TheVariants.{Lock, Unlock, Step, Look, Enter}
use Rattle.book.specs.declared.table.Slip.{Slip}
use Rattle.book.specs.declared.table.Table.{Table}
use Rattle.book.specs.declared.Book.{Book}
use Rattle.book.specs.Causes.{causes, first, cause}
use Rattle.book.specs.Stock.{copies, holds, records_of, slip_at, refused_or, found_answer}
use Rattle.book.specs.History.{History, Turn, count, stock_of, cause_after, place_of}
use Rattle.book.specs.Life.{Effect, Life, then}
use Rattle.book.specs.Law.{Answered, CanAnswer}
use Rattle.book.proofs.Standing.{At, Stands, stands, agree}
use Rattle.book.proofs.Keeping.{Holding, holding}

-- ## The table

-- the lock's answer is the first cause, by the caller's place
abbrev Decided : Request → Call → Type 0
Decided q c = (p p' : Place) (r : Result Answer Refusal) (s : Option Slip) (n : ℕ) → Leads q p r p' → Answered (first (causes c p s n)) c p r

lock_decided : Decided locking Lock
lock_decided Out p' r s n k = rw k.0 refl
lock_decided Waiting p' r s n k = k.0
lock_decided Inside p' r s n k = k.0
lock_decided Leaving p' r s n k = k.0

unlock_decided : Decided unlocking Unlock
unlock_decided Out p' r s n k = k.0
unlock_decided Waiting p' r s n k = k.0
unlock_decided Inside p' r s n k = rw k.0 refl
unlock_decided Leaving p' r s n k = k.0

step_decided : Decided stepping Step
step_decided Out p' r s n k = k.0
step_decided Waiting p' (Ok Done) s n k = inl refl
step_decided Waiting p' (Ok Entered) s n k = inr refl
step_decided Waiting p' (Ok Left) s n k = absurd k
step_decided Waiting p' (Ok Found) s n k = absurd k
step_decided Waiting p' (Err x) s n k = absurd k
step_decided Inside p' r s n k = k.0
step_decided Leaving p' (Ok Done) s n k = inl refl
step_decided Leaving p' (Ok Left) s n k = inr refl
step_decided Leaving p' (Ok Entered) s n k = absurd k
step_decided Leaving p' (Ok Found) s n k = absurd k
step_decided Leaving p' (Err x) s n k = absurd k

can_find : (c g : ℕ) (p : Place) (b : Bool) → CanAnswer (Look c g) p (found_answer b)
can_find c g p true = inr refl
can_find c g p false = inl refl

-- an outcome that is refused with a cause, or accepted
answered : (c : Call) (p : Place) (e : Option Refusal) (tb : Table) (tb' : Table) (a : Answer) → CanAnswer c p a → Answered e c p (refused_or e tb (tb', Ok a)).1
answered c p None tb tb' a k = k
answered c p (Some x) tb tb' a k = refl

module _ {S : Type 0} (lock : Ghosts S) where
  by_lock : (q : Request) (c : Call) → Decided q c → (w : ℕ) (r : Result Answer Refusal) (s s' : S) (o : Option Slip) (n : ℕ) → Obeys lock.places lock.pair q w r s s' → Answered (cause c w (place_at (lock.places s) w) o n) c (place_at (lock.places s) w) r
  by_lock q c decided w r s s' o n k = ⊎_elim
      (λ l. rw (lt-leb 16 w l) (decided _ _ r o n (k.caller l)))
      (λ l. rw (le-leb 16 w l) (k.unknown l))
      (cases_lt w 16)

  decides : (c : Call) (w : ℕ) (r : Result Answer Refusal) (s s' : S) (tb tb' : Table) → Effect lock c w r s tb s' tb' → Answered (cause c w (place_at (lock.places s) w) (slip_at tb w) tb.len) c (place_at (lock.places s) w) r
  decides Lock w r s s' tb tb' k = by_lock locking Lock lock_decided w r s s' (slip_at tb w) tb.len k.0
  decides Unlock w r s s' tb tb' k = by_lock unlocking Unlock unlock_decided w r s s' (slip_at tb w) tb.len k.0
  decides Step w r s s' tb tb' k = by_lock stepping Step step_decided w r s s' (slip_at tb w) tb.len k.0
  decides (Look c g) w r s s' tb tb' k = rw (ap (λ (o : Outcome Table). o.1) k.1) (answered (Look c g) (place_at (lock.places s) w) (cause (Look c g) w (place_at (lock.places s) w) (slip_at tb w) tb.len) tb _ _ (can_find c g (place_at (lock.places s) w) (holds (records_of tb) c)))
  decides Enter w r s s' tb tb' k = rw (ap (λ (o : Outcome Table). o.1) k.1) (answered Enter (place_at (lock.places s) w) (cause Enter w (place_at (lock.places s) w) (slip_at tb w) tb.len) tb _ _ refl)

-- ## Unlocks

unlock_released : (p p' : Place) (r : Result Answer Refusal) (l e u d : ℕ) → Leads unlocking p r p' → At p l e u d → (r ≡ Ok Done) ↔ (e - u ≡ 1)
unlock_released Out p' r l e u d k a = (λ x. cc, λ y. absurd (omega arith))
unlock_released Waiting p' r l e u d k a = (λ x. cc, λ y. absurd (omega arith))
unlock_released Inside p' r l e u d k a = (λ x. omega arith, λ y. k.0)
unlock_released Leaving p' r l e u d k a = (λ x. cc, λ y. absurd (omega arith))

-- ## Looks

-- the answer of an accepted look
look_answer : (e : Option Refusal) (tb tb' : Table) (a b : Answer) (x : Table) (r : Result Answer Refusal) → (x, r) ≡ refused_or e tb (tb', Ok b) → r ≡ Ok a → a ≡ b
look_answer None tb tb' a b x r k y = let z : r ≡ Ok b = ap (λ (o : Outcome Table). o.1) k in cc
look_answer (Some f) tb tb' a b x r k y = let z : r ≡ Err f = ap (λ (o : Outcome Table). o.1) k in cc

found_there : (n : ℕ) (a : Answer) → a ≡ found_answer (ltb 0 n) → (a ≡ Found) ↔ (1 ≤ n)
found_there n a e = (λ x. grind (arith, nat_tests), λ y. grind (arith, nat_tests))

-- ## Along a life

pub whole : (ps : List Place) (tb : Table) (h : History) → Holding ps tb h → tb.len ≡ length (stock_of h)
whole ps tb h k = sym (length-take-le tb.len tb.records (omega (arith, k.long, k.fits))) ∙ ap length k.listed

module _ {S : Type 0} (lock : Ghosts S) (sound : (s : S) → Sound lock.BOUND (lock.places s) (lock.pair s)) (t : Turn) (h : History) where
  pub table : {b : Book S} → Life lock (t ∷ h) b → Answered (cause_after h t.worker t.call) t.call (place_of t.worker h) t.answer
  table (then {b} b' life due k) =
      let was = holding lock sound life in
      rw (agree lock life t.worker, ← (was.slips t.worker), ← (whole (lock.places b.lock) b.table h was)) (decides lock t.call t.worker t.answer b.lock b'.lock b.table b'.table k)

  pub released : {b : Book S} → Life lock (t ∷ h) b → t.call ≡ Unlock → (t.answer ≡ Ok Done) ↔ (count t.worker h ≡ 1)
  released (then {b} b' life due k) e =
      let P : Call → Type 0 = λ c. Effect lock c t.worker t.answer b.lock b.table b'.lock b'.table in
      let obeys : Obeys lock.places lock.pair unlocking t.worker t.answer b.lock b'.lock = (subst P e k).0 in
      let at = stands lock life t.worker in
      ⊎_elim
      (λ l. unlock_released _ _ t.answer _ _ _ _ (obeys.caller l) at)
      (λ l. let out : place_at (lock.places b.lock) t.worker ≡ Out = get_or_past (lock.places b.lock) t.worker Out (omega (arith, (sound b.lock).sixteen)) in
      let Q : Place → Type 0 = λ p. Stands p t.worker h in
      (λ x. let said = obeys.unknown l in cc, λ y. let z : Stands Out t.worker h = subst Q out at in absurd (omega arith)))
      (cases_lt t.worker 16)

  pub looked : {b : Book S} → Life lock (t ∷ h) b → (c g : ℕ) → t.call ≡ Look c g → (a : Answer) → t.answer ≡ Ok a → (a ≡ Found) ↔ (1 ≤ copies c (stock_of h))
  looked (then {b} b' life due k) c g e a said =
      let P : Call → Type 0 = λ x. Effect lock x t.worker t.answer b.lock b.table b'.lock b'.table in
      let effect : Effect lock (Look c g) t.worker t.answer b.lock b.table b'.lock b'.table = subst P e k in
      let found = look_answer (cause (Look c g) t.worker (place_at (lock.places b.lock) t.worker) (slip_at b.table t.worker) b.table.len) b.table _ a _ b'.table t.answer effect.1 said in
      found_there (copies c (stock_of h)) a (found ∙ ap (λ rs. found_answer (holds rs c)) (holding lock sound life).listed)
