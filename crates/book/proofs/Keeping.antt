-- The table of a book is as the history says.
use Rattle.std.proofs.Common.{◌≡◌, ◌≢◌, ℕ, ◌<◌, ◌≤◌, Bool, true, false, cond, eqb, List, [], ◌∷◌, ◌++◌, length, get_or, set, Some, None, Ok, Err, Option, Result, sym, refl, ap, ◌∙◌, subst, ⊎_elim, arith}
use Rattle.std.proofs.lemmas.Grind.{get_or-set_at}
use Rattle.std.proofs.lemmas.List.{length-set, take_more_set, get_or-set_other}
use Rattle.std.proofs.lemmas.List.Sums.{sum_by_push}
use Rattle.std.proofs.lemmas.Bool.{cases_eq, cases_lt, eq-eqb, ne_eqb, ltb-false}
use Rattle.std.proofs.lemmas.Bool.Decides.{nat_tests}
use Rattle.lock.specs.declared.interface.Lock.{Ghosts}
use Rattle.lock.proofs.Small.{all_same}
use Rattle.lock.specs.declared.place.Place.{Place}
use Rattle.lock.specs.declared.place.Place.TheVariants.{Inside}
use Rattle.lock.specs.declared.answer.Answer.{Answer}
use Rattle.lock.specs.declared.answer.Answer.TheVariants.{Done, Found}
use Rattle.lock.specs.declared.refusal.Refusal.{Refusal}
use Rattle.lock.specs.declared.refusal.Refusal.TheVariants.{NoWorker}
use Rattle.lock.specs.Rules.{Request, locking, unlocking, stepping, Leads, Obeys, Sound, place_at}
use Rattle.lock.specs.Calls.{Outcome}
use Rattle.book.specs.declared.call.Call.{Call}
use Rattle.book.specs.declared.call.Call.TheVariants.{Lock, Unlock, Step, Look, Enter}
use Rattle.book.specs.declared.table.Record.{Record}
use Rattle.book.specs.declared.table.Slip.{Slip}
use Rattle.book.specs.declared.table.Table.{Table}
use Rattle.book.specs.declared.Book.{Book}
use Rattle.book.specs.Causes.{cause}
use Rattle.book.specs.Stock.{copies, holds, total, new_table, records_of, slip_at, with_slip, slip_now, recorded, refused_or, found_answer, unlocked}
use Rattle.book.specs.History.{History, Turn, last_look, stock_of, slip_of, says}
use Rattle.book.specs.Life.{Effect, Life, made, then}
use Rattle.book.proofs.Accepted.{look_inside, enter_inside, enter_accepted}
use Rattle.book.proofs.Standing.{turn}

-- ## The invariant

-- a slip is in the hand of a worker inside, and says what a look would say now
abbrev Fresh : Option Slip → Place → List Record → Record → Type 0
Fresh None p rs look = Unit {0}
Fresh (Some x) p rs look = (p ≡ Inside) × (x.weight ≡ total rs) × (x.found ≡ holds rs x.chest) × (look ≡ record { chest = x.chest; grams = x.grams })

pub record Holding (ps : List Place) (tb : Table) (h : History) : Type 0 where
  pub listed : records_of tb ≡ stock_of h
  pub long : length tb.records ≡ 256
  pub fits : tb.len ≤ 256
  pub weighs : tb.weight ≡ total (stock_of h)
  pub hands : length tb.slips ≡ 16
  pub slips : (w : ℕ) → slip_at tb w ≡ slip_of w h
  pub fresh : (w : ℕ) → Fresh (slip_of w h) (place_at ps w) (stock_of h) (last_look w h)
  pub once : (c : ℕ) → copies c (stock_of h) ≤ 1

holding_new : (ps : List Place) → Holding ps new_table []
holding_new ps = record { listed = refl; long = refl; fits = omega arith; weighs = refl; hands = refl; slips = all_same 16 None; fresh = λ w. tt; once = λ c. omega arith }

fresh_stays : (x : Option Slip) (p p' : Place) (rs : List Record) (look : Record) → (p ≡ Inside → p' ≡ Inside) → Fresh x p rs look → Fresh x p' rs look
fresh_stays None p p' rs look k f = tt
fresh_stays (Some x) p p' rs look k f = (k f.0, f.1, f.2, f.3)

-- ## A turn that leaves the table alone

record Still (t : Turn) (h : History) : Type 0 where
  slip : (w : ℕ) → slip_of w (t ∷ h) ≡ slip_of w h
  look : (w : ℕ) → last_look w (t ∷ h) ≡ last_look w h
  stock : stock_of (t ∷ h) ≡ stock_of h

module _ (w : ℕ) (due : Option (ℕ × ℕ)) (h : History) where
  refused_still : (c : Call) (e : Refusal) → Still (turn w c (Err e) due) h
  refused_still c e = record {
    slip = λ v. grind (arith, nat_tests);
    look = λ v. grind (arith, nat_tests);
    stock = grind (arith, nat_tests);
  }

  lock_still : (r : Result Answer Refusal) → Still (turn w Lock r due) h
  lock_still (Ok a) = record { slip = λ v. grind (arith, nat_tests); look = λ v. grind (arith, nat_tests); stock = refl }
  lock_still (Err e) = refused_still Lock e

  step_still : (r : Result Answer Refusal) → Still (turn w Step r due) h
  step_still (Ok a) = record { slip = λ v. grind (arith, nat_tests); look = λ v. grind (arith, nat_tests); stock = refl }
  step_still (Err e) = refused_still Step e

module _ (ps ps' : List Place) (tb : Table) (t : Turn) (h : History) where
  holding_still : Still t h → ((w : ℕ) → place_at ps w ≡ Inside → place_at ps' w ≡ Inside) → Holding ps tb h → Holding ps' tb (t ∷ h)
  holding_still still stay k = record {
    listed = k.listed ∙ sym still.stock;
    long = k.long;
    fits = k.fits;
    weighs = k.weighs ∙ ap total (sym still.stock);
    hands = k.hands;
    slips = λ w. k.slips w ∙ sym (still.slip w);
    fresh = λ w. rw (still.slip w, still.stock, still.look w) (fresh_stays _ _ _ _ _ (stay w) (k.fresh w));
    once = λ c. rw still.stock (k.once c);
  }

-- ## A turn that writes its caller's slip

-- the slips after it
slips_put : (xs : List (Option Slip)) (w : ℕ) (x : Option Slip) (h : History) → length xs ≡ 16 → w < 16 → ((v : ℕ) → get_or xs v None ≡ slip_of v h) → (v : ℕ) → get_or (set xs w x) v None ≡ cond (eqb v w) x (slip_of v h)
slips_put xs w x h long lt k v = ⊎_elim
    (λ (e : v ≡ w). rw (eq-eqb v w e) (get_or-set_at xs w v x None e (omega arith)))
    (λ n. rw (ne_eqb v w n) (get_or-set_other xs w v x None n ∙ k v))
    (cases_eq v w)

-- every worker's slip is fresh where its caller's is, and the others' stay so
fresh_put : (w : ℕ) (x : Option Slip) (f : ℕ → Option Slip) (p : ℕ → Place) (rs : List Record) (look : ℕ → Record) (y : ℕ → Record)
    → Fresh x (p w) rs (y w) → ((v : ℕ) → v ≢ w → Fresh (f v) (p v) rs (look v)) → (v : ℕ) → Fresh (cond (eqb v w) x (f v)) (p v) rs (cond (eqb v w) (y v) (look v))
fresh_put w x f p rs look y mine theirs v = ⊎_elim
    (λ (e : v ≡ w). rw (eq-eqb v w e) (let P : ℕ → Type 0 = λ u. Fresh x (p u) rs (y u) in subst P (sym e) mine))
    (λ n. rw (ne_eqb v w n) (theirs v n))
    (cases_eq v w)

-- ## Who stays inside

module _ {S : Type 0} (lock : Ghosts S) where
  inside_stays : (q : Request) (w : ℕ) (r : Result Answer Refusal) (s s' : S) → Obeys lock.places lock.pair q w r s s' → ((p : Place) → Leads q Inside r p → p ≡ Inside) → (v : ℕ) → place_at (lock.places s) v ≡ Inside → place_at (lock.places s') v ≡ Inside
  inside_stays q w r s s' k keeps v i = ⊎_elim
      (λ (e : v ≡ w). ⊎_elim
      (λ l. let P : Place → Type 0 = λ p. Leads q p r (place_at (lock.places s') w) in ap (place_at (lock.places s')) e ∙ keeps _ (subst P (ap (place_at (lock.places s)) (sym e) ∙ i) (k.caller l)))
      (λ l. ap (λ z. place_at (lock.places z) v) (k.refused NoWorker (k.unknown l)) ∙ i) (cases_lt w 16))
      (λ n. k.others v n ∙ i) (cases_eq v w)

  -- ## An unlock

  holding_unlocked : (w : ℕ) (due : Option (ℕ × ℕ)) (r : Result Answer Refusal) (h : History) (s s' : S) (tb : Table) → Obeys lock.places lock.pair unlocking w r s s' → Holding (lock.places s) tb h → Holding (lock.places s') (unlocked r w tb) (turn w Unlock r due ∷ h)
  holding_unlocked w due (Ok a) h s s' tb k was = record {
    listed = was.listed;
    long = was.long;
    fits = was.fits;
    weighs = was.weighs;
    hands = length-set tb.slips w None ∙ was.hands;
    slips = slips_put tb.slips w None h was.hands known was.slips;
    fresh = fresh_put w None (λ v. slip_of v h) (place_at (lock.places s')) (stock_of h) (λ v. last_look v h) (λ v. last_look v h) tt
        (λ v n. fresh_stays _ _ _ _ _ (λ i. k.others v n ∙ i) (was.fresh v));
    once = was.once;
  }
    where
      known : w < 16
      known = ⊎_elim (λ l. l) (λ l. let said = k.unknown l in cc) (cases_lt w 16)
  holding_unlocked w due (Err x) h s s' tb k was = holding_still (lock.places s) (lock.places s') tb (turn w Unlock (Err x) due) h (refused_still w due h Unlock x) (λ v i. ap (λ z. place_at (lock.places z) v) (k.refused x refl) ∙ i) was

-- ## A look

found_says : (b : Bool) → says Found (Ok (found_answer b)) ≡ b
found_says true = refl
found_says false = refl

module _ (ps : List Place) (tb : Table) (w : ℕ) (due : Option (ℕ × ℕ)) (h : History) (was : Holding ps tb h) where
  -- what an outcome makes of the book
  abbrev After : Call → Outcome Table → Type 0
  After c o = Holding ps o.0 (turn w c o.1 due ∷ h)

  refused : (c : Call) (e : Refusal) → After c (tb, Err e)
  refused c e = holding_still ps ps tb (turn w c (Err e) due) h (refused_still w due h c e) (λ v i. i) was

  module _ (known : w < 16) (inside : place_at ps w ≡ Inside) where
    looked : (c g : ℕ) → After (Look c g) (with_slip tb w (Some (slip_now tb c g)), Ok (found_answer (holds (records_of tb) c)))
    looked c g = record {
      listed = was.listed;
      long = was.long;
      fits = was.fits;
      weighs = was.weighs;
      hands = length-set tb.slips w _ ∙ was.hands;
      slips = λ v. let P : Slip → Type 0 = λ x. get_or (set tb.slips w (Some x)) v None ≡ cond (eqb v w) (Some noted) (slip_of v h) in
          subst P (sym same) (slips_put tb.slips w (Some noted) h was.hands known was.slips v);
      fresh = fresh_put w (Some noted) (λ v. slip_of v h) (place_at ps) (stock_of h) (λ v. last_look v h) (λ v. record { chest = c; grams = g })
          (inside, refl, found_says (holds (records_of tb) c) ∙ ap (λ rs. holds rs c) was.listed, refl) (λ v n. was.fresh v);
      once = was.once;
    }
      where
        noted : Slip
        noted = record { chest = c; grams = g; found = says Found (Ok (found_answer (holds (records_of tb) c))); weight = total (stock_of h) }

        same : slip_now tb c g ≡ noted
        same = λ i. record { chest = c; grams = g; found = sym (found_says (holds (records_of tb) c)) i; weight = was.weighs i }

    module _ (alone : (x y : ℕ) → place_at ps x ≡ Inside → place_at ps y ≡ Inside → x ≡ y) (x : Slip) (has : slip_at tb w ≡ Some x) (new : x.found ≡ false) (room : tb.len < 256) where
      abbrev added : Record
      added = record { chest = x.chest; grams = x.grams }

      was_fresh : Fresh (Some x) (place_at ps w) (stock_of h) (last_look w h)
      was_fresh = let P : Option Slip → Type 0 = λ o. Fresh o (place_at ps w) (stock_of h) (last_look w h) in subst P (sym (was.slips w) ∙ has) (was.fresh w)

      now_stock : stock_of (turn w Enter (Ok Done) due ∷ h) ≡ stock_of h ++ added ∷ []
      now_stock = ap (λ r. stock_of h ++ r ∷ []) was_fresh.3

      not_yet : copies x.chest (stock_of h) ≡ 0
      not_yet = let k = ltb-false 0 (copies x.chest (stock_of h)) (sym was_fresh.2 ∙ new) in omega arith

      -- nobody else has a slip
      theirs : (v : ℕ) → v ≢ w → (o : Option Slip) (rs rs' : List Record) (look : Record) → Fresh o (place_at ps v) rs look → Fresh o (place_at ps v) rs' look
      theirs v n None rs rs' look f = tt
      theirs v n (Some y) rs rs' look f = absurd (n (alone v w f.0 inside))

      entered : After Enter (recorded tb w (Some x), Ok Done)
      entered = record {
        listed = take_more_set tb.records tb.len added (omega (arith, was.long, room)) ∙ (ap (λ rs. rs ++ added ∷ []) was.listed ∙ sym now_stock);
        long = length-set tb.records tb.len added ∙ was.long;
        fits = omega (arith, room);
        weighs = rw now_stock (omega (arith, sum_by_push (λ (r : Record). r.grams) (stock_of h) added, was_fresh.1));
        hands = length-set tb.slips w None ∙ was.hands;
        slips = slips_put tb.slips w None h was.hands known was.slips;
        fresh = fresh_put w None (λ v. slip_of v h) (place_at ps) _ (λ v. last_look v h) (λ v. last_look v h) tt (λ v n. theirs v n _ _ _ _ (was.fresh v));
        once = λ c.
            let p = sum_by_push (λ (r : Record). cond (eqb r.chest c) 1 0) (stock_of h) added in
            let o = was.once c in
            rw now_stock (grind (arith, nat_tests, not_yet));
      }

  look_holding : (c g : ℕ) (e : Option Refusal) → cause (Look c g) w (place_at ps w) (slip_at tb w) tb.len ≡ e → After (Look c g) (refused_or e tb (with_slip tb w (Some (slip_now tb c g)), Ok (found_answer (holds (records_of tb) c))))
  look_holding c g None e = let k = look_inside w c g (place_at ps w) (slip_at tb w) tb.len e in looked k.0 k.1 c g
  look_holding c g (Some x) e = refused (Look c g) x

  enter_holding : ((x y : ℕ) → place_at ps x ≡ Inside → place_at ps y ≡ Inside → x ≡ y) → (e : Option Refusal) → cause Enter w (place_at ps w) (slip_at tb w) tb.len ≡ e → After Enter (refused_or e tb (recorded tb w (slip_at tb w), Ok Done))
  enter_holding alone None e =
      let k = enter_inside w (place_at ps w) (slip_at tb w) tb.len e in
      let y = enter_accepted (slip_at tb w) tb.len k.2 in
      rw y.1 (entered k.0 k.1 alone y.0 y.1 y.2 y.3)
  enter_holding alone (Some x) e = refused Enter x

-- ## Every call

module _ {S : Type 0} (lock : Ghosts S) (sound : (s : S) → Sound lock.BOUND (lock.places s) (lock.pair s)) where
  keeps : (c : Call) (w : ℕ) (r : Result Answer Refusal) (due : Option (ℕ × ℕ)) (h : History) (s s' : S) (tb tb' : Table) → Effect lock c w r s tb s' tb' → Holding (lock.places s) tb h → Holding (lock.places s') tb' (turn w c r due ∷ h)
  keeps Lock w r due h s s' tb tb' k was = rw k.1 (holding_still (lock.places s) (lock.places s') tb (turn w Lock r due) h (lock_still w due h r) (inside_stays lock locking w r s s' k.0 (λ p l. l.1)) was)
  keeps Unlock w r due h s s' tb tb' k was = rw k.1 (holding_unlocked lock w due r h s s' tb k.0 was)
  keeps Step w r due h s s' tb tb' k was = rw k.1 (holding_still (lock.places s) (lock.places s') tb (turn w Step r due) h (step_still w due h r) (inside_stays lock stepping w r s s' k.0 (λ p l. l.1)) was)
  keeps (Look c g) w r due h s s' tb tb' k was = rw k.0 (subst (After (lock.places s) tb w due h was (Look c g)) (sym k.1) (look_holding (lock.places s) tb w due h was c g _ refl))
  keeps Enter w r due h s s' tb tb' k was = rw k.0 (subst (After (lock.places s) tb w due h was Enter) (sym k.1) (enter_holding (lock.places s) tb w due h was (sound s).alone _ refl))

  pub holding : {h : History} {b : Book S} → Life lock h b → Holding (lock.places b.lock) b.table h
  holding (made {b} e f) = rw f (holding_new (lock.places b.lock))
  holding (then {h} {b} {t} b' life due k) = keeps t.call t.worker t.answer t.due h b.lock b'.lock b.table b'.table k (holding life)
