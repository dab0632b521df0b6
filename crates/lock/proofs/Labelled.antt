-- From what a kind of lock knows of its labels and words to the rules of the interface.
use Rattle.std.proofs.Common.{◌≡◌, ℕ, ◌<◌, Bool, true, false, cond, eqb, ltb, List, length, get_or, set, Some, Ok, Err, Option, sym, refl, ap, ◌∙◌, subst, ⊎_elim, arith, get_or-set_other, get_or-set_same}
use mathlib.Core.Logic.{∥∥₁_elim, ∥∥₁_map}
use mathlib.Core.HLevel.{⊥_prop}
use native.Mathlib.Nat.{ℕ_set}
use Rattle.std.proofs.lemmas.Bool.{eqb-true, eqb-false, eq-eqb, ne_eqb, ltb-true, ltb-false, false≢true}
use Rattle.lock.specs.declared.place.Place.{Place}
use Rattle.lock.specs.declared.place.Place.TheVariants.{Out, Waiting, Inside, Leaving}
use Rattle.lock.specs.declared.answer.Answer.{Answer}
use Rattle.lock.specs.declared.answer.Answer.TheVariants.{Done}
use Rattle.lock.specs.declared.refusal.Refusal.{Refusal}
use Rattle.lock.specs.declared.refusal.Refusal.TheVariants.{NoWorker, Busy, Held, NotHeld}
use Rattle.lock.specs.Rules.{Request, locking, unlocking, Leads, Obeys, Sound}
use Rattle.lock.specs.Calls.{Outcome, known, locks, unlocks, upd}
use Rattle.lock.specs.Distance.{listed, due_of}
use Rattle.lock.proofs.Pair as pair
use Rattle.lock.proofs.Pair.{Nowhere, SomeDistance, Fitting, Onward, listed_at}

-- ## A function with one place changed

pub upd_same : {A : Type 0} (f : ℕ → A) (w : ℕ) (x : A) → upd f w x w ≡ x
upd_same f w x = ap (λ b. cond b x (f w)) (eq-eqb w w refl)

pub upd_other : {A : Type 0} (f : ℕ → A) (w v : ℕ) (x : A) → (v ≡ w → ⊥) → upd f w x v ≡ f v
upd_other f w v x ne = ap (λ b. cond b x (f v)) (ne_eqb v w ne)

-- a list that is written at w
pub read_set : {A : Type 0} (xs : List A) (w : ℕ) (x d : A) → w < length xs → (λ v. get_or (set xs w x) v d) ≡ upd (λ v. get_or xs v d) w x
read_set {A} xs w x d lt = λ i v. at v (eqb v w) refl i
  where
    at : (v : ℕ) (b : Bool) → eqb v w ≡ b → get_or (set xs w x) v d ≡ cond b x (get_or xs v d)
    at v true e = ap (λ u. get_or (set xs w x) u d) (eqb-true v w e) ∙ get_or-set_same xs w x d lt
    at v false e = get_or-set_other xs w v x d (eqb-false v w e)

-- ## What a kind shows of its labels

abbrev pub Free : {Label : Type 0} → (Label → Place) → (ℕ → Label) → Type 0
Free place L = Nowhere (λ v. place (L v)) Inside

abbrev pub Waits : {Label : Type 0} → (Label → Place) → (ℕ → Label) → Type 0
Waits place L = (v : ℕ) × (v < 16) × (place (L v) ≡ Waiting)

-- a worker's label, each label's place, the distances by words and labels, the mark, and the facts that every state keeps
pub record Kind {S Label : Type 0} (label : S → ℕ → Label) (place : Label → Place) (distance : S → (ℕ → Label) → ℕ → Option ℕ) (mark : S → ℕ → Bool) (bound : ℕ) (Facts : S → Type 0) : Type 0 where
  pub some : (s : S) → Facts s → Free place (label s) → Waits place (label s) → SomeDistance (distance s (label s))
  pub fitting : (s : S) (v d : ℕ) → distance s (label s) v ≡ Some d → Fitting bound (place (label s v)) d
  pub sole : (s : S) → Facts s → (v w : ℕ) → place (label s v) ≡ Inside → place (label s w) ≡ Inside → v ≡ w
  pub held : (s : S) → Facts s → (w : ℕ) → w < 16 → place (label s w) ≡ Inside → mark s w ≡ true
  pub free : (s : S) → Facts s → (w : ℕ) → w < 16 → place (label s w) ≡ Out → mark s w ≡ false

module _ {S Label : Type 0} {label : S → ℕ → Label} {place : Label → Place} {distance_by : S → (ℕ → Label) → ℕ → Option ℕ} {mark : S → ℕ → Bool} {bound : ℕ} {Facts : S → Type 0}
    (kind : Kind label place distance_by mark bound Facts) where
  abbrev stands : S → ℕ → Place
  stands s v = place (label s v)

  abbrev distance : S → ℕ → Option ℕ
  distance s = distance_by s (label s)

  abbrev places : S → List Place
  places s = listed (stands s)

  abbrev due : S → Option (ℕ × ℕ)
  due s = due_of (stands s) (distance s)

  -- a call, by what it leaves and what it answers
  abbrev pub Ruled : Request → ℕ → S → Outcome S → Type 0
  Ruled q w s o = Obeys places due q w o.1 s o.0

  module _ (s : S) (ok : ∥ Facts s ∥₁) where
    pub sound : Sound bound (places s) (due s)
    sound = pair.sound bound (stands s) (distance s)
        (∥∥₁_map ok (λ f. record { some = λ n w l e. kind.some s f n (w, l, e); fitting = kind.fitting s }))
        (λ v w l m a b. ∥∥₁_elim ok (ℕ_set v w) (λ f. kind.sole s f v w a b))

    -- One call by w: it keeps the facts, and the rules.
    module _ (q : Request) (w : ℕ) where
      abbrev pub Good : Outcome S → Type 0
      Good o = (Facts s → Facts o.0) × Ruled q w s o

      -- a worker's number is looked at first
      pub looked : (o : Outcome S) → (w < 16 → Good o) → Good (known w s o)
      looked o f = go (ltb w 16) refl
        where
          go : (b : Bool) → ltb w 16 ≡ b → Good (cond {A = Outcome S} b o (s, Err NoWorker))
          go true e = f (ltb-true w 16 e)
          go false e = (λ f. f, pair.unknown_refused places due bound s sound q w (ltb-false w 16 e))

      module _ (lt : w < 16) (p : Place) (at : stands s w ≡ p) where
        pub refused : (e : Refusal) → Leads q p (Err e) p → Good (s, Err e)
        refused e leads = (λ f. f, pair.refused places due bound s sound q w e p lt (listed_at (stands s) w lt ∙ at) leads)

        -- an accepted call that changes nothing
        pub spins : (a : Answer) → Leads q p (Ok a) p → (Facts s → Onward w (distance s) (distance s)) → Good (s, Ok a)
        spins a leads on = (λ f. f, pair.accepted stands distance q w a s s lt (λ v ne. refl) (subst (λ x. Leads q x (Ok a) x) (sym at) leads) (∥∥₁_map ok (λ f n m z l e. on f)))

        -- an accepted call that moves w to the label l
        pub goes : (t : S) (a : Answer) (l : Label) → label t ≡ upd (label s) w l → Leads q p (Ok a) (place l) → (Facts s → Facts t)
            → (Facts s → Free place (label s) → Free place (upd (label s) w l) → Waits place (upd (label s) w l) → Onward w (distance s) (distance_by t (upd (label s) w l)))
            → Good (t, Ok a)
        goes t a l to leads keep on = (
          keep,
          pair.accepted stands distance q w a s t lt
              (λ v ne. ap place (ap (λ L. L v) to ∙ upd_other (label s) w v l ne))
              (subst (λ x. Leads q x (Ok a) (stands t w)) (sym at) (subst (Leads q p (Ok a)) (ap place (sym (ap (λ L. L w) to ∙ upd_same (label s) w l))) leads))
              (∥∥₁_map ok (λ f n m z lz e. subst (λ L. Onward w (distance s) (distance_by t L)) (sym to)
              (on f n (λ v lv i. m v lv (ap (λ L. place (L v)) to ∙ i)) (z, lz, sym (ap (λ L. place (L z)) to) ∙ e)))),
        )

    module _ (w : ℕ) (t : S) (l : Label) (to : w < 16 → label t ≡ upd (label s) w l) where
      -- `lock` writes the caller's label and nothing else
      pub locked : place l ≡ Waiting → (w < 16 → stands s w ≡ Out → Facts s → Facts t)
          → ((v : ℕ) → (v ≡ w → ⊥) → distance_by t (upd (label s) w l) v ≡ distance s v)
          → Good locking w (known w s (locks (stands s w) s t))
      locked wait keep same = looked locking w _ (λ lt. go lt (stands s w) refl)
        where
          none : stands s w ≡ Out → (d : ℕ) → distance s w ≡ Some d → ⊥
          none at d e = ⊎_elim (λ x. let z : ◌≡◌ {A = ℕ} 0 1 = cc in omega arith) (λ x. let z : ◌≡◌ {A = ℕ} 0 1 = cc in omega arith) (kind.fitting s w d e).0

          go : w < 16 → (p : Place) → stands s w ≡ p → Good locking w (locks p s t)
          go lt Out at = goes locking w lt Out at t Done l (to lt) (refl, wait) (keep lt at) (λ f n m z. record {
            others = λ v d lv ne e. (v, d, lv, same v ne ∙ e, omega arith);
            own = λ d e. absurd (none at d e);
          })
          go lt Waiting at = refused locking w lt Waiting at Busy (refl, refl)
          go lt Inside at = refused locking w lt Inside at Held (refl, refl)
          go lt Leaving at = refused locking w lt Leaving at Busy (refl, refl)

      -- `unlock` reads the mark, which shows its caller exactly where it is inside
      pub unlocked : place l ≡ Leaving → (w < 16 → stands s w ≡ Inside → Facts s → Facts t)
          → Good unlocking w (known w s (unlocks (stands s w) (mark s w) s t))
      unlocked leave keep = looked unlocking w _ (λ lt. go lt (stands s w) refl)
        where
          outside : w < 16 → stands s w ≡ Out → (b : Bool) → mark s w ≡ b → Good unlocking w (cond {A = Outcome S} b (t, Ok Done) (s, Err NotHeld))
          outside lt at true e = absurd (∥∥₁_elim ok ⊥_prop (λ f. false≢true (sym (kind.free s f w lt at) ∙ e)))
          outside lt at false e = refused unlocking w lt Out at NotHeld (refl, refl)

          within : w < 16 → stands s w ≡ Inside → (b : Bool) → mark s w ≡ b → Good unlocking w (cond {A = Outcome S} b (t, Ok Done) (s, Err NotHeld))
          within lt at true e = goes unlocking w lt Inside at t Done l (to lt) (refl, leave) (keep lt at) (λ f n. absurd (n w lt at))
          within lt at false e = absurd (∥∥₁_elim ok ⊥_prop (λ f. false≢true (sym e ∙ kind.held s f w lt at)))

          go : w < 16 → (p : Place) → stands s w ≡ p → Good unlocking w (unlocks p (mark s w) s t)
          go lt Out at = outside lt at (mark s w) refl
          go lt Waiting at = refused unlocking w lt Waiting at Busy (refl, refl)
          go lt Inside at = within lt at (mark s w) refl
          go lt Leaving at = refused unlocking w lt Leaving at Busy (refl, refl)
