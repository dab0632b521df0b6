-- A function that is written at one place.
use Rattle.std.proofs.Common.{◌≡◌, ℕ, ◌<◌, Bool, true, false, cond, eqb, List, length, get_or, set, sym, refl, ap, ◌∙◌, subst, ⊎_elim}
use Rattle.std.proofs.lemmas.Bool.{cases_eq}
use Rattle.lock.specs.Calls.{upd}
use Rattle.lock.proofs.Labelled.{upd_same, upd_other, read_set}

-- what holds of the new value and of each other one
pub each : {A : Type 0} (P : ℕ → A → Type 0) (f : ℕ → A) (w : ℕ) (x : A) → P w x → ((v : ℕ) → (v ≡ w → ⊥) → P v (f v)) → (v : ℕ) → P v (upd f w x v)
each P f w x here there v = ⊎_elim
    (λ e. subst (λ u. P u (upd f w x u)) (sym e) (subst (P w) (sym (upd_same f w x)) here))
    (λ ne. subst (P v) (sym (upd_other f w v x ne)) (there v ne))
    (cases_eq v w)

-- written with what it has there, it stays
pub rewritten : {A : Type 0} (f : ℕ → A) (w : ℕ) → upd f w (f w) ≡ f
rewritten f w = λ i v. each (λ u x. x ≡ f u) f w (f w) refl (λ u ne. refl) v i

-- the values of another function at it
pub mapped : {A B : Type 0} (g : A → B) (f : ℕ → A) (w : ℕ) (x : A) → (λ v. g (upd f w x v)) ≡ upd (λ v. g (f v)) w (g x)
mapped {A} {B} g f w x = λ i v. go v (eqb v w) i
  where
    go : (v : ℕ) (b : Bool) → g (cond b x (f v)) ≡ cond b (g x) (g (f v))
    go v true = refl
    go v false = refl

-- and at the items of a list that is written
pub mapped_set : {A B : Type 0} (g : A → B) (xs : List A) (w : ℕ) (x d : A) → w < length xs → (λ v. g (get_or (set xs w x) v d)) ≡ upd (λ v. g (get_or xs v d)) w (g x)
mapped_set g xs w x d lt = ap (λ f v. g (f v)) (read_set xs w x d lt) ∙ mapped g (λ v. get_or xs v d) w x

pub else_false : (b : Bool) → (b ≡ true → ⊥) → b ≡ false
else_false true n = absurd (n refl)
else_false false n = refl
