-- The least distance, and whether anyone is at a place.
use Rattle.std.proofs.Common.{◌≡◌, ℕ, zero, suc, ◌+◌, ◌<◌, ◌≤◌, Bool, true, false, cond, ◌||◌, leb, Some, None, Option, sym, refl, ap, ◌∙◌, ⊎_elim, add-one, arith}
use Rattle.std.proofs.lemmas.Bool.{leb-true, leb-false, cases_eq, false≢true, or_cases, or_parts}
use Rattle.lock.specs.declared.place.Place.{Place}
use Rattle.lock.specs.Distance.{nearer, nearest, anyone, is_inside, is_waiting}

-- ## The steps of the loop

pub nearest_none : (u : ℕ → Option ℕ) → nearest u 0 ≡ None
unfolding nearest
nearest_none u = refl

pub nearest_more : (u : ℕ → Option ℕ) (n : ℕ) (best r : Option (ℕ × ℕ)) (o : Option ℕ) → best ≡ nearest u n → o ≡ u n → r ≡ nearer best n o → r ≡ nearest u (n + 1)
unfolding nearest
nearest_more u n best r o b e k = k ∙ (ap (λ x. nearer x n o) b ∙ (ap (nearer (nearest u n) n) e ∙ ap (nearest u) (sym (add-one n))))

pub anyone_none : (test : Place → Bool) (f : ℕ → Place) → anyone test f 0 ≡ false
unfolding anyone
anyone_none test f = refl

anyone_more : (test : Place → Bool) (f : ℕ → Place) (n : ℕ) → anyone test f (n + 1) ≡ (test (f n) || anyone test f n)
unfolding anyone
anyone_more test f n = ap (anyone test f) (add-one n)

anyone_step : (test : Place → Bool) (f : ℕ → Place) (v : ℕ) (p : Place) (b c : Bool) → p ≡ f v → b ≡ anyone test f v → c ≡ (test p || b) → c ≡ anyone test f (v + 1)
anyone_step test f v p b c at e k = k ∙ (ap (λ x. test x || b) at ∙ (ap (λ x. test (f v) || x) e ∙ sym (anyone_more test f v)))

pub flags_more : (f : ℕ → Place) (v : ℕ) (r : Place) → r ≡ f v → (i w : Bool) → i ≡ anyone is_inside f v → w ≡ anyone is_waiting f v
    → (p : Place) → r ≡ p → (i' w' : Bool) → i' ≡ (is_inside p || i) → w' ≡ (is_waiting p || w)
    → (i' ≡ anyone is_inside f (v + 1)) × (w' ≡ anyone is_waiting f (v + 1))
flags_more f v r at i w a b p e i' w' x y = (anyone_step is_inside f v p i i' (sym e ∙ at) a x, anyone_step is_waiting f v p w w' (sym e ∙ at) b y)

-- ## Anyone

pub anyone_true : (test : Place → Bool) (f : ℕ → Place) (n : ℕ) → anyone test f n ≡ true → (w : ℕ) × (w < n) × (test (f w) ≡ true)
unfolding anyone
anyone_true test f zero e = absurd (false≢true e)
anyone_true test f (suc n) e = ⊎_elim
    (λ k. (n, omega arith, k))
    (λ k. let r = anyone_true test f n k in (r.0, omega (arith, r.1), r.2))
    (or_cases (test (f n)) (anyone test f n) e)

pub anyone_false : (test : Place → Bool) (f : ℕ → Place) (n : ℕ) → anyone test f n ≡ false → (w : ℕ) → w < n → test (f w) ≡ false
unfolding anyone
anyone_false test f zero e w l = absurd (omega arith)
anyone_false test f (suc n) e w l =
    let k = or_parts (test (f n)) (anyone test f n) e in
    ⊎_elim (λ y. ap (λ v. test (f v)) y ∙ k.0) (λ y. anyone_false test f n k.1 w (omega arith)) (cases_eq w n)

-- ## The nearest

-- nobody has a distance; or this one, and no other's is below it, nor as low at a lower worker
abbrev pub Nearest : (ℕ → Option ℕ) → ℕ → Option (ℕ × ℕ) → Type 0
Nearest u n None = (v : ℕ) → v < n → u v ≡ None
Nearest u n (Some p) = (p.0 < n) × (u p.0 ≡ Some p.1) × ((v d : ℕ) → v < n → u v ≡ Some d → p.1 ≤ d)

one_more : (u : ℕ → Option ℕ) (n : ℕ) (best : Option (ℕ × ℕ)) (o : Option ℕ) → u n ≡ o → Nearest u n best → Nearest u (suc n) (nearer best n o)
one_more u n None None e h = λ v l. ⊎_elim (λ y. ap u y ∙ e) (λ y. h v (omega arith)) (cases_eq v n)
one_more u n (Some p) None e h = (
  omega (arith, h.0),
  h.1,
  λ v d l k. ⊎_elim (λ y. let z : ◌≡◌ {A = Option ℕ} None (Some d) = sym e ∙ (ap u (sym y) ∙ k) in grind (arith, z)) (λ y. h.2 v d (omega arith) k) (cases_eq v n),
)
one_more u n None (Some d) e h = (
  omega arith,
  e,
  λ v c l k. ⊎_elim (λ y. let z : ◌≡◌ {A = Option ℕ} (Some d) (Some c) = sym e ∙ (ap u (sym y) ∙ k) in grind (arith, z)) (λ y. let z : ◌≡◌ {A = Option ℕ} None (Some c) = sym (h v (omega arith)) ∙ k in grind (arith, z)) (cases_eq v n),
)
one_more u n (Some p) (Some d) e h = go (leb p.1 d) refl
  where
    new : (v c : ℕ) → v ≡ n → u v ≡ Some c → d ≡ c
    new v c y k = let z : ◌≡◌ {A = Option ℕ} (Some d) (Some c) = sym e ∙ (ap u (sym y) ∙ k) in cc

    go : (b : Bool) → leb p.1 d ≡ b → Nearest u (suc n) (cond b (Some p) (Some (n, d)))
    go true t = (
      omega (arith, h.0),
      h.1,
      λ v c l k. ⊎_elim (λ y. omega (arith, new v c y k, leb-true _ _ t)) (λ y. h.2 v c (omega arith) k) (cases_eq v n),
    )
    go false t = (
      omega arith,
      e,
      λ v c l k. ⊎_elim (λ y. omega (arith, new v c y k)) (λ y. omega (arith, h.2 v c (omega arith) k, leb-false _ _ t)) (cases_eq v n),
    )

pub nearest_is : (u : ℕ → Option ℕ) (n : ℕ) → Nearest u n (nearest u n)
unfolding nearest
nearest_is u zero = λ v l. absurd (omega arith)
nearest_is u (suc n) = one_more u n (nearest u n) (u n) refl (nearest_is u n)
