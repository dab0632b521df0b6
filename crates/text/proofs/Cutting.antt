-- A list that is cut at the first of one byte.
use Rattle.std.proofs.Common.{◌≡◌, ℕ, suc, ◌+◌, ◌-◌, ◌<◌, ◌≤◌, true, false, cond, eqb, ltb, List, [], ◌∷◌, length, take, drop, position, Some, None, sym, refl, ap, ◌∙◌, subst, add-one, arith}
use Rattle.std.specs.List.{position_or_len}
use Rattle.std.proofs.lemmas.List.{take_rest}
use Rattle.std.proofs.lemmas.List.Recursion.{is_position_or_len}
use Rattle.std.proofs.lemmas.Bool.{ltb-true, ltb-false}
use Rattle.text.specs.Cuts.{has, before, after}

pub take_before : (b : ℕ) (xs : List ℕ) → take (length (before b xs)) xs ≡ before b xs
take_before b [] = refl
take_before b (x ∷ xs) =
    elim (eqb x b) as (λ v. take (length (cond v [] (x ∷ before b xs))) (x ∷ xs) ≡ cond v [] (x ∷ before b xs))
    [ true ↦ refl | false ↦ ap (λ l. x ∷ l) (take_before b xs) ]

pub drop_after : (b : ℕ) (xs : List ℕ) → drop (length (before b xs) + 1) xs ≡ after b xs
drop_after b xs = rw add-one (past b xs)
  where
    past : (b : ℕ) (xs : List ℕ) → drop (suc (length (before b xs))) xs ≡ after b xs
    past b [] = refl
    past b (x ∷ xs) =
        elim (eqb x b) as (λ v. drop (suc (length (cond v [] (x ∷ before b xs)))) (x ∷ xs) ≡ cond v xs (after b xs))
        [ true ↦ refl | false ↦ past b xs ]

-- whether b is there
pub has_short : (b : ℕ) (xs : List ℕ) → length (before b xs) < length xs → has b xs ≡ true
has_short b [] h = absurd (omega arith)
has_short b (x ∷ xs) h =
    (elim (eqb x b) as (λ v. length (cond v [] (x ∷ before b xs)) < length (x ∷ xs) → cond v true (has b xs) ≡ true)
    [ true ↦ λ h. refl | false ↦ λ h. has_short b xs (omega arith) ]) h

pub has_not : (b : ℕ) (xs : List ℕ) → length xs ≤ length (before b xs) → has b xs ≡ false
has_not b [] h = refl
has_not b (x ∷ xs) h =
    (elim (eqb x b) as (λ v. length (x ∷ xs) ≤ length (cond v [] (x ∷ before b xs)) → cond v true (has b xs) ≡ false)
    [ true ↦ λ h. absurd (omega arith) | false ↦ λ h. has_not b xs (omega arith) ]) h

pub before_all : (b : ℕ) (xs : List ℕ) → has b xs ≡ false → before b xs ≡ xs
before_all b [] h = refl
before_all b (x ∷ xs) h =
    (elim (eqb x b) as (λ v. cond v true (has b xs) ≡ false → cond v [] (x ∷ before b xs) ≡ x ∷ xs)
    [ true ↦ λ h. cc | false ↦ λ h. ap (λ l. x ∷ l) (before_all b xs h) ]) h

pub after_all : (b : ℕ) (xs : List ℕ) → has b xs ≡ false → after b xs ≡ []
after_all b [] h = refl
after_all b (x ∷ xs) h =
    (elim (eqb x b) as (λ v. cond v true (has b xs) ≡ false → cond v xs (after b xs) ≡ [])
    [ true ↦ λ h. cc | false ↦ λ h. after_all b xs h ]) h

-- where the first b was found
pub record Cut (b : ℕ) (xs : List ℕ) (n : ℕ) : Type 0 where
  pub there : has b xs ≡ true
  pub front : take n xs ≡ before b xs
  pub back : take (length xs - (n + 1)) (drop (n + 1) xs) ≡ after b xs

abbrev place : ℕ → List ℕ → ℕ
place b xs = position_or_len (λ x. eqb x b) xs

place_before : (b : ℕ) (xs : List ℕ) → length (before b xs) ≡ place b xs
place_before b xs = is_position_or_len (λ l. length (before b l)) (λ x. eqb x b) refl (λ x l. elim (eqb x b) as (λ v. length (cond v [] (x ∷ before b l)) ≡ cond v 0 (1 + length (before b l))) [ true ↦ refl | false ↦ omega arith ]) xs

cut_here : (b : ℕ) (xs : List ℕ) → place b xs < length xs → Cut b xs (place b xs)
cut_here b xs h =
    let e = place_before b xs in
    record {
      there = has_short b xs (omega arith);
      front = ap (λ k. take k xs) (sym e) ∙ take_before b xs;
      back = take_rest xs (place b xs + 1) ∙ ap (λ k. drop (k + 1) xs) (sym e) ∙ drop_after b xs;
    }

pub found : (b : ℕ) (xs : List ℕ) (n : ℕ) → position (λ x. eqb x b) xs ≡ Some n → Cut b xs n
found b xs n e =
    (elim (ltb (place b xs) (length xs)) as (λ v. ltb (place b xs) (length xs) ≡ v → cond v (Some (place b xs)) None ≡ Some n → Cut b xs n) [
      | true ↦ λ t f. (let same : place b xs ≡ n = cc f in subst (Cut b xs) same (cut_here b xs (ltb-true _ _ t)))
      | false ↦ λ t f. cc f
    ]) refl e

pub missing : (b : ℕ) (xs : List ℕ) → position (λ x. eqb x b) xs ≡ None → has b xs ≡ false
missing b xs e =
    (elim (ltb (place b xs) (length xs)) as (λ v. ltb (place b xs) (length xs) ≡ v → cond v (Some (place b xs)) None ≡ None → has b xs ≡ false) [
      | true ↦ λ t f. cc f
      | false ↦ λ t f. has_not b xs (omega (arith, ltb-false (place b xs) (length xs) t, place_before b xs))
    ]) refl e
