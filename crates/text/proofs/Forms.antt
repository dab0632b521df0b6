-- Lines as they are written, and as they are read.
use Rattle.std.proofs.Common.{◌≡◌, ℕ, ◌<◌, true, false, cond, eqb, List, [], ◌∷◌, ◌++◌, length, sym, refl, ap, ◌∙◌, subst, append_assoc, arith}
use Rattle.std.specs.List.{flat_map}
use Rattle.std.proofs.lemmas.Bool.{eqb-true, eq-eqb, cond-true}
use Rattle.text.specs.Cuts.{has, before, after}
use Rattle.text.specs.Lines.{Line, whole, cut, lines_after, lines, line_text}
use Rattle.text.proofs.First.{row, step, lines_whole}

abbrev pub text_of : Line → List ℕ
text_of (whole key value) = line_text key value
text_of cut = []

-- each line is whole, and has a value
abbrev pub Valued : List Line → Type 0
Valued [] = Unit {0}
Valued (whole key value ∷ ls) = (0 < length value) × Valued ls
Valued (cut ∷ ls) = ⊥

split_back : (b : ℕ) (xs : List ℕ) → 0 < length (after b xs) → xs ≡ before b xs ++ b ∷ after b xs
split_back b [] h = absurd (omega arith)
split_back b (x ∷ xs) h =
    (elim (eqb x b) as (λ v. eqb x b ≡ v → 0 < length (cond v xs (after b xs)) → x ∷ xs ≡ cond v [] (x ∷ before b xs) ++ b ∷ cond v xs (after b xs))
    [ true ↦ λ e t. ap (λ y. y ∷ xs) (eqb-true x b e) | false ↦ λ e t. ap (λ l. x ∷ l) (split_back b xs t) ]) refl h

regroup : (p q r : List ℕ) → (p ++ (61 ∷ q)) ++ (10 ∷ r) ≡ line_text p q ++ r
regroup p q r = simp append_assoc

-- where each line has a value, the lines are the text
text_after : (so xs : List ℕ) → Valued (lines_after so xs) → so ++ xs ≡ flat_map text_of (lines_after so xs)
text_after [] [] s = refl
text_after (b ∷ so) [] s = absurd s
text_after so (x ∷ xs) s =
    (elim (eqb x 10) as (λ v. eqb x 10 ≡ v → Valued (cond v (row so ∷ lines_after [] xs) (lines_after (so ++ x ∷ []) xs)) → so ++ x ∷ xs ≡ flat_map text_of (cond v (row so ∷ lines_after [] xs) (lines_after (so ++ x ∷ []) xs))) [
      | true ↦ λ e t. ap (λ y. so ++ y ∷ xs) (eqb-true x 10 e) ∙ ap (λ l. l ++ 10 ∷ xs) (split_back 61 so t.0) ∙ regroup (before 61 so) (after 61 so) xs ∙ ap (λ l. text_of (row so) ++ l) (text_after [] xs t.1)
      | false ↦ λ e t. sym (append_assoc so (x ∷ []) xs) ∙ text_after (so ++ x ∷ []) xs t
    ]) refl (subst Valued (step so x xs) s) ∙ ap (flat_map text_of) (sym (step so x xs))

pub text_back : (xs : List ℕ) → Valued (lines xs) → xs ≡ flat_map text_of (lines xs)
unfolding lines
text_back xs s = text_after [] xs s

-- cuts at a byte that the front lacks
has_at : (b : ℕ) (xs ys : List ℕ) → has b (xs ++ b ∷ ys) ≡ true
has_at b [] ys = cond-true (eqb b b) true _ (eq-eqb b b refl)
has_at b (x ∷ xs) ys = elim (eqb x b) as (λ v. cond v true (has b (xs ++ b ∷ ys)) ≡ true) [ true ↦ refl | false ↦ has_at b xs ys ]

before_at : (b : ℕ) (xs ys : List ℕ) → has b xs ≡ false → before b (xs ++ b ∷ ys) ≡ xs
before_at b [] ys h = cond-true (eqb b b) [] _ (eq-eqb b b refl)
before_at b (x ∷ xs) ys h =
    (elim (eqb x b) as (λ v. cond v true (has b xs) ≡ false → cond v [] (x ∷ before b (xs ++ b ∷ ys)) ≡ x ∷ xs) [ true ↦ λ t. cc | false ↦ λ t. ap (λ l. x ∷ l) (before_at b xs ys t) ]) h

after_at : (b : ℕ) (xs ys : List ℕ) → has b xs ≡ false → after b (xs ++ b ∷ ys) ≡ ys
after_at b [] ys h = cond-true (eqb b b) ys _ (eq-eqb b b refl)
after_at b (x ∷ xs) ys h =
    (elim (eqb x b) as (λ v. cond v true (has b xs) ≡ false → cond v (xs ++ b ∷ ys) (after b (xs ++ b ∷ ys)) ≡ ys) [ true ↦ λ t. cc | false ↦ λ t. after_at b xs ys t ]) h

has_both : (b : ℕ) (xs ys : List ℕ) → has b xs ≡ false → has b ys ≡ false → has b (xs ++ ys) ≡ false
has_both b [] ys h l = l
has_both b (x ∷ xs) ys h l =
    (elim (eqb x b) as (λ v. cond v true (has b xs) ≡ false → cond v true (has b (xs ++ ys)) ≡ false) [ true ↦ λ t. t | false ↦ λ t. has_both b xs ys t l ]) h

-- a line that is written is read as it was written
pub lines_front : (key value rest : List ℕ) → has 61 key ≡ false → has 10 key ≡ false → has 10 value ≡ false → lines (line_text key value ++ rest) ≡ whole key value ∷ lines rest
lines_front key value rest a b c =
    let line = key ++ (61 ∷ value) in
    let unbroken : has 10 line ≡ false = has_both 10 key (61 ∷ value) b c in
    let front = before_at 10 line rest unbroken in
    ap lines (sym (regroup key value rest)) ∙ lines_whole (line ++ 10 ∷ rest) (has_at 10 line rest) ∙ (λ i. whole (before 61 (front i)) (after 61 (front i)) ∷ lines (after_at 10 line rest unbroken i)) ∙ (λ i. whole (before_at 61 key value a i) (after_at 61 key value a i) ∷ lines rest)
