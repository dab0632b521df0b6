-- The first line of a text.
use Rattle.std.proofs.Common.{◌≡◌, ℕ, ◌<◌, Bool, MatchBool, true, false, cond, eqb, List, [], ◌∷◌, ◌++◌, length, sym, refl, ap, ◌∙◌, subst, append_assoc, append-nil, arith}
use Rattle.std.proofs.lemmas.Bool.{ne_eqb}
use Rattle.text.specs.Cuts.{has, before, after}
use Rattle.text.specs.Lines.{Line, whole, cut, lines_after, lines}

-- a line whose bytes are so
abbrev pub row : List ℕ → Line
row so = whole (before 61 so) (after 61 so)

-- one more byte of the first line
pub step : (so : List ℕ) (x : ℕ) (xs : List ℕ) → lines_after so (x ∷ xs) ≡ cond (eqb x 10) (row so ∷ lines_after [] xs) (lines_after (so ++ x ∷ []) xs)
step [] x xs = refl
step (b ∷ so) x xs = refl

line_after : (so xs : List ℕ) → has 10 xs ≡ true → lines_after so xs ≡ row (so ++ before 10 xs) ∷ lines_after [] (after 10 xs)
line_after so [] h = cc
line_after so (x ∷ xs) h =
    step so x xs ∙
    (elim (eqb x 10) as (λ v. cond v true (has 10 xs) ≡ true → cond v (row so ∷ lines_after [] xs) (lines_after (so ++ x ∷ []) xs) ≡ row (so ++ cond v [] (x ∷ before 10 xs)) ∷ lines_after [] (cond v xs (after 10 xs))) [
      | true ↦ λ t. ap (λ l. row l ∷ lines_after [] xs) (sym (append-nil so))
      | false ↦ λ t. line_after (so ++ x ∷ []) xs t ∙ ap (λ l. row l ∷ lines_after [] (after 10 xs)) (append_assoc so (x ∷ []) (before 10 xs))
    ]) h

cut_after : (so xs : List ℕ) → has 10 xs ≡ false → 0 < length (so ++ xs) → lines_after so xs ≡ cut ∷ []
cut_after [] [] h some = absurd (omega arith)
cut_after (b ∷ so) [] h some = refl
cut_after so (x ∷ xs) h some =
    step so x xs ∙
    (elim (eqb x 10) as (λ v. cond v true (has 10 xs) ≡ false → cond v (row so ∷ lines_after [] xs) (lines_after (so ++ x ∷ []) xs) ≡ cut ∷ []) [
      | true ↦ λ t. cc
      | false ↦ λ t. cut_after (so ++ x ∷ []) xs t (subst (λ l. 0 < length l) (sym (append_assoc so (x ∷ []) xs)) some)
    ]) h

pub lines_whole : (xs : List ℕ) → has 10 xs ≡ true → lines xs ≡ whole (before 61 (before 10 xs)) (after 61 (before 10 xs)) ∷ lines (after 10 xs)
unfolding lines
lines_whole xs h = line_after [] xs h

pub lines_cut : (xs : List ℕ) → has 10 xs ≡ false → 0 < length xs → lines xs ≡ cut ∷ []
unfolding lines
lines_cut xs h some = cut_after [] xs h some

pub lines_end : (xs : List ℕ) → xs ≡ [] → lines xs ≡ []
unfolding lines
lines_end xs e = ap (lines_after []) e

pub lines_some : (xs : List ℕ) → 0 < length xs → lines xs ≡ [] → ⊥
lines_some xs some e =
    (elim (has 10 xs) as (λ v. has 10 xs ≡ v → ⊥) [
      | true ↦ λ h. cc (lines_whole xs h)
      | false ↦ λ h. cc (lines_cut xs h some)
    ]) refl

pub some_lines : (xs : List ℕ) → (lines xs ≡ [] → ⊥) → 0 < length xs
some_lines [] no_lines = absurd (no_lines (lines_end [] refl))
some_lines (x ∷ xs) no_lines = omega arith

pub done_lines : (r : Bool) (xs : List ℕ) → r ≡ eqb (length xs) 0 → MatchBool r (lines xs ≡ []) (lines xs ≡ [] → ⊥)
done_lines r [] e = subst (λ b. MatchBool b (lines [] ≡ []) (lines [] ≡ [] → ⊥)) (sym e) (lines_end [] refl)
done_lines r (x ∷ xs) e = subst (λ b. MatchBool b (lines (x ∷ xs) ≡ []) (lines (x ∷ xs) ≡ [] → ⊥)) (sym (e ∙ ne_eqb (length (x ∷ xs)) 0 (λ z. omega arith))) (lines_some (x ∷ xs) (omega arith))
