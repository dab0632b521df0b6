-- What is known of the digits of a number below 2 ^ 64.
use Rattle.std.proofs.Common.{◌≡◌, ℕ, ◌^◌, ◌<◌, List, length, Some, None, Ok, Err, IsUtf8, MatchResult, decimal, Result, sym, refl, ap, ◌∙◌, subst, ⊎_elim, arith}
use Rattle.std.specs.Result.{result_ok}
use Rattle.std.specs.Str.Parse.{ParsesUnsigned}
use Rattle.std.proofs.lemmas.Fmt.{decimal_nonempty, decimal_is_IsNumeral, first_decimal, decimal_digit, IsAscii-decimal, decimal-digits_value, parse-decimal}
use Rattle.std.proofs.lemmas.Str.Parse.{digit_at, numerals_by_value, tells_digits, parse_plain}
use Rattle.std.proofs.lemmas.Result.{OkIff-at_ok}
use Rattle.std.proofs.lemmas.Bool.{cases_eq}
use Rattle.std.proofs.lemmas.Str.{IsUtf8-from_ascii}
use Rattle.text.specs.Decimal.{Plain}

pub plain_decimal : (n : ℕ) → n < 2 ^ 64 → Plain (decimal n)
plain_decimal n h = record {
  some = decimal_nonempty n h;
  digit = digit_at (decimal n) 0 (decimal_is_IsNumeral n h).0.1 (decimal_nonempty n h);
  zero = λ e. ⊎_elim (λ z. ap (λ m. length (decimal m)) z ∙ ap length (decimal_digit 0 (omega arith))) (λ nz. absurd (omega (arith, first_decimal n (omega arith) h))) (cases_eq n 0);
}

pub text_decimal : (n : ℕ) → n < 2 ^ 64 → IsUtf8 (decimal n)
text_decimal n h = IsUtf8-from_ascii (decimal n) (IsAscii-decimal n h)

-- what `parse` makes of plain bytes
pub parsed : {E : Type 0} (value bs : List ℕ) (r : Result ℕ E) → bs ≡ value → Plain value → ParsesUnsigned 32 10 bs r → MatchResult r (λ n. (n < 2 ^ 32) × (value ≡ decimal n)) (λ e. (n : ℕ) → n < 2 ^ 32 → value ≡ decimal n → ⊥)
parsed {E} value bs (Ok n) same p h =
    let r : Result ℕ E = Ok n in
    let own = numerals_by_value _ tells_digits in
    let q = subst Plain (sym same) p in
    let got = OkIff-at_ok r _ _ n (parse_plain own 32 bs r h (λ plus. omega (arith, q.digit))) refl in
    (omega (arith, got.0.2, got.1), sym same ∙ sym (decimal-digits_value own bs got.0.0 q.some q.zero (omega (arith, got.0.2))) ∙ ap decimal (sym got.1))
parsed {E} value bs (Err e) same p h = λ n l is. cc (parse-decimal {E = E} 32 n bs (Err e) (omega arith) (omega arith) (same ∙ is) h)

-- what `ok` leaves of a result
pub from_none : {A E : Type 0} (r : Result A E) (P : A → Type 0) (Q : E → Type 0) → result_ok r ≡ None → MatchResult r P Q → (e : E) × Q e
from_none (Ok x) P Q n m = cc n
from_none (Err e) P Q n m = (e, m)

pub from_some : {A E : Type 0} (r : Result A E) (x : A) → Some x ≡ result_ok r → r ≡ Ok x
from_some (Ok y) x e = cc e
from_some (Err d) x e = cc e
