use Rattle.std.proofs.Common.{◌≡◌, ℕ, ◌^◌, ◌<◌, Bool, true, false, leb, List, None, Ok, Err, Option, MatchOption, Result, MatchResult, decimal, sym, ◌∙◌, subst, IsUtf8, arith, rules}
use Rattle.std.specs.Bool.{then_some}
use Rattle.std.specs.Result.{result_ok}
use Rattle.std.proofs.lemmas.Bool.{leb-true, leb-false}
use Rattle.std.proofs.lemmas.Fmt.{decimal_injective}
use Rattle.std.proofs.lemmas.Result.{MatchResult-at_ok}
use Rattle.text.specs.Decimal.{Plain, ReadsUpTo}
use Rattle.text.proofs.Digits.{plain_decimal, text_decimal, parsed, from_none, from_some}
use Rattle.text.proofs.number.number_in.Goals as goal

pub returns-then-not-is_plain : goal.returns-then-not-is_plain
returns-then-not-is_plain c n le e = c.if-not-is_plain.ensures (subst Plain (sym e) (plain_decimal n (omega arith)))

pub returns-in_err-text : goal.returns-in_err-text
returns-in_err-text c =
    let none = from_none c.from_utf8.result _ _ (sym c.ok.ensures.value ∙ c.in_err-text.was) c.from_utf8.ensures.cases in
    rw c.from_residual.ensures (λ n le e. none.1.0 (subst IsUtf8 (sym e) (text_decimal n (omega arith))))

within : (max n : ℕ) (value : List ℕ) (b : Bool) (r : Option ℕ) → n < 2 ^ 32 → max < 2 ^ 32 → value ≡ decimal n → b ≡ leb n max → r ≡ then_some b n → ReadsUpTo max value r
within max n value b r small limit is test e = subst (ReadsUpTo max value) (sym e) (go b (sym test))
  where
    go : (b : Bool) → leb n max ≡ b → ReadsUpTo max value (then_some b n)
    go true t = (leb-true n max t, is)
    go false t = λ k le same. (let one : n ≡ k = decimal_injective _ _ (omega arith) (omega arith) (sym is ∙ same) in omega (arith, leb-false n max t))

filtered : {E : Type 0} (max : ℕ) (value : List ℕ) (read : Result ℕ E) (r : Option ℕ) (Test : ℕ → Type 0) → max < 2 ^ 32 → MatchResult read (λ n. (n < 2 ^ 32) × (value ≡ decimal n)) (λ e. (n : ℕ) → n < 2 ^ 32 → value ≡ decimal n → ⊥) → MatchOption (result_ok read) (r ≡ None) Test → ((n : ℕ) → Test n → (b : Bool) × (b ≡ leb n max) × (r ≡ then_some b n)) → ReadsUpTo max value r
filtered max value (Ok n) r Test limit is kept test = let t = test n kept in within max n value t.0 r is.0 limit is.1 t.1 t.2
filtered max value (Err e) r Test limit none kept test = subst (ReadsUpTo max value) (sym kept) (λ n le is. none n (omega arith) is)

pub returns : goal.returns
returns c =
    let same = MatchResult-at_ok _ _ _ (from_some c.from_utf8.result c.in_ok-text.text c.in_ok-text.ensures.value) c.from_utf8.ensures.cases in
    let read = parsed c.args.value.now _ c.parse.result same.0 c.if-not-is_plain.ensures c.parse.ensures.value.0 in
    filtered c.args.max c.args.value.now c.parse.result c.filter.result _ (omega arith) read (rw c.ok-2.ensures.value at c.filter.ensures) (λ n q. (q.0, search rules, q.2))
