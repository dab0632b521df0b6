-- Counting modulo m.
use Rattle.std.proofs.Common.{◌≡◌, ℕ, ◌+◌, ◌-◌, ◌%◌, ◌^◌, ◌<◌, ◌≤◌, eqb, sym, ap, ◌∙◌, ⊎_elim, mod-lt, mod-eq_of_lt, arith}
use native.Mathlib.Nat.{mod-add-mod, mod-eq-sub-mod}
use Rattle.std.proofs.lemmas.Bool.{cases_lt, cases_eq, eq-eqb, ne_eqb}
use Rattle.queue.specs.Counter.{more}

-- numbers less than m apart that agree modulo m are equal
pub near : (m a b : ℕ) → a ≤ b → b < a + m → a % m ≡ b % m → a ≡ b
near m a b l u e = ⊎_elim
    (λ k. omega (arith, back, mod-eq_of_lt k))
    (λ k. omega (arith, back, mod-eq-sub-mod k, mod-eq_of_lt {n = a % m + (b - a) - m} {m = m} (omega (arith, small)), small))
    (cases_lt (a % m + (b - a)) m)
  where
    small : a % m < m
    small = mod-lt a (omega arith)

    back : (a % m + (b - a)) % m ≡ a % m
    back = mod-add-mod a m (b - a) ∙ (ap (λ x. x % m) (let z : a + (b - a) ≡ b = omega arith in z) ∙ sym e)

-- so a test of such numbers modulo m tells whether they are equal
pub near_test : (m a b : ℕ) → a ≤ b → b < a + m → eqb (a % m) (b % m) ≡ eqb a b
near_test m a b l u = ⊎_elim
    (λ e. eq-eqb (a % m) (b % m) (ap (λ x. x % m) e) ∙ sym (eq-eqb a b e))
    (λ ne. ne_eqb (a % m) (b % m) (λ e. ne (near m a b l u e)) ∙ sym (ne_eqb a b ne))
    (cases_eq a b)

-- a counter that counts n modulo 2 to the 32, one on
pub counts_on : (c n : ℕ) → c ≡ n % 2 ^ 32 → more c ≡ (n + 1) % 2 ^ 32
counts_on c n e = ap more e ∙ mod-add-mod n (2 ^ 32) 1
