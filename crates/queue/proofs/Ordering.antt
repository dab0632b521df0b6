-- The order of the line is kept where everybody stays, a worker joins at the end, or the first hands on.
use Rattle.std.proofs.Common.{◌≡◌, ℕ, zero, suc, ◌+◌, ◌-◌, ◌<◌, ◌≤◌, Bool, true, false, cond, eqb, sym, refl, ap, ◌∙◌, arith}
use Rattle.std.proofs.lemmas.Bool.{false≢true}
use Rattle.lock.specs.Calls.{upd}
use Rattle.queue.specs.Line.{Line, Order, empty, joined, handed}

-- ## At most sixteen

-- f without the value m, which the last place has if any
shift : (m k : ℕ) (f : ℕ → ℕ) → ℕ → ℕ
shift m k f i = cond (eqb (f i) m) (f k) (f i)

-- an injection of the numbers below n into those below m
fit : (m n : ℕ) (f : ℕ → ℕ) → ((i : ℕ) → i < n → f i < m) → ((i j : ℕ) → i < n → j < n → f i ≡ f j → i ≡ j) → n ≤ m
unfolding shift
fit zero zero f lt inj = omega arith
fit zero (suc k) f lt inj = absurd (omega (arith, lt 0 (omega arith)))
fit (suc m) zero f lt inj = omega arith
fit (suc m) (suc k) f lt inj = let r : k ≤ m = fit m k (shift m k f) below apart in omega (arith, r)
  where
    below : (i : ℕ) → i < k → shift m k f i < m
    below i a = let b : i < suc k = omega arith in let z : k < suc k = omega arith in grind (arith, lt i b, lt k z, inj i k b z)

    apart : (i j : ℕ) → i < k → j < k → shift m k f i ≡ shift m k f j → i ≡ j
    apart i j a c e = let b : i < suc k = omega arith in let d : j < suc k = omega arith in let z : k < suc k = omega arith in
        grind (arith, inj i j b d, inj i k b z, inj j k d z)

module _ {o : Line} {queued : ℕ → Bool} (h : Order o queued) where
  pub few : o.end ≤ o.first + 16
  few = let r : o.end - o.first ≤ 16 = fit 16 (o.end - o.first) (λ i. o.who (o.first + i)) below apart in omega (arith, r, h.sorted)
    where
      at : (i : ℕ) → i < o.end - o.first → (queued (o.who (o.first + i)) ≡ true) × (o.rank (o.who (o.first + i)) ≡ o.first + i)
      at i l = h.member (o.first + i) (omega arith) (omega arith)

      below : (i : ℕ) → i < o.end - o.first → o.who (o.first + i) < 16
      below i l = (h.within (o.who (o.first + i)) (at i l).0).0

      apart : (i j : ℕ) → i < o.end - o.first → j < o.end - o.first → o.who (o.first + i) ≡ o.who (o.first + j) → i ≡ j
      apart i j a b e = omega (arith, (at i a).1, (at j b).1, ap o.rank e)

  pub same_rank : (v w : ℕ) → queued v ≡ true → queued w ≡ true → o.rank v ≡ o.rank w → v ≡ w
  same_rank v w a b e = sym (h.within v a).3 ∙ (ap o.who e ∙ (h.within w b).3)

  -- ## One worker moves

  pub stays : (after : ℕ → Bool) → ((v : ℕ) → after v ≡ queued v) → Order o after
  stays after same = record {
    sorted = h.sorted;
    within = λ v a. h.within v (sym (same v) ∙ a);
    member = λ r a b. let m = h.member r a b in (same (o.who r) ∙ m.0, m.1);
  }

  module _ (w : ℕ) (after : ℕ → Bool) where
    pub joins : w < 16 → queued w ≡ false → ((v : ℕ) → after v ≡ upd queued w true v) → Order (joined o w) after
    joins lt out is = record {
      sorted = omega (arith, h.sorted);
      within = λ v a. grind (arith, is v, h.within v, h.sorted);
      member = λ r a b. grind (arith, is (upd o.who o.end w r), h.member r);
    }

    pub hands_on : queued w ≡ true → o.rank w ≡ o.first → ((v : ℕ) → after v ≡ upd queued w false v) → Order (handed o) after
    hands_on in-it first is = record {
      sorted = omega (arith, h.within w in-it);
      within = λ v a. grind (arith, is v, h.within v, h.within w);
      member = λ r a b. grind (arith, is (o.who r), h.member r);
    }

-- a worker that is not queued leaves room in the line
pub room : {o : Line} {queued : ℕ → Bool} → Order o queued → (w : ℕ) → w < 16 → queued w ≡ false → o.end < o.first + 16
room {queued = queued} h w lt out = omega (arith, few (joins h w (upd queued w true) lt out (λ v. refl)))

pub nobody : (queued : ℕ → Bool) → ((v : ℕ) → queued v ≡ false) → Order empty queued
nobody queued none = record {
  sorted = omega arith;
  within = λ v a. absurd (false≢true (sym (none v) ∙ a));
  member = λ r a b. absurd (omega arith);
}
