-- A worker's count is 0 or 1, and all counts together come to at most 1.
use Rattle.std.proofs.Common.{◌≡◌, ℕ, zero, suc, ◌-◌, ◌<◌, ◌≤◌, refl, ⊎_elim, arith}
use Rattle.std.proofs.lemmas.Bool.{cases_lt}
use Rattle.lock.specs.declared.interface.Lock.{Ghosts}
use Rattle.lock.specs.declared.place.Place.{Place}
use Rattle.lock.specs.declared.place.Place.TheVariants.{Out, Waiting, Inside, Leaving}
use Rattle.lock.specs.Rules.{Sound}
use Rattle.book.specs.declared.Book.{Book}
use Rattle.book.specs.History.{History, count, counts}
use Rattle.book.specs.Life.{Life}
use Rattle.book.specs.Law.{Counted}
use Rattle.book.proofs.Standing.{At, stands}

zero_or_one : (p : Place) (l e u d : ℕ) → At p l e u d → (u ≤ e) × (e - u ≤ 1)
zero_or_one Out l e u d a = (omega arith, omega arith)
zero_or_one Waiting l e u d a = (omega arith, omega arith)
zero_or_one Inside l e u d a = (omega arith, omega arith)
zero_or_one Leaving l e u d a = (omega arith, omega arith)

pub inside_count : (p : Place) (l e u d : ℕ) → At p l e u d → 1 ≤ e - u → p ≡ Inside
inside_count Out l e u d a k = absurd (omega arith)
inside_count Waiting l e u d a k = absurd (omega arith)
inside_count Inside l e u d a k = refl
inside_count Leaving l e u d a k = absurd (omega arith)

module _ (h : History) where
  some_below : (n : ℕ) → 1 ≤ counts n h → (w : ℕ) × (w < n) × (1 ≤ count w h)
  some_below zero k = absurd (omega arith)
  some_below (suc n) k = ⊎_elim (λ l. let r = some_below n (omega arith) in (r.0, omega (arith, r.1), r.2)) (λ l. (n, omega arith, l)) (cases_lt (count n h) 1)

  at_most_one : ((w : ℕ) → count w h ≤ 1) → ((v w : ℕ) → 1 ≤ count v h → 1 ≤ count w h → v ≡ w) → (n : ℕ) → counts n h ≤ 1
  at_most_one single alone zero = omega arith
  at_most_one single alone (suc n) = ⊎_elim
      (λ l. omega (arith, single n))
      (λ l. ⊎_elim (λ m. omega (arith, at_most_one single alone n)) (λ m. let r = some_below n l in absurd (omega (arith, alone r.0 n r.2 m, r.1))) (cases_lt (count n h) 1))
      (cases_lt (counts n h) 1)

pub counted : {S : Type 0} (lock : Ghosts S) → ((s : S) → Sound lock.BOUND (lock.places s) (lock.pair s)) → {h : History} {b : Book S} → Life lock h b → Counted h
counted {S} lock sound {h} {b} life = record {
  ordered = λ w. (zero_or_one _ _ _ _ _ (stands lock life w)).0;
  single = single;
  together = at_most_one h single (λ v w k l. (sound b.lock).alone v w (inside_count _ _ _ _ _ (stands lock life v) k) (inside_count _ _ _ _ _ (stands lock life w) l));
}
  where
    single : (w : ℕ) → count w h ≤ 1
    single w = (zero_or_one _ _ _ _ _ (stands lock life w)).1
