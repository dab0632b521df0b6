-- A lock of an algorithm is its words, so it keeps the rules as they do.
use Rattle.std.proofs.Common.{◌≡◌, ℕ, List, Option, Result, sym, subst}
use mathlib.Core.Logic.{∥∥₁_map, ∥∥₁_prop}
use mathlib.Core.HLevel.{is_prop→PathP}
use Rattle.lock.specs.declared.place.Place.{Place}
use Rattle.lock.specs.declared.answer.Answer.{Answer}
use Rattle.lock.specs.declared.refusal.Refusal.{Refusal}
use Rattle.lock.specs.declared.algorithm.Algorithm.{Ghosts}
use Rattle.lock.specs.declared.spinlock.Spinlock.{Spinlock}
use Rattle.lock.specs.Rules.{Request, Obeys, Sound}
use Rattle.lock.specs.Calls.{Outcome}
use Rattle.lock.specs.Algorithms.{places, pair, Keeps, Lawful}
use Rattle.lock.specs.Single.{sound_prop}

-- a lock that is its words obeys where they do
pub lifted : {L S : Type 0} (places : S → List Place) (pair : S → Option (ℕ × ℕ)) (words : L → S) → ((x y : L) → words x ≡ words y → x ≡ y)
    → (q : Request) (w : ℕ) (x y : L) (r : Result Answer Refusal) (o : Outcome S) → (words y, r) ≡ o → Obeys places pair q w o.1 (words x) o.0
    → Obeys (λ z. places (words z)) (λ z. pair (words z)) q w r x y
lifted {S = S} places pair words one q w x y r o is k =
    let K : Outcome S → Type 0 = λ p. Obeys places pair q w p.1 (words x) p.0 in
    let m : Obeys places pair q w r (words x) (words y) = subst K (sym is) k in
    record { unknown = m.unknown; caller = m.caller; others = m.others; refused = λ e k. one y x (m.refused e k); approach = m.approach; due_step = m.due_step }

module _ {S : Type 0} {a : Ghosts S} where
  same_lock : (s t : Spinlock S a) → s.words ≡ t.words → s ≡ t
  same_lock s t e = λ i. record {
    words = e i;
    holds = is_prop→PathP (λ j. ∥ a.Holds (e j) ∥₁) (λ j. ∥∥₁_prop) s.holds t.holds i;
    sound = is_prop→PathP (λ j. Sound a.BOUND (places a (e j)) (pair a (e j))) (λ j. sound_prop _ _ _) s.sound t.sound i;
  }

  -- a call that leaves the words x and answers r
  module _ (laws : Lawful a) (q : Request) (w : ℕ) (s : Spinlock S a) (x : S) (r : Result Answer Refusal) (o : Outcome S) (is : (x, r) ≡ o) (keeps : Keeps a q w s.words o) where
    held : ∥ a.Holds x ∥₁
    held = subst (λ p. ∥ a.Holds p.0 ∥₁) (sym is) (∥∥₁_map s.holds keeps.0)

    pub kept : record { holds : ∥ a.Holds x ∥₁; sound : Sound a.BOUND (places a x) (pair a x) }
    kept = record { holds = held; sound = laws.sound x held }

  pub told : (q : Request) (w : ℕ) (s t : Spinlock S a) (r : Result Answer Refusal) (o : Outcome S) → (t.words, r) ≡ o → Keeps a q w s.words o
      → Obeys (λ z. places a z.words) (λ z. pair a z.words) q w r s t
  told q w s t r o is keeps = lifted (places a) (pair a) (λ (z : Spinlock S a). z.words) same_lock q w s t r o is keeps.1
