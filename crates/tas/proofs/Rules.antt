-- Each call of the test-and-set lock keeps the facts of its words and the rules of a lock.
use Rattle.std.proofs.Common.{◌≡◌, ℕ, ◌<◌, true, Some, None, Ok, Option, sym, refl, ap, ◌∙◌, inl, inr, arith, length-set}
use mathlib.Core.Logic.{∥∥₁_elim}
use native.Mathlib.Nat.{ℕ_set}
use Rattle.std.proofs.lemmas.List.{get_or_past}
use Rattle.std.proofs.lemmas.Bool.{cases_lt, cases_eq, false≢true, eqb-true, eq-eqb, ne_eqb}
use Rattle.lock.specs.declared.place.Place.{Place}
use Rattle.lock.specs.declared.place.Place.TheVariants.{Out, Waiting, Inside, Leaving}
use Rattle.lock.specs.declared.answer.Answer.{Answer}
use Rattle.lock.specs.declared.answer.Answer.TheVariants.{Done, Entered, Left}
use Rattle.lock.specs.declared.refusal.Refusal.TheVariants.{Idle}
use Rattle.lock.specs.Rules.{Request, locking, unlocking, stepping, Leads}
use Rattle.lock.specs.Calls.{Outcome, names, upd}
use Rattle.lock.specs.Algorithms.{locked, unlocked, stepped}
use Rattle.lock.proofs.Pair.{SomeDistance, Fitting, Onward}
use Rattle.lock.proofs.Small.{all_same}
use Rattle.lock.proofs.Labelled as labelled
use Rattle.lock.proofs.Labelled.{Kind, Free, Waits, read_set, upd_same, upd_other}
use Rattle.tas.specs.declared.words.Words.{Words}
use Rattle.tas.specs.contracts.words.WordsAlgorithm.TheImpl as algorithm
use Rattle.tas.specs.Accesses.{new_words, label, mark, put, W0, access, Sixteen, holding, Holds}
use Rattle.tas.specs.Distance.{distance_at}

-- the distances, where L are the labels
abbrev pub distance_by : Words → (ℕ → Place) → ℕ → Option ℕ
distance_by s L v = distance_at (L v) s.holder

none_some : {d : ℕ} → None ≡ Some d → ⊥
none_some {d} e = let z : ◌≡◌ {A = ℕ} 0 1 = cc in omega arith

is_named : (o : Option ℕ) (w : ℕ) → names o w ≡ true → o ≡ Some w
is_named None w e = absurd (false≢true e)
is_named (Some h) w e = ap Some (eqb-true h w e)

module _ (s : Words) (f : Holds s) where
  -- who is inside or leaving is the one that the word names
  holder : (w : ℕ) → holding (label s w) ≡ true → s.holder ≡ Some w
  holder w e = is_named s.holder w (sym (f.1 w) ∙ e)

  held_by : (h : ℕ) → s.holder ≡ Some h → holding (label s h) ≡ true
  held_by h e = f.1 h ∙ (ap (λ o. names o h) e ∙ eq-eqb h h refl)

  below : (h : ℕ) → s.holder ≡ Some h → h < 16
  below h e = elim (cases_lt h 16) [
    | inl l ↦ l
    | inr l ↦ absurd (false≢true (sym (ap holding (get_or_past s.at h Out (omega (arith, f.0)))) ∙ held_by h e))
  ]

-- ## The distances at every state

some : (s : Words) → Holds s → Free (λ p. p) (label s) → Waits (λ p. p) (label s) → SomeDistance (distance_by s (label s))
some s f free (w, l, e) = by_word s.holder refl
  where
    by_place : (h : ℕ) → s.holder ≡ Some h → (p : Place) → label s h ≡ p → SomeDistance (distance_by s (label s))
    by_place h k Out i = absurd (false≢true (sym (ap holding i) ∙ held_by s f h k))
    by_place h k Waiting i = absurd (false≢true (sym (ap holding i) ∙ held_by s f h k))
    by_place h k Inside i = absurd (free h (below s f h k) i)
    by_place h k Leaving i = (h, 2, below s f h k, ap (λ p. distance_at p s.holder) i)

    by_word : (o : Option ℕ) → s.holder ≡ o → SomeDistance (distance_by s (label s))
    by_word None k = (w, 1, l, ap (λ p. distance_at p s.holder) e ∙ ap (distance_at Waiting) k)
    by_word (Some h) k = by_place h k (label s h) refl

fitting : (p : Place) (o : Option ℕ) (d : ℕ) → distance_at p o ≡ Some d → Fitting 2 p d
fitting Out o d e = absurd (none_some e)
fitting Waiting None d e = let k : 1 ≡ d = cc in (inl refl, omega arith, omega arith)
fitting Waiting (Some h) d e = absurd (none_some e)
fitting Inside o d e = absurd (none_some e)
fitting Leaving o d e = let k : 2 ≡ d = cc in (inr refl, omega arith, omega arith)

pub kind : Kind label (λ p. p) distance_by mark 2 Holds
kind = record {
  some = some;
  fitting = λ s v d e. fitting (label s v) s.holder d e;
  sole = λ s f v w a b. let z : Some v ≡ Some w = sym (holder s f v (ap holding a)) ∙ holder s f w (ap holding b) in cc;
  held = λ s f w lt at. sym (f.1 w) ∙ ap holding at;
  free = λ s f w lt at. sym (f.1 w) ∙ ap holding at;
}

-- ## The calls

module _ (s : Words) (w : ℕ) (lt : w < 16) (h : Option ℕ) (p : Place) where
  labels : Sixteen s → label (put s h w p) ≡ upd (label s) w p
  labels n = read_set s.at w p Out (omega (arith, n))

  -- a write keeps what holds where the word then names the right ones
  written : (f : Holds s) → holding p ≡ names h w → ((v : ℕ) → (v ≡ w → ⊥) → names s.holder v ≡ names h v) → Holds (put s h w p)
  written f here there = (
    length-set s.at w p ∙ f.0,
    λ v. elim (cases_eq v w) [
      | inl e ↦ ap (λ L. holding (L v)) (labels f.0) ∙ (ap (λ x. holding (upd (label s) w p x)) e ∙ (ap holding (upd_same (label s) w p) ∙ (here ∙ ap (names h) (sym e))))
      | inr ne ↦ ap (λ L. holding (L v)) (labels f.0) ∙ (ap holding (upd_other (label s) w v p ne) ∙ (f.1 v ∙ there v ne))
    ],
  )

module _ (s : Words) (w : ℕ) (ok : ∥ Holds s ∥₁) where
  abbrev pub Good : Request → Outcome Words → Type 0
  Good q o = labelled.Good kind s ok q w o

  sixteen : Sixteen s
  sixteen = ∥∥₁_elim ok (ℕ_set _ _) (λ f. f.0)

  -- a label written over words with the holder h
  goes : (q : Request) (a : Answer) (h : Option ℕ) (p l : Place) → w < 16 → label s w ≡ p → Leads q p (Ok a) l → (Holds s → Holds (put s h w l))
      → (Holds s → Free (λ x. x) (label s) → Free (λ x. x) (upd (label s) w l) → Waits (λ x. x) (upd (label s) w l) → Onward w (distance_by s (label s)) (distance_by (put s h w l) (upd (label s) w l)))
      → Good q (put s h w l, Ok a)
  goes q a h p l lt at leads keep on = labelled.goes kind s ok q w lt p at (put s h w l) a l (labels s w lt h l sixteen) leads keep on

  step_at : w < 16 → (p : Place) → label s w ≡ p → Good stepping (access p s w)
  step_at lt Out at = labelled.refused kind s ok stepping w lt Out at Idle (refl, refl)
  step_at lt Waiting at = by_word s.holder refl
    where
      by_word : (o : Option ℕ) → s.holder ≡ o → Good stepping (W0 o s w)
      by_word None k = goes stepping Entered (Some w) Waiting Inside lt at refl
          (λ f. written s w lt (Some w) Inside f (sym (eq-eqb w w refl)) (λ v ne. ap (λ o. names o v) k ∙ sym (ne_eqb w v (λ e. ne (sym e)))))
          (λ f n m. absurd (m w lt (upd_same (label s) w Inside)))
      by_word (Some h) k = labelled.spins kind s ok stepping w lt Waiting at Done refl (λ f. record {
        others = λ v d l ne e. (v, d, l, e, omega arith);
        own = λ d e. absurd (none_some (sym (ap (λ p. distance_at p s.holder) at ∙ ap (distance_at Waiting) k) ∙ e));
      })
  step_at lt Inside at = labelled.refused kind s ok stepping w lt Inside at Idle (refl, refl)
  step_at lt Leaving at = goes stepping Left None Leaving Out lt at refl
      (λ f. written s w lt None Out f refl (λ v ne. ap (λ o. names o v) (mine f) ∙ ne_eqb w v (λ e. ne (sym e))))
      (λ f n m z. record {
        others = λ v d l ne e. absurd (alone f v ne (label s v) refl d e);
        own = λ d e. (z.0, 1, z.1, ap (λ p. distance_at p None) z.2, let k : ◌≡◌ {A = Option ℕ} (Some 2) (Some d) = sym (ap (λ p. distance_at p s.holder) at) ∙ e in let j : 2 ≡ d = cc in omega arith);
      })
    where
      mine : Holds s → s.holder ≡ Some w
      mine f = holder s f w (ap holding at)

      -- while w leaves, nobody else is at a distance
      alone : Holds s → (v : ℕ) → (v ≡ w → ⊥) → (p : Place) → label s v ≡ p → (d : ℕ) → distance_at p s.holder ≡ Some d → ⊥
      alone f v ne Out i d e = none_some e
      alone f v ne Waiting i d e = none_some (sym (ap (distance_at Waiting) (mine f)) ∙ e)
      alone f v ne Inside i d e = none_some e
      alone f v ne Leaving i d e = ne (let z : Some v ≡ Some w = sym (holder s f v (ap holding i)) ∙ mine f in cc)

  pub lock_good : Good locking (locked algorithm.ghosts s w)
  lock_good = labelled.locked kind s ok w (put s s.holder w Waiting) Waiting (λ lt. labels s w lt s.holder Waiting sixteen) refl
      (λ lt at f. written s w lt s.holder Waiting f (sym (ap holding at) ∙ f.1 w) (λ v ne. refl))
      (λ v ne. ap (λ p. distance_at p s.holder) (upd_other (label s) w v Waiting ne))

  pub unlock_good : Good unlocking (unlocked algorithm.ghosts s w)
  unlock_good = labelled.unlocked kind s ok w (put s s.holder w Leaving) Leaving (λ lt. labels s w lt s.holder Leaving sixteen) refl
      (λ lt at f. written s w lt s.holder Leaving f (sym (ap holding at) ∙ f.1 w) (λ v ne. refl))

  pub step_good : Good stepping (stepped algorithm.ghosts s w)
  step_good = labelled.looked kind s ok stepping w _ (λ lt. step_at lt (label s w) refl)

pub new_holds : Holds new_words
new_holds = (refl, λ w. ap holding (all_same 16 Out w))
