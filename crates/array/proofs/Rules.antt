-- Each call of the array lock keeps the facts of its words and the rules of a lock.
use Rattle.std.proofs.Common.{◌≡◌, ℕ, zero, suc, ◌+◌, ◌%◌, ◌<◌, Bool, true, false, cond, eqb, ◌∷◌, length, get_or, set, replicate, Some, None, Ok, Option, sym, refl, ap, ◌∙◌, subst, arith, length-set, get_or-set_other}
use mathlib.Core.Logic.{∥∥₁_elim}
use mathlib.Core.HLevel.{⊥_prop}
use native.Mathlib.Bridge.{le_prop}
use native.Mathlib.Nat.{ℕ_set}
use lib.ListN.{get_or-replicate}
use Rattle.std.proofs.lemmas.Bool.{ne_eqb, eqb-true, false≢true}
use Rattle.lock.specs.declared.answer.Answer.TheVariants.{Done}
use Rattle.lock.specs.Rules.{Request, locking, unlocking, stepping}
use Rattle.lock.specs.Calls.{Outcome, upd}
use Rattle.lock.specs.Algorithms.{locked, unlocked, stepped}
use Rattle.lock.proofs.Small.{all_same}
use Rattle.lock.proofs.Labelled as labelled
use Rattle.lock.proofs.Labelled.{read_set}
use Rattle.queue.specs.declared.stage.Stage.TheVariants.{Away, Coming, Queued, Ready, Within, Leaving}
use Rattle.queue.specs.Stages.{in_line, at_front}
use Rattle.queue.specs.Line.{Line, empty, joined, handed}
use Rattle.queue.proofs.Written.{mapped_set, rewritten}
use Rattle.queue.proofs.Staging.{nobody}
use Rattle.queue.proofs.Turnwise as turnwise
use Rattle.array.specs.declared.words.Label.{Label}
use Rattle.array.specs.declared.words.Label.TheVariants.{Out, W0, W1, W2, Inside, X0}
use Rattle.array.specs.declared.words.Worker.{Worker}
use Rattle.array.specs.declared.words.Words.{Words}
use Rattle.array.specs.contracts.words.WordsAlgorithm.TheImpl as algorithm
use Rattle.array.specs.Accesses.{new_words, outside, worker, label, number, opened, stage_at, stage, put, access}
use Rattle.array.specs.Distance.{turn_at, turn}
use Rattle.array.specs.Facts.{Sixteen, holds, Counted, Holds}
use Rattle.array.proofs.Keeps.{its_number, first_open, moved, drawn, shuts, handed_on}
use Rattle.array.proofs.Kind.{kind, in_range}

sixteen_prop : (s : Words) (p q : Sixteen s) → p ≡ q
sixteen_prop s p q = λ i. (ℕ_set _ _ p.0 q.0 i, ℕ_set _ _ p.1 q.1 i)

-- ## The calls

module _ (words : Words) (w : ℕ) (facts : ∥ Holds words ∥₁) where
  sixteen : Sixteen words
  sixteen = ∥∥₁_elim facts (sixteen_prop words) (λ f. f.0)

  abbrev pub Good : Request → Outcome Words → Type 0
  Good q o = turnwise.Good kind words facts w q o

  module _ (x : Words) (m : Option ℕ) (l : Label) (to : x.workers ≡ set words.workers w (record { number = m; label = l })) (lt : w < 16) where
    read : {A : Type 0} (g : Worker → A) → (λ v. g (worker x v)) ≡ upd (λ v. g (worker words v)) w (g (record { number = m; label = l }))
    read g = ap (λ a v. g (get_or a v outside)) to ∙ mapped_set g words.workers w _ outside (omega (arith, sixteen))

    stages : stage x ≡ upd (stage words) w (stage_at l)
    stages = read (λ y. stage_at y.label)

    -- the line becomes p of what it was, the slots O and the numbers N
    keeps : (O : ℕ → Bool) (N : ℕ → Option ℕ) → opened x ≡ O → upd (number words) w m ≡ N → length x.slots ≡ 16
        → (p : Line → Line) → ((o : Line) → Counted words.next (opened words) (number words) (stage words) o → Counted x.next O N (upd (stage words) w (stage_at l)) (p o)) → Holds words → Holds x
    keeps O N slots numbers many p g (len, (o, f)) = (
      (ap length to ∙ (length-set words.workers w _ ∙ len.0), many),
      (
        p o,
        subst (λ P. Counted x.next P (number x) (stage x) (p o)) (sym slots)
            (subst (λ M. Counted x.next O M (stage x) (p o)) (sym (read (λ y. y.number) ∙ numbers)) (subst (λ h. Counted x.next O N h (p o)) (sym stages) (g o f))),
      ),
    )

  -- only the label is written
  relabels : (l : Label) (lt : w < 16) → ((o : Line) → Counted words.next (opened words) (number words) (stage words) o → Counted words.next (opened words) (number words) (upd (stage words) w (stage_at l)) o) → Holds words → Holds (put words w l)
  relabels l lt g = keeps (put words w l) (number words w) l refl lt (opened words) (number words) refl (rewritten (number words) w) sixteen.1 (λ o. o) g

  relabelled : (l : Label) → w < 16 → stage (put words w l) ≡ upd (stage words) w (stage_at l)
  relabelled l = stages (put words w l) (number words w) l refl

  module _ (lt : w < 16) where
    -- whoever is in the line has a slot number
    no_number : in_line (stage words w) ≡ true → number words w ≡ None → ⊥
    no_number q e = ∥∥₁_elim facts ⊥_prop (λ (n, (o, f)). let z : None ≡ Some (o.rank w % 16) = sym e ∙ its_number f w q in grind (arith, z))

    its_slot : {o : Line} → Counted words.next (opened words) (number words) (stage words) o → (k : ℕ) → in_line (stage words w) ≡ true → number words w ≡ Some k → o.rank w % 16 ≡ k
    its_slot {o} f k q e = let z : Some (o.rank w % 16) ≡ Some k = sym (its_number f w q) ∙ e in cc

    abbrev after : Label → Option ℕ → Words
    after l m = (access l m words w).0

    step_at : (l : Label) (m : Option ℕ) → label words w ≡ l → number words w ≡ m → Good stepping (access l m words w)
    unfolding keeps
    step_at Out m at has = turnwise.out kind words facts w lt (ap stage_at at)
    step_at W0 m at has = turnwise.joins kind words facts w lt (after W0 m)
        (keeps (after W0 m) (Some (words.next % 16)) W1 refl lt (opened words) (upd (number words) w (Some (words.next % 16))) refl refl sixteen.1 (λ o. joined o w) (λ o f. drawn f w lt (ap stage_at at)))
        (ap stage_at at) (stages (after W0 m) (Some (words.next % 16)) W1 refl lt) (λ f. refl)
    step_at W1 None at has = turnwise.waits kind words facts w lt (ap stage_at at) (ap (λ x. turn_at words.next (opened words) x (number words w)) (ap stage_at at) ∙ ap (turn_at words.next (opened words) Queued) has)
    step_at W1 (Some k) at has = go (opened words k) refl
      where
        mine : (b : Bool) → opened words k ≡ b → turn words w ≡ b
        mine b e = ap (λ x. turn_at words.next (opened words) x (number words w)) (ap stage_at at) ∙ (ap (turn_at words.next (opened words) Queued) has ∙ e)

        queued : in_line (stage words w) ≡ true
        queued = ap in_line (ap stage_at at)

        go : (b : Bool) → opened words k ≡ b → Good stepping (cond {A = Outcome Words} b (put words w W2, Ok Done) (words, Ok Done))
        go true e = turnwise.readies kind words facts w lt (put words w W2)
            (relabels W2 lt (λ o f. moved f w Ready (sym queued) (λ a. sym (eqb-true _ _ (sym (first_open f w (ap stage_at at)) ∙ (ap (opened words) (its_slot f k queued has) ∙ e)))) (sym (ap holds (ap stage_at at)))))
            (ap stage_at at) (mine true e) (relabelled W2 lt)
        go false e = turnwise.waits kind words facts w lt (ap stage_at at) (mine false e)
    step_at W2 None at has = absurd (no_number (ap in_line (ap stage_at at)) has)
    step_at W2 (Some k) at has = turnwise.enters kind words facts w lt (after W2 (Some k))
        (keeps (after W2 (Some k)) (number words w) Inside refl lt (upd (opened words) k false) (number words) (read_set words.slots k false false (omega (arith, sixteen, ∥∥₁_elim facts le_prop (λ f. in_range words f.1 w k has)))) (rewritten (number words) w)
        (length-set words.slots k false ∙ sixteen.1) (λ o. o)
        (λ o f. subst (λ j. Counted words.next (upd (opened words) j false) (number words) (upd (stage words) w Within) o) (its_slot f k (ap in_line (ap stage_at at)) has) (shuts f w (ap stage_at at))))
        (ap stage_at at) (stages (after W2 (Some k)) (number words w) Inside refl lt)
    step_at Inside m at has = turnwise.inside kind words facts w lt (ap stage_at at)
    step_at X0 None at has = absurd (no_number (ap in_line (ap stage_at at)) has)
    step_at X0 (Some k) at has = turnwise.hands_on kind words facts w lt (after X0 (Some k))
        (keeps (after X0 (Some k)) None Out refl lt (upd (opened words) ((k + 1) % 16) true) (upd (number words) w None)
        (read_set words.slots ((k + 1) % 16) true false (omega (arith, sixteen))) refl
        (length-set words.slots ((k + 1) % 16) true ∙ sixteen.1) handed
        (λ o f. subst (λ j. Counted words.next (upd (opened words) ((j + 1) % 16) true) (upd (number words) w None) (upd (stage words) w Away) (handed o)) (its_slot f k (ap in_line (ap stage_at at)) has) (handed_on f w 4 (ap stage_at at))))
        4 (ap stage_at at) (stages (after X0 (Some k)) None Out refl lt)

  pub lock_good : Good locking (locked algorithm.ghosts words w)
  lock_good = turnwise.locked kind words facts w (put words w W0) (relabelled W0)
      (λ lt at. relabels W0 lt (λ o f. moved f w Coming (sym (ap in_line at)) (λ a. absurd (false≢true a)) (sym (ap holds at))))
      (λ v ne. ap (λ y. turn_at words.next (opened words) (stage_at y.label) y.number) (get_or-set_other words.workers w v _ outside ne))

  pub unlock_good : Good unlocking (unlocked algorithm.ghosts words w)
  unlock_good = turnwise.unlocked kind words facts w (put words w X0) 4 (relabelled X0)
      (λ lt at. relabels X0 lt (λ o f. moved f w (Leaving 4) (sym (ap in_line at)) (λ a. f.staged.front w (ap at_front at)) (sym (ap holds at))))

  pub step_good : Good stepping (stepped algorithm.ghosts words w)
  step_good = labelled.looked (turnwise.kind kind) words facts stepping w _ (λ lt. step_at lt (label words w) (number words w) refl refl)

pub new_holds : Holds new_words
new_holds = (
  (refl, refl),
  (
    empty,
    record {
      staged = nobody _ (λ v. ap (λ y. stage_at y.label) (all_same 16 outside v));
      gives = refl;
      numbered = λ v. ap (λ y. y.number) (all_same 16 outside v) ∙ sym (ap (λ y. cond (in_line (stage_at y.label)) (Some 0) None) (all_same 16 outside v));
      shut = λ v h. absurd (false≢true (sym (ap (λ y. holds (stage_at y.label)) (all_same 16 outside v)) ∙ h));
      opens = λ h. slots;
    },
  ),
)
  where
    slots : (k : ℕ) → k < 16 → get_or (true ∷ replicate 15 false) k false ≡ eqb 0 k
    slots zero l = refl
    slots (suc k) l = get_or-replicate 15 k false false (omega arith) ∙ sym (ne_eqb 0 (suc k) (λ e. omega arith))
