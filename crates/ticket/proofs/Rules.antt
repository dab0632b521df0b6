-- Each call of the ticket lock keeps the facts of its words and the rules of a lock.
use Rattle.std.proofs.Common.{◌≡◌, ℕ, ◌<◌, Bool, true, false, cond, eqb, length, get_or, set, Some, None, Ok, sym, refl, ap, ◌∙◌, subst, arith, length-set, get_or-set_other}
use mathlib.Core.Logic.{∥∥₁_elim}
use native.Mathlib.Nat.{ℕ_set}
use Rattle.std.proofs.lemmas.Bool.{eq-eqb, ne_eqb, eqb-true, false≢true}
use Rattle.lock.specs.declared.answer.Answer.TheVariants.{Done}
use Rattle.lock.specs.Rules.{Request, locking, unlocking, stepping}
use Rattle.lock.specs.Calls.{Outcome, upd}
use Rattle.lock.specs.Algorithms.{locked, unlocked, stepped}
use Rattle.lock.proofs.Small.{all_same}
use Rattle.lock.proofs.Labelled as labelled
use Rattle.lock.proofs.Labelled.{read_set}
use Rattle.queue.specs.Stages.{in_line, at_front}
use Rattle.queue.specs.Line.{Line, empty, joined, handed}
use Rattle.queue.proofs.Written.{mapped_set}
use Rattle.queue.proofs.Staging.{nobody}
use Rattle.queue.proofs.Turnwise as turnwise
use Rattle.ticket.specs.declared.words.Label.{Label}
use Rattle.ticket.specs.declared.words.Label.TheVariants.{Out, W0, W1, W2, Inside, X0, X1}
use Rattle.ticket.specs.declared.words.Words.{Words}
use Rattle.ticket.specs.contracts.words.WordsAlgorithm.TheImpl as algorithm
use Rattle.ticket.specs.Accesses.{new_words, label, stage_at, stage, put, access}
use Rattle.ticket.specs.Distance.{turn_at, turn}
use Rattle.ticket.specs.Facts.{Sixteen, holding, Counted, Holds}
use Rattle.ticket.proofs.Keeps.{first_served, moved, other_free, drawn, served}
use Rattle.ticket.proofs.Kind.{within_holds, away_free, kind}

-- ## The calls

module _ (words : Words) (w : ℕ) (facts : ∥ Holds words ∥₁) where
  sixteen : Sixteen words
  sixteen = ∥∥₁_elim facts (ℕ_set _ _) (λ f. f.0)

  abbrev pub Good : Request → Outcome Words → Type 0
  Good q o = turnwise.Good kind words facts w q o

  module _ (x : Words) (l : Label) (at : x.at ≡ set words.at w l) (lt : w < 16) where
    labels : label x ≡ upd (label words) w l
    labels = ap (λ a v. get_or a v Out) at ∙ read_set words.at w l Out (omega (arith, sixteen))

    stages : stage x ≡ upd (stage words) w (stage_at l)
    stages = ap (λ a v. stage_at (get_or a v Out)) at ∙ mapped_set stage_at words.at w l Out (omega (arith, sixteen))

    -- the line becomes p of what it was
    keeps : (p : Line → Line) → ((o : Line) → Counted words.next words.serving words.holder (label words) o → Counted x.next x.serving x.holder (upd (label words) w l) (p o)) → Holds words → Holds x
    keeps p g (len, (o, f)) = (ap length at ∙ (length-set words.at w l ∙ len), (p o, subst (λ L. Counted x.next x.serving x.holder L (p o)) (sym labels) (g o f)))

  module _ (lt : w < 16) where
    abbrev after : Label → Words
    after l = (access l words w).0

    step_at : (l : Label) → label words w ≡ l → Good stepping (access l words w)
    unfolding keeps
    step_at Out at = turnwise.out kind words facts w lt (ap stage_at at)
    step_at W0 at = turnwise.joins kind words facts w lt (after W0) (keeps (after W0) (W1 words.next) refl lt (λ o. joined o w) (λ o f. drawn f w lt at))
        (ap stage_at at) (stages (after W0) (W1 words.next) refl lt) (λ f. refl)
    step_at (W1 n) at = go (eqb words.serving n) refl
      where
        mine : (b : Bool) → eqb words.serving n ≡ b → turn words w ≡ b
        mine b e = ap (turn_at words.next words.serving) at ∙ e

        go : (b : Bool) → eqb words.serving n ≡ b → Good stepping (cond {A = Outcome Words} b (put words w W2, Ok Done) (words, Ok Done))
        go true e = turnwise.readies kind words facts w lt (put words w W2)
            (keeps (put words w W2) W2 refl lt (λ o. o) (λ o f. moved f w W2 words.holder (sym (ap in_line (ap stage_at at)))
            (λ a. sym (eqb-true _ _ (sym (first_served f w n at) ∙ e))) (λ t k. grind (arith, k)) (sym (ap holding at) ∙ f.marks w) (λ v ne. refl)))
            (ap stage_at at) (mine true e) (stages (put words w W2) W2 refl lt)
        go false e = turnwise.waits kind words facts w lt (ap stage_at at) (mine false e)
    step_at W2 at = turnwise.enters kind words facts w lt (after W2)
        (keeps (after W2) Inside refl lt (λ o. o) (λ o f. moved f w Inside (Some w) (sym (ap in_line (ap stage_at at)))
        (λ a. f.staged.front w (ap at_front (ap stage_at at))) (λ t k. grind (arith, k)) (sym (eq-eqb w w refl))
        (λ v ne. other_free f w (ap at_front (ap stage_at at)) v ne ∙ sym (ne_eqb w v (λ e. ne (sym e))))))
        (ap stage_at at) (stages (after W2) Inside refl lt)
    step_at Inside at = turnwise.inside kind words facts w lt (ap stage_at at)
    step_at X0 at = turnwise.leaves kind words facts w lt (after X0)
        (keeps (after X0) X1 refl lt (λ o. o) (λ o f. moved f w X1 None (sym (ap in_line (ap stage_at at)))
        (λ a. f.staged.front w (ap at_front (ap stage_at at))) (λ t k. grind (arith, k)) refl
        (λ v ne. other_free f w (ap at_front (ap stage_at at)) v ne)))
        5 4 (ap stage_at at) (omega arith) (stages (after X0) X1 refl lt)
    step_at X1 at = turnwise.hands_on kind words facts w lt (after X1) (keeps (after X1) Out refl lt handed (λ o f. served f w at)) 4 (ap stage_at at) (stages (after X1) Out refl lt)

  pub lock_good : Good locking (locked algorithm.ghosts words w)
  lock_good = turnwise.locked kind words facts w (put words w W0) (stages (put words w W0) W0 refl)
      (λ lt at. keeps (put words w W0) W0 refl lt (λ o. o) (λ o f. moved f w W0 words.holder (sym (ap in_line at))
      (λ a. absurd (false≢true a)) (λ t k. grind (arith, k)) (sym (away_free (label words w) at) ∙ f.marks w) (λ v ne. refl)))
      (λ v ne. ap (turn_at words.next words.serving) (get_or-set_other words.at w v W0 Out ne))

  pub unlock_good : Good unlocking (unlocked algorithm.ghosts words w)
  unlock_good = turnwise.unlocked kind words facts w (put words w X0) 5 (stages (put words w X0) X0 refl)
      (λ lt at. keeps (put words w X0) X0 refl lt (λ o. o) (λ o f. moved f w X0 words.holder (sym (ap in_line at))
      (λ a. f.staged.front w (ap at_front at)) (λ t k. grind (arith, k)) (sym (within_holds (label words w) at) ∙ f.marks w) (λ v ne. refl)))

  pub step_good : Good stepping (stepped algorithm.ghosts words w)
  step_good = labelled.looked (turnwise.kind kind) words facts stepping w _ (λ lt. step_at lt (label words w) refl)

pub new_holds : Holds new_words
new_holds = (
  refl,
  (
    empty,
    record {
      staged = nobody _ (λ v. ap stage_at (all_same 16 Out v));
      gives = refl;
      serves = refl;
      drew = λ v t e. grind (arith, all_same 16 Out v, e);
      marks = λ v. ap holding (all_same 16 Out v);
    },
  ),
)
