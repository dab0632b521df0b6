-- Each call of the mcs lock keeps the facts of its words and the rules of a lock.
use Rattle.std.proofs.Common.{◌≡◌, ℕ, ◌<◌, Bool, true, false, cond, eqb, length, get_or, set, Some, None, Ok, Option, sym, refl, ap, ◌∙◌, subst, arith, length-set}
use mathlib.Core.Logic.{∥∥₁_elim}
use native.Mathlib.Nat.{ℕ_set}
use Rattle.std.proofs.lemmas.Bool.{eqb-true, eq-eqb, false≢true}
use Rattle.lock.specs.declared.place.Place.{Place}
use Rattle.lock.specs.declared.place.Place.TheVariants as places
use Rattle.lock.specs.declared.answer.Answer.{Answer}
use Rattle.lock.specs.declared.answer.Answer.TheVariants.{Done, Entered, Left}
use Rattle.lock.specs.declared.refusal.Refusal.TheVariants.{Idle, Busy, Held}
use Rattle.lock.specs.Rules.{Request, locking, unlocking, stepping, Leads}
use Rattle.lock.specs.Calls.{Outcome, locks, upd}
use Rattle.lock.specs.Algorithms.{locked, unlocked, stepped}
use Rattle.lock.proofs.Pair.{Onward}
use Rattle.lock.proofs.Small.{all_same, never}
use Rattle.lock.proofs.Labelled as labelled
use Rattle.lock.proofs.Labelled.{Kind, Free, Waits, read_set, upd_same}
use Rattle.queue.specs.Line.{Line, empty, joined, handed}
use Rattle.queue.proofs.Ordering.{same_rank, nobody}
use Rattle.rows.proofs.Lending.{read_with}
use Rattle.mcs.specs.declared.words.Label.{Label}
use Rattle.mcs.specs.declared.words.Label.TheVariants.{Out, W0, W1, W2, W3, W4, W5, Inside, X0, X1, X2, X3, X4}
use Rattle.mcs.specs.declared.words.Node.{Node}
use Rattle.mcs.specs.declared.words.Words.{Words}
use Rattle.mcs.specs.contracts.words.WordsAlgorithm.TheImpl as algorithm
use Rattle.mcs.specs.Accesses.{new_words, blank, label, place_of, place, node, set_last, set_node, put, mark, answer_of, answered, moved, swapped, linked, ends, access}
use Rattle.mcs.specs.Facts.{Sixteen, queued, ahead, link, Stands, Chained, Holds}
use Rattle.mcs.proofs.Keeps.{standing, preceded, heir, keep_wait, keep_lock, keep_unlock, keep_W0, keep_alone, keep_W1, keep_W2, keep_W3, keep_W4, keep_W5, keep_X0, keep_linked, more, keep_X1, keep_last, keep_X3, keep_X4}
use Rattle.mcs.proofs.Nearing.{distances, fitting, some, on_lock, on_W0, on_alone, on_W1, on_W2, on_W3, on_wait, on_W4, on_X0, on_link, on_X1, on_spin, on_X2, on_X3, on_X4, on_last}

-- the distances, where L are the labels
abbrev pub distance_by : Words → (ℕ → Label) → ℕ → Option ℕ
distance_by s L = distances s.last (node s) L

inside_is : (l : Label) → place_of l ≡ places.Inside → l ≡ Inside
inside_is Inside e = refl
inside_is _ e = grind (arith, e)

out_is : (l : Label) → place_of l ≡ places.Out → l ≡ Out
out_is Out e = refl
out_is _ e = grind (arith, e)

-- a worker in the line
in_line : (s : Words) (f : Holds s) (w : ℕ) → queued (label s w) ≡ true → w < 16
in_line s f w q = (f.1.1.order.within w q).0

pub kind : Kind label place_of distance_by mark 10 Holds
kind = record {
  some = λ s f. some f.1.1;
  fitting = λ s v. fitting s.last (node s v) (label s) (label s v);
  sole = λ s f v w a b.
      let h = f.1.1 in
      let i = inside_is (label s v) a in
      let j = inside_is (label s w) b in
      same_rank h.order v w (ap queued i) (ap queued j) ((h.stands v (in_line s f v (ap queued i))).front (ap ahead i) ∙ sym ((h.stands w (in_line s f w (ap queued j))).front (ap ahead j)));
  held = λ s f w lt at. (standing f.1.1 w lt Inside (inside_is (label s w) at)).flag;
  free = λ s f w lt at. (standing f.1.1 w lt Out (out_is (label s w) at)).flag;
}

-- ## The calls

module _ (s : Words) (w : ℕ) (ok : ∥ Holds s ∥₁) where
  abbrev pub Good : Request → Outcome Words → Type 0
  Good q o = labelled.Good kind s ok q w o

  sixteen : Sixteen s
  sixteen = ∥∥₁_elim ok (ℕ_set _ _) (λ f. f.0)

  module _ (x : Words) (l : Label) (to : x.at ≡ set s.at w l) (lt : w < 16) where
    labels : label x ≡ upd (label s) w l
    labels = ap (λ a v. get_or a v Out) to ∙ read_set s.at w l Out (omega (arith, sixteen))

    -- what holds of x, with its nodes as seen
    holding : (nodes : ℕ → Node) → node x ≡ nodes → (o : Line) × Chained x.last nodes (upd (label s) w l) o → Holds x
    holding nodes ns (o, h) = (
      ap length to ∙ (length-set s.at w l ∙ sixteen),
      (o, subst (λ L. Chained x.last (node x) L o) (sym labels) (subst (λ m. Chained x.last m (upd (label s) w l) o) (sym ns) h)),
    )

    -- an access that leaves x
    goes : (q : Request) (a : Answer) (k : Label) (nodes : ℕ → Node) → label s w ≡ k → Leads q (place_of k) (Ok a) (place_of l) → (Holds s → node x ≡ nodes)
        → ((f : Holds s) → (o : Line) × Chained x.last nodes (upd (label s) w l) o)
        → ((f : Holds s) → Free place_of (label s) → Free place_of (upd (label s) w l) → Waits place_of (upd (label s) w l) → Onward w (distance_by s (label s)) (distances x.last nodes (upd (label s) w l)))
        → Good q (x, Ok a)
    goes q a k nodes at leads ns keep on = labelled.goes kind s ok q w lt (place_of k) (ap place_of at) x a l labels leads
        (λ f. holding nodes (ns f) (keep f))
        (λ f free free' waits. subst (λ m. Onward w (distance_by s (label s)) (distances x.last m (upd (label s) w l))) (sym (ns f)) (on f free free' waits))

  -- what a step at a label leaves
  abbrev at_label : Label → Outcome Words
  at_label l = answered (answer_of l) s (moved (access l s w) w)

  module _ (lt : w < 16) where
    -- an access that writes the own label alone
    passes : (a : Answer) (k l : Label) → label s w ≡ k → Leads stepping (place_of k) (Ok a) (place_of l)
        → ((f : Holds s) → Chained s.last (node s) (upd (label s) w l) f.1.0)
        → ((f : Holds s) → Onward w (distance_by s (label s)) (distances s.last (node s) (upd (label s) w l))) → Good stepping (put s w l, Ok a)
    passes a k l at leads keep on = goes (put s w l) l refl lt stepping a k (node s) at leads (λ f. refl) (λ f. (f.1.0, keep f)) (λ f n m z. on f)

    -- one that writes the node of n
    writes : (a : Answer) (k l : Label) (n : ℕ) (x : Node) → label s w ≡ k → Leads stepping (place_of k) (Ok a) (place_of l) → (Holds s → n < 16)
        → ((f : Holds s) → (o : Line) × Chained s.last (upd (node s) n x) (upd (label s) w l) o)
        → ((f : Holds s) → Free place_of (upd (label s) w l) → Onward w (distance_by s (label s)) (distances s.last (upd (node s) n x) (upd (label s) w l)))
        → Good stepping (put (set_node s n x) w l, Ok a)
    writes a k l n x at leads in-it keep on = goes (put (set_node s n x) w l) l refl lt stepping a k (upd (node s) n x) at leads (λ f. read_with s.nodes n x blank (in-it f)) keep (λ f free m z. on f m)

    step_at : (l : Label) → label s w ≡ l → Good stepping (at_label l)
    step_at Out at = labelled.refused kind s ok stepping w lt places.Out (ap place_of at) Idle (refl, refl)
    step_at W0 at = writes Done W0 W1 w _ at refl (λ f. lt) (λ f. (f.1.0, keep_W0 f.1.1 w lt at)) (λ f m. on_W0 f.1.1 w lt at)
    step_at W1 at = by_last s.last refl
      where
        by_last : (l : Option ℕ) → s.last ≡ l → Good stepping (put (set_last s (Some w)) w (swapped l), Ok Done)
        by_last None e = goes (put (set_last s (Some w)) w W5) W5 refl lt stepping Done W1 (node s) at refl (λ f. refl)
            (λ f. (joined f.1.0 w, keep_alone f.1.1 w lt at e)) (λ f n m z. on_alone f.1.1 w lt at)
        by_last (Some p) e = goes (put (set_last s (Some w)) w (W2 p)) (W2 p) refl lt stepping Done W1 (node s) at refl (λ f. refl)
            (λ f. (joined f.1.0 w, keep_W1 f.1.1 w lt p at e)) (λ f n m z. on_W1 f.1.1 w lt p at e)
    step_at (W2 p) at = writes Done (W2 p) (W3 p) w _ at refl (λ f. lt) (λ f. (f.1.0, keep_W2 f.1.1 w lt p at)) (λ f m. on_W2 f.1.1 w lt p at)
    step_at (W3 p) at = writes Done (W3 p) W4 p _ at refl (λ f. (preceded f.1.1 w lt p (ap link at)).0) (λ f. (f.1.0, keep_W3 f.1.1 w lt p at)) (λ f m. on_W3 f.1.1 w lt p at)
    step_at W4 at = by_flag (node s w).locked refl
      where
        by_flag : (b : Bool) → (node s w).locked ≡ b → Good stepping (put s w (cond b W4 W5), Ok Done)
        by_flag true e = passes Done W4 W4 at refl (λ f. keep_wait f.1.1 w lt W4 at) (λ f. on_wait f.1.1 w lt at e)
        by_flag false e = passes Done W4 W5 at refl (λ f. keep_W4 f.1.1 w lt at e) (λ f. on_W4 f.1.1 w lt at)
    step_at W5 at = writes Entered W5 Inside w _ at refl (λ f. lt) (λ f. (f.1.0, keep_W5 f.1.1 w lt at)) (λ f m. absurd (m w lt (ap place_of (upd_same (label s) w Inside))))
    step_at Inside at = labelled.refused kind s ok stepping w lt places.Inside (ap place_of at) Idle (refl, refl)
    step_at X0 at = by_next (node s w).next refl
      where
        by_next : (n : Option ℕ) → (node s w).next ≡ n → Good stepping (put s w (linked X1 n), Ok Done)
        by_next None e = passes Done X0 X1 at refl (λ f. keep_X0 f.1.1 w lt at) (λ f. on_X0 f.1.1 w lt at e)
        by_next (Some n) e = passes Done X0 (X3 n) at refl (λ f. keep_linked f.1.1 w lt n X0 at refl refl (λ b. refl) e) (λ f. on_link f.1.1 w lt n at)
    step_at X1 at = by_last s.last refl
      where
        mine : (l : ℕ) (b : Bool) → s.last ≡ Some l → eqb l w ≡ b → Good stepping (moved (cond b (set_last s None, X4) (s, X2)) w, Ok Done)
        mine l true e k = let is : s.last ≡ Some w = e ∙ ap Some (eqb-true l w k) in
            goes (put (set_last s None) w X4) X4 refl lt stepping Done X1 (node s) at refl (λ f. refl)
            (λ f. (handed f.1.0, keep_last f.1.1 w lt at is)) (λ f n m z. on_last f.1.1 w lt at is m z)
        mine l false e k = let other : s.last ≡ Some w → ⊥ = λ z. false≢true (sym k ∙ eq-eqb l w (let y : ◌≡◌ {A = Option ℕ} (Some l) (Some w) = sym e ∙ z in cc)) in
            passes Done X1 X2 at refl (λ f. keep_X1 f.1.1 w lt at other) (λ f. on_X1 f.1.1 w lt at (more f.1.1 w lt at other))

        by_last : (l : Option ℕ) → s.last ≡ l → Good stepping (moved (cond (ends l w) (set_last s None, X4) (s, X2)) w, Ok Done)
        by_last None e = let other : s.last ≡ Some w → ⊥ = λ z. never (sym e ∙ z) in
            passes Done X1 X2 at refl (λ f. keep_X1 f.1.1 w lt at other) (λ f. on_X1 f.1.1 w lt at (more f.1.1 w lt at other))
        by_last (Some l) e = mine l (eqb l w) e refl
    step_at X2 at = by_next (node s w).next refl
      where
        by_next : (n : Option ℕ) → (node s w).next ≡ n → Good stepping (put s w (linked X2 n), Ok Done)
        by_next None e = passes Done X2 X2 at refl (λ f. keep_wait f.1.1 w lt X2 at) (λ f. on_spin f.1.1 w lt at e)
        by_next (Some n) e = passes Done X2 (X3 n) at refl (λ f. keep_linked f.1.1 w lt n X2 at refl refl (λ b. refl) e) (λ f. on_X2 f.1.1 w lt n at e)
    step_at (X3 n) at = writes Done (X3 n) X4 n _ at refl (λ f. (heir f.1.1 w lt n at).2) (λ f. (handed f.1.0, keep_X3 f.1.1 w lt n at)) (λ f m. on_X3 f.1.1 w lt n at)
    step_at X4 at = writes Left X4 Out w _ at refl (λ f. lt) (λ f. (f.1.0, keep_X4 f.1.1 w lt at)) (λ f m. on_X4 f.1.1 w lt at)

  pub lock_good : Good locking (locked algorithm.ghosts s w)
  lock_good = labelled.looked kind s ok locking w _ (λ lt. by_place lt (place s w) refl)
    where
      by_place : w < 16 → (p : Place) → place s w ≡ p → Good locking (locks p s (put s w W0))
      by_place lt places.Out at = let is = out_is (label s w) at in
          goes (put s w W0) W0 refl lt locking Done Out (node s) is (refl, refl) (λ f. refl) (λ f. (f.1.0, keep_lock f.1.1 w lt is)) (λ f n m z. on_lock f.1.1 w lt is)
      by_place lt places.Waiting at = labelled.refused kind s ok locking w lt places.Waiting at Busy (refl, refl)
      by_place lt places.Inside at = labelled.refused kind s ok locking w lt places.Inside at Held (refl, refl)
      by_place lt places.Leaving at = labelled.refused kind s ok locking w lt places.Leaving at Busy (refl, refl)

  pub unlock_good : Good unlocking (unlocked algorithm.ghosts s w)
  unlock_good = labelled.unlocked kind s ok w (put s w X0) X0 (labels (put s w X0) X0 refl) refl
      (λ lt at f. holding (put s w X0) X0 refl lt (node s) refl (f.1.0, keep_unlock f.1.1 w lt (inside_is (label s w) at)))

  pub step_good : Good stepping (stepped algorithm.ghosts s w)
  step_good = labelled.looked kind s ok stepping w _ (λ lt. step_at lt (label s w) refl)

-- nobody has come: the line is empty
pub new_holds : Holds new_words
new_holds = (
  refl,
  (
    empty,
    record {
      order = nobody _ (λ v. ap queued (all_same 16 Out v));
      ends = refl;
      stands = λ w lt. subst (Stands (node new_words w) empty (label new_words) w) (sym (all_same 16 Out w)) (record {
        flag = ap (λ n. n.locked) (all_same 16 blank w);
        front = λ k. absurd (false≢true k);
        before = λ p k. never k;
        linked = λ k. absurd (false≢true k);
        fresh = λ k. grind (arith, k);
        follows = λ k. grind (arith, k);
        hands = λ n k. grind (arith, k);
      });
    },
  ),
)
