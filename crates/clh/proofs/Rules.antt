-- Each call of the clh lock keeps the facts of its words and the rules of a lock.
use Rattle.std.proofs.Common.{◌≡◌, ℕ, zero, suc, ◌+◌, ◌<◌, Bool, true, false, cond, length, get_or, set, map, is_some as option_is_some, Some, None, Ok, Option, unwrap_or, sym, refl, ap, ◌∙◌, subst, arith, length-set}
use mathlib.Core.Logic.{∥∥₁_elim}
use native.Mathlib.Nat.{ℕ_set}
use Rattle.std.specs.List.{range_with_len}
use Rattle.std.proofs.lemmas.List.FromFn.{get_or-map-range_with_len}
use Rattle.std.proofs.lemmas.List.{get_or-replicate}
use Rattle.std.proofs.lemmas.Bool.{false≢true}
use Rattle.lock.specs.declared.place.Place.TheVariants as places
use Rattle.lock.specs.declared.answer.Answer.{Answer}
use Rattle.lock.specs.declared.answer.Answer.TheVariants.{Done, Entered, Left}
use Rattle.lock.specs.declared.refusal.Refusal.TheVariants.{Idle}
use Rattle.lock.specs.Rules.{Request, locking, unlocking, stepping, Leads}
use Rattle.lock.specs.Calls.{Outcome, upd}
use Rattle.lock.specs.Algorithms.{locked, unlocked, stepped}
use Rattle.lock.proofs.Pair.{Onward}
use Rattle.lock.proofs.Small.{never}
use Rattle.lock.proofs.Labelled as labelled
use Rattle.lock.proofs.Labelled.{Kind, Free, Waits, upd_same, upd_other}
use Rattle.queue.specs.Line.{empty}
use Rattle.queue.proofs.Written.{rewritten, mapped_set}
use Rattle.queue.proofs.Ordering.{same_rank, nobody}
use Rattle.rows.proofs.Lending.{read_with}
use Rattle.clh.specs.declared.words.Label.{Label}
use Rattle.clh.specs.declared.words.Label.TheVariants.{Out, W0, W1, W2, W3, Inside, X0, X1}
use Rattle.clh.specs.declared.words.Node.{Node}
use Rattle.clh.specs.declared.words.Worker.{Worker}
use Rattle.clh.specs.declared.words.Words.{Words}
use Rattle.clh.specs.contracts.words.WordsAlgorithm.TheImpl as algorithm
use Rattle.clh.specs.Accesses.{new_words, outside, worker, blank, label, place_of, own, node, put, before, mark, access}
use Rattle.clh.specs.Distance.{distance_at}
use Rattle.clh.specs.Facts.{Sixteen, queued, ahead, Chain, Stands, Chained, Holds}
use Rattle.clh.proofs.Keeps.{with_wait, with_prev, standing, longer, shorter, keep_lock, keep_unlock, keep_W0, keep_W1, keep_W2, keep_W3, keep_X0, keep_X1}
use Rattle.clh.proofs.Nearing.{distances, fitting, some, on_wait, on_W0, on_W1, on_W2, on_X0, on_X1}

-- the distances, where L are the labels
abbrev pub distance_by : Words → (ℕ → Label) → ℕ → Option ℕ
distance_by s L = distances s.tail (node s) L

inside_is : (l : Label) → place_of l ≡ places.Inside → l ≡ Inside
inside_is Inside e = refl
inside_is _ e = grind (arith, e)

out_is : (l : Label) → place_of l ≡ places.Out → l ≡ Out
out_is Out e = refl
out_is _ e = grind (arith, e)

-- a worker in the line, and what the facts say of it
in_line : (s : Words) (f : Holds s) (w : ℕ) → queued (label s w) ≡ true → w < 16
in_line s f w q = (f.1.1.order.within w q).0

pub kind : Kind label place_of distance_by mark 5 Holds
kind = record {
  some = λ s f. some f.1.1;
  fitting = λ s v. fitting s.tail (node s) (label s v);
  sole = λ s f v w a b.
      let h = f.1.1 in
      let i = inside_is (label s v) a in
      let j = inside_is (label s w) b in
      same_rank h.order v w (ap queued i) (ap queued j) ((h.stands v (in_line s f v (ap queued i))).front (ap ahead i) ∙ sym ((h.stands w (in_line s f w (ap queued j))).front (ap ahead j)));
  held = λ s f w lt at. ap option_is_some (standing f.1.1 w lt Inside (inside_is (label s w) at)).marked;
  free = λ s f w lt at. ap option_is_some (standing f.1.1 w lt Out (out_is (label s w) at)).marked;
}

-- ## The calls

module _ (s : Words) (w : ℕ) (ok : ∥ Holds s ∥₁) where
  abbrev pub Good : Request → Outcome Words → Type 0
  Good q o = labelled.Good kind s ok q w o

  sixteen : Sixteen s
  sixteen = ∥∥₁_elim ok (ℕ_set _ _) (λ f. f.0)

  -- where the own node stays
  own_stays : upd (own s) w (own s w) ≡ own s
  own_stays = rewritten (own s) w

  module _ (x : Words) (n : ℕ) (l : Label) (to : x.workers ≡ set s.workers w (record { own = n; label = l })) (lt : w < 16) where
    read : {A : Type 0} (g : Worker → A) → (λ v. g (worker x v)) ≡ upd (λ v. g (worker s v)) w (g (record { own = n; label = l }))
    read g = ap (λ a v. g (get_or a v (outside 0))) to ∙ mapped_set g s.workers w _ (outside 0) (omega (arith, sixteen))

    labels : label x ≡ upd (label s) w l
    labels = read (λ y. y.label)

    -- what holds of x, with its nodes and own nodes as seen
    holding : (nodes : ℕ → Node) (owned : ℕ → ℕ) → node x ≡ nodes → upd (own s) w n ≡ owned → (c : Chain) × Chained x.tail nodes owned (upd (label s) w l) c → Holds x
    holding nodes owned ns os (c, h) = (
      ap length to ∙ (length-set s.workers w _ ∙ sixteen),
      (c, subst (λ L. Chained x.tail (node x) (own x) L c) (sym (read (λ y. y.label))) (subst (λ m. Chained x.tail m (own x) (upd (label s) w l) c) (sym ns) (subst (λ m. Chained x.tail nodes m (upd (label s) w l) c) (sym (read (λ y. y.own) ∙ os)) h))),
    )

    -- an access that leaves x
    goes : (q : Request) (a : Answer) (k : Label) (nodes : ℕ → Node) (owned : ℕ → ℕ) → label s w ≡ k → Leads q (place_of k) (Ok a) (place_of l)
        → upd (own s) w n ≡ owned → (Holds s → node x ≡ nodes)
        → ((f : Holds s) → (c : Chain) × Chained x.tail nodes owned (upd (label s) w l) c)
        → ((f : Holds s) → Free place_of (label s) → Free place_of (upd (label s) w l) → Waits place_of (upd (label s) w l) → Onward w (distance_by s (label s)) (distances x.tail nodes (upd (label s) w l)))
        → Good q (x, Ok a)
    goes q a k nodes owned at leads os ns keep on = labelled.goes kind s ok q w lt (place_of k) (ap place_of at) x a l labels leads
        (λ f. holding nodes owned (ns f) os (keep f))
        (λ f free free' waits. subst (λ m. Onward w (distance_by s (label s)) (distances x.tail m (upd (label s) w l))) (sym (ns f)) (on f free free' waits))

  module _ (lt : w < 16) where
    own_in : Holds s → own s w < 17
    own_in f = (f.1.1.stands w lt).own_in

    step_at : (l : Label) → label s w ≡ l → Good stepping (access l s w)
    step_at Out at = labelled.refused kind s ok stepping w lt places.Out (ap place_of at) Idle (refl, refl)
    step_at W0 at = goes (access W0 s w).0 (own s w) W1 refl lt stepping Done W0 (with_wait (node s) (own s w) true) (own s) at refl own_stays
        (λ f. read_with s.nodes (own s w) _ blank (own_in f)) (λ f. (f.1.0, keep_W0 f.1.1 w lt at)) (λ f n m z. on_W0 f.1.1 w lt at)
    step_at W1 at = goes (access W1 s w).0 (own s w) (W2 s.tail) refl lt stepping Done W1 (node s) (own s) at refl own_stays
        (λ f. refl) (λ f. (longer f.1.1 w lt, keep_W1 f.1.1 w lt at)) (λ f n m z. on_W1 f.1.1 w lt at)
    step_at (W2 p) at = goes (access (W2 p) s w).0 (own s w) (W3 p) refl lt stepping Done (W2 p) (with_prev (node s) (own s w) (Some p)) (own s) at refl own_stays
        (λ f. read_with s.nodes (own s w) _ blank (own_in f)) (λ f. (f.1.0, keep_W2 f.1.1 w lt p at)) (λ f n m z. on_W2 f.1.1 w lt p at)
    step_at (W3 p) at = by_flag (node s p).wait refl
      where
        by_flag : (b : Bool) → (node s p).wait ≡ b → Good stepping (cond {A = Outcome Words} b (s, Ok Done) (put s w Inside, Ok Entered))
        by_flag true e = labelled.spins kind s ok stepping w lt places.Waiting (ap place_of at) Done refl (λ f. on_wait f.1.1 w lt p at e)
        by_flag false e = goes (put s w Inside) (own s w) Inside refl lt stepping Entered (W3 p) (node s) (own s) at refl own_stays
            (λ f. refl) (λ f. (f.1.0, keep_W3 f.1.1 w lt p at e)) (λ f n m z. absurd (m w lt (ap place_of (upd_same (label s) w Inside))))
    step_at Inside at = labelled.refused kind s ok stepping w lt places.Inside (ap place_of at) Idle (refl, refl)
    step_at (X0 p) at = goes (access (X0 p) s w).0 (own s w) (X1 p) refl lt stepping Done (X0 p) (with_wait (node s) (own s w) false) (own s) at refl own_stays
        (λ f. read_with s.nodes (own s w) _ blank (own_in f)) (λ f. (shorter f.1.1 w lt p, keep_X0 f.1.1 w lt p at)) (λ f n m z. on_X0 f.1.1 w lt p at m z)
    step_at (X1 p) at = goes (access (X1 p) s w).0 p Out refl lt stepping Left (X1 p) (with_prev (node s) p None) (upd (own s) w p) at refl refl
        (λ f. read_with s.nodes p _ blank (standing f.1.1 w lt (X1 p) at).kept_in) (λ f. (f.1.0, keep_X1 f.1.1 w lt p at)) (λ f n m z. on_X1 f.1.1 w lt p at)

  pub lock_good : Good locking (locked algorithm.ghosts s w)
  lock_good = labelled.locked kind s ok w (put s w W0) W0 (labels (put s w W0) (own s w) W0 refl) refl
      (λ lt at f. holding (put s w W0) (own s w) W0 refl lt (node s) (own s) refl own_stays (f.1.0, keep_lock f.1.1 w lt (out_is (label s w) at)))
      (λ v ne. ap (distance_at s.tail (node s)) (upd_other (label s) w v W0 ne))

  pub unlock_good : Good unlocking (unlocked algorithm.ghosts s w)
  unlock_good = let l : Label = X0 (unwrap_or (before s w) 0) in labelled.unlocked kind s ok w (put s w l) l (labels (put s w l) (own s w) l refl) refl
      (λ lt at f. holding (put s w l) (own s w) l refl lt (node s) (own s) refl own_stays (f.1.0, keep_unlock f.1.1 w lt (inside_is (label s w) at)))

  pub step_good : Good stepping (stepped algorithm.ghosts s w)
  step_good = labelled.looked kind s ok stepping w _ (λ lt. step_at lt (label s w) refl)

-- nobody has come: the line is empty, and node 16 is spare
abbrev new_chain : Chain
new_chain = record { line = empty; at = λ r. 16; keeper = λ n. n }

outside_at : (a n v : ℕ) → (get_or (map outside (range_with_len a n)) v (outside 0)).label ≡ Out
outside_at a zero v = refl
outside_at a (suc n) zero = refl
outside_at a (suc n) (suc v) = outside_at (a + 1) n v

pub new_label : (v : ℕ) → label new_words v ≡ Out
new_label v = outside_at 0 16 v

pub new_holds : Holds new_words
new_holds = (
  refl,
  (
    new_chain,
    record {
      order = nobody _ (λ v. ap queued (new_label v));
      spare_in = omega arith;
      spare_free = refl;
      spare_open = refl;
      last = refl;
      stands = λ w lt.
          let new : worker new_words w ≡ outside w = get_or-map-range_with_len outside 0 16 w w (outside 0) lt (omega arith) in
          let clean : node new_words w ≡ blank = get_or-replicate 17 w blank blank (omega arith) in
          subst (λ y. Stands (node new_words) new_chain w y.label y.own) (sym new) (record {
            own_in = omega arith;
            kept_in = omega arith;
            keeps = refl;
            flag = ap (λ n. n.wait) clean;
            owns = λ k. absurd (false≢true k);
            front = λ k. absurd (false≢true k);
            before = λ p k. never k;
            marked = ap (λ n. n.prev) clean;
          });
    },
  ),
)
