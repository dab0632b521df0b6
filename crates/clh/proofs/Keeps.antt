-- What each access does to the chain.
use Rattle.std.proofs.Common.{◌≡◌, ℕ, ◌+◌, ◌-◌, ◌<◌, ◌≤◌, Bool, true, false, Some, None, Option, unwrap_or, sym, refl, ap, ◌∙◌, subst, ⊎_elim, arith}
use Rattle.std.proofs.lemmas.Bool.{cases_lt, false≢true}
use Rattle.lock.proofs.Small.{never}
use Rattle.lock.specs.Calls.{upd}
use Rattle.lock.proofs.Labelled.{upd_same, upd_other}
use Rattle.queue.specs.Line.{Line, joined, handed}
use Rattle.queue.proofs.Written.{each, mapped}
use Rattle.queue.proofs.Ordering.{same_rank, stays, joins, hands_on}
use Rattle.clh.specs.declared.words.Label.{Label}
use Rattle.clh.specs.declared.words.Label.TheVariants.{Out, W0, W1, W2, W3, Inside, X0, X1}
use Rattle.clh.specs.declared.words.Node.{Node}
use Rattle.clh.specs.Facts.{queued, ahead, shuts, Marked, link, kept, Chain, Stands, Chained}

-- ## A node of which one word is written

abbrev pub with_wait : (ℕ → Node) → ℕ → Bool → ℕ → Node
with_wait node n b = upd node n (record { wait = b; prev = (node n).prev })

abbrev pub with_prev : (ℕ → Node) → ℕ → Option ℕ → ℕ → Node
with_prev node n p = upd node n (record { wait = (node n).wait; prev = p })

-- ## What a label says

pub link_queued : (l : Label) (p : ℕ) → link l ≡ Some p → queued l ≡ true
link_queued (W2 q) p e = refl
link_queued (W3 q) p e = refl
link_queued (X0 q) p e = refl
link_queued _ p e = never e

pub ahead_queued : (l : Label) → ahead l ≡ true → queued l ≡ true
ahead_queued Inside e = refl
ahead_queued (X0 p) e = refl
ahead_queued _ e = absurd (false≢true e)

queued_shuts : (l : Label) (n : ℕ) → queued l ≡ true → (shuts l ≡ true) × (kept l n ≡ n)
queued_shuts (W2 p) n e = (refl, refl)
queued_shuts (W3 p) n e = (refl, refl)
queued_shuts Inside n e = (refl, refl)
queued_shuts (X0 p) n e = (refl, refl)
queued_shuts _ n e = absurd (false≢true e)

-- `prev` of a node that the worker keeps
prev_same : (node after : ℕ → Node) (l : Label) (n q : ℕ) → after (kept l n) ≡ node (kept l n) → Marked l (node n).prev q → Marked l (after n).prev q
prev_same node after (X1 p) n q e m = tt
prev_same node after _ n q e m = ap (λ x. x.prev) e ∙ m

-- the node that a worker in the line looks at
looks_same : (l : Label) (prev : Option ℕ) (q r : ℕ) → (queued l ≡ true → q ≡ r) → Marked l prev q → Marked l prev r
looks_same (W3 p) prev q r e m = m ∙ ap Some (e refl)
looks_same Inside prev q r e m = m ∙ ap Some (e refl)
looks_same (X0 p) prev q r e m = m ∙ ap Some (e refl)
looks_same _ prev q r e m = m

-- ## One worker, while others move

-- nodes that it does not keep change
pub same_node : (node after : ℕ → Node) (c : Chain) (v : ℕ) (l : Label) (n : ℕ) → after (kept l n) ≡ node (kept l n) → Stands node c v l n → Stands after c v l n
same_node node after c v l n e t = record {
  own_in = t.own_in;
  kept_in = t.kept_in;
  keeps = t.keeps;
  flag = ap (λ x. x.wait) e ∙ t.flag;
  owns = t.owns;
  front = t.front;
  before = t.before;
  marked = prev_same node after l n _ e t.marked;
}

-- others join or hand on
reordered : (node : ℕ → Node) (c d : Chain) (v : ℕ) (l : Label) (n : ℕ) → d.keeper (kept l n) ≡ v
    → (queued l ≡ true → (d.line.rank v ≡ c.line.rank v) × (d.at (c.line.rank v) ≡ c.at (c.line.rank v)) × (d.at (c.line.rank v + 1) ≡ c.at (c.line.rank v + 1)))
    → (ahead l ≡ true → d.line.rank v ≡ d.line.first) → Stands node c v l n → Stands node d v l n
reordered node c d v l n k same front t = record {
  own_in = t.own_in;
  kept_in = t.kept_in;
  keeps = k;
  flag = t.flag;
  owns = λ q. let e = same q in t.owns q ∙ sym (ap (λ r. d.at (r + 1)) e.0 ∙ e.2);
  front = front;
  before = λ p b. t.before p b ∙ looks (link_queued l p b);
  marked = looks_same l (node n).prev _ _ looks t.marked;
}
  where
    looks : queued l ≡ true → c.at (c.line.rank v) ≡ d.at (d.line.rank v)
    looks q = let e = same q in sym (ap d.at e.0 ∙ e.1)

module _ {tail : ℕ} {node : ℕ → Node} {own : ℕ → ℕ} {label : ℕ → Label} {c : Chain} (h : Chained tail node own label c) where
  abbrev line : Line
  line = c.line

  abbrev rank : ℕ → ℕ
  rank = c.line.rank

  -- past the spare node, each node of the chain is the own node of a worker in the line
  pub behind : (r : ℕ) → line.first < r → r ≤ line.end → (v : ℕ) × (v < 16) × (queued (label v) ≡ true) × (c.at r ≡ kept (label v) (own v))
  behind r a b =
      let v : ℕ = line.who (r - 1) in
      let m = h.order.member (r - 1) (omega (arith, a)) (omega (arith, a, b)) in
      let l : v < 16 = (h.order.within v m.0).0 in
      (v, l, m.0, ap c.at (let z : r ≡ rank v + 1 = omega (arith, m.1, a) in z) ∙ (sym ((h.stands v l).owns m.0) ∙ sym (queued_shuts (label v) (own v) m.0).1))

  -- so it is shut
  pub shut : (r : ℕ) → line.first < r → r ≤ line.end → (node (c.at r)).wait ≡ true
  shut r a b = let k = behind r a b in ap (λ n. (node n).wait) k.3 ∙ ((h.stands k.0 k.1).flag ∙ (queued_shuts (label k.0) (own k.0) k.2).0)

  module _ (w : ℕ) (lt : w < 16) where
    abbrev mine : ℕ
    mine = kept (label w) (own w)

    pub apart : (v : ℕ) → v < 16 → (v ≡ w → ⊥) → kept (label v) (own v) ≡ mine → ⊥
    apart v a ne e = ne (sym (h.stands v a).keeps ∙ (ap c.keeper e ∙ (h.stands w lt).keeps))

    not_spare : c.at line.first ≡ mine → ⊥
    not_spare e = omega (arith, lt, sym h.spare_free ∙ (ap c.keeper e ∙ (h.stands w lt).keeps))

    -- what is known of the worker at its label
    pub standing : (l : Label) → label w ≡ l → Stands node c w l (own w)
    standing l e = subst (λ x. Stands node c w x (own w)) e (h.stands w lt)

    -- ## An access that leaves the line as it is

    moved : (after : ℕ → Node) (others : ℕ → ℕ) (l : Label) → ((n : ℕ) → (n ≡ mine → ⊥) → after n ≡ node n) → ((v : ℕ) → (v ≡ w → ⊥) → others v ≡ own v)
        → queued l ≡ queued (label w) → Stands after c w l (others w) → Chained tail after others (upd label w l) c
    moved after others l rest same q new = record {
      order = stays h.order _ (each (λ v x. queued x ≡ queued (label v)) label w l q (λ v ne. refl));
      spare_in = h.spare_in;
      spare_free = h.spare_free;
      spare_open = ap (λ x. x.wait) (rest _ not_spare) ∙ h.spare_open;
      last = h.last;
      stands = each (λ v x. v < 16 → Stands after c v x (others v)) label w l (λ _. new)
          (λ v ne a. subst (Stands after c v (label v)) (sym (same v ne)) (same_node node after c v (label v) (own v) (rest _ (apart v a ne)) (h.stands v a)));
    }

    pub keep_lock : label w ≡ Out → Chained tail node own (upd label w W0) c
    keep_lock e = let t = standing Out e in moved node own W0 (λ n ne. refl) (λ v ne. refl) (ap queued (sym e)) (record {
      own_in = t.own_in;
      kept_in = t.kept_in;
      keeps = t.keeps;
      flag = t.flag;
      owns = t.owns;
      front = t.front;
      before = t.before;
      marked = t.marked;
    })

    pub keep_unlock : label w ≡ Inside → Chained tail node own (upd label w (X0 (unwrap_or (node (own w)).prev 0))) c
    keep_unlock e = let t = standing Inside e in moved node own _ (λ n ne. refl) (λ v ne. refl) (ap queued (sym e)) (record {
      own_in = t.own_in;
      kept_in = t.kept_in;
      keeps = t.keeps;
      flag = t.flag;
      owns = t.owns;
      front = t.front;
      before = λ q k. cc (ap (λ o. unwrap_or o 0) t.marked);
      marked = t.marked;
    })

    -- a write to the own node
    written : (x : Node) (l : Label) → label w ≡ l → kept l (own w) ≡ own w → (n : ℕ) → (n ≡ mine → ⊥) → upd node (own w) x n ≡ node n
    written x l e k n ne = upd_other node (own w) n x (λ z. ne (z ∙ (sym k ∙ ap (λ y. kept y (own w)) (sym e))))

    pub keep_W0 : label w ≡ W0 → Chained tail (with_wait node (own w) true) own (upd label w W1) c
    keep_W0 e = let t = standing W0 e in let x : Node = record { wait = true; prev = (node (own w)).prev } in let new = upd_same node (own w) x in
        moved (upd node (own w) x) own W1 (written x W0 e refl) (λ v ne. refl) (ap queued (sym e)) (record {
          own_in = t.own_in;
          kept_in = t.kept_in;
          keeps = t.keeps;
          flag = ap (λ y. y.wait) new;
          owns = t.owns;
          front = t.front;
          before = t.before;
          marked = ap (λ y. y.prev) new ∙ t.marked;
        })

    pub keep_W2 : (p : ℕ) → label w ≡ W2 p → Chained tail (with_prev node (own w) (Some p)) own (upd label w (W3 p)) c
    keep_W2 p e = let t = standing (W2 p) e in let x : Node = record { wait = (node (own w)).wait; prev = Some p } in let new = upd_same node (own w) x in
        moved (upd node (own w) x) own (W3 p) (written x (W2 p) e refl) (λ v ne. refl) (ap queued (sym e)) (record {
          own_in = t.own_in;
          kept_in = t.kept_in;
          keeps = t.keeps;
          flag = ap (λ y. y.wait) new ∙ t.flag;
          owns = t.owns;
          front = t.front;
          before = t.before;
          marked = ap (λ y. y.prev) new ∙ ap Some (t.before p refl);
        })

    -- only the first looks at an open node
    pub opened : (p : ℕ) → link (label w) ≡ Some p → (node p).wait ≡ false → rank w ≡ line.first
    opened p e f =
        let t = h.stands w lt in
        let i = h.order.within w (link_queued (label w) p e) in
        ⊎_elim
        (λ less. absurd (false≢true (sym f ∙ (ap (λ n. (node n).wait) (t.before p e) ∙ shut (rank w) less (omega (arith, i.2))))))
        (λ not_less. omega (arith, i.1, not_less))
        (cases_lt line.first (rank w))

    pub keep_W3 : (p : ℕ) → label w ≡ W3 p → (node p).wait ≡ false → Chained tail node own (upd label w Inside) c
    keep_W3 p e f = let t = standing (W3 p) e in moved node own Inside (λ n ne. refl) (λ v ne. refl) (ap queued (sym e)) (record {
      own_in = t.own_in;
      kept_in = t.kept_in;
      keeps = t.keeps;
      flag = t.flag;
      owns = t.owns;
      front = λ k. opened p (ap link e) f;
      before = λ q k. never k;
      marked = t.marked;
    })

    pub keep_X1 : (p : ℕ) → label w ≡ X1 p → Chained tail (with_prev node p None) (upd own w p) (upd label w Out) c
    keep_X1 p e = let t = standing (X1 p) e in let x : Node = record { wait = (node p).wait; prev = None } in let new = upd_same node p x in
        moved (upd node p x) (upd own w p) Out (λ n ne. upd_other node p n x (λ z. ne (z ∙ ap (λ y. kept y (own w)) (sym e)))) (λ v ne. upd_other own w v p ne) (ap queued (sym e))
        (subst (Stands (upd node p x) c w Out) (sym (upd_same own w p)) (record {
          own_in = t.kept_in;
          kept_in = t.kept_in;
          keeps = t.keeps;
          flag = ap (λ y. y.wait) new ∙ t.flag;
          owns = λ k. absurd (false≢true k);
          front = t.front;
          before = t.before;
          marked = ap (λ y. y.prev) new;
        }))

    -- ## Joining

    abbrev pub longer : Chain
    longer = record { line = joined line w; at = upd c.at (line.end + 1) (own w); keeper = c.keeper }

    old_at : (r : ℕ) → r ≤ line.end → longer.at r ≡ c.at r
    old_at r l = upd_other c.at (line.end + 1) r (own w) (λ e. omega (arith, e, l))

    pub keep_W1 : label w ≡ W1 → Chained (own w) node own (upd label w (W2 tail)) longer
    keep_W1 e =
        let t = standing W1 e in
        let new_rank = upd_same rank w line.end in
        record {
          order = joins h.order w _ lt (ap queued e) (λ v. ap (λ f. f v) (mapped queued label w (W2 tail)));
          spare_in = subst (λ x. x < 17) (sym (old_at line.first h.order.sorted)) h.spare_in;
          spare_free = ap c.keeper (old_at line.first h.order.sorted) ∙ h.spare_free;
          spare_open = ap (λ n. (node n).wait) (old_at line.first h.order.sorted) ∙ h.spare_open;
          last = sym (upd_same c.at (line.end + 1) (own w));
          stands = each (λ v x. v < 16 → Stands node longer v x (own v)) label w (W2 tail)
              (λ _. record {
                own_in = t.own_in;
                kept_in = t.kept_in;
                keeps = t.keeps;
                flag = t.flag;
                owns = λ _. sym (ap (λ r. longer.at (r + 1)) new_rank ∙ upd_same c.at (line.end + 1) (own w));
                front = λ k. absurd (false≢true k);
                before = λ p k. let z : tail ≡ p = cc in sym z ∙ (h.last ∙ sym (ap longer.at new_rank ∙ old_at line.end (omega arith)));
                marked = t.marked;
              })
              (λ v ne a. let k = h.stands v a in
              let same : longer.line.rank v ≡ rank v = upd_other rank w v line.end ne in
              reordered node c longer v (label v) (own v) k.keeps
              (λ q. let i = h.order.within v q in (same, old_at _ (omega (arith, i.2)), old_at _ (omega (arith, i.2))))
              (λ f. same ∙ k.front f) k);
        }

    -- ## Handing on

    module _ (p : ℕ) where
      abbrev pub shorter : Chain
      shorter = record { line = handed line; at = c.at; keeper = upd (upd c.keeper p w) (own w) 16 }

      pub keep_X0 : label w ≡ X0 p → Chained tail (with_wait node (own w) false) own (upd label w (X1 p)) shorter
      keep_X0 e =
          let t = standing (X0 p) e in
          let x : Node = record { wait = false; prev = (node (own w)).prev } in
          let first : rank w ≡ line.first = t.front refl in
          let spare : own w ≡ c.at (line.first + 1) = t.owns refl ∙ ap (λ r. c.at (r + 1)) first in
          let is_p : p ≡ c.at line.first = t.before p refl ∙ ap c.at first in
          let free_p : c.keeper p ≡ 16 = ap c.keeper is_p ∙ h.spare_free in
          let not_p : p ≡ own w → ⊥ = λ z. omega (arith, lt, sym free_p ∙ (ap c.keeper z ∙ t.keeps)) in
          record {
            order = hands_on h.order w _ (ap queued e) first (λ v. ap (λ f. f v) (mapped queued label w (X1 p)));
            spare_in = subst (λ n. n < 17) spare t.own_in;
            spare_free = ap shorter.keeper (sym spare) ∙ upd_same (upd c.keeper p w) (own w) 16;
            spare_open = ap (λ n. (upd node (own w) x n).wait) (sym spare) ∙ ap (λ y. y.wait) (upd_same node (own w) x);
            last = h.last;
            stands = each (λ v y. v < 16 → Stands (upd node (own w) x) shorter v y (own v)) label w (X1 p)
                (λ _. record {
                  own_in = t.own_in;
                  kept_in = subst (λ n. n < 17) (sym is_p) h.spare_in;
                  keeps = upd_other (upd c.keeper p w) (own w) p 16 not_p ∙ upd_same c.keeper p w;
                  flag = ap (λ y. y.wait) (upd_other node (own w) p x not_p) ∙ (ap (λ n. (node n).wait) is_p ∙ h.spare_open);
                  owns = λ k. absurd (false≢true k);
                  front = λ k. absurd (false≢true k);
                  before = λ q k. never k;
                  marked = tt;
                })
                (λ v ne a. let k = h.stands v a in
                let n : ℕ = kept (label v) (own v) in
                let away : n ≡ own w → ⊥ = λ z. apart v a ne (z ∙ ap (λ y. kept y (own w)) (sym e)) in
                let away_p : n ≡ p → ⊥ = λ z. omega (arith, a, sym k.keeps ∙ (ap c.keeper z ∙ free_p)) in
                same_node node (upd node (own w) x) shorter v (label v) (own v) (upd_other node (own w) n x away)
                (reordered node c shorter v (label v) (own v) (upd_other (upd c.keeper p w) (own w) n 16 away ∙ (upd_other c.keeper p n w away_p ∙ k.keeps))
                (λ q. (refl, refl, refl))
                (λ f. absurd (ne (same_rank h.order v w (ahead_queued _ f) (ap queued e) (k.front f ∙ sym first)))) k));
          }
