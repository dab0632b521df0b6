-- What each access does to the line.
use Rattle.std.proofs.Common.{◌≡◌, ℕ, ◌+◌, ◌-◌, ◌<◌, ◌≤◌, Bool, true, false, cond, eqb, ltb, Some, None, Option, sym, refl, ap, ◌∙◌, subst, ⊎_elim, arith}
use Rattle.std.proofs.lemmas.Bool.{cases_lt, cases_eq, lt-ltb, le-ltb, eq-eqb, ne_eqb, eqb-true, false≢true}
use Rattle.lock.proofs.Small.{never}
use Rattle.lock.specs.Calls.{upd}
use Rattle.lock.proofs.Labelled.{upd_same, upd_other}
use Rattle.queue.specs.Line.{Line, joined, handed}
use Rattle.queue.proofs.Written.{each, mapped}
use Rattle.queue.proofs.Ordering.{same_rank, stays, joins, hands_on}
use Rattle.mcs.specs.declared.words.Label.{Label}
use Rattle.mcs.specs.declared.words.Label.TheVariants.{Out, W0, W1, W2, W3, W4, W5, Inside, X0, X1, X2, X3, X4}
use Rattle.mcs.specs.declared.words.Node.{Node}
use Rattle.mcs.specs.Facts.{queued, ahead, named, shut, link, behind, final, Stands, Chained}

-- ## A node of which one word is written

abbrev pub with_next : (ℕ → Node) → ℕ → Option ℕ → ℕ → Node
with_next node w n = upd node w (record { next = n; locked = (node w).locked })

abbrev pub with_locked : (ℕ → Node) → ℕ → Bool → ℕ → Node
with_locked node w b = upd node w (record { next = (node w).next; locked = b })

-- ## What a label says

pub ahead_queued : (l : Label) → ahead l ≡ true → queued l ≡ true
ahead_queued W5 e = refl
ahead_queued Inside e = refl
ahead_queued X0 e = refl
ahead_queued X1 e = refl
ahead_queued X2 e = refl
ahead_queued (X3 n) e = refl
ahead_queued _ e = absurd (false≢true e)

pub link_queued : (l : Label) (q : ℕ) → link l ≡ Some q → queued l ≡ true
link_queued (W2 p) q e = refl
link_queued (W3 p) q e = refl
link_queued _ q e = never e

pub named_is : (l : Label) → named l ≡ true → l ≡ W4
named_is W4 e = refl
named_is _ e = absurd (false≢true e)

-- whether it is the first matters to a named worker alone
shut_same : (l : Label) (b c : Bool) → (named l ≡ true → b ≡ c) → shut l b ≡ shut l c
shut_same W4 b c e = ap (shut W4) (e refl)
shut_same _ b c e = refl

-- ## The ends of the line

module _ (o : Line) where
  pub final_at : o.first < o.end → final o ≡ Some (o.who (o.end - 1))
  final_at l = ap (λ b. cond b (Some (o.who (o.end - 1))) None) (lt-ltb _ _ l)

  pub final_empty : o.end ≤ o.first → final o ≡ None
  final_empty l = ap (λ b. cond b (Some (o.who (o.end - 1))) None) (le-ltb _ _ l)

  pub final_is : (p : ℕ) → final o ≡ Some p → (o.first < o.end) × (p ≡ o.who (o.end - 1))
  final_is p e = ⊎_elim
      (λ l. (l, let z : ◌≡◌ {A = Option ℕ} (Some (o.who (o.end - 1))) (Some p) = sym (final_at l) ∙ e in cc))
      (λ l. never (sym (final_empty l) ∙ e))
      (cases_lt o.first o.end)

  module _ (label : ℕ → Label) (r : ℕ) where
    pub behind_at : r < o.end → behind o label r ≡ cond (named (label (o.who r))) (Some (o.who r)) None
    behind_at l = ap (λ b. cond b (cond (named (label (o.who r))) (Some (o.who r)) None) None) (lt-ltb _ _ l)

    pub behind_past : o.end ≤ r → behind o label r ≡ None
    behind_past l = ap (λ b. cond b (cond (named (label (o.who r))) (Some (o.who r)) None) None) (le-ltb _ _ l)

    pub behind_is : (n : ℕ) → behind o label r ≡ Some n → (r < o.end) × (n ≡ o.who r) × (label n ≡ W4)
    behind_is n e = ⊎_elim (λ l. by_name l (named (label (o.who r))) refl (sym (behind_at l) ∙ e)) (λ l. never (sym (behind_past l) ∙ e)) (cases_lt r o.end)
      where
        by_name : r < o.end → (b : Bool) → named (label (o.who r)) ≡ b → cond b (Some (o.who r)) None ≡ Some n → (r < o.end) × (n ≡ o.who r) × (label n ≡ W4)
        by_name l true k z = let is : n ≡ o.who r = cc in (l, is, named_is (label n) (ap (λ v. named (label v)) is ∙ k))
        by_name l false k z = never z

-- ## One worker, while others move

relabelled : (x : Node) (o : Line) (label after : ℕ → Label) (v : ℕ) (l : Label) → (queued l ≡ true → behind o after (o.rank v + 1) ≡ behind o label (o.rank v + 1)) → Stands x o label v l → Stands x o after v l
relabelled x o label after v l same t = record {
  flag = t.flag;
  front = t.front;
  before = t.before;
  linked = λ q. t.linked q ∙ sym (same q);
  fresh = t.fresh;
  follows = t.follows;
  hands = t.hands;
}

module _ {last : Option ℕ} {node : ℕ → Node} {label : ℕ → Label} {o : Line} (h : Chained last node label o) (w : ℕ) (lt : w < 16) where
  abbrev rank : ℕ → ℕ
  rank = o.rank

  -- what is known of the worker at its label
  pub standing : (l : Label) → label w ≡ l → Stands (node w) o label w l
  standing l e = subst (Stands (node w) o label w) e (h.stands w lt)

  -- ## An access that leaves the line as it is

  shifted : (after : ℕ → Node) (l : Label) → ((v : ℕ) → (v ≡ w → ⊥) → after v ≡ node v) → queued l ≡ queued (label w)
      → ((v : ℕ) → queued (label v) ≡ true → behind o (upd label w l) (rank v + 1) ≡ behind o label (rank v + 1))
      → Stands (after w) o label w l → Chained last after (upd label w l) o
  shifted after l rest q same new = record {
    order = stays h.order _ (each (λ v x. queued x ≡ queued (label v)) label w l q (λ v ne. refl));
    ends = h.ends;
    stands = each (λ v x. v < 16 → Stands (after v) o (upd label w l) v x) label w l
        (λ _. relabelled (after w) o label (upd label w l) w l (λ k. same w (sym q ∙ k)) new)
        (λ v ne a. relabelled (after v) o label (upd label w l) v (label v) (same v) (subst (λ x. Stands x o label v (label v)) (sym (rest v ne)) (h.stands v a)));
  }

  -- where w is named after it as before it
  moved : (after : ℕ → Node) (l : Label) → ((v : ℕ) → (v ≡ w → ⊥) → after v ≡ node v) → queued l ≡ queued (label w) → named l ≡ named (label w)
      → Stands (after w) o label w l → Chained last after (upd label w l) o
  moved after l rest q n = shifted after l rest q
      (λ v k. ap (λ b. cond (ltb (rank v + 1) o.end) (cond b (Some (o.who (rank v + 1))) None) None) (each (λ u x. named x ≡ named (label u)) label w l n (λ u ne. refl) (o.who (rank v + 1))))

  -- where it stays
  pub keep_wait : (l : Label) → label w ≡ l → Chained last node (upd label w l) o
  keep_wait l e = subst (λ L. Chained last node L o) (λ i v. each (λ u x. label u ≡ x) label w l e (λ u ne. refl) v i) h

  pub keep_lock : label w ≡ Out → Chained last node (upd label w W0) o
  keep_lock e = let t = standing Out e in moved node W0 (λ v ne. refl) (ap queued (sym e)) (ap named (sym e)) (record {
    flag = t.flag;
    front = t.front;
    before = t.before;
    linked = t.linked;
    fresh = λ k. grind (arith, k);
    follows = λ k. grind (arith, k);
    hands = λ n k. grind (arith, k);
  })

  pub keep_unlock : label w ≡ Inside → Chained last node (upd label w X0) o
  keep_unlock e = let t = standing Inside e in moved node X0 (λ v ne. refl) (ap queued (sym e)) (ap named (sym e)) (record {
    flag = t.flag;
    front = t.front;
    before = t.before;
    linked = t.linked;
    fresh = λ k. grind (arith, k);
    follows = λ k. grind (arith, k);
    hands = λ n k. grind (arith, k);
  })

  pub keep_W0 : label w ≡ W0 → Chained last (with_next node w None) (upd label w W1) o
  keep_W0 e = let t = standing W0 e in let x : Node = record { next = None; locked = (node w).locked } in let new = upd_same node w x in
      moved (upd node w x) W1 (λ v ne. upd_other node w v x ne) (ap queued (sym e)) (ap named (sym e)) (record {
        flag = ap (λ y. y.locked) new ∙ t.flag;
        front = t.front;
        before = t.before;
        linked = λ q. absurd (false≢true q);
        fresh = λ _. ap (λ y. y.next) new;
        follows = λ k. grind (arith, k);
        hands = λ n k. grind (arith, k);
      })

  pub keep_W2 : (p : ℕ) → label w ≡ W2 p → Chained last (with_locked node w true) (upd label w (W3 p)) o
  keep_W2 p e = let t = standing (W2 p) e in let x : Node = record { next = (node w).next; locked = true } in let new = upd_same node w x in
      moved (upd node w x) (W3 p) (λ v ne. upd_other node w v x ne) (ap queued (sym e)) (ap named (sym e)) (record {
        flag = ap (λ y. y.locked) new;
        front = t.front;
        before = t.before;
        linked = λ q. ap (λ y. y.next) new ∙ t.linked refl;
        fresh = λ k. grind (arith, k);
        follows = λ k. grind (arith, k);
        hands = λ n k. grind (arith, k);
      })

  pub keep_W5 : label w ≡ W5 → Chained last (with_locked node w true) (upd label w Inside) o
  keep_W5 e = let t = standing W5 e in let x : Node = record { next = (node w).next; locked = true } in let new = upd_same node w x in
      moved (upd node w x) Inside (λ v ne. upd_other node w v x ne) (ap queued (sym e)) (ap named (sym e)) (record {
        flag = ap (λ y. y.locked) new;
        front = t.front;
        before = t.before;
        linked = λ q. ap (λ y. y.next) new ∙ t.linked refl;
        fresh = λ k. grind (arith, k);
        follows = λ k. grind (arith, k);
        hands = λ n k. grind (arith, k);
      })

  pub keep_X0 : label w ≡ X0 → Chained last node (upd label w X1) o
  keep_X0 e = let t = standing X0 e in moved node X1 (λ v ne. refl) (ap queued (sym e)) (ap named (sym e)) (record {
    flag = t.flag;
    front = t.front;
    before = t.before;
    linked = t.linked;
    fresh = λ k. grind (arith, k);
    follows = λ k. grind (arith, k);
    hands = λ n k. grind (arith, k);
  })

  -- the own `next` is read, at X0 or X2
  pub keep_linked : (n : ℕ) (l : Label) → label w ≡ l → ahead l ≡ true → named l ≡ false → ((b : Bool) → shut l b ≡ true) → (node w).next ≡ Some n → Chained last node (upd label w (X3 n)) o
  keep_linked n l e a m s k = let t = standing l e in let q = ahead_queued l a in moved node (X3 n) (λ v ne. refl) (sym (ap queued e ∙ q)) (sym (ap named e ∙ m)) (record {
    flag = t.flag ∙ s _;
    front = λ _. t.front a;
    before = λ p z. never z;
    linked = λ _. t.linked q;
    fresh = λ z. grind (arith, z);
    follows = λ z. grind (arith, z);
    hands = λ r z. k ∙ (let y : n ≡ r = cc in ap Some y);
  })

  -- somebody has swapped after w
  pub more : label w ≡ X1 → (last ≡ Some w → ⊥) → rank w + 1 < o.end
  more e other = let i = h.order.within w (ap queued e) in ⊎_elim (λ l. l)
      (λ l. absurd (other (h.ends ∙ (final_at o (omega (arith, i)) ∙ ap Some (ap o.who (let z : o.end - 1 ≡ rank w = omega (arith, i, l) in z) ∙ i.3)))))
      (cases_lt (rank w + 1) o.end)

  pub keep_X1 : label w ≡ X1 → (last ≡ Some w → ⊥) → Chained last node (upd label w X2) o
  keep_X1 e other = let t = standing X1 e in moved node X2 (λ v ne. refl) (ap queued (sym e)) (ap named (sym e)) (record {
    flag = t.flag;
    front = t.front;
    before = t.before;
    linked = t.linked;
    fresh = λ k. grind (arith, k);
    follows = λ k. more e other;
    hands = λ n k. grind (arith, k);
  })

  pub keep_X4 : label w ≡ X4 → Chained last (with_locked node w false) (upd label w Out) o
  keep_X4 e = let t = standing X4 e in let x : Node = record { next = (node w).next; locked = false } in let new = upd_same node w x in
      moved (upd node w x) Out (λ v ne. upd_other node w v x ne) (ap queued (sym e)) (ap named (sym e)) (record {
        flag = ap (λ y. y.locked) new;
        front = t.front;
        before = t.before;
        linked = λ q. absurd (false≢true q);
        fresh = λ k. grind (arith, k);
        follows = λ k. grind (arith, k);
        hands = λ n k. grind (arith, k);
      })

  -- who is behind, but for the one before w
  elsewhere : (l : Label) (r : ℕ) → o.first ≤ r → (r ≡ rank w → ⊥) → behind o (upd label w l) r ≡ behind o label r
  elsewhere l r a ne = ⊎_elim
      (λ b. behind_at o (upd label w l) r b ∙ (ap (λ x. cond (named x) (Some (o.who r)) None) (upd_other label w (o.who r) l (λ z. ne (sym (h.order.member r a b).1 ∙ ap rank z))) ∙ sym (behind_at o label r b)))
      (λ b. behind_past o (upd label w l) r b ∙ sym (behind_past o label r b))
      (cases_lt r o.end)

  -- a named worker that is let in is the first
  pub let_in : label w ≡ W4 → (node w).locked ≡ false → rank w ≡ o.first
  let_in e f = is_first (eqb (rank w) o.first) refl (sym (standing W4 e).flag ∙ f)
    where
      is_first : (b : Bool) → eqb (rank w) o.first ≡ b → shut W4 b ≡ false → rank w ≡ o.first
      is_first true k z = eqb-true _ _ k
      is_first false k z = absurd (false≢true (sym z))

  pub keep_W4 : label w ≡ W4 → (node w).locked ≡ false → Chained last node (upd label w W5) o
  keep_W4 e f = let t = standing W4 e in let r = let_in e f in
      shifted node W5 (λ v ne. refl) (ap queued (sym e)) (λ v q. elsewhere W5 (rank v + 1) (omega (arith, h.order.within v q)) (λ z. omega (arith, z, r, h.order.within v q))) (record {
        flag = f;
        front = λ _. r;
        before = t.before;
        linked = t.linked;
        fresh = λ k. grind (arith, k);
        follows = λ k. grind (arith, k);
        hands = λ n k. grind (arith, k);
      })

  -- ## The link to the one before

  -- the one before is in the line
  pub preceded : (p : ℕ) → link (label w) ≡ Some p → (p < 16) × (queued (label p) ≡ true) × (rank p + 1 ≡ rank w)
  preceded p e =
      let b = (h.stands w lt).before p e in
      let i = h.order.within w (link_queued _ p e) in
      let m = h.order.member (rank w - 1) (omega (arith, b.0)) (omega (arith, i)) in
      let q : queued (label p) ≡ true = ap (λ v. queued (label v)) b.1 ∙ m.0 in
      ((h.order.within p q).0, q, omega (arith, b.0, m.1, ap rank b.1))

  -- nobody is named behind the one before
  pub unnamed : (p n : ℕ) → link (label w) ≡ Some p → (node p).next ≡ Some n → ⊥
  unnamed p n e k =
      let b = preceded p e in
      let z = behind_is o label (rank p + 1) n (sym ((h.stands p b.0).linked b.1) ∙ k) in
      never (sym (ap link (sym (ap label (z.1 ∙ (ap o.who b.2 ∙ (h.order.within w (link_queued _ p e)).3))) ∙ z.2)) ∙ e)

  pub keep_W3 : (p : ℕ) → label w ≡ W3 p → Chained last (with_next node p (Some w)) (upd label w W4) o
  keep_W3 p e = record {
    order = stays h.order _ (each (λ v x. queued x ≡ queued (label v)) label w W4 (ap queued (sym e)) (λ v ne. refl));
    ends = h.ends;
    stands = each (λ v y. v < 16 → Stands (upd node p x v) o after v y) label w W4 (λ _. mine) (λ v ne a. ⊎_elim
        (λ is. subst (λ u. Stands (upd node p x u) o after u (label u)) (sym is) theirs)
        (λ not. subst (λ y. Stands y o after v (label v)) (sym (upd_other node p v x not)) (relabelled (node v) o label after v (label v)
        (λ q. elsewhere W4 (rank v + 1) (omega (arith, h.order.within v q)) (λ z. not (same_rank h.order v p q b.1 (omega (arith, z, b.2))))) (h.stands v a)))
        (cases_eq v p));
  }
    where
      x : Node
      x = record { next = Some w; locked = (node p).locked }

      after : ℕ → Label
      after = upd label w W4

      b : (p < 16) × (queued (label p) ≡ true) × (rank p + 1 ≡ rank w)
      b = preceded p (ap link e)

      mine : Stands (upd node p x w) o after w W4
      mine = let t = standing (W3 p) e in subst (λ y. Stands y o after w W4) (sym (upd_other node p w x (λ z. omega (arith, b.2, ap rank z)))) (record {
        flag = t.flag ∙ sym (ap (shut W4) (ne_eqb (rank w) o.first (λ z. omega (arith, z, (t.before p refl).0))));
        front = λ k. absurd (false≢true k);
        before = λ q k. never k;
        linked = λ q. t.linked refl ∙ sym (elsewhere W4 (rank w + 1) (omega (arith, (t.before p refl).0)) (λ z. omega (arith, z)));
        fresh = λ k. grind (arith, k);
        follows = λ k. grind (arith, k);
        hands = λ n k. grind (arith, k);
      })

      theirs : Stands (upd node p x p) o after p (label p)
      theirs =
          let k = h.stands p b.0 in
          let i = h.order.within w (ap queued e) in
          let who : o.who (rank p + 1) ≡ w = ap o.who b.2 ∙ i.3 in
          subst (λ y. Stands y o after p (label p)) (sym (upd_same node p x)) (record {
            flag = k.flag;
            front = k.front;
            before = k.before;
            linked = λ _. sym (behind_at o after (rank p + 1) (omega (arith, b.2, i)) ∙ (ap (λ v. cond (named (after v)) (Some v) None) who ∙ ap (λ l. cond (named l) (Some w) None) (upd_same label w W4)));
            fresh = λ z. absurd (false≢true (ap queued (sym z) ∙ b.1));
            follows = k.follows;
            hands = λ n z. absurd (unnamed p n (ap link e) (k.hands n z));
          })

  -- ## Joining

  abbrev longer : Line
  longer = joined o w

  -- who is behind those that were in the line
  behind_joined : (l : Label) → label w ≡ W1 → named l ≡ false → (r : ℕ) → o.first ≤ r → r ≤ o.end → behind longer (upd label w l) r ≡ behind o label r
  behind_joined l e m r a b = behind_at longer (upd label w l) r (omega arith) ∙ ⊎_elim
      (λ less. let k = h.order.member r a less in
      ap (λ v. cond (named (upd label w l v)) (Some v) None) (upd_other o.who o.end r w (λ z. omega (arith, z, less)))
      ∙ (ap (λ y. cond (named y) (Some (o.who r)) None) (upd_other label w (o.who r) l (λ z. false≢true (ap queued (sym e) ∙ (ap (λ v. queued (label v)) (sym z) ∙ k.0)))) ∙ sym (behind_at o label r less)))
      (λ not_less. ap (λ v. cond (named (upd label w l v)) (Some v) None) (ap longer.who (let z : r ≡ o.end = omega (arith, not_less, b) in z) ∙ upd_same o.who o.end w)
      ∙ (ap (λ y. cond (named y) (Some w) None) (upd_same label w l) ∙ (ap (λ c. cond c (Some w) None) m ∙ sym (behind_past o label r not_less))))
      (cases_lt r o.end)

  joining : (l : Label) → label w ≡ W1 → queued l ≡ true → named l ≡ false → Stands (node w) longer (upd label w l) w l → Chained (Some w) node (upd label w l) longer
  joining l e q m new = record {
    order = joins h.order w _ lt (ap queued e) (λ v. ap (λ f. f v) (mapped queued label w l) ∙ ap (λ c. upd (λ u. queued (label u)) w c v) q);
    ends = sym (final_at longer (omega (arith, h.order.sorted)) ∙ ap Some (ap longer.who (let z : o.end + 1 - 1 ≡ o.end = omega arith in z) ∙ upd_same o.who o.end w));
    stands = each (λ v y. v < 16 → Stands (node v) longer (upd label w l) v y) label w l (λ _. new) (λ v ne a.
        let k = h.stands v a in
        let same : longer.rank v ≡ rank v = upd_other rank w v o.end ne in
        record {
          flag = k.flag ∙ ap (λ r. shut (label v) (eqb r o.first)) (sym same);
          front = λ f. same ∙ k.front f;
          before = λ p z. let i = h.order.within v (link_queued _ p z) in
              (omega (arith, same, (k.before p z).0), (k.before p z).1 ∙ sym (ap (λ r. longer.who (r - 1)) same ∙ upd_other o.who o.end (rank v - 1) w (λ y. omega (arith, y, i))));
          linked = λ z. let i = h.order.within v z in k.linked z ∙ sym (ap (λ r. behind longer (upd label w l) (r + 1)) same ∙ behind_joined l e m (rank v + 1) (omega (arith, i)) (omega (arith, i)));
          fresh = k.fresh;
          follows = λ z. omega (arith, same, k.follows z);
          hands = k.hands;
        });
  }

  newest : (l : Label) → label w ≡ W1 → queued l ≡ true → (node w).next ≡ behind longer (upd label w l) (longer.rank w + 1)
  newest l e q = (standing W1 e).fresh refl ∙ sym (behind_past longer (upd label w l) (longer.rank w + 1) (omega (arith, upd_same rank w o.end)))

  -- nobody was in the line
  pub keep_alone : label w ≡ W1 → last ≡ None → Chained (Some w) node (upd label w W5) longer
  keep_alone e none = joining W5 e refl refl (record {
    flag = (standing W1 e).flag;
    front = λ _. ⊎_elim (λ l. never (sym none ∙ (h.ends ∙ final_at o l))) (λ l. omega (arith, upd_same rank w o.end, l, h.order.sorted)) (cases_lt o.first o.end);
    before = λ q k. never k;
    linked = newest W5 e;
    fresh = λ k. grind (arith, k);
    follows = λ k. grind (arith, k);
    hands = λ n k. grind (arith, k);
  })

  pub keep_W1 : (p : ℕ) → label w ≡ W1 → last ≡ Some p → Chained (Some w) node (upd label w (W2 p)) longer
  keep_W1 p e some = let f = final_is o p (sym h.ends ∙ some) in let at = upd_same rank w o.end in joining (W2 p) e refl refl (record {
    flag = (standing W1 e).flag;
    front = λ k. absurd (false≢true k);
    before = λ q k. (omega (arith, at, f.0), (let z : q ≡ p = cc in z) ∙ (f.1 ∙ sym (ap (λ r. longer.who (r - 1)) at ∙ upd_other o.who o.end (o.end - 1) w (λ z. omega (arith, z, f.0)))));
    linked = newest (W2 p) e;
    fresh = λ k. grind (arith, k);
    follows = λ k. grind (arith, k);
    hands = λ n k. grind (arith, k);
  })

  -- ## Handing on

  abbrev shorter : Line
  shorter = handed o

  -- to nobody: w is alone in the line
  module _ (e : label w ≡ X1) (mine : last ≡ Some w) where
    pub alone : (v : ℕ) → (v ≡ w → ⊥) → queued (label v) ≡ true → ⊥
    alone v ne q =
        let f = final_is o w (sym h.ends ∙ mine) in
        let i = h.order.within v q in
        let m = h.order.member (o.end - 1) (omega (arith, f.0)) (omega (arith, f.0)) in
        ne (same_rank h.order v w q (ap queued e) (omega (arith, i, (standing X1 e).front refl, m.1, ap rank f.1)))

    pub keep_last : Chained None node (upd label w X4) shorter
    keep_last =
        let f = final_is o w (sym h.ends ∙ mine) in
        let first : rank w ≡ o.first = (standing X1 e).front refl in
        let m = h.order.member (o.end - 1) (omega (arith, f.0)) (omega (arith, f.0)) in
        record {
          order = hands_on h.order w _ (ap queued e) first (λ v. ap (λ f. f v) (mapped queued label w X4));
          ends = sym (final_empty shorter (omega (arith, first, m.1, ap rank f.1)));
          stands = each (λ v y. v < 16 → Stands (node v) shorter (upd label w X4) v y) label w X4
              (λ _. record {
                flag = (standing X1 e).flag;
                front = λ k. absurd (false≢true k);
                before = λ q k. never k;
                linked = λ k. absurd (false≢true k);
                fresh = λ k. grind (arith, k);
                follows = λ k. grind (arith, k);
                hands = λ n k. grind (arith, k);
              })
              (λ v ne a. let k = h.stands v a in let out = alone v ne in record {
                flag = k.flag ∙ shut_same (label v) _ _ (λ z. absurd (out (ap queued (named_is _ z))));
                front = λ z. absurd (out (ahead_queued _ z));
                before = λ p z. absurd (out (link_queued _ p z));
                linked = λ z. absurd (out z);
                fresh = k.fresh;
                follows = λ z. absurd (out (ap queued z));
                hands = k.hands;
              });
        }

  -- to the one behind
  module _ (n : ℕ) (e : label w ≡ X3 n) where
    pub heir : (rank n ≡ o.first + 1) × (label n ≡ W4) × (n < 16) × (o.first + 1 < o.end) × (rank w ≡ o.first)
    heir =
        let t = standing (X3 n) e in
        let first : rank w ≡ o.first = t.front refl in
        let b = behind_is o label (rank w + 1) n (sym (t.linked refl) ∙ t.hands n refl) in
        let m = h.order.member (rank w + 1) (omega (arith, first)) b.0 in
        (omega (arith, first, m.1, ap rank b.1), b.2, (h.order.within n (ap queued b.2)).0, omega (arith, b.0, first), first)

    pub keep_X3 : Chained last (with_locked node n false) (upd label w X4) shorter
    keep_X3 = record {
      order = hands_on h.order w _ (ap queued e) first (λ v. ap (λ f. f v) (mapped queued label w X4));
      ends = h.ends ∙ (final_at o (omega (arith, heir.3)) ∙ sym (final_at shorter heir.3));
      stands = each (λ v y. v < 16 → Stands (upd node n x v) shorter after v y) label w X4
          (λ _. subst (λ y. Stands y shorter after w X4) (sym (upd_other node n w x (λ z. omega (arith, heir.0, first, ap rank z)))) (record {
            flag = (standing (X3 n) e).flag;
            front = λ k. absurd (false≢true k);
            before = λ q k. never k;
            linked = λ k. absurd (false≢true k);
            fresh = λ k. grind (arith, k);
            follows = λ k. grind (arith, k);
            hands = λ n k. grind (arith, k);
          }))
          (λ v ne a. ⊎_elim
          (λ is. subst (λ u. Stands (upd node n x u) shorter after u (label u)) (sym is) (subst (λ y. Stands y shorter after n (label n)) (sym (upd_same node n x)) theirs))
          (λ not. subst (λ y. Stands y shorter after v (label v)) (sym (upd_other node n v x not)) (rest v ne not a))
          (cases_eq v n));
    }
      where
        x : Node
        x = record { next = (node n).next; locked = false }

        after : ℕ → Label
        after = upd label w X4

        first : rank w ≡ o.first
        first = heir.4

        same : (r : ℕ) → behind shorter after r ≡ behind o label r
        same r = ap (λ b. cond (ltb r o.end) (cond b (Some (o.who r)) None) None) (each (λ u y. named y ≡ named (label u)) label w X4 (ap named (sym e)) (λ u ne. refl) (o.who r))

        theirs : Stands x shorter after n (label n)
        theirs = let k = h.stands n heir.2 in let at = heir.1 in record {
          flag = sym (ap (λ l. shut l (eqb (rank n) (o.first + 1))) at ∙ ap (shut W4) (eq-eqb _ _ heir.0));
          front = λ z. heir.0;
          before = λ p z. never (ap link (sym at) ∙ z);
          linked = λ z. k.linked z ∙ sym (same (rank n + 1));
          fresh = k.fresh;
          follows = k.follows;
          hands = k.hands;
        }

        rest : (v : ℕ) → (v ≡ w → ⊥) → (v ≡ n → ⊥) → v < 16 → Stands (node v) shorter after v (label v)
        rest v ne not a =
            let k = h.stands v a in
            let behind_w : queued (label v) ≡ true → rank v ≡ o.first → ⊥ = λ q z. ne (same_rank h.order v w q (ap queued e) (z ∙ sym first)) in
            let behind_n : queued (label v) ≡ true → rank v ≡ o.first + 1 → ⊥ = λ q z. not (same_rank h.order v n q (ap queued heir.1) (z ∙ sym heir.0)) in
            record {
              flag = k.flag ∙ shut_same (label v) _ _ (λ z. let q = ap queued (named_is _ z) in ne_eqb _ _ (behind_w q) ∙ sym (ne_eqb _ _ (behind_n q)));
              front = λ z. absurd (behind_w (ahead_queued _ z) (k.front z));
              before = λ p z. let b = k.before p z in (⊎_elim (λ l. l) (λ l. absurd (behind_n (link_queued _ p z) (omega (arith, l, b.0)))) (cases_lt (o.first + 1) (rank v)), b.1);
              linked = λ z. k.linked z ∙ sym (same (rank v + 1));
              fresh = k.fresh;
              follows = k.follows;
              hands = k.hands;
            }
