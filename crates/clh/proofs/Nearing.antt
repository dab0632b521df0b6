-- Somebody always has a distance, and each access leads on.
use Rattle.std.proofs.Common.{◌≡◌, ℕ, ◌+◌, ◌<◌, ◌≤◌, Bool, true, false, ◌⊎◌, Some, None, Option, sym, refl, ap, ◌∙◌, subst, inl, inr, ⊎_elim, arith}
use Rattle.std.proofs.lemmas.Bool.{cases_lt, cases_eq, false≢true}
use Rattle.lock.proofs.Small.{never}
use Rattle.lock.specs.declared.place.Place.TheVariants as place
use Rattle.lock.specs.Calls.{upd}
use Rattle.lock.proofs.Pair.{Below, SomeDistance, Fitting, Onward}
use Rattle.lock.proofs.Labelled.{Free, Waits, upd_same, upd_other}
use Rattle.queue.proofs.Written.{each}
use Rattle.queue.proofs.Ordering.{same_rank}
use Rattle.clh.specs.declared.words.Label.{Label}
use Rattle.clh.specs.declared.words.Label.TheVariants.{Out, W0, W1, W2, W3, Inside, X0, X1}
use Rattle.clh.specs.declared.words.Node.{Node}
use Rattle.clh.specs.Accesses.{place_of}
use Rattle.clh.specs.Distance.{unless, distance_at}
use Rattle.clh.specs.Facts.{queued, ahead, link, kept, Chain, Stands, Chained}
use Rattle.clh.proofs.Keeps.{with_wait, with_prev, link_queued, behind, shut, opened, keep_X0}

unless_is : (b : Bool) (n d : ℕ) → unless b n ≡ Some d → (b ≡ false) × (n ≡ d)
unless_is true n d e = never e
unless_is false n d e = (refl, cc)

open_at : (b : Bool) (n : ℕ) → b ≡ false → unless b n ≡ Some n
open_at b n e = ap (λ x. unless x n) e

pub fitting : (tail : ℕ) (node : ℕ → Node) (l : Label) (d : ℕ) → distance_at tail node l ≡ Some d → Fitting 5 (place_of l) d
fitting tail node W0 d e = let z = (unless_is _ 4 d e).1 in (inl refl, omega (arith, z), omega (arith, z))
fitting tail node W1 d e = let z = (unless_is _ 3 d e).1 in (inl refl, omega (arith, z), omega (arith, z))
fitting tail node (W2 p) d e = let z = (unless_is _ 2 d e).1 in (inl refl, omega (arith, z), omega (arith, z))
fitting tail node (W3 p) d e = let z = (unless_is _ 1 d e).1 in (inl refl, omega (arith, z), omega (arith, z))
fitting tail node (X0 p) d e = let z : 5 ≡ d = cc in (inr refl, omega arith, omega arith)
fitting tail node _ d e = never e

-- only a worker that is to hand on is as far off as 5
short : (tail : ℕ) (node : ℕ → Node) (l : Label) (d : ℕ) → distance_at tail node l ≡ Some d → (d < 5) ⊎ (ahead l ≡ true)
short tail node W0 d e = inl (omega (arith, (unless_is _ 4 d e).1))
short tail node W1 d e = inl (omega (arith, (unless_is _ 3 d e).1))
short tail node (W2 p) d e = inl (omega (arith, (unless_is _ 2 d e).1))
short tail node (W3 p) d e = inl (omega (arith, (unless_is _ 1 d e).1))
short tail node (X0 p) d e = inr refl
short tail node _ d e = never e

-- distances go by the flags of the tail and of the nodes that are looked at
distance_same : (tail next : ℕ) (node after : ℕ → Node) (l : Label) → (after next).wait ≡ (node tail).wait → ((p : ℕ) → link l ≡ Some p → (after p).wait ≡ (node p).wait) → distance_at next after l ≡ distance_at tail node l
distance_same tail next node after W0 e f = ap (λ b. unless b 4) e
distance_same tail next node after W1 e f = ap (λ b. unless b 3) e
distance_same tail next node after (W2 p) e f = ap (λ b. unless b 2) (f p refl)
distance_same tail next node after (W3 p) e f = ap (λ b. unless b 1) (f p refl)
distance_same tail next node after _ e f = refl

abbrev pub distances : ℕ → (ℕ → Node) → (ℕ → Label) → ℕ → Option ℕ
distances tail node label v = distance_at tail node (label v)

module _ {tail : ℕ} {node : ℕ → Node} {own : ℕ → ℕ} {label : ℕ → Label} {c : Chain} (h : Chained tail node own label c) where
  abbrev far : ℕ → Option ℕ
  far = distances tail node label

  -- ## While somebody waits and nobody is inside, somebody is at a distance

  vacant_open : c.line.first ≡ c.line.end → (node tail).wait ≡ false
  vacant_open e = ap (λ n. (node n).wait) (h.last ∙ ap c.at (sym e)) ∙ h.spare_open

  lined_shut : c.line.first < c.line.end → (node tail).wait ≡ true
  lined_shut l = ap (λ n. (node n).wait) h.last ∙ shut h c.line.end l (omega arith)

  -- the first in the line
  first_at : (v : ℕ) (l : Label) (n : ℕ) → Stands node c v l n → queued l ≡ true → c.line.rank v ≡ c.line.first → (place_of l ≡ place.Inside → ⊥) → (d : ℕ) × (distance_at tail node l ≡ Some d)
  first_at v (W2 p) n t q r i = (2, open_at _ 2 (ap (λ m. (node m).wait) (t.before p refl ∙ ap c.at r) ∙ h.spare_open))
  first_at v (W3 p) n t q r i = (1, open_at _ 1 (ap (λ m. (node m).wait) (t.before p refl ∙ ap c.at r) ∙ h.spare_open))
  first_at v Inside n t q r i = absurd (i refl)
  first_at v (X0 p) n t q r i = (5, refl)
  first_at v _ n t q r i = absurd (false≢true q)

  -- one that comes to an empty line
  comer_at : (l : Label) → place_of l ≡ place.Waiting → (queued l ≡ true → ⊥) → c.line.first ≡ c.line.end → (d : ℕ) × (distance_at tail node l ≡ Some d)
  comer_at Out e n z = grind (arith, e)
  comer_at W0 e n z = (4, open_at _ 4 (vacant_open z))
  comer_at W1 e n z = (3, open_at _ 3 (vacant_open z))
  comer_at (X1 p) e n z = grind (arith, e)
  comer_at _ e n z = absurd (n refl)

  pub some : Free place_of label → Waits place_of label → SomeDistance far
  some free (w, lt, e) = ⊎_elim
      (λ l. let v : ℕ = c.line.who c.line.first in let m = h.order.member c.line.first (omega arith) l in let a : v < 16 = (h.order.within v m.0).0 in
      let k = first_at v (label v) (own v) (h.stands v a) m.0 m.1 (free v a) in (v, k.0, a, k.1))
      (λ l. let k = comer_at (label w) e (λ q. omega (arith, h.order.within w q, l)) (omega (arith, l, h.order.sorted)) in (w, k.0, lt, k.1))
      (cases_lt c.line.first c.line.end)

  -- while somebody is in the line, only the first has a distance
  only_first : c.line.first < c.line.end → (v d : ℕ) → v < 16 → (l : Label) → label v ≡ l → distance_at tail node l ≡ Some d → (queued (label v) ≡ true) × (c.line.rank v ≡ c.line.first)
  only_first f v d a W0 e k = absurd (false≢true (sym (unless_is _ 4 d k).0 ∙ lined_shut f))
  only_first f v d a W1 e k = absurd (false≢true (sym (unless_is _ 3 d k).0 ∙ lined_shut f))
  only_first f v d a (W2 p) e k = (ap queued e, opened h v a p (ap link e) (unless_is _ 2 d k).0)
  only_first f v d a (W3 p) e k = (ap queued e, opened h v a p (ap link e) (unless_is _ 1 d k).0)
  only_first f v d a (X0 p) e k = (ap queued e, (h.stands v a).front (ap ahead e))
  only_first f v d a _ e k = never k

  -- ## One access

  module _ (w : ℕ) (lt : w < 16) where
    far_is : (l : Label) → label w ≡ l → (d : ℕ) → far w ≡ Some d → distance_at tail node l ≡ Some d
    far_is l e d k = ap (distance_at tail node) (sym e) ∙ k

    -- w stays
    pub on_wait : (p : ℕ) → label w ≡ W3 p → (node p).wait ≡ true → Onward w far far
    on_wait p e f = record { others = λ v d a ne k. (v, d, a, k, omega arith); own = λ d k. never (sym (ap (λ b. unless b 1) f) ∙ far_is (W3 p) e d k) }

    -- an access that changes no flag that another looks at
    on_same : (after : ℕ → Node) (l : Label) → (after tail).wait ≡ (node tail).wait
        → ((v p : ℕ) → v < 16 → (v ≡ w → ⊥) → link (label v) ≡ Some p → (after p).wait ≡ (node p).wait)
        → ((d : ℕ) → far w ≡ Some d → (e : ℕ) × (distance_at tail after l ≡ Some e) × (e < d)) → Onward w far (distances tail after (upd label w l))
    on_same after l tl ln near = record {
      others = λ v d a ne e. (v, d, a, ap (distance_at tail after) (upd_other label w v l ne) ∙ (distance_same tail tail node after (label v) tl (λ p. ln v p a ne) ∙ e), omega arith);
      own = λ d e. let k = near d e in (w, k.0, lt, ap (distance_at tail after) (upd_same label w l) ∙ k.1, k.2);
    }

    -- a node that is kept outside the line is not of the chain
    loose : (queued (label w) ≡ true → ⊥) → (r : ℕ) → c.line.first ≤ r → r ≤ c.line.end → c.at r ≡ kept (label w) (own w) → ⊥
    loose out r a b e = ⊎_elim
        (λ l. let k = behind h r l b in
        out (subst (λ v. queued (label v) ≡ true) (sym (h.stands k.0 k.1).keeps ∙ (ap c.keeper (sym k.3 ∙ e) ∙ (h.stands w lt).keeps)) k.2))
        (λ l. omega (arith, lt, sym h.spare_free ∙ (ap c.keeper (ap c.at (let z : c.line.first ≡ r = omega (arith, a, l) in z) ∙ e) ∙ (h.stands w lt).keeps)))
        (cases_lt c.line.first r)

    pub on_W0 : label w ≡ W0 → Onward w far (distances tail (with_wait node (own w) true) (upd label w W1))
    on_W0 e =
        let x : Node = record { wait = true; prev = (node (own w)).prev } in
        let after : ℕ → Node = upd node (own w) x in
        let out : queued (label w) ≡ true → ⊥ = λ q. false≢true (ap queued (sym e) ∙ q) in
        let flag : (r : ℕ) → c.line.first ≤ r → r ≤ c.line.end → (after (c.at r)).wait ≡ (node (c.at r)).wait =
        λ r a b. ap (λ y. y.wait) (upd_other node (own w) (c.at r) x (λ z. loose out r a b (z ∙ ap (λ l. kept l (own w)) (sym e)))) in
        let tl : (after tail).wait ≡ (node tail).wait = subst (λ n. (after n).wait ≡ (node n).wait) (sym h.last) (flag c.line.end h.order.sorted (omega arith)) in
        on_same after W1 tl
        (λ v p a ne k. let i = h.order.within v (link_queued _ p k) in subst (λ n. (after n).wait ≡ (node n).wait) (sym ((h.stands v a).before p k)) (flag (c.line.rank v) i.1 (omega (arith, i.2))))
        (λ d k. let z = unless_is _ 4 d (far_is W0 e d k) in (3, open_at _ 3 (tl ∙ z.0), omega (arith, z.1)))

    -- a node of which only `prev` is written
    flags : (n : ℕ) (p : Option ℕ) (k : ℕ) → (with_prev node n p k).wait ≡ (node k).wait
    flags n p = each (λ j y. y.wait ≡ (node j).wait) node n _ refl (λ j ne. refl)

    pub on_W2 : (p : ℕ) → label w ≡ W2 p → Onward w far (distances tail (with_prev node (own w) (Some p)) (upd label w (W3 p)))
    on_W2 p e = on_same (with_prev node (own w) (Some p)) (W3 p) (flags (own w) (Some p) tail) (λ v q a ne k. flags (own w) (Some p) q)
        (λ d k. let z = unless_is _ 2 d (far_is (W2 p) e d k) in (1, open_at _ 1 (flags (own w) (Some p) p ∙ z.0), omega (arith, z.1)))

    pub on_X1 : (p : ℕ) → label w ≡ X1 p → Onward w far (distances tail (with_prev node p None) (upd label w Out))
    on_X1 p e = on_same (with_prev node p None) Out (flags p None tail) (λ v q a ne k. flags p None q) (λ d k. never (far_is (X1 p) e d k))

    -- where the line was empty, the worker that joins is now the nearest
    pub on_W1 : label w ≡ W1 → Onward w far (distances (own w) node (upd label w (W2 tail)))
    on_W1 e = record {
      others = λ v d a ne k. by_label v d a ne (label v) refl k;
      own = λ d k. let z = unless_is _ 3 d (far_is W1 e d k) in (w, 2, lt, mine z.0, omega (arith, z.1));
    }
      where
        mine : (node tail).wait ≡ false → distances (own w) node (upd label w (W2 tail)) w ≡ Some 2
        mine f = ap (distance_at (own w) node) (upd_same label w (W2 tail)) ∙ open_at _ 2 f

        still : (v : ℕ) → (v ≡ w → ⊥) → (l : Label) → label v ≡ l → distances (own w) node (upd label w (W2 tail)) v ≡ distance_at (own w) node l
        still v ne l k = ap (distance_at (own w) node) (upd_other label w v (W2 tail) ne ∙ k)

        by_label : (v d : ℕ) → v < 16 → (v ≡ w → ⊥) → (l : Label) → label v ≡ l → distance_at tail node l ≡ Some d → Below (distances (own w) node (upd label w (W2 tail))) (d + 1)
        by_label v d a ne W0 k f = let z = unless_is _ 4 d f in (w, 2, lt, mine z.0, omega (arith, z.1))
        by_label v d a ne W1 k f = let z = unless_is _ 3 d f in (w, 2, lt, mine z.0, omega (arith, z.1))
        by_label v d a ne l k f = (v, d, a, still v ne l k ∙ f, omega arith)

-- handing on: whoever is then at a distance is nearer than the one that handed on
pub on_X0 : {tail : ℕ} {node : ℕ → Node} {own : ℕ → ℕ} {label : ℕ → Label} {c : Chain} (h : Chained tail node own label c) (w : ℕ) (lt : w < 16) (p : ℕ) → label w ≡ X0 p
    → Free place_of (upd label w (X1 p)) → Waits place_of (upd label w (X1 p))
    → Onward w (distances tail node label) (distances tail (with_wait node (own w) false) (upd label w (X1 p)))
on_X0 {tail} {node} {own} {label} {c} h w lt p e free waits =
    let i = h.order.within w (ap queued e) in
    let first = (h.stands w lt).front (ap ahead e) in
    let f = keep_X0 h w lt p e in
    let r = some f free waits in
    record {
      others = λ v d a ne k. let u = only_first h (omega (arith, i)) v d a (label v) refl k in absurd (ne (same_rank h.order v w u.0 (ap queued e) (u.1 ∙ sym first)));
      own = λ d k. let five : 5 ≡ d = (let z : ◌≡◌ {A = Option ℕ} (Some 5) (Some d) = ap (distance_at tail node) (sym e) ∙ k in cc) in ⊎_elim
          (λ l. (r.0, r.1, r.2, r.3, omega (arith, l, five)))
          (λ l. absurd (⊎_elim
          (λ same. false≢true (ap ahead (sym (upd_same label w (X1 p))) ∙ (ap (λ v. ahead (upd label w (X1 p) v)) (sym same) ∙ l)))
          (λ ne. omega (arith, (f.stands r.0 r.2).front l, (h.stands r.0 r.2).front (ap ahead (sym (upd_other label w r.0 (X1 p) ne)) ∙ l)))
          (cases_eq r.0 w)))
          (short tail (with_wait node (own w) false) (upd label w (X1 p) r.0) r.1 r.3);
    }
