-- Somebody always has a distance, and each access leads on.
use Rattle.std.proofs.Common.{◌≡◌, ℕ, ◌+◌, ◌-◌, ◌<◌, ◌≤◌, Bool, true, false, cond, ◌⊎◌, is_some, Some, None, Option, sym, refl, ap, ◌∙◌, inl, inr, ⊎_elim, arith}
use Rattle.std.proofs.lemmas.Option.{cond_some}
use Rattle.std.proofs.lemmas.Bool.{cases_lt, cases_eq, eq-eqb, false≢true}
use Rattle.lock.proofs.Small.{never}
use Rattle.lock.specs.declared.place.Place.TheVariants as place
use Rattle.lock.specs.Calls.{upd}
use Rattle.lock.proofs.Pair.{Below, SomeDistance, Fitting, Onward}
use Rattle.lock.proofs.Labelled.{Free, Waits, upd_same, upd_other}
use Rattle.queue.specs.Line.{Line}
use Rattle.queue.proofs.Written.{each}
use Rattle.mcs.specs.declared.words.Label.{Label}
use Rattle.mcs.specs.declared.words.Label.TheVariants.{Out, W0, W1, W2, W3, W4, W5, Inside, X0, X1, X2, X3, X4}
use Rattle.mcs.specs.declared.words.Node.{Node}
use Rattle.mcs.specs.Accesses.{place_of}
use Rattle.mcs.specs.Distance.{unlinked, distance_at}
use Rattle.mcs.specs.Facts.{queued, ahead, named, shut, link, Chained}
use Rattle.mcs.proofs.Keeps.{with_next, with_locked, final_empty, behind_at, standing, preceded, unnamed, alone, heir, keep_last}

-- ## What a distance says

unless_is : (b : Bool) (n d : ℕ) → cond b None (Some n) ≡ Some d → (b ≡ false) × (n ≡ d)
unless_is true n d e = never e
unless_is false n d e = (refl, cc)

either_is : (b : Bool) (m n d : ℕ) → cond b (Some m) (Some n) ≡ Some d → ((b ≡ true) × (m ≡ d)) ⊎ ((b ≡ false) × (n ≡ d))
either_is true m n d e = inl (refl, cc)
either_is false m n d e = inr (refl, cc)

when_so : (b : Bool) (n : ℕ) → b ≡ true → cond b (Some n) None ≡ Some n
when_so b n e = ap (λ x. cond x (Some n) None) e

unless_so : (b : Bool) (n : ℕ) → b ≡ false → cond b None (Some n) ≡ Some n
unless_so b n e = ap (λ x. cond x None (Some n)) e

either_one : (b : Bool) (m n : ℕ) → (d : ℕ) × (cond b (Some m) (Some n) ≡ Some d)
either_one true m n = (m, refl)
either_one false m n = (n, refl)

within : (p : ℕ) (b : Bool) (m n d : ℕ) → cond b (Some m) (Some n) ≡ Some d → 1 ≤ m → m ≤ p → 1 ≤ n → n ≤ p → (1 ≤ d) × (d ≤ p)
within p b m n d e u v x y = ⊎_elim (λ z. (omega (arith, z.1, u), omega (arith, z.1, v))) (λ z. (omega (arith, z.1, x), omega (arith, z.1, y))) (either_is b m n d e)

pub fitting : (last : Option ℕ) (own : Node) (label : ℕ → Label) (l : Label) (d : ℕ) → distance_at last own label l ≡ Some d → Fitting 10 (place_of l) d
fitting last own label W0 d e = let z = (unless_is _ 3 d e).1 in (inl refl, omega (arith, z), omega (arith, z))
fitting last own label W1 d e = let z = (unless_is _ 2 d e).1 in (inl refl, omega (arith, z), omega (arith, z))
fitting last own label (W2 p) d e = let z = (cond_some _ 6 d e).1 in (inl refl, omega (arith, z), omega (arith, z))
fitting last own label (W3 p) d e = let z = (cond_some _ 5 d e).1 in (inl refl, omega (arith, z), omega (arith, z))
fitting last own label W4 d e = let z = (unless_is _ 2 d e).1 in (inl refl, omega (arith, z), omega (arith, z))
fitting last own label W5 d e = let z : 1 ≡ d = cc in (inl refl, omega (arith, z), omega (arith, z))
fitting last own label X0 d e = let z = within 10 _ 4 8 d e (omega arith) (omega arith) (omega arith) (omega arith) in (inr refl, z.0, z.1)
fitting last own label X1 d e = let z = within 10 _ 5 7 d e (omega arith) (omega arith) (omega arith) (omega arith) in (inr refl, z.0, z.1)
fitting last own label X2 d e = let z = (cond_some _ 4 d e).1 in (inr refl, omega (arith, z), omega (arith, z))
fitting last own label (X3 n) d e = let z : 3 ≡ d = cc in (inr refl, omega (arith, z), omega (arith, z))
fitting last own label _ d e = never e

-- one that is not in the line has a distance while nobody is
coming : (last : Option ℕ) (own : Node) (label : ℕ → Label) (l : Label) (d : ℕ) → distance_at last own label l ≡ Some d → (queued l ≡ true) ⊎ ((is_some last ≡ false) × (d < 4))
coming last own label Out d e = never e
coming last own label W0 d e = let z = unless_is _ 3 d e in inr (z.0, omega (arith, z.1))
coming last own label W1 d e = let z = unless_is _ 2 d e in inr (z.0, omega (arith, z.1))
coming last own label X4 d e = never e
coming last own label _ d e = inl refl

-- a link makes no distance longer
linked_nearer : (b c : Bool) (m n d : ℕ) → m ≤ n → (b ≡ true → c ≡ true) → cond b (Some m) (Some n) ≡ Some d → (e : ℕ) × (cond c (Some m) (Some n) ≡ Some e) × (e < d + 1)
linked_nearer true true m n d l f e = let z : m ≡ d = cc in (m, refl, omega (arith, z))
linked_nearer true false m n d l f e = absurd (false≢true (f refl))
linked_nearer false true m n d l f e = let z : n ≡ d = cc in (m, refl, omega (arith, z))
linked_nearer false false m n d l f e = let z : n ≡ d = cc in (n, refl, omega (arith, z))

-- nor does a node that is unlocked, or the one before that waits to be linked
nearer : (last next : Option ℕ) (own after : Node) (label labels : ℕ → Label) (l : Label) (d : ℕ) → (is_some last ≡ false → is_some next ≡ false)
    → (own.locked ≡ false → after.locked ≡ false) × (is_some own.next ≡ true → is_some after.next ≡ true)
    → ((p : ℕ) → link l ≡ Some p → unlinked (label p) ≡ true → unlinked (labels p) ≡ true)
    → distance_at last own label l ≡ Some d → (e : ℕ) × (distance_at next after labels l ≡ Some e) × (e < d + 1)
nearer last next own after label labels W0 d f g m e = let z = unless_is _ 3 d e in (3, unless_so _ 3 (f z.0), omega (arith, z.1))
nearer last next own after label labels W1 d f g m e = let z = unless_is _ 2 d e in (2, unless_so _ 2 (f z.0), omega (arith, z.1))
nearer last next own after label labels (W2 p) d f g m e = let z = cond_some _ 6 d e in (6, when_so _ 6 (m p refl z.0), omega (arith, z.1))
nearer last next own after label labels (W3 p) d f g m e = let z = cond_some _ 5 d e in (5, when_so _ 5 (m p refl z.0), omega (arith, z.1))
nearer last next own after label labels W4 d f g m e = let z = unless_is _ 2 d e in (2, unless_so _ 2 (g.0 z.0), omega (arith, z.1))
nearer last next own after label labels X0 d f g m e = linked_nearer _ _ 4 8 d (omega arith) g.1 e
nearer last next own after label labels X1 d f g m e = linked_nearer _ _ 5 7 d (omega arith) g.1 e
nearer last next own after label labels X2 d f g m e = let z = cond_some _ 4 d e in (4, when_so _ 4 (g.1 z.0), omega (arith, z.1))
nearer last next own after label labels _ d f g m e = (d, e, omega arith)

abbrev pub distances : Option ℕ → (ℕ → Node) → (ℕ → Label) → ℕ → Option ℕ
distances last node label v = distance_at last (node v) label (label v)

-- ## Nodes of which one is written

abbrev Better : Node → Node → Type 0
Better own after = (own.locked ≡ false → after.locked ≡ false) × (is_some own.next ≡ true → is_some after.next ≡ true)

unwritten : (own after : Node) → after ≡ own → Better own after
unwritten own after e = (λ k. ap (λ x. x.locked) e ∙ k, λ k. ap (λ x. is_some x.next) e ∙ k)

written : (node : ℕ → Node) (n : ℕ) (x : Node) → Better (node n) x → (v : ℕ) → Better (node v) (upd node n x v)
written node n x b = each (λ v y. Better (node v) y) node n x b (λ v ne. unwritten (node v) (node v) refl)

module _ {last : Option ℕ} {node : ℕ → Node} {label : ℕ → Label} {o : Line} (h : Chained last node label o) where
  abbrev far : ℕ → Option ℕ
  far = distances last node label

  -- ## While somebody waits and nobody is inside, somebody is at a distance

  -- the one behind a worker whose `next` is none is about to write it
  follower : (w : ℕ) → w < 16 → queued (label w) ≡ true → o.rank w + 1 < o.end → (node w).next ≡ None → (u : ℕ) × (u < 16) × ((label u ≡ W2 w) ⊎ (label u ≡ W3 w))
  follower w lt q l none = (u, a, by_label (label u) refl)
    where
      u : ℕ
      u = o.who (o.rank w + 1)

      i : (w < 16) × (o.first ≤ o.rank w) × (o.rank w < o.end) × (o.who (o.rank w) ≡ w)
      i = h.order.within w q

      m : (queued (label u) ≡ true) × (o.rank u ≡ o.rank w + 1)
      m = h.order.member (o.rank w + 1) (omega (arith, i)) l

      a : u < 16
      a = (h.order.within u m.0).0

      is_w : (p : ℕ) → link (label u) ≡ Some p → p ≡ w
      is_w p e = ((h.stands u a).before p e).1 ∙ (ap o.who (let z : o.rank u - 1 ≡ o.rank w = omega (arith, m.1) in z) ∙ i.3)

      not_out : {A : Type 0} → queued (label u) ≡ false → A
      not_out e = absurd (false≢true (sym e ∙ m.0))

      not_first : {A : Type 0} → ahead (label u) ≡ true → A
      not_first e = absurd (omega (arith, (h.stands u a).front e, m.1, i))

      by_label : (x : Label) → label u ≡ x → (label u ≡ W2 w) ⊎ (label u ≡ W3 w)
      by_label (W2 p) e = inl (e ∙ ap W2 (is_w p (ap link e)))
      by_label (W3 p) e = inr (e ∙ ap W3 (is_w p (ap link e)))
      by_label W4 e = never (sym none ∙ ((h.stands w lt).linked q ∙ (behind_at o label (o.rank w + 1) l ∙ ap (λ b. cond b (Some u) None) (ap named e))))
      by_label W5 e = not_first (ap ahead e)
      by_label Inside e = not_first (ap ahead e)
      by_label X0 e = not_first (ap ahead e)
      by_label X1 e = not_first (ap ahead e)
      by_label X2 e = not_first (ap ahead e)
      by_label (X3 n) e = not_first (ap ahead e)
      by_label _ e = not_out (ap queued e)

  far_at : (v : ℕ) (l : Label) → label v ≡ l → (d : ℕ) → distance_at last (node v) label l ≡ Some d → far v ≡ Some d
  far_at v l e d k = ap (distance_at last (node v) label) e ∙ k

  -- the first in the line, or the one behind it
  first_at : (v : ℕ) → v < 16 → (l : Label) → label v ≡ l → queued l ≡ true → o.rank v ≡ o.first → (place_of l ≡ place.Inside → ⊥) → SomeDistance far
  first_at v a (W2 p) e q r i = absurd (omega (arith, r, ((standing h v a (W2 p) e).before p refl).0))
  first_at v a (W3 p) e q r i = absurd (omega (arith, r, ((standing h v a (W3 p) e).before p refl).0))
  first_at v a W4 e q r i = (v, 2, a, far_at v W4 e 2 (unless_so _ 2 ((standing h v a W4 e).flag ∙ ap (shut W4) (eq-eqb _ _ r))))
  first_at v a W5 e q r i = (v, 1, a, far_at v W5 e 1 refl)
  first_at v a Inside e q r i = absurd (i refl)
  first_at v a X0 e q r i = let k = either_one (is_some (node v).next) 4 8 in (v, k.0, a, far_at v X0 e k.0 k.1)
  first_at v a X1 e q r i = let k = either_one (is_some (node v).next) 5 7 in (v, k.0, a, far_at v X1 e k.0 k.1)
  first_at v a X2 e q r i = by_next (node v).next refl
    where
      by_next : (n : Option ℕ) → (node v).next ≡ n → SomeDistance far
      by_next (Some n) k = (v, 4, a, far_at v X2 e 4 (when_so _ 4 (ap is_some k)))
      by_next None k = let u = follower v a (ap queued e) ((standing h v a X2 e).follows refl) k in
          ⊎_elim (λ z. (u.0, 6, u.1, far_at u.0 (W2 v) z 6 (when_so _ 6 (ap unlinked e)))) (λ z. (u.0, 5, u.1, far_at u.0 (W3 v) z 5 (when_so _ 5 (ap unlinked e)))) u.2
  first_at v a (X3 n) e q r i = (v, 3, a, far_at v (X3 n) e 3 refl)
  first_at v a _ e q r i = absurd (false≢true q)

  -- one that comes to an empty line
  comer_at : (l : Label) (own : Node) → place_of l ≡ place.Waiting → (queued l ≡ true → ⊥) → last ≡ None → (d : ℕ) × (distance_at last own label l ≡ Some d)
  comer_at Out own e n z = grind (arith, e)
  comer_at W0 own e n z = (3, unless_so _ 3 (ap is_some z))
  comer_at W1 own e n z = (2, unless_so _ 2 (ap is_some z))
  comer_at X4 own e n z = grind (arith, e)
  comer_at _ own e n z = absurd (n refl)

  pub some : Free place_of label → Waits place_of label → SomeDistance far
  some free (w, lt, e) = ⊎_elim
      (λ l. let v : ℕ = o.who o.first in let m = h.order.member o.first (omega arith) l in let a : v < 16 = (h.order.within v m.0).0 in
      first_at v a (label v) refl m.0 m.1 (free v a))
      (λ l. let k = comer_at (label w) (node w) e (λ q. omega (arith, h.order.within w q, l)) (h.ends ∙ final_empty o l) in (w, k.0, lt, k.1))
      (cases_lt o.first o.end)

  -- ## One access

  module _ (w : ℕ) (lt : w < 16) where
    far_is : (l : Label) → label w ≡ l → (d : ℕ) → far w ≡ Some d → distance_at last (node w) label l ≡ Some d
    far_is l e d k = ap (distance_at last (node w) label) (sym e) ∙ k

    -- an access that makes nobody else's distance longer
    onward : (next : Option ℕ) (after : ℕ → Node) (l : Label) → (is_some last ≡ false → is_some next ≡ false) → ((v : ℕ) → (v ≡ w → ⊥) → Better (node v) (after v))
        → ((v p : ℕ) → v < 16 → (v ≡ w → ⊥) → link (label v) ≡ Some p → unlinked (label p) ≡ true → unlinked (upd label w l p) ≡ true)
        → ((d : ℕ) → far w ≡ Some d → Below (distances next after (upd label w l)) d) → Onward w far (distances next after (upd label w l))
    onward next after l vacant better links near = record {
      others = λ v d a ne e. let k = nearer last next (node v) (after v) label (upd label w l) (label v) d vacant (better v ne) (λ p. links v p a ne) e in
          (v, k.0, a, ap (distance_at next (after v) (upd label w l)) (upd_other label w v l ne) ∙ k.1, k.2);
      own = near;
    }

    -- w does not cease to wait for its link
    lasting : (l : Label) → (unlinked (label w) ≡ true → unlinked l ≡ true) → (p : ℕ) → unlinked (label p) ≡ true → unlinked (upd label w l p) ≡ true
    lasting l f = each (λ v y. unlinked (label v) ≡ true → unlinked y ≡ true) label w l f (λ v ne k. k)

    still : (l m : Label) → label w ≡ m → unlinked m ≡ false → (p : ℕ) → unlinked (label p) ≡ true → unlinked (upd label w l p) ≡ true
    still l m e f = lasting l (λ k. absurd (false≢true (sym (ap unlinked e ∙ f) ∙ k)))

    -- w is itself nearer
    nears : (next : Option ℕ) (after : ℕ → Node) (l : Label) (d e : ℕ) → distance_at next (after w) (upd label w l) l ≡ Some e → e < d → Below (distances next after (upd label w l)) d
    nears next after l d e k z = (w, e, lt, ap (distance_at next (after w) (upd label w l)) (upd_same label w l) ∙ k, z)

    pub on_lock : label w ≡ Out → Onward w far (distances last node (upd label w W0))
    on_lock e = onward last node W0 (λ k. k) (λ v ne. unwritten (node v) _ refl) (λ v p a ne k. still W0 Out e refl p) (λ d k. never (far_is Out e d k))

    pub on_W0 : label w ≡ W0 → Onward w far (distances last (with_next node w None) (upd label w W1))
    on_W0 e = onward last (with_next node w None) W1 (λ k. k) (λ v ne. unwritten (node v) _ (upd_other node w v _ ne)) (λ v p a ne k. still W1 W0 e refl p)
        (λ d k. let z = unless_is _ 3 d (far_is W0 e d k) in nears last (with_next node w None) W1 d 2 (unless_so _ 2 z.0) (omega (arith, z.1)))

    pub on_alone : label w ≡ W1 → Onward w far (distances (Some w) node (upd label w W5))
    on_alone e = record {
      others = λ v d a ne k. nears (Some w) node W5 (d + 1) 1 refl (omega (arith, (fitting last (node v) label (label v) d k).1));
      own = λ d k. let z = unless_is _ 2 d (far_is W1 e d k) in nears (Some w) node W5 d 1 refl (omega (arith, z.1));
    }

    pub on_W1 : (p : ℕ) → label w ≡ W1 → last ≡ Some p → Onward w far (distances (Some w) node (upd label w (W2 p)))
    on_W1 p e s = onward (Some w) node (W2 p) (λ k. absurd (false≢true (sym k ∙ ap is_some s))) (λ v ne. unwritten (node v) _ refl) (λ v q a ne k. still (W2 p) W1 e refl q)
        (λ d k. absurd (false≢true (sym (unless_is _ 2 d (far_is W1 e d k)).0 ∙ ap is_some s)))

    pub on_W2 : (p : ℕ) → label w ≡ W2 p → Onward w far (distances last (with_locked node w true) (upd label w (W3 p)))
    on_W2 p e = onward last (with_locked node w true) (W3 p) (λ k. k) (λ v ne. unwritten (node v) _ (upd_other node w v _ ne)) (λ v q a ne k. still (W3 p) (W2 p) e refl q)
        (λ d k. let z = cond_some _ 6 d (far_is (W2 p) e d k) in nears last (with_locked node w true) (W3 p) d 5 (when_so _ 5 (still (W3 p) (W2 p) e refl p z.0)) (omega (arith, z.1)))

    -- the one before, if it waits for its link, goes on
    pub on_W3 : (p : ℕ) → label w ≡ W3 p → Onward w far (distances last (with_next node p (Some w)) (upd label w W4))
    on_W3 p e = onward last after W4 (λ k. k) (λ v ne. written node p x (λ k. k, λ k. refl) v) (λ v q a ne k. still W4 (W3 p) e refl q)
        (λ d k. let z = cond_some _ 5 d (far_is (W3 p) e d k) in
        let b = preceded h w lt p (ap link e) in
        (p, 4, b.0, ap (distance_at last (after p) (upd label w W4)) (upd_other label w p W4 (λ y. omega (arith, b.2, ap o.rank y)) ∙ unlinked_is (label p) z.0) ∙ when_so _ 4 (ap (λ y. is_some y.next) (upd_same node p x)), omega (arith, z.1)))
      where
        x : Node
        x = record { next = Some w; locked = (node p).locked }

        after : ℕ → Node
        after = upd node p x

        unlinked_is : (l : Label) → unlinked l ≡ true → l ≡ X2
        unlinked_is X2 k = refl
        unlinked_is _ k = absurd (false≢true k)

    pub on_wait : label w ≡ W4 → (node w).locked ≡ true → Onward w far (distances last node (upd label w W4))
    on_wait e f = onward last node W4 (λ k. k) (λ v ne. unwritten (node v) _ refl) (λ v q a ne k. still W4 W4 e refl q)
        (λ d k. absurd (false≢true (sym (unless_is _ 2 d (far_is W4 e d k)).0 ∙ f)))

    pub on_W4 : label w ≡ W4 → Onward w far (distances last node (upd label w W5))
    on_W4 e = onward last node W5 (λ k. k) (λ v ne. unwritten (node v) _ refl) (λ v q a ne k. still W5 W4 e refl q)
        (λ d k. nears last node W5 d 1 refl (omega (arith, (unless_is _ 2 d (far_is W4 e d k)).1)))

    pub on_X0 : label w ≡ X0 → (node w).next ≡ None → Onward w far (distances last node (upd label w X1))
    on_X0 e none = onward last node X1 (λ k. k) (λ v ne. unwritten (node v) _ refl) (λ v q a ne k. still X1 X0 e refl q)
        (λ d k. let z : ◌≡◌ {A = Option ℕ} (Some 8) (Some d) = sym (ap (λ n. cond (is_some n) (Some 4) (Some 8)) none) ∙ far_is X0 e d k in let y : 8 ≡ d = cc in
        nears last node X1 d 7 (ap (λ n. cond (is_some n) (Some 5) (Some 7)) none) (omega (arith, y)))

    pub on_link : (n : ℕ) → label w ≡ X0 → Onward w far (distances last node (upd label w (X3 n)))
    on_link n e = onward last node (X3 n) (λ k. k) (λ v ne. unwritten (node v) _ refl) (λ v q a ne k. still (X3 n) X0 e refl q)
        (λ d k. nears last node (X3 n) d 3 refl (⊎_elim (λ z. omega (arith, z.1)) (λ z. omega (arith, z.1)) (either_is _ 4 8 d (far_is X0 e d k))))

    -- the one behind, if it has not linked itself, is to do so
    pub on_X1 : label w ≡ X1 → o.rank w + 1 < o.end → Onward w far (distances last node (upd label w X2))
    on_X1 e more = onward last node X2 (λ k. k) (λ v ne. unwritten (node v) _ refl) (λ v q a ne k. still X2 X1 e refl q) (λ d k. by_next (node w).next refl d (far_is X1 e d k))
      where
        by_next : (n : Option ℕ) → (node w).next ≡ n → (d : ℕ) → distance_at last (node w) label X1 ≡ Some d → Below (distances last node (upd label w X2)) d
        by_next (Some n) k d z = nears last node X2 d 4 (when_so _ 4 (ap is_some k)) (⊎_elim (λ y. omega (arith, y.1)) (λ y. omega (arith, y.1)) (either_is _ 5 7 d z))
        by_next None k d z =
            let u = follower w lt (ap queued e) more k in
            let y : ◌≡◌ {A = Option ℕ} (Some 7) (Some d) = sym (ap (λ n. cond (is_some n) (Some 5) (Some 7)) k) ∙ z in
            let seven : 7 ≡ d = cc in
            let spins : unlinked (upd label w X2 w) ≡ true = ap unlinked (upd_same label w X2) in
            ⊎_elim
            (λ at. (u.0, 6, u.1, ap (distance_at last (node u.0) (upd label w X2)) (behind_label u.0 (W2 w) at (λ i. grind (arith, i))) ∙ when_so _ 6 spins, omega (arith, seven)))
            (λ at. (u.0, 5, u.1, ap (distance_at last (node u.0) (upd label w X2)) (behind_label u.0 (W3 w) at (λ i. grind (arith, i))) ∙ when_so _ 5 spins, omega (arith, seven)))
            u.2
          where
            behind_label : (v : ℕ) (l : Label) → label v ≡ l → (l ≡ X1 → ⊥) → upd label w X2 v ≡ l
            behind_label v l at ne = upd_other label w v X2 (λ is. ne (sym at ∙ (ap label is ∙ e))) ∙ at

    pub on_spin : label w ≡ X2 → (node w).next ≡ None → Onward w far (distances last node (upd label w X2))
    on_spin e none = onward last node X2 (λ k. k) (λ v ne. unwritten (node v) _ refl) (λ v q a ne k. lasting X2 (λ z. refl) q)
        (λ d k. never (sym (ap (λ n. cond (is_some n) (Some 4) None) none) ∙ far_is X2 e d k))

    -- the one behind has linked itself
    pub on_X2 : (n : ℕ) → label w ≡ X2 → (node w).next ≡ Some n → Onward w far (distances last node (upd label w (X3 n)))
    on_X2 n e next = onward last node (X3 n) (λ k. k) (λ v ne. unwritten (node v) _ refl)
        (λ v p a ne k f. ⊎_elim (λ is. absurd (unnamed h v a p n k (ap (λ u. (node u).next) is ∙ next))) (λ not. ap unlinked (upd_other label w p (X3 n) not) ∙ f) (cases_eq p w))
        (λ d k. nears last node (X3 n) d 3 refl (omega (arith, (cond_some _ 4 d (far_is X2 e d k)).1)))

    pub on_X3 : (n : ℕ) → label w ≡ X3 n → Onward w far (distances last (with_locked node n false) (upd label w X4))
    on_X3 n e = onward last after X4 (λ k. k) (λ v ne. written node n x (λ k. refl, λ k. k) v) (λ v q a ne k. still X4 (X3 n) e refl q)
        (λ d k. let z : ◌≡◌ {A = Option ℕ} (Some 3) (Some d) = far_is (X3 n) e d k in let three : 3 ≡ d = cc in
        let i = heir h w lt n e in
        (n, 2, i.2, ap (distance_at last (after n) (upd label w X4)) (upd_other label w n X4 (λ y. omega (arith, i.0, i.4, ap o.rank y)) ∙ i.1) ∙ unless_so _ 2 (ap (λ y. y.locked) (upd_same node n x)), omega (arith, three)))
      where
        x : Node
        x = record { next = (node n).next; locked = false }

        after : ℕ → Node
        after = upd node n x

    pub on_X4 : label w ≡ X4 → Onward w far (distances last (with_locked node w false) (upd label w Out))
    on_X4 e = onward last (with_locked node w false) Out (λ k. k) (λ v ne. unwritten (node v) _ (upd_other node w v _ ne)) (λ v q a ne k. still Out X4 e refl q)
        (λ d k. never (far_is X4 e d k))

-- handing on to nobody: whoever then has a distance comes to an empty line
pub on_last : {last : Option ℕ} {node : ℕ → Node} {label : ℕ → Label} {o : Line} (h : Chained last node label o) (w : ℕ) (lt : w < 16) → label w ≡ X1 → last ≡ Some w
    → Free place_of (upd label w X4) → Waits place_of (upd label w X4) → Onward w (distances last node label) (distances None node (upd label w X4))
on_last {last} {node} {label} {o} h w lt e mine free waits =
    let r = some (keep_last h w lt e mine) free waits in
    record {
      others = λ v d a ne k. absurd (⊎_elim (alone h w lt e mine v ne) (λ z. false≢true (sym z.0 ∙ ap is_some mine)) (coming last (node v) label (label v) d k));
      own = λ d k.
          let far : 5 ≤ d = ⊎_elim (λ z. omega (arith, z.1)) (λ z. omega (arith, z.1)) (either_is _ 5 7 d (ap (distance_at last (node w) label) (sym e) ∙ k)) in
          let gone : queued (upd label w X4 r.0) ≡ true → ⊥ = each (λ v y. queued y ≡ true → ⊥) label w X4 (λ z. false≢true z) (alone h w lt e mine) r.0 in
          (r.0, r.1, r.2, r.3, ⊎_elim (λ z. absurd (gone z)) (λ z. omega (arith, z.1, far)) (coming None (node r.0) (upd label w X4) (upd label w X4 r.0) r.1 r.3));
    }
