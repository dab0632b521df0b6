-- Bytes printed one after another.
use Rattle.std.proofs.Common.{◌≡◌, ℕ, ◌+◌, ◌-◌, ◌≤◌, List, [], ◌∷◌, ◌++◌, drop, Some, None, Ok, Err, Option, Result, sym, ap, ◌∙◌, subst, append_assoc, arith}
use Rattle.std.proofs.lemmas.List.{length-append, drop-drop}
use Rattle.list.specs.Held.{list_len, list_memory, list_items}
use Rattle.list.specs.declared.List.{List as Listing}
use Rattle.list.specs.declared.memory.Memory.{Memory}
use Rattle.text.specs.Lines.{line_text}
use Rattle.print.specs.Printed.{Page, Appended, Kept, Prints, Printed}

later : {X : Type 0} (b a : List X) (m k : ℕ) → m ≤ k → drop m b ≡ drop m a → drop k b ≡ drop k a
later b a m k h e =
    let back : m + (k - m) ≡ k = omega arith in
    subst (λ j. drop j b ≡ drop j a) back (sym (drop-drop (k - m) m b) ∙ ap (drop (k - m)) e ∙ drop-drop (k - m) m a)

pub appended_more : (a b c : Listing ℕ) (xs ys : List ℕ) → Appended a xs b → Appended b ys c → Appended a (xs ++ ys) c
appended_more a b c xs ys p q = record {
  longer = omega (arith, p.longer, q.longer, length-append xs ys);
  items = q.items ∙ ap (λ l. l ++ ys) p.items ∙ append_assoc (list_items a) xs ys;
  rest = record {
    memory = q.rest.memory ∙ later (list_memory b) (list_memory a) (list_len b) (list_len c) (omega (arith, q.longer)) p.rest.memory;
    same = q.rest.same ∙ p.rest.same;
  };
  room = q.room ∙ p.room;
}

kept_more : (a b c : Option (Listing ℕ)) (xs ys : List ℕ) → Kept a xs b → Kept b ys c → Kept a (xs ++ ys) c
kept_more None None None xs ys p q = tt
kept_more None None (Some c) xs ys p q = absurd q
kept_more None (Some b) c xs ys p q = absurd p
kept_more (Some a) None c xs ys p q = absurd p
kept_more (Some a) (Some b) None xs ys p q = absurd q
kept_more (Some a) (Some b) (Some c) xs ys p q = appended_more a b c xs ys p q

pub prints_more : (a b c : Page) (xs ys : List ℕ) → Prints a xs b → Prints b ys c → Prints a (xs ++ ys) c
prints_more a b c xs ys p q = record {
  spent = omega (arith, p.spent, q.spent, length-append xs ys);
  kept = kept_more a.list b.list c.list xs ys p.kept q.kept;
}

-- ## With the answer of the last print

pub then : (a b c : Page) (xs ys : List ℕ) (r : Result (Unit {0}) Memory) → Prints a xs b → Printed b ys r c → Printed a (xs ++ ys) r c
then a b c xs ys (Ok u) p q = prints_more a b c xs ys p q
then a b c xs ys (Err m) p q = omega (arith, p.spent, length-append xs ys)

pub printed_same : (a b : Page) (xs ys : List ℕ) (r : Result (Unit {0}) Memory) → xs ≡ ys → Printed a xs r b → Printed a ys r b
printed_same a b xs ys r e p = subst (λ l. Printed a l r b) e p

-- ## A line

pub line : (a b c d e : Page) (key value : List ℕ) (r : Result (Unit {0}) Memory) → Prints a key b → Prints b (61 ∷ []) c → Prints c value d → Printed d (10 ∷ []) r e → Printed a (line_text key value) r e
line a b c d e key value r p q s t = then a b e key (61 ∷ (value ++ (10 ∷ []))) r p (then b c e (61 ∷ []) (value ++ (10 ∷ [])) r q (then c d e value (10 ∷ []) r s t))
