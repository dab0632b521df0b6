-- Who is inside, found by asking the sixteen workers in turn; and how a run ended, as its history says.
use Rattle.std.proofs.Common.{◌≡◌, ℕ, zero, suc, ◌+◌, ◌<◌, ◌≢◌, Bool, true, false, cond, ◌&&◌, ltb, List, length, Some, None, Option, Result, sym, refl, ap, subst, ◌∙◌, ⊎_elim, arith}
use Rattle.std.specs.List.{find, range_with_len}
use Rattle.std.specs.Option.{option_map}
use Rattle.std.proofs.lemmas.List.{get_or_past}
use Rattle.std.proofs.lemmas.Bool.{cases_eq, cases_lt, false≢true, and_from, and_parts, lt-ltb}
use Rattle.lock.specs.declared.interface.Lock.{Ghosts}
use Rattle.lock.specs.declared.place.Place.{Place}
use Rattle.lock.specs.declared.place.Place.TheVariants.{Out, Inside}
use Rattle.lock.specs.declared.answer.Answer.{Answer}
use Rattle.lock.specs.declared.refusal.Refusal.{Refusal}
use Rattle.lock.specs.Rules.{place_at}
use Rattle.lock.specs.Distance.{is_inside}
use Rattle.lock.proofs.Small.{inside_is}
use Rattle.book.specs.declared.call.Event.{Event}
use Rattle.book.specs.declared.Book.{Book}
use Rattle.book.specs.Stock.{records_of}
use Rattle.book.specs.Ran.{Ran}
use Rattle.transcript.specs.declared.state.Ending.{Ending}
use Rattle.runner.specs.Ended.{IsInside, Ended}

-- whether a worker is inside, as it is asked
abbrev pub asked : List Place → ℕ → Bool
asked ps w = ltb w 16 && is_inside (place_at ps w)

module _ (ps : List Place) (len : length ps ≡ 16) where
  -- the first of n workers from a on
  first : (a n : ℕ) → a + n ≡ 16 → ((k : ℕ) → k < a → place_at ps k ≢ Inside) → IsInside (find (asked ps) (range_with_len a n)) (place_at ps)
  first a zero end below = λ k at. ⊎_elim (λ l. below k l at) (λ l. false≢true (ap is_inside (sym (get_or_past ps k Out (omega arith)) ∙ at))) (cases_lt k a)
  first a (suc n) end below = go (asked ps a) refl (λ e. first (a + 1) n (omega (arith, end)) (λ k l at. ⊎_elim
      (λ same. false≢true (sym e ∙ and_from (ltb a 16) (is_inside (place_at ps a)) (lt-ltb a 16 (omega (arith, end))) (ap (λ v. is_inside (place_at ps v)) (sym same) ∙ ap is_inside at)))
      (λ ne. below k (omega arith) at) (cases_eq k a)))
    where
      go : (b : Bool) → asked ps a ≡ b → (asked ps a ≡ false → IsInside (find (asked ps) (range_with_len (a + 1) n)) (place_at ps))
          → IsInside (cond b (Some a) (find (asked ps) (range_with_len (a + 1) n))) (place_at ps)
      go true e later = inside_is _ (and_parts (ltb a 16) (is_inside (place_at ps a)) e).1
      go false e later = later e

  pub found : (o : Option ℕ) → option_map (λ w. w) o ≡ find (asked ps) (range_with_len 0 16) → IsInside o (place_at ps)
  found None e = subst (λ x. IsInside x (place_at ps)) (sym e) (first 0 16 refl (λ k l at. absurd (omega arith)))
  found (Some w) e = subst (λ x. IsInside x (place_at ps)) (sym e) (first 0 16 refl (λ k l at. absurd (omega arith)))

inside_same : (o : Option ℕ) (f g : ℕ → Place) → ((w : ℕ) → f w ≡ g w) → IsInside o f → IsInside o g
inside_same None f g e h = λ w at. h w (e w ∙ at)
inside_same (Some w) f g e h = sym (e w) ∙ h

pub ended : {S : Type 0} (lock : Ghosts S) (es : List Event) (rs : List (Result Answer Refusal)) (b : Book S) (e : Ending)
    → IsInside e.inside (place_at (lock.places b.lock)) → e.chests ≡ length (records_of b.table) → e.grams ≡ b.table.weight
    → Ran lock es rs b → Ended lock es rs e
ended lock es rs b e inside chests grams ran = record {
  book = b;
  ran = ran;
  inside = inside_same e.inside _ _ ran.law.agrees.places inside;
  chests = chests ∙ ap length ran.law.agrees.records;
  grams = grams ∙ ran.law.agrees.weight;
}
