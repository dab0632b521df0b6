-- A kind of lock whose workers go through the queue by turns: its calls keep the rules of a lock.
use Rattle.std.proofs.Common.{◌≡◌, ℕ, ◌<◌, ◌≤◌, Bool, true, false, Ok, Err, refl, ap, ◌∙◌, subst, arith}
use Rattle.lock.specs.declared.place.Place.TheVariants as place
use Rattle.lock.specs.declared.answer.Answer.TheVariants.{Done, Entered, Left}
use Rattle.lock.specs.declared.refusal.Refusal.TheVariants.{Idle}
use Rattle.lock.specs.Rules.{Request, locking, unlocking, stepping}
use Rattle.lock.specs.Calls.{Outcome, known, locks, unlocks, upd}
use Rattle.lock.proofs.Labelled as labelled
use Rattle.lock.proofs.Labelled.{Kind, upd_same, upd_other}
use Rattle.queue.specs.declared.stage.Stage.{Stage}
use Rattle.queue.specs.declared.stage.Stage.TheVariants.{Away, Coming, Queued, Ready, Within, Leaving}
use Rattle.queue.specs.Stages.{place_of, at_front, distance_of}
use Rattle.queue.specs.Line.{Line, joined}
use Rattle.queue.proofs.Staging.{sole}
use Rattle.queue.proofs.Turns.{Turns, distances, some, fits, on_wait, on_join, on_ready, on_leave, on_hand}

within_is : (x : Stage) → place_of x ≡ place.Inside → x ≡ Within
within_is Away e = grind (arith, e)
within_is Coming e = grind (arith, e)
within_is Queued e = grind (arith, e)
within_is Ready e = grind (arith, e)
within_is Within e = refl
within_is (Leaving n) e = grind (arith, e)

away_is : (x : Stage) → place_of x ≡ place.Out → x ≡ Away
away_is Away e = refl
away_is Coming e = grind (arith, e)
away_is Queued e = grind (arith, e)
away_is Ready e = grind (arith, e)
away_is Within e = grind (arith, e)
away_is (Leaving n) e = grind (arith, e)

-- a worker's stage, whether the turn is its own, the mark, the facts that every state keeps, and the line that they are about
pub record Turnwise {S : Type 0} (stage : S → ℕ → Stage) (turn mark : S → ℕ → Bool) (bound : ℕ) (Facts : S → Type 0) (line : (s : S) → Facts s → Line) : Type 0 where
  pub wide : 3 ≤ bound
  pub far : (s : S) (w n : ℕ) → stage s w ≡ Leaving n → (4 ≤ n) × (n ≤ bound)
  pub turns : (s : S) (f : Facts s) → Turns (line s f) (stage s) (turn s)
  pub held : (s : S) → Facts s → (w : ℕ) → stage s w ≡ Within → mark s w ≡ true
  pub free : (s : S) → Facts s → (w : ℕ) → stage s w ≡ Away → mark s w ≡ false

module _ {S : Type 0} {stage : S → ℕ → Stage} {turn mark : S → ℕ → Bool} {bound : ℕ} {Facts : S → Type 0} {line : (s : S) → Facts s → Line} (c : Turnwise stage turn mark bound Facts line) where
  pub kind : Kind stage place_of (λ s g. distances g (turn s)) mark bound Facts
  kind = record {
    some = λ s f. some (c.turns s f);
    fitting = λ s v d. fits bound c.wide (stage s v) (turn s v) d (c.far s v);
    sole = λ s f v w a b. sole (c.turns s f).staged v w (ap at_front (within_is (stage s v) a)) (ap at_front (within_is (stage s w) b));
    held = λ s f w lt at. c.held s f w (within_is (stage s w) at);
    free = λ s f w lt at. c.free s f w (away_is (stage s w) at);
  }

  module _ (s : S) (ok : ∥ Facts s ∥₁) (w : ℕ) where
    abbrev pub Good : Request → Outcome S → Type 0
    Good q o = labelled.Good kind s ok q w o

    -- `lock` moves its caller to where it comes to the queue
    pub locked : (t : S) → (w < 16 → stage t ≡ upd (stage s) w Coming) → (w < 16 → stage s w ≡ Away → Facts s → Facts t)
        → ((v : ℕ) → (v ≡ w → ⊥) → turn t v ≡ turn s v)
        → Good locking (known w s (locks (place_of (stage s w)) s t))
    locked t to keep same = labelled.locked kind s ok w t Coming to refl (λ lt at. keep lt (away_is (stage s w) at))
        (λ v ne. ap (λ x. distance_of x (turn t v)) (upd_other (stage s) w v Coming ne) ∙ ap (distance_of (stage s v)) (same v ne))

    -- `unlock` moves its caller, which is inside, to the first access of its way out
    pub unlocked : (t : S) (n : ℕ) → (w < 16 → stage t ≡ upd (stage s) w (Leaving n)) → (w < 16 → stage s w ≡ Within → Facts s → Facts t)
        → Good unlocking (known w s (unlocks (place_of (stage s w)) (mark s w) s t))
    unlocked t n to keep = labelled.unlocked kind s ok w t (Leaving n) to refl (λ lt at. keep lt (within_is (stage s w) at))

    -- ## The accesses of a step

    module _ (lt : w < 16) where
      pub out : stage s w ≡ Away → Good stepping (s, Err Idle)
      out at = labelled.refused kind s ok stepping w lt place.Out (ap place_of at) Idle (refl, refl)

      pub inside : stage s w ≡ Within → Good stepping (s, Err Idle)
      inside at = labelled.refused kind s ok stepping w lt place.Inside (ap place_of at) Idle (refl, refl)

      pub waits : stage s w ≡ Queued → turn s w ≡ false → Good stepping (s, Ok Done)
      waits at other = labelled.spins kind s ok stepping w lt place.Waiting (ap place_of at) Done refl (λ f. on_wait (c.turns s f) w lt at other)

      module _ (t : S) (keep : Facts s → Facts t) where
        pub joins : stage s w ≡ Coming → stage t ≡ upd (stage s) w Queued → ((f : Facts s) → line t (keep f) ≡ joined (line s f) w) → Good stepping (t, Ok Done)
        joins at to next = labelled.goes kind s ok stepping w lt place.Waiting (ap place_of at) t Done Queued to refl keep
            (λ f n m z. on_join (c.turns s f) w lt (turn t) at (subst (λ o. Turns o (upd (stage s) w Queued) (turn t)) (next f) (after f)))
          where
            after : (f : Facts s) → Turns (line t (keep f)) (upd (stage s) w Queued) (turn t)
            after f = subst (λ g. Turns (line t (keep f)) g (turn t)) to (c.turns t (keep f))

        pub readies : stage s w ≡ Queued → turn s w ≡ true → stage t ≡ upd (stage s) w Ready → Good stepping (t, Ok Done)
        readies at mine to = labelled.goes kind s ok stepping w lt place.Waiting (ap place_of at) t Done Ready to refl keep
            (λ f n m z. on_ready (c.turns s f) w lt (turn t) at mine)

        pub enters : stage s w ≡ Ready → stage t ≡ upd (stage s) w Within → Good stepping (t, Ok Entered)
        enters at to = labelled.goes kind s ok stepping w lt place.Waiting (ap place_of at) t Entered Within to refl keep
            (λ f n m. absurd (m w lt (ap place_of (upd_same (stage s) w Within))))

        pub leaves : (n m : ℕ) → stage s w ≡ Leaving n → m < n → stage t ≡ upd (stage s) w (Leaving m) → Good stepping (t, Ok Done)
        leaves n m at l to = labelled.goes kind s ok stepping w lt place.Leaving (ap place_of at) t Done (Leaving m) to refl keep
            (λ f z y x. on_leave (c.turns s f) w lt (turn t) n at m l)

        pub hands_on : (n : ℕ) → stage s w ≡ Leaving n → stage t ≡ upd (stage s) w Away → Good stepping (t, Ok Left)
        hands_on n at to = labelled.goes kind s ok stepping w lt place.Leaving (ap place_of at) t Left Away to refl keep
            (λ f l m z. on_hand (c.turns s f) w lt (turn t) n at (c.far s w n at).0
            (some (subst (λ g. Turns (line t (keep f)) g (turn t)) to (c.turns t (keep f))) m z))
