-- What a text gives, line by line from the top: a kind and its events, or a fault.
use Rattle.std.specs.Prelude.{◌≡◌, ℕ, ◌+◌, ◌<◌, List, [], ◌∷◌, length, Ok, Err, MatchResult, Result}
use Rattle.book.specs.declared.call.Event.{Event}
use Rattle.text.specs.Ahead.{ahead, line_number}
use Rattle.text.specs.Lines.{Line, whole, cut, lines}
use Rattle.text.specs.Wrong.{Amiss}
use Rattle.text.specs.declared.fault.Fault.{Fault}
use Rattle.text.specs.declared.fault.Fault.TheVariants.{TooMany, Ended}
use Rattle.text.specs.declared.reader.Reader.{Reader}
use Rattle.script.specs.declared.kind.Kind.{Kind}
use Rattle.script.specs.Stages.{Stage, at_lock, at_worker, at_call, at_chest, at_grams, key_of, Leads, Allowed, Full}

abbrev pub Verdict : Type 0
Verdict = Result (Kind × List Event) Fault

-- no line is left
abbrev pub AtEnd : Stage → ℕ → Verdict → Type 0
AtEnd at_lock n v = v ≡ Err (Ended n)
AtEnd (at_worker k es) n v = v ≡ Ok (k, es)
AtEnd (at_call k es w) n v = v ≡ Err (Ended n)
AtEnd (at_chest k es w) n v = v ≡ Err (Ended n)
AtEnd (at_grams k es w c) n v = v ≡ Err (Ended n)

-- the line n has this key and this value; On says what the lines after it give
pub data AtLine (most : ℕ) (s : Stage) (n : ℕ) (key value : List ℕ) (On : Stage → Type 0) (v : Verdict) : Type 0 where
  wrong : (f : Fault) → Amiss (key_of s) (Allowed s) key value n f → v ≡ Err f → AtLine most s n key value On v
  too_many : key ≡ key_of s → Allowed s value → Full most s → v ≡ Err (TooMany n) → AtLine most s n key value On v
  goes_on : key ≡ key_of s → (t : Stage) → Leads s value t → (Full most s → ⊥) → On t → AtLine most s n key value On v

-- the lines from the number n on, where s comes next and there may be so many events
abbrev pub Judged : ℕ → Stage → ℕ → List Line → Verdict → Type 0
Judged most s n [] v = AtEnd s n v
Judged most s n (cut ∷ ls) v = v ≡ Err (Ended n)
Judged most s n (whole key value ∷ ls) v = AtLine most s n key value (λ t. Judged most t (n + 1) ls v) v

-- what a text gives, where there may be so many events
abbrev pub Yields : ℕ → List ℕ → Verdict → Type 0
Yields most text v = Judged most at_lock 1 (lines text) v

-- ## Readers

-- what is given from s at r on is what is given from t at q on
pub record Passed (most : ℕ) (s : Stage) (r : Reader) (t : Stage) (q : Reader) : Type 0 where
  pub then : (v : Verdict) → Judged most t (line_number q) (ahead q) v → Judged most s (line_number r) (ahead r) v
  pub fewer : length (ahead q) < length (ahead r)

abbrev pub Stopped : ℕ → Stage → Reader → Fault → Type 0
Stopped most s r f = Judged most s (line_number r) (ahead r) (Err f)

-- reading goes on from s to the stage of what was read, or stops
abbrev pub Reaches : {X : Type 0} → ℕ → Stage → (X → Stage) → Result X Fault → Reader → Reader → Type 0
Reaches most s to result r q = MatchResult result (λ x. Passed most s r (to x) q) (λ f. Stopped most s r f)
