-- How a reader goes from line to line.
use Rattle.std.proofs.Common.{◌≡◌, ℕ, ◌≤◌, List, [], ◌∷◌, length, Some, None, Err, MatchOption, Option, Result, codes, decimal, sym, refl, ap, subst, arith}
use Rattle.std.specs.Option.{ok_or}
use Rattle.book.specs.declared.call.Event.{Event}
use Rattle.text.specs.Ahead.{ahead, line_number, Taken}
use Rattle.text.specs.Lines.{Line, whole, cut}
use Rattle.text.specs.Wrong.{Any, UpTo, other_key, bad_value, Wrong}
use Rattle.text.specs.declared.fault.Fault.{Fault}
use Rattle.text.specs.declared.fault.Fault.TheVariants.{Value, TooMany, Ended}
use Rattle.text.specs.declared.reader.Reader.{Reader}
use Rattle.script.specs.declared.kind.Kind.{Kind}
use Rattle.script.specs.Stages.{Stage, at_chest, at_grams, key_of, Leads, Allowed, Full}
use Rattle.script.specs.Verdicts.{AtEnd, wrong, too_many, goes_on, Judged, Passed, Stopped, Reaches}

-- a line as it should be
pub passes : (most : ℕ) (s : Stage) (r : Reader) (t : Stage) (q : Reader) (value : List ℕ) → Taken (key_of s) value r q → Leads s value t → (Full most s → ⊥) → Passed most s r t q
passes most s r t q value k l room = record {
  then = λ v j. subst (λ ls. Judged most s (line_number r) ls v) (sym k.next) (goes_on refl t l room (subst (λ m. Judged most t m (ahead q) v) k.count j));
  fewer = omega (arith, ap length k.next);
}

pub chest_read : (most : ℕ) (k : Kind) (es : List Event) (w : ℕ) (r q : Reader) (n : ℕ) → n ≤ 4294967295 → Taken (codes "chest") (decimal n) r q → Passed most (at_chest k es w) r (at_grams k es w n) q
chest_read most k es w r q n h t = passes most (at_chest k es w) r (at_grams k es w n) q (decimal n) t (n, h, refl, refl) (λ full. full)

-- one line after another
pub onward : (most : ℕ) (s : Stage) (r : Reader) (t : Stage) (q : Reader) (u : Stage) (p : Reader) → Passed most s r t q → Passed most t q u p → Passed most s r u p
onward most s r t q u p a b = record { then = λ v j. a.then v (b.then v j); fewer = omega (arith, a.fewer, b.fewer) }

pub stops : (most : ℕ) (s : Stage) (r : Reader) (t : Stage) (q : Reader) (f : Fault) → Passed most s r t q → Stopped most t q f → Stopped most s r f
stops most s r t q f a j = a.then _ j

-- a line with the wrong key or value, or none; P is what was asked of the value
wrong_from : {P : List ℕ → Type 0} (most : ℕ) (s : Stage) (n : ℕ) (ls : List Line) (f : Fault) → (ls ≡ [] → AtEnd s n (Err (Ended n))) → ((v : List ℕ) → Allowed s v → P v) → Wrong (key_of s) P ls n f → Judged most s n ls (Err f)
wrong_from most s n [] f end weaker w = subst (λ g. AtEnd s n (Err g)) (sym w) (end refl)
wrong_from most s n (cut ∷ ls) f end weaker w = ap Err w
wrong_from most s n (whole key value ∷ ls) f end weaker (other_key a e) = wrong f (other_key a e) refl
wrong_from most s n (whole key value ∷ ls) f end weaker (bad_value k no_value e) = wrong f (bad_value k (λ a. no_value (weaker value a)) e) refl

pub no_line : (most : ℕ) (s : Stage) (r : Reader) (f : Fault) → (ahead r ≡ [] → AtEnd s (line_number r) (Err (Ended (line_number r)))) → Wrong (key_of s) Any (ahead r) (line_number r) f → Stopped most s r f
no_line most s r f end w = wrong_from {P = Any} most s (line_number r) (ahead r) f end (λ v a. tt) w

pub no_number : (most : ℕ) (s : Stage) (r : Reader) (f : Fault) (limit : ℕ) → (ahead r ≡ [] → AtEnd s (line_number r) (Err (Ended (line_number r)))) → ((v : List ℕ) → Allowed s v → UpTo limit v) → Wrong (key_of s) (UpTo limit) (ahead r) (line_number r) f → Stopped most s r f
no_number most s r f limit end number w = wrong_from {P = UpTo limit} most s (line_number r) (ahead r) f end number w

-- a line whose value is not allowed
pub forbids : (most : ℕ) (s : Stage) (r q : Reader) (value : List ℕ) (n : ℕ) → Taken (key_of s) value r q → (Allowed s value → ⊥) → n ≡ line_number r → Stopped most s r (Value n)
forbids most s r q value n k no_value e = subst (λ ls. Judged most s (line_number r) ls (Err (Value n))) (sym k.next) (wrong _ (bad_value refl no_value (ap Value e)) refl)

-- a line as it should be, but for the room
pub crowds : (most : ℕ) (s : Stage) (r q : Reader) (value : List ℕ) (n : ℕ) → Taken (key_of s) value r q → Allowed s value → Full most s → n ≡ line_number r → Stopped most s r (TooMany n)
crowds most s r q value n k a full e = subst (λ ls. Judged most s (line_number r) ls (Err (TooMany n))) (sym k.next) (too_many refl a full (ap (λ m. Err (TooMany m)) e))

-- a line whose value is one of several names, or is not allowed
pub chosen : {X : Type 0} (most : ℕ) (s : Stage) (r q : Reader) (value : List ℕ) (n : ℕ) (o : Option X) (a : Result X Fault) (to : X → Stage) (No : Type 0) (Is : X → Type 0) → Taken (key_of s) value r q → n ≡ line_number r → a ≡ ok_or o (Value n) → MatchOption o No Is → (No → Allowed s value → ⊥) → ((x : X) → Is x → Leads s value (to x)) → (Full most s → ⊥) → Reaches most s to a r q
chosen most s r q value n None a to No Is k line e m none some room = subst (λ b. Reaches most s to b r q) (sym e) (forbids most s r q value n k (none m) line)
chosen most s r q value n (Some x) a to No Is k line e m none some room = subst (λ b. Reaches most s to b r q) (sym e) (passes most s r (to x) q value k (some x m) room)
