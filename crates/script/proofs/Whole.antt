-- A whole text, from its first line on.
use Rattle.std.proofs.Common.{◌≡◌, ℕ, ◌<◌, ◌≤◌, min, List, length, IfOk, Ok, Err, MatchBool, Result, sym, ap, ◌∙◌, subst, ⊎_elim}
use Rattle.std.proofs.lemmas.Bool.{cases_lt, le-ltb, lt-ltb}
use Rattle.text.specs.Ahead.{ahead, line_number, Opened}
use Rattle.text.specs.Lines.{lines}
use Rattle.text.specs.declared.fault.Fault.{Fault}
use Rattle.text.specs.declared.fault.Fault.TheVariants.{TooLong}
use Rattle.text.specs.declared.reader.Reader.{Reader}
use Rattle.script.specs.declared.kind.Kind.{Kind}
use Rattle.script.specs.Stages.{at_lock, Events}
use Rattle.script.specs.Verdicts.{Verdict, Judged}
use Rattle.script.specs.Schedule.{Gives, IsSchedule, told}
use Rattle.script.proofs.Once.{once}
use Rattle.script.proofs.Forms.{same_pair, text_form, within, written_read}

-- a reader at the start
pub opened : (most : ℕ) (text : List ℕ) (r : Reader) (v : Verdict) → Opened text r → Judged most at_lock (line_number r) (ahead r) v → Judged most at_lock 1 (lines text) v
opened most text r v o j = subst (λ n. Judged most at_lock n (lines text) v) o.first (subst (λ ls. Judged most at_lock (line_number r) ls v) o.all j)

-- ## The verdict

pub given : (room : ℕ) (text : List ℕ) (v : Verdict) → length text ≤ 32768 → Judged (min room 1024) at_lock 1 (lines text) v → Gives room text v
given room text v h j = subst (λ b. MatchBool b (v ≡ Err TooLong) (Judged (min room 1024) at_lock 1 (lines text) v)) (sym (le-ltb 32768 (length text) h)) j

pub judged : (room : ℕ) (text : List ℕ) (v : Verdict) → length text ≤ 32768 → Gives room text v → Judged (min room 1024) at_lock 1 (lines text) v
judged room text v h g = subst (λ b. MatchBool b (v ≡ Err TooLong) (Judged (min room 1024) at_lock 1 (lines text) v)) (le-ltb 32768 (length text) h) g

pub schedule_given : (room : ℕ) (text : List ℕ) (k : Kind) (es : Events) → IsSchedule room text k es → Gives room text (Ok (k, es))
schedule_given room text k es s = given room text _ s.short (written_read (min room 1024) text k es s.form (s.few, s.fits))

given_schedule : (room : ℕ) (text : List ℕ) (k : Kind) (es : Events) → length text ≤ 32768 → Gives room text (Ok (k, es)) → IsSchedule room text k es
given_schedule room text k es h g =
    let j = judged room text _ h g in
    let w = within (min room 1024) text k es j in
    record { form = text_form (min room 1024) text k es j; short = h; few = w.0; fits = w.1 }

-- a text gives one thing, and no other
pub only : (room : ℕ) (text : List ℕ) (v u : Verdict) → Gives room text v → Gives room text u → u ≡ v
only room text v u a b =
    ⊎_elim
    (λ long. too_long room text u long b ∙ sym (too_long room text v long a))
    (λ short. once (min room 1024) at_lock 1 (lines text) u v (judged room text u short b) (judged room text v short a))
    (cases_lt 32768 (length text))
  where
    too_long : (room : ℕ) (text : List ℕ) (v : Verdict) → 32768 < length text → Gives room text v → v ≡ Err TooLong
    too_long room text v h g = subst (λ b. MatchBool b (v ≡ Err TooLong) (Judged (min room 1024) at_lock 1 (lines text) v)) (lt-ltb 32768 (length text) h) g

pub told_ok : (r : Result Kind Fault) (items : Events) (k : Kind) (es : Events) → told r items ≡ Ok (k, es) → (r ≡ Ok k) × (items ≡ es)
told_ok (Ok j) items k es e =
    let pair = same_pair j items k es e in
    (ap (λ x. Ok x.0) pair, ap (λ x. x.1) pair)
told_ok (Err f) items k es e = cc e

pub form : (room : ℕ) (text : List ℕ) (r : Result Kind Fault) (items : Events) → length text ≤ 32768 → Gives room text (told r items) → IfOk r (λ k. IsSchedule room text k items)
form room text (Ok k) items h g = given_schedule room text k items h g
form room text (Err f) items h g = tt

-- what a text gives is what a schedule says that it is the text of
pub complete : (room : ℕ) (text : List ℕ) (r : Result Kind Fault) (items : Events) → Gives room text (told r items) → (k : Kind) (es : Events) → IsSchedule room text k es → (r ≡ Ok k) × (items ≡ es)
complete room text r items g k es s =
    told_ok r items k es (only room text _ _ (schedule_given room text k es s) g)
