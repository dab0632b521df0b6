-- Which texts are schedules, and what every text gives.
use Rattle.std.specs.Prelude.{◌≡◌, ℕ, ◌≤◌, min, List, [], ◌∷◌, length, Ok, Err, MatchBool, Result, nat_lt}
use Rattle.book.specs.declared.call.Call.{Call}
use Rattle.book.specs.declared.call.Call.TheVariants.{Lock, Unlock, Step, Look, Enter}
use Rattle.book.specs.declared.call.Event.{Event}
use Rattle.text.specs.declared.fault.Fault.{Fault}
use Rattle.text.specs.declared.fault.Fault.TheVariants.{TooLong}
use Rattle.script.specs.declared.kind.Kind.{Kind}
use Rattle.script.specs.Written.{schedule_text}
use Rattle.script.specs.Verdicts.{Verdict, Yields}

abbrev pub CallFits : Call → Type 0
CallFits Lock = Unit {0}
CallFits Unlock = Unit {0}
CallFits Step = Unit {0}
CallFits (Look chest grams) = (chest ≤ 4294967295) × (grams ≤ 4294967295)
CallFits Enter = Unit {0}

-- the numbers of each event are within their limits
abbrev pub EventsFit : List Event → Type 0
EventsFit [] = Unit {0}
EventsFit (e ∷ es) = (e.worker ≤ 255) × CallFits e.call × EventsFit es

-- the text is the written form of k and es, within the limits; the list has room for so many events
pub record IsSchedule (room : ℕ) (text : List ℕ) (k : Kind) (es : List Event) : Type 0 where
  pub form : text ≡ schedule_text k es
  pub short : length text ≤ 32768
  pub few : length es ≤ min room 1024
  pub fits : EventsFit es

-- what a text gives: its length is looked at first, then its lines from the top
abbrev pub Gives : ℕ → List ℕ → Verdict → Type 0
Gives room text v = MatchBool (nat_lt 32768 (length text)) (v ≡ Err TooLong) (Yields (min room 1024) text v)

-- what a reading answers, with the events in its list
abbrev pub told : Result Kind Fault → List Event → Verdict
told (Ok k) es = Ok (k, es)
told (Err f) es = Err f
