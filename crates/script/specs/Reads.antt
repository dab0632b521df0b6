-- What the events that are still to be read make of a text.
use Rattle.std.specs.Prelude.{◌≡◌, ℕ, ◌+◌, List, length}
use Rattle.text.specs.Ahead.{ahead, line_number}
use Rattle.script.specs.declared.events.EventReader.{EventReader}
use Rattle.script.specs.declared.kind.Kind.{Kind}
use Rattle.script.specs.Stages.{at_worker, Events}
use Rattle.script.specs.Verdicts.{Verdict, Judged, Yields}

-- the kind and these events were read, and what the text gives is what is given from there on
pub record Reads (most : ℕ) (text : List ℕ) (k : Kind) (es : Events) (r : EventReader) : Type 0 where
  pub counted : length es + r.room ≡ most
  pub then : (v : Verdict) → Judged most (at_worker k es) (line_number r.reader) (ahead r.reader) v → Yields most text v
