-- The transcript of a text: of the run that it describes, or of its fault.
use Rattle.std.specs.Prelude.{◌≡◌, ℕ, ◌⊎◌, List, Ok, Err, Result}
use Rattle.lock.specs.declared.answer.Answer.{Answer}
use Rattle.lock.specs.declared.refusal.Refusal.{Refusal}
use Rattle.book.specs.declared.call.Event.{Event}
use Rattle.list.specs.declared.memory.Memory.{Memory}
use Rattle.print.specs.Overwrite.{Overwrites}
use Rattle.text.specs.declared.fault.Fault.{Fault}
use Rattle.script.specs.declared.kind.Kind.{Kind}
use Rattle.script.specs.Schedule.{Gives}
use Rattle.transcript.specs.declared.state.Ending.{Ending}
use Rattle.transcript.specs.Transcribed.{run_text, fault_text}
use Rattle.runner.specs.Ended.{EndedBy}

-- the bytes are the transcript of a run of these events over a lock of the kind
pub record Performed (k : Kind) (es : List Event) (bytes : List ℕ) : Type 0 where
  pub answers : List (Result Answer Refusal)
  pub ending : Ending
  pub ended : EndedBy k es answers ending
  pub text : bytes ≡ run_text answers ending

-- the bytes are the transcript of the text, whose lists have 1,024 places
abbrev pub Transcribes : List ℕ → List ℕ → Type 0
Transcribes text bytes =
    ((f : Fault) × Gives 1024 text (Err f) × (bytes ≡ fault_text f))
    ⊎ ((k : Kind) × (es : List Event) × Gives 1024 text (Ok (k, es)) × Performed k es bytes)

-- such bytes stand at the front of the memory, and the answer is their length; where they do not fit nothing was written
pub record Wrote (P : List ℕ → Type 0) (r : Result ℕ Memory) (before after : List ℕ) : Type 0 where
  pub bytes : List ℕ
  pub right : P bytes
  pub written : Overwrites bytes before r after
