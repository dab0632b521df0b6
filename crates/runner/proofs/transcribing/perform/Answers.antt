use mathlib.Core.Logic.{∥∥₁_map}
use Rattle.runner.proofs.Transcripts.{performed}
use Rattle.runner.proofs.transcribing.perform.Goals as goal

pub returns : goal.returns
returns c = ∥∥₁_map c.in_ok-ending.ensures.cases (λ e. performed _ _ _ c.args.kind c.args.events.now _ c.as_slice.result.now c.in_ok-ending.ending c.as_slice.ensures e c.write_transcript.ensures)
