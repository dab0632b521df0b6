use mathlib.Core.Logic.{∥∥₁_map}
use Rattle.std.proofs.Common.{length, ap}
use Rattle.runner.proofs.Transcripts.{accepted, turned_down, fits}
use Rattle.runner.proofs.transcribing.transcribe.Goals as goal

pub returns-in-Ok : goal.returns-in-Ok
returns-in-Ok c =
    let w = ∥∥₁_map c.perform.ensures (accepted _ _ _ c.args.text.now _ c.in-Ok.kind _ c.as_slice.result.now (ap length c.new-events.ensures.memory) c.as_slice.ensures c.in-Ok.ensures.value) in
    record { wrote = w; fits = fits _ _ _ _ w }

pub returns-in-Err : goal.returns-in-Err
returns-in-Err c =
    let w = turned_down _ _ _ c.args.text.now _ c.in-Err.fault (ap length c.new-events.ensures.memory) c.in-Err.ensures.value c.write_fault.ensures in
    record { wrote = ∣ w ∣₁; fits = fits _ _ _ _ ∣ w ∣₁ }
