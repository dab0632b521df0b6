use Rattle.std.proofs.Common.{arith}
use Rattle.std.proofs.lemmas.List.{length_push}
use Rattle.script.proofs.events.EventReader.next_event.Goals as goal

pub returns : goal.returns
returns c most text k es reads =
    let step = c.in_ok-event.ensures.value most k es reads.counted c.if-is_done.ensures in
    (record { counted = omega (arith, reads.counted, c.in_ok-event.ensures.room, length_push es c.in_ok-event.event); then = λ v j. reads.then v (step.then v j) }, step.fewer)
