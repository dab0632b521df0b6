use Rattle.std.proofs.Common.{◌<◌, arith, rules}
use mathlib.Core.Logic.{∥∥₁_map}
use Rattle.std.proofs.lemmas.List.{take_all}
use Rattle.list.specs.Held.{list_len, list_room}
use Rattle.list.proofs.Past.{room_push, rest_push}
use Rattle.book.proofs.Runs.{lived_more, ran}
use Rattle.book.proofs.running.run.Goals as goal

pub loop-event-preserved : goal.loop-event-preserved
loop-event-preserved g c =
    let inv = c.loop-event.invariant in
    let before = c.loop-event.answers in
    let after = c.push.new.self in
    let pushed = c.push.ensures in
    let room : list_len before < list_room before = omega (arith, inv.counted, inv.room) in
    record {
      lived = ∥∥₁_map inv.lived (lived_more g.L.Lock c.args.events.now c.loop-event.event-index _ _ _ c.call.result _ _ c.loop-event-test.true c.call.ensures (pushed.items room));
      counted = omega (arith, pushed.len room, inv.counted);
      room = omega (arith, inv.room, room_push before after c.call.result (pushed.memory room));
      rest = rest_push before after c.call.result (pushed.memory room) _ (pushed.len room) pushed.same inv.rest;
    }

pub returns : goal.returns
returns g c = record {
  value = search rules;
  cases = ∥∥₁_map c.loop-event.invariant.lived (ran g.L.Lock g.met.L.Lock.sound _ _ _ _ (take_all c.loop-event.event-index c.args.events.now c.loop-event-test.false));
  rest = c.loop-event.invariant.rest;
}
