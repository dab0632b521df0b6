use Rattle.std.proofs.Common.{◌<◌, length, take, ap, subst, sym, arith}
use Rattle.std.proofs.lemmas.List.{length-set, length_push}
use Rattle.text.proofs.Exits.{exit_err}
use Rattle.list.specs.Held.{list_items, list_len, list_memory, list_room}
use Rattle.list.proofs.Past.{rest_push}
use Rattle.script.specs.Reads.{Reads}
use Rattle.script.proofs.schedule.fill.Goals as goal

pub returns-in_err-event-clause-value : goal.returns-in_err-event-clause-value
returns-in_err-event-clause-value c =
    rw (exit_err c.from_residual-in_err-event.result c.from_residual-in_err-event.ensures.1) (c.in_err-event.ensures c.args.most (take 32768 c.args.text.now) c.in_ok-kind.kind _ c.loop-event.invariant.reads)

pub loop-event-preserved : goal.loop-event-preserved
loop-event-preserved c =
    let inv = c.loop-event.invariant in
    let l = c.loop-event.events in
    let step = rw c.in-Some.is at (c.in_ok-event.ensures c.args.most (take 32768 c.args.text.now) c.in_ok-kind.kind (list_items l) inv.reads) in
    let fits : list_len l < list_room l = omega (arith, step.0.counted, length_push (list_items l) c.in-Some.event, inv.len, inv.room) in
    let written = c.push.ensures.memory fits in
    let items = c.push.ensures.items fits in
    record {
      len = omega (arith, ap length items, length_push (list_items l) c.in-Some.event, inv.len, c.push.ensures.len fits);
      room = omega (arith, ap length written, length-set (list_memory l) (list_len l) c.in-Some.event, inv.room);
      rest = rest_push l c.push.new.self c.in-Some.event written _ (c.push.ensures.len fits) c.push.ensures.same inv.rest;
      reads = subst (λ es. Reads c.args.most (take 32768 c.args.text.now) c.in_ok-kind.kind es c.next_event.new.self) (sym items) step.0;
    }

pub returns-clause-value : goal.returns-clause-value
returns-clause-value c = rw c.in_default.is at (c.in_ok-event.ensures c.args.most (take 32768 c.args.text.now) c.in_ok-kind.kind _ c.loop-event.invariant.reads)

pub loop-event-smaller : goal.loop-event-smaller
loop-event-smaller c =
    let step = rw c.in-Some.is at (c.in_ok-event.ensures c.args.most (take 32768 c.args.text.now) c.in_ok-kind.kind _ c.loop-event.invariant.reads) in
    step.1
