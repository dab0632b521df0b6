use Rattle.std.proofs.Common.{get_or, take, subst}
use Rattle.std.specs.List.{flat_map}
use Rattle.text.proofs.Exits.{exit_err}
use Rattle.book.specs.declared.call.Call.TheVariants.{Lock}
use Rattle.book.specs.declared.call.Event.{Event}
use Rattle.print.specs.Printed.{Prints}
use Rattle.print.proofs.Appending.{prints_more}
use Rattle.print.proofs.Joining.{joined_next, joined_short}
use Rattle.script.specs.Written.{event_text}
use Rattle.script.proofs.written.put_events.Goals as goal

-- what a read past the end would give
abbrev unread : Event
unread = record { worker = 0; call = Lock }

pub returns-in_err-put_event : goal.returns-in_err-put_event
returns-in_err-put_event g c =
    let page = g.S.Sink.page in
    let xs = c.args.events.now in
    rw (exit_err c.from_residual.result c.from_residual.ensures.1) (joined_short (page c.args.sink.now) (page c.loop-event.sink) event_text xs c.loop-event.event-index unread c.loop-event-test.true c.loop-event.invariant c.in_err-put_event.ensures)

pub loop-event-preserved : goal.loop-event-preserved
loop-event-preserved g c =
    let page = g.S.Sink.page in
    let xs = c.args.events.now in
    let i = c.loop-event.event-index in
    subst (λ l. Prints (page c.args.sink.now) l (page c.put_event.new.sink)) (joined_next event_text xs i unread c.loop-event-test.true)
    (prints_more (page c.args.sink.now) (page c.loop-event.sink) (page c.put_event.new.sink) (flat_map event_text (take i xs)) (event_text (get_or xs i unread)) c.loop-event.invariant c.in_ok-put_event.ensures)
