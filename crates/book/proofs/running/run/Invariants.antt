use Rattle.std.proofs.Common.{◌≡◌, ◌≤◌, length, take}
use Rattle.list.specs.Held.{KeepsRest, list_len, list_room, list_items}
use Rattle.book.proofs.Runs.{Lived}
use Rattle.book.proofs.running.run.Given as goal

abbrev pub invariant-loop-event : goal.invariant-loop-event
invariant-loop-event g l = record {
  lived : ∥ Lived g.L.Lock (take l.event-index l.events) (list_items l.answers) l.book ∥₁;
  counted : list_len l.answers ≡ l.event-index;
  room : length l.events ≤ list_room l.answers;
  rest : KeepsRest l.fn.answers l.answers;
}
