-- The text of a schedule.
use Rattle.std.specs.Prelude.{ℕ, List, ◌++◌, codes, decimal}
use Rattle.std.specs.List.{flat_map}
use Rattle.book.specs.declared.call.Call.{Call}
use Rattle.book.specs.declared.call.Call.TheVariants.{Lock, Unlock, Step, Look, Enter}
use Rattle.book.specs.declared.call.Event.{Event}
use Rattle.text.specs.Lines.{line_text}
use Rattle.script.specs.declared.kind.Kind.{Kind}
use Rattle.script.specs.declared.written.Schedule.{Schedule}
use Rattle.script.specs.Names.{kind_name}

abbrev pub look_text : ℕ → ℕ → List ℕ
look_text chest grams = line_text (codes "call") (codes "look") ++ (line_text (codes "chest") (decimal chest) ++ line_text (codes "grams") (decimal grams))

abbrev pub call_text : Call → List ℕ
call_text Lock = line_text (codes "call") (codes "lock")
call_text Unlock = line_text (codes "call") (codes "unlock")
call_text Step = line_text (codes "call") (codes "step")
call_text (Look chest grams) = look_text chest grams
call_text Enter = line_text (codes "call") (codes "enter")

abbrev pub event_text : Event → List ℕ
event_text e = line_text (codes "worker") (decimal e.worker) ++ call_text e.call

abbrev pub schedule_text : Kind → List Event → List ℕ
schedule_text k es = line_text (codes "lock") (kind_name k) ++ flat_map event_text es

abbrev pub text_of : Schedule → List ℕ
text_of s = schedule_text s.kind s.events.now
