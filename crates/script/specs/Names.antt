-- How a schedule names kinds of lock and calls.
use Rattle.std.specs.Prelude.{ℕ, List, codes}
use Rattle.book.specs.declared.call.Call.{Call}
use Rattle.book.specs.declared.call.Call.TheVariants.{Lock, Unlock, Step, Look, Enter}
use Rattle.script.specs.declared.kind.Kind.{Kind}
use Rattle.script.specs.declared.kind.Kind.TheVariants.{Tas, Ticket, Array, Mcs, Clh}

abbrev pub kind_name : Kind → List ℕ
kind_name Tas = codes "tas"
kind_name Ticket = codes "ticket"
kind_name Array = codes "array"
kind_name Mcs = codes "mcs"
kind_name Clh = codes "clh"

abbrev pub call_name : Call → List ℕ
call_name Lock = codes "lock"
call_name Unlock = codes "unlock"
call_name Step = codes "step"
call_name (Look chest grams) = codes "look"
call_name Enter = codes "enter"

-- the calls that are written on one line
abbrev pub Bare : Call → Type 0
Bare Lock = Unit {0}
Bare Unlock = Unit {0}
Bare Step = Unit {0}
Bare (Look chest grams) = ⊥
Bare Enter = Unit {0}
