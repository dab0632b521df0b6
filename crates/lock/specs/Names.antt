-- The words by which places, answers and refusals are printed.
use Rattle.std.specs.Prelude.{ℕ, List, codes}
use Rattle.lock.specs.declared.place.Place.{Place}
use Rattle.lock.specs.declared.place.Place.TheVariants.{Out, Waiting, Inside, Leaving}
use Rattle.lock.specs.declared.answer.Answer.{Answer}
use Rattle.lock.specs.declared.answer.Answer.TheVariants.{Done, Entered, Left, Found}
use Rattle.lock.specs.declared.refusal.Refusal.{Refusal}
use Rattle.lock.specs.declared.refusal.Refusal.TheVariants.{NoWorker, Busy, Held, NotHeld, Idle, NotInside, NoSlip, Known, Heavy, BookFull}

abbrev pub place_name : Place → List ℕ
place_name Out = codes "out"
place_name Waiting = codes "waiting"
place_name Inside = codes "inside"
place_name Leaving = codes "leaving"

abbrev pub answer_name : Answer → List ℕ
answer_name Done = codes "done"
answer_name Entered = codes "entered"
answer_name Left = codes "left"
answer_name Found = codes "found"

abbrev pub refusal_name : Refusal → List ℕ
refusal_name NoWorker = codes "no worker"
refusal_name Busy = codes "busy"
refusal_name Held = codes "held"
refusal_name NotHeld = codes "not held"
refusal_name Idle = codes "idle"
refusal_name NotInside = codes "not inside"
refusal_name NoSlip = codes "no slip"
refusal_name Known = codes "known"
refusal_name Heavy = codes "heavy"
refusal_name BookFull = codes "book full"
