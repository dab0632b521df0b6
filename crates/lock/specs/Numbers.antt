-- The number of each place, answer and refusal. Transcripts write those of answers and refusals.
use Rattle.std.specs.Prelude.{ℕ, Ok, Err, Result}
use Rattle.lock.specs.declared.place.Place.{Place}
use Rattle.lock.specs.declared.place.Place.TheVariants.{Out, Waiting, Inside, Leaving}
use Rattle.lock.specs.declared.answer.Answer.{Answer}
use Rattle.lock.specs.declared.answer.Answer.TheVariants.{Done, Entered, Left, Found}
use Rattle.lock.specs.declared.refusal.Refusal.{Refusal}
use Rattle.lock.specs.declared.refusal.Refusal.TheVariants.{NoWorker, Busy, Held, NotHeld, Idle, NotInside, NoSlip, Known, Heavy, BookFull}

abbrev pub place_number : Place → ℕ
place_number Out = 0
place_number Waiting = 1
place_number Inside = 2
place_number Leaving = 3

abbrev pub answer_number : Answer → ℕ
answer_number Done = 0
answer_number Entered = 20
answer_number Left = 21
answer_number Found = 22

abbrev pub refusal_number : Refusal → ℕ
refusal_number NoWorker = 1
refusal_number Busy = 2
refusal_number Held = 3
refusal_number NotHeld = 4
refusal_number Idle = 5
refusal_number NotInside = 6
refusal_number NoSlip = 7
refusal_number Known = 8
refusal_number Heavy = 9
refusal_number BookFull = 10

abbrev pub outcome_number : Result Answer Refusal → ℕ
outcome_number (Ok a) = answer_number a
outcome_number (Err e) = refusal_number e
