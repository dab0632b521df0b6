-- What a history of calls says by itself: counts, places, slips and records, worked out from the calls and their answers alone.
use Rattle.std.specs.Prelude.{ℕ, zero, suc, ◌+◌, ◌-◌, Bool, false, if◌then◌else◌, ◌&&◌, List, [], ◌∷◌, ◌++◌, map, reverse, length, is_ok, Some, None, Ok, Err, count_by, Option, Result, ◌==◌, nat_lt}
use Rattle.lock.specs.declared.place.Place.{Place}
use Rattle.lock.specs.declared.place.Place.TheVariants.{Out, Waiting, Inside, Leaving}
use Rattle.lock.specs.declared.answer.Answer.{Answer}
use Rattle.lock.specs.declared.answer.Answer.TheVariants.{Entered, Left, Found}
use Rattle.lock.specs.declared.refusal.Refusal.{Refusal}
use Rattle.lock.specs.Numbers.{answer_number}
use Rattle.book.specs.declared.call.Call.{Call}
use Rattle.book.specs.declared.call.Call.TheVariants.{Lock, Unlock, Step, Look, Enter}
use Rattle.book.specs.declared.call.Event.{Event}
use Rattle.book.specs.declared.table.Record.{Record}
use Rattle.book.specs.declared.table.Slip.{Slip}
use Rattle.book.specs.Causes.{cause}
use Rattle.book.specs.Stock.{total}

-- one call with its answer, and who was due just before it, how far off
pub record Turn : Type 0 where
  pub worker : ℕ
  pub call : Call
  pub answer : Result Answer Refusal
  pub due : Option (ℕ × ℕ)

-- the newest first
abbrev pub History : Type 0
History = List Turn

-- ## Tests of a turn

-- which of the five calls it is
abbrev pub call_number : Call → ℕ
call_number Lock = 0
call_number Unlock = 1
call_number Step = 2
call_number (Look c g) = 3
call_number Enter = 4

abbrev pub calls : Call → Turn → Bool
calls c t = call_number t.call == call_number c

abbrev pub accepted : Turn → Bool
accepted t = is_ok t.answer

abbrev pub says : Answer → Result Answer Refusal → Bool
says a (Ok b) = answer_number b == answer_number a
says a (Err e) = false

abbrev pub a_lock : Turn → Bool
a_lock t = calls Lock t && accepted t

abbrev pub an_entry : Turn → Bool
an_entry t = calls Step t && says Entered t.answer

abbrev pub an_unlock : Turn → Bool
an_unlock t = calls Unlock t && accepted t

abbrev pub a_departure : Turn → Bool
a_departure t = calls Step t && says Left t.answer

abbrev pub names : Option (ℕ × ℕ) → ℕ → Bool
names None w = false
names (Some p) w = p.0 == w

-- a step by the worker that was due just before it
abbrev pub a_due_step : Turn → Bool
a_due_step t = calls Step t && names t.due t.worker

-- ## Counts

-- how many turns of the worker w pass a test
abbrev pub tally : (Turn → Bool) → ℕ → History → ℕ
tally test w h = count_by (λ t. (w == t.worker) && test t) h

-- a worker's entries less its accepted unlocks
abbrev pub count : ℕ → History → ℕ
count w h = tally an_entry w h - tally an_unlock w h

-- the counts of the first n workers together
abbrev pub counts : ℕ → History → ℕ
counts zero h = 0
counts (suc n) h = count n h + counts n h

abbrev pub place_of : ℕ → History → Place
place_of w h =
    if count w h == 1 then Inside
    else if nat_lt (tally an_entry w h) (tally a_lock w h) then Waiting
    else if nat_lt (tally a_departure w h) (tally an_unlock w h) then Leaving
    else Out

-- ## Records and slips

-- what an accepted turn of the worker w makes of x; every other turn leaves it
abbrev pub by : {A : Type 0} → ℕ → Turn → (Answer → A) → A → A
by w t f x = if w == t.worker then (elim t.answer [ Ok a ↦ f a | Err e ↦ x ]) else x

abbrev pub look_next : Call → Record → Record
look_next Lock x = x
look_next Unlock x = x
look_next Step x = x
look_next (Look c g) x = record { chest = c; grams = g }
look_next Enter x = x

-- the chest and grams of the worker's last accepted look; an enter without one is refused
abbrev pub last_look : ℕ → History → Record
last_look w [] = record { chest = 0; grams = 0 }
last_look w (t ∷ h) = by w t (λ a. look_next t.call (last_look w h)) (last_look w h)

-- the accepted enters, oldest first, each with the chest and grams of its worker's last accepted look before it
abbrev pub stock_of : History → List Record
stock_of [] = []
stock_of (t ∷ h) = if calls Enter t && accepted t then stock_of h ++ last_look t.worker h ∷ [] else stock_of h

abbrev pub slip_next : Call → Bool → ℕ → Option Slip → Option Slip
slip_next Lock found weight s = s
slip_next Unlock found weight s = None
slip_next Step found weight s = s
slip_next (Look c g) found weight s = Some (record { chest = c; grams = g; found = found; weight = weight })
slip_next Enter found weight s = None

-- what the worker noted at its last accepted look, unless it entered or unlocked since
abbrev pub slip_of : ℕ → History → Option Slip
slip_of w [] = None
slip_of w (t ∷ h) = by w t (λ a. slip_next t.call (says Found (Ok a)) (total (stock_of h)) (slip_of w h)) (slip_of w h)

-- ## Refusals

-- the first cause of the table that applies to a call by the worker w after the history h
abbrev pub cause_after : History → ℕ → Call → Option Refusal
cause_after h w c = cause c w (place_of w h) (slip_of w h) (length (stock_of h))

-- ## Events and answers, oldest first

abbrev pub events_of : History → List Event
events_of h = map (λ (t : Turn). record { worker = t.worker; call = t.call }) (reverse h)

abbrev pub answers_of : History → List (Result Answer Refusal)
answers_of h = map (λ (t : Turn). t.answer) (reverse h)
