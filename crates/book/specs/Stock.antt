-- What the calls do to the table of a book.
use Rattle.std.specs.Prelude.{ℕ, ◌+◌, ◌*◌, ◌≤◌, Bool, if◌then◌else◌, List, take, replicate, Some, None, Ok, Err, sum_by, count_by, Option, Result, nat_eq, nat_lt, slice_index_or, slice_set}
use Rattle.lock.specs.declared.place.Place.{Place}
use Rattle.lock.specs.declared.answer.Answer.{Answer}
use Rattle.lock.specs.declared.answer.Answer.TheVariants.{Done, Found}
use Rattle.lock.specs.declared.refusal.Refusal.{Refusal}
use Rattle.lock.specs.Calls.{Outcome}
use Rattle.book.specs.declared.call.Call.TheVariants.{Look, Enter}
use Rattle.book.specs.declared.table.Record.{Record}
use Rattle.book.specs.declared.table.Slip.{Slip}
use Rattle.book.specs.declared.table.Table.{Table}
use Rattle.book.specs.Causes.{cause}

-- ## Records

-- how many of the records are of a chest
abbrev pub copies : ℕ → List Record → ℕ
copies c rs = count_by (λ (r : Record). nat_eq r.chest c) rs

abbrev pub holds : List Record → ℕ → Bool
holds rs c = nat_lt 0 (copies c rs)

-- the grams of all of them
abbrev pub total : List Record → ℕ
total rs = sum_by (λ (r : Record). r.grams) rs

-- ## The table

abbrev pub new_table : Table
new_table = record { records = replicate 256 (record { chest = 0; grams = 0 }); len = 0; weight = 0; slips = replicate 16 None }

abbrev pub records_of : Table → List Record
records_of tb = take tb.len tb.records

abbrev pub slip_at : Table → ℕ → Option Slip
slip_at tb w = slice_index_or tb.slips w None

abbrev pub with_slip : Table → ℕ → Option Slip → Table
with_slip tb w s = record { records = tb.records; len = tb.len; weight = tb.weight; slips = slice_set tb.slips w s }

-- the slip that a look writes
abbrev pub slip_now : Table → ℕ → ℕ → Slip
slip_now tb c g = record { chest = c; grams = g; found = holds (records_of tb) c; weight = tb.weight }

-- the table with the slip's chest and grams as one more record, and the slip taken away
abbrev pub recorded : Table → ℕ → Option Slip → Table
recorded tb w None = tb
recorded tb w (Some s) = record { records = slice_set tb.records tb.len (record { chest = s.chest; grams = s.grams }); len = tb.len + 1; weight = s.weight + s.grams; slips = slice_set tb.slips w None }

-- ## The calls

-- a refusal leaves the table as it is
abbrev pub refused_or : Option Refusal → Table → Outcome Table → Outcome Table
refused_or None tb o = o
refused_or (Some e) tb o = (tb, Err e)

abbrev pub found_answer : Bool → Answer
found_answer found = if found then Found else Done

-- a look by the worker w at the place p
abbrev pub looked : Place → ℕ → ℕ → ℕ → Table → Outcome Table
looked p w c g tb = refused_or (cause (Look c g) w p (slip_at tb w) tb.len) tb (with_slip tb w (Some (slip_now tb c g)), Ok (found_answer (holds (records_of tb) c)))

-- an enter by the worker w at the place p
abbrev pub entered : Place → ℕ → Table → Outcome Table
entered p w tb = refused_or (cause Enter w p (slip_at tb w) tb.len) tb (recorded tb w (slip_at tb w), Ok Done)

-- an accepted unlock takes the worker's slip away
abbrev pub unlocked : Result Answer Refusal → ℕ → Table → Table
unlocked (Ok a) w tb = with_slip tb w None
unlocked (Err e) w tb = tb

-- ## Safety: the weight does not wrap

abbrev pub slip_weight : Option Slip → ℕ
slip_weight None = 0
slip_weight (Some s) = s.weight

abbrev pub slip_grams : Option Slip → ℕ
slip_grams None = 0
slip_grams (Some s) = s.grams

-- what the table of an open book keeps: its weight is at most a million grams for each record
pub record Safe (tb : Table) : Type 0 where
  pub within : tb.len ≤ 256
  pub light : tb.weight ≤ tb.len * 1000000
  pub noted : (w : ℕ) → slip_weight (slip_at tb w) ≤ tb.len * 1000000
  pub lifted : (w : ℕ) → slip_grams (slip_at tb w) ≤ 1000000
