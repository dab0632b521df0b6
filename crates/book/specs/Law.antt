-- The law of a book's life, over the history of its calls.
use Rattle.std.specs.Prelude.{◌≡◌, ℕ, ◌<◌, ◌≤◌, ◌⊎◌, ◌↔◌, List, ◌∷◌, ◌++◌, Some, None, Ok, Err, count_by, Option, Result, ◌≢◌}
use Rattle.lock.specs.declared.interface.Lock.{Ghosts}
use Rattle.lock.specs.declared.place.Place.{Place}
use Rattle.lock.specs.declared.place.Place.TheVariants.{Out, Waiting, Inside, Leaving}
use Rattle.lock.specs.declared.answer.Answer.{Answer}
use Rattle.lock.specs.declared.answer.Answer.TheVariants.{Done, Entered, Left, Found}
use Rattle.lock.specs.declared.refusal.Refusal.{Refusal}
use Rattle.lock.specs.Rules.{place_at}
use Rattle.book.specs.declared.call.Call.{Call}
use Rattle.book.specs.declared.call.Call.TheVariants.{Lock, Unlock, Step, Look, Enter}
use Rattle.book.specs.declared.table.Table.{Table}
use Rattle.book.specs.declared.Book.{Book}
use Rattle.book.specs.Stock.{copies, total, records_of, slip_at}
use Rattle.book.specs.History.{History, Turn, tally, an_entry, an_unlock, a_due_step, count, counts, place_of, slip_of, stock_of, cause_after}
use Rattle.book.specs.Life.{Life}

-- the answers that an accepted call can give, by its caller's place
abbrev pub CanAnswer : Call → Place → Answer → Type 0
CanAnswer Lock p a = a ≡ Done
CanAnswer Unlock p a = a ≡ Done
CanAnswer Step Out a = ⊥
CanAnswer Step Waiting a = (a ≡ Done) ⊎ (a ≡ Entered)
CanAnswer Step Inside a = ⊥
CanAnswer Step Leaving a = (a ≡ Done) ⊎ (a ≡ Left)
CanAnswer (Look c g) p a = (a ≡ Done) ⊎ (a ≡ Found)
CanAnswer Enter p a = a ≡ Done

-- refused with the cause, or accepted where there is none
abbrev pub Answered : Option Refusal → Call → Place → Result Answer Refusal → Type 0
Answered (Some e) c p r = r ≡ Err e
Answered None c p (Ok a) = CanAnswer c p a
Answered None c p (Err e) = ⊥

-- ## What holds of a turn, after what came before it

-- the call was accepted, or refused with the first cause of the table that applies
abbrev pub Tabled : Turn → History → Type 0
Tabled t before = Answered (cause_after before t.worker t.call) t.call (place_of t.worker before) t.answer

-- an unlock was accepted exactly when its caller's count was 1
abbrev pub Released : Turn → History → Type 0
Released t before = t.call ≡ Unlock → (t.answer ≡ Ok Done) ↔ (count t.worker before ≡ 1)

-- an accepted look answered found exactly when its chest had an accepted enter by then
abbrev pub Looked : Turn → History → Type 0
Looked t before = (c g : ℕ) → t.call ≡ Look c g → (a : Answer) → t.answer ≡ Ok a → (a ≡ Found) ↔ (1 ≤ copies c (stock_of before))

-- ## What holds at a moment, of the history so far

-- a worker's count is 0 or 1, and all of them together come to at most 1
pub record Counted (h : History) : Type 0 where
  pub ordered : (w : ℕ) → tally an_unlock w h ≤ tally an_entry w h
  pub single : (w : ℕ) → count w h ≤ 1
  pub together : (n : ℕ) → counts n h ≤ 1

-- each chest has at most one accepted enter
abbrev pub EnteredOnce : History → Type 0
EnteredOnce h = (c : ℕ) → copies c (stock_of h) ≤ 1

-- the lock's places ps and the table tb are as the history says
pub record Agrees (h : History) (ps : List Place) (tb : Table) : Type 0 where
  pub places : (w : ℕ) → place_at ps w ≡ place_of w h
  -- one record for each accepted enter, in their order, with its worker's last accepted look
  pub records : records_of tb ≡ stock_of h
  -- the sum of their grams
  pub weight : tb.weight ≡ total (stock_of h)
  pub slips : (w : ℕ) → slip_at tb w ≡ slip_of w h

-- the book as it was when it had this history
pub record Moment {S : Type 0} (lock : Ghosts S) (h : History) : Type 0 where
  pub book : Book S
  pub life : Life lock h book
  pub agrees : Agrees h (lock.places book.lock) book.table

-- where nobody is inside before and somebody waits, fewer due steps than the bound come during a time without an entry
abbrev pub Prompt : ℕ → History → History → Type 0
Prompt bound during before =
    ((w : ℕ) → place_of w before ≢ Inside) → (w : ℕ) → place_of w before ≡ Waiting → count_by an_entry during ≡ 0 → count_by a_due_step during < bound

-- ## The law

abbrev pub EachTurn : History → (Turn → History → Type 0) → Type 0
EachTurn h P = (later before : History) (t : Turn) → h ≡ later ++ t ∷ before → P t before

abbrev pub EachMoment : History → (History → Type 0) → Type 0
EachMoment h P = (later before : History) → h ≡ later ++ before → P before

-- the law of a book with the history h
pub record Law {S : Type 0} (lock : Ghosts S) (h : History) (book : Book S) : Type 0 where
  pub table : EachTurn h Tabled
  pub counts : EachMoment h Counted
  pub released : EachTurn h Released
  -- places, records, weight and slips, now and at every moment
  pub agrees : Agrees h (lock.places book.lock) book.table
  pub moments : EachMoment h (λ before. ∥ Moment lock before ∥₁)
  pub once : EachMoment h EnteredOnce
  pub looked : EachTurn h Looked
  pub progress : (later during before : History) → h ≡ later ++ (during ++ before) → Prompt lock.BOUND during before
