-- What a run of events on a new book is.
use Rattle.std.specs.Prelude.{◌≡◌, ℕ, List, Result, MatchResult, is_ok, nat_le}
use Rattle.list.specs.declared.List.{List as Listing}
use Rattle.list.specs.declared.memory.Memory.{Memory}
use Rattle.list.specs.declared.memory.Memory.TheVariants.{TooShort}
use Rattle.list.specs.Held.{KeepsRest, list_room}
use Rattle.lock.specs.declared.interface.Lock.{Ghosts}
use Rattle.lock.specs.declared.answer.Answer.{Answer}
use Rattle.lock.specs.declared.refusal.Refusal.{Refusal}
use Rattle.book.specs.declared.call.Event.{Event}
use Rattle.book.specs.declared.Book.{Book}
use Rattle.book.specs.History.{History, events_of, answers_of}
use Rattle.book.specs.Life.{Life}
use Rattle.book.specs.Law.{Law}

-- the book has a history with exactly these events and answers, and keeps the law
pub record Ran {S : Type 0} (lock : Ghosts S) (es : List Event) (rs : List (Result Answer Refusal)) (book : Book S) : Type 0 where
  pub history : History
  pub asked : events_of history ≡ es
  pub answered : answers_of history ≡ rs
  pub life : Life lock history book
  pub law : Law lock history book

-- where the list has room for n answers, what is returned is so; else the list is refused and as it was. The memory past its items is as it was
pub record IfRoom {A R : Type 0} (n : ℕ) (IsSo : R → Type 0) (before after : Listing A) (r : Result R Memory) : Type 0 where
  pub value : is_ok r ≡ nat_le n (list_room before)
  pub cases : MatchResult r IsSo (λ e. (e ≡ TooShort) × (after ≡ before))
  pub rest : KeepsRest before after
