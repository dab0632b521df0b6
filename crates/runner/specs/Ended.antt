-- How a run ended: its history, with the law, and what is handed on of it.
use Rattle.std.specs.Prelude.{◌≡◌, ℕ, List, length, Some, None, Option, Result, ◌≢◌}
use Rattle.lock.specs.declared.interface.Lock.{Ghosts}
use Rattle.lock.specs.declared.place.Place.{Place}
use Rattle.lock.specs.declared.place.Place.TheVariants.{Inside}
use Rattle.lock.specs.declared.answer.Answer.{Answer}
use Rattle.lock.specs.declared.refusal.Refusal.{Refusal}
use Rattle.book.specs.declared.call.Event.{Event}
use Rattle.book.specs.declared.Book.{Book}
use Rattle.book.specs.Stock.{total}
use Rattle.book.specs.History.{place_of, stock_of}
use Rattle.book.specs.Ran.{Ran}
use Rattle.script.specs.declared.kind.Kind.{Kind}
use Rattle.script.specs.declared.kind.Kind.TheVariants.{Tas, Ticket, Array, Mcs, Clh}
use Rattle.transcript.specs.declared.state.Ending.{Ending}
use Rattle.lock.specs.Spinlocks.{lock_of}
use Rattle.tas.specs.contracts.words.WordsAlgorithm.TheImpl as tas
use Rattle.ticket.specs.contracts.words.WordsAlgorithm.TheImpl as ticket
use Rattle.array.specs.contracts.words.WordsAlgorithm.TheImpl as array
use Rattle.mcs.specs.contracts.words.WordsAlgorithm.TheImpl as mcs
use Rattle.clh.specs.contracts.words.WordsAlgorithm.TheImpl as clh

-- this worker is inside, or nobody is
abbrev pub IsInside : Option ℕ → (ℕ → Place) → Type 0
IsInside None f = (w : ℕ) → f w ≢ Inside
IsInside (Some w) f = f w ≡ Inside

-- a book that was run so, and what its history says of the end
pub record Ended {S : Type 0} (lock : Ghosts S) (es : List Event) (rs : List (Result Answer Refusal)) (e : Ending) : Type 0 where
  pub book : Book S
  pub ran : Ran lock es rs book
  pub inside : IsInside e.inside (λ w. place_of w ran.history)
  pub chests : e.chests ≡ length (stock_of ran.history)
  pub grams : e.grams ≡ total (stock_of ran.history)

-- over a lock of the kind, whose bound is that of its algorithm (`worked::bounds` lists them)
abbrev pub EndedBy : Kind → List Event → List (Result Answer Refusal) → Ending → Type 0
EndedBy Tas es rs e = Ended (lock_of tas.ghosts) es rs e
EndedBy Ticket es rs e = Ended (lock_of ticket.ghosts) es rs e
EndedBy Array es rs e = Ended (lock_of array.ghosts) es rs e
EndedBy Mcs es rs e = Ended (lock_of mcs.ghosts) es rs e
EndedBy Clh es rs e = Ended (lock_of clh.ghosts) es rs e
