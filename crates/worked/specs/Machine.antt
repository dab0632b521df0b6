-- A book over a lock of any kind, by the words and the table that the contracts of its calls name.
use Rattle.std.specs.Prelude.{ℕ, List, [], ◌∷◌}
use Rattle.lock.specs.declared.place.Place.{Place}
use Rattle.lock.specs.Rules.{place_at}
use Rattle.lock.specs.Calls.{Outcome}
use Rattle.lock.specs.Algorithms.{locked, unlocked, stepped}
use Rattle.lock.specs.Distance.{listed}
use Rattle.lock.specs.Numbers.{outcome_number}
use Rattle.book.specs.declared.call.Call.{Call}
use Rattle.book.specs.declared.call.Call.TheVariants.{Lock, Unlock, Step, Look, Enter}
use Rattle.book.specs.declared.call.Event.{Event}
use Rattle.book.specs.declared.table.Table.{Table}
use Rattle.book.specs.Stock.{new_table, looked, entered, unlocked as cleared}
use Rattle.tas.specs.declared.words.Words as tas_words
use Rattle.tas.specs.Accesses as tas_calls
use Rattle.tas.specs.contracts.words.WordsAlgorithm.TheImpl as tas_kind
use Rattle.ticket.specs.declared.words.Words as ticket_words
use Rattle.ticket.specs.Accesses as ticket_calls
use Rattle.ticket.specs.contracts.words.WordsAlgorithm.TheImpl as ticket_kind
use Rattle.array.specs.declared.words.Words as array_words
use Rattle.array.specs.Accesses as array_calls
use Rattle.array.specs.contracts.words.WordsAlgorithm.TheImpl as array_kind
use Rattle.mcs.specs.declared.words.Words as mcs_words
use Rattle.mcs.specs.Accesses as mcs_calls
use Rattle.mcs.specs.contracts.words.WordsAlgorithm.TheImpl as mcs_kind
use Rattle.clh.specs.declared.words.Words as clh_words
use Rattle.clh.specs.Accesses as clh_calls
use Rattle.clh.specs.contracts.words.WordsAlgorithm.TheImpl as clh_kind

-- ## A lock of any kind, by its words

pub data Words : Type 0 where
  tas : tas_words.Words → Words
  ticket : ticket_words.Words → Words
  array : array_words.Words → Words
  mcs : mcs_words.Words → Words
  clh : clh_words.Words → Words

abbrev pub kinds : List Words
kinds = tas tas_calls.new_words ∷ ticket ticket_calls.new_words ∷ array array_calls.new_words ∷ mcs mcs_calls.new_words ∷ clh clh_calls.new_words ∷ []

abbrev pub stands : Words → ℕ → Place
stands (tas s) w = tas_calls.label s w
stands (ticket s) w = ticket_calls.place s w
stands (array s) w = array_calls.place s w
stands (mcs s) w = mcs_calls.place s w
stands (clh s) w = clh_calls.place s w

-- the place that the book goes by
abbrev pub place : Words → ℕ → Place
place s w = place_at (listed (stands s)) w

-- what a call leaves of the words of its kind
abbrev pub of : {S : Type 0} → (S → Words) → Outcome S → Outcome Words
of kind o = (kind o.0, o.1)

abbrev pub locks : Words → ℕ → Outcome Words
locks (tas s) w = of tas (locked tas_kind.ghosts s w)
locks (ticket s) w = of ticket (locked ticket_kind.ghosts s w)
locks (array s) w = of array (locked array_kind.ghosts s w)
locks (mcs s) w = of mcs (locked mcs_kind.ghosts s w)
locks (clh s) w = of clh (locked clh_kind.ghosts s w)

abbrev pub unlocks : Words → ℕ → Outcome Words
unlocks (tas s) w = of tas (unlocked tas_kind.ghosts s w)
unlocks (ticket s) w = of ticket (unlocked ticket_kind.ghosts s w)
unlocks (array s) w = of array (unlocked array_kind.ghosts s w)
unlocks (mcs s) w = of mcs (unlocked mcs_kind.ghosts s w)
unlocks (clh s) w = of clh (unlocked clh_kind.ghosts s w)

abbrev pub steps : Words → ℕ → Outcome Words
steps (tas s) w = of tas (stepped tas_kind.ghosts s w)
steps (ticket s) w = of ticket (stepped ticket_kind.ghosts s w)
steps (array s) w = of array (stepped array_kind.ghosts s w)
steps (mcs s) w = of mcs (stepped mcs_kind.ghosts s w)
steps (clh s) w = of clh (stepped clh_kind.ghosts s w)

-- ## A book over it

abbrev pub State : Type 0
State = Words × Table

abbrev pub on_lock : Outcome Words → Table → Outcome State
on_lock o tb = ((o.0, tb), o.1)

abbrev pub on_table : Words → Outcome Table → Outcome State
on_table s o = ((s, o.0), o.1)

abbrev pub call : State → ℕ → Call → Outcome State
call (s, tb) w Lock = on_lock (locks s w) tb
call (s, tb) w Unlock = on_lock (unlocks s w) (cleared (unlocks s w).1 w tb)
call (s, tb) w Step = on_lock (steps s w) tb
call (s, tb) w (Look c g) = on_table s (looked (place s w) w c g tb)
call (s, tb) w Enter = on_table s (entered (place s w) w tb)

-- the calls in order, with the numbers of their answers
abbrev pub run : State → List Event → State × List ℕ
run s [] = (s, [])
run s (e ∷ es) =
    let o = call s e.worker e.call in
    let rest = run o.0 es in
    (rest.0, outcome_number o.1 ∷ rest.1)

abbrev pub new_book : Words → State
new_book s = (s, new_table)
