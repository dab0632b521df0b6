-- Where the counts of the two locks come to their ends.
use Rattle.std.specs.Prelude.{◌≡◌, ℕ, zero, suc, replicate, Some, None, Ok, slice_set}
use Rattle.lock.specs.declared.answer.Answer.TheVariants.{Done}
use Rattle.ticket.specs.declared.words.Label.TheVariants as label
use Rattle.ticket.specs.declared.words.Words as ticket_words
use Rattle.array.specs.declared.words.Words as array_words
use Rattle.array.specs.Accesses as array
use Rattle.lock.specs.Calls.{Outcome}
use Rattle.lock.specs.Algorithms.{locked, unlocked, stepped}
use Rattle.ticket.specs.contracts.words.WordsAlgorithm.TheImpl as ticket_kind
use Rattle.array.specs.contracts.words.WordsAlgorithm.TheImpl as array_kind

-- W0 at the last ticket takes it, and the next one is 0
abbrev pub WrappingTicket : Type 0
WrappingTicket =
    let before : ticket_words.Words = record { next = 4294967295; serving = 4294967295; holder = None; at = slice_set (replicate 16 label.Out) 3 label.W0 } in
    let after : ticket_words.Words = record { next = 0; serving = 4294967295; holder = None; at = slice_set (replicate 16 label.Out) 3 (label.W1 4294967295) } in
    stepped ticket_kind.ghosts before 3 ≡ (after, Ok Done)

-- a step of the worker 3 on the array words
abbrev pub step : array_words.Words → Outcome array_words.Words
step s = stepped array_kind.ghosts s 3

-- the words after n whole turns of the worker 3 alone
abbrev pub turns : ℕ → array_words.Words → array_words.Words
turns zero s = s
turns (suc n) s =
    let coming = (locked array_kind.ghosts s 3).0 in
    let entered = (step (step (step coming).0).0).0 in
    turns n (step (unlocked array_kind.ghosts entered 3).0).0

-- its seventeenth turn uses slot 0
abbrev pub SeventeenthTurn : Type 0
SeventeenthTurn = array.number (step (locked array_kind.ghosts (turns 16 array.new_words) 3).0).0 3 ≡ Some 0
