-- Small runs, worked out by hand from the rules: the calls on a new book, their answers, and what stands in the words afterwards.
use Rattle.std.specs.Prelude.{◌≡◌, ℕ, zero, suc, List, [], ◌∷◌, ◌++◌, map, replicate, Some, None, Option, slice_set}
use Rattle.book.specs.declared.call.Call.{Call}
use Rattle.book.specs.declared.call.Call.TheVariants.{Lock, Unlock, Step, Look}
use Rattle.book.specs.declared.call.Event.{Event}
use Rattle.ticket.specs.declared.words.Label.{Label}
use Rattle.ticket.specs.declared.words.Label.TheVariants as ticket_label
use Rattle.tas.specs.Accesses as tas_calls
use Rattle.ticket.specs.Accesses as ticket_calls
use Rattle.array.specs.Accesses as array_calls
use Rattle.mcs.specs.Accesses as mcs_calls
use Rattle.clh.specs.Accesses as clh_calls
use Rattle.worked.specs.Machine.{Words, tas, ticket, array, mcs, clh, kinds, run, new_book}

-- ## Rows

-- the ticket of a worker at W1
abbrev pub drawn : Label → Option ℕ
drawn ticket_label.Out = None
drawn ticket_label.W0 = None
drawn (ticket_label.W1 t) = Some t
drawn ticket_label.W2 = None
drawn ticket_label.Inside = None
drawn ticket_label.X0 = None
drawn ticket_label.X1 = None

-- what is read of the words, and of the worker w's own numbers
abbrev pub read : Words → ℕ → List (Option ℕ)
-- the holder
read (tas s) w = s.holder ∷ []
-- `next`, `serving`, the holder, the ticket of w
read (ticket s) w = Some s.next ∷ Some s.serving ∷ s.holder ∷ drawn (ticket_calls.label s w) ∷ []
-- `next`, the slot number of w
read (array s) w = Some s.next ∷ array_calls.number s w ∷ []
-- the last of the line, `next` of w
read (mcs s) w = s.last ∷ (mcs_calls.node s w).next ∷ []
-- `tail`, the own node of w, and `prev` of that
read (clh s) w = Some s.tail ∷ Some (clh_calls.own s w) ∷ clh_calls.before s w ∷ []

-- the calls, the numbers that they answer, and what is read afterwards of the words and of one worker
pub record Row : Type 0 where
  pub on : Words
  pub calls : List Event
  pub answers : List ℕ
  pub worker : ℕ
  pub words : List (Option ℕ)

-- ## Calls

-- calls by one worker
abbrev pub by : ℕ → List Call → List Event
by w cs = map (λ (c : Call). record { worker = w; call = c }) cs

abbrev pub repeated : {A : Type 0} → ℕ → List A → List A
repeated zero xs = []
repeated (suc n) xs = xs ++ repeated n xs

-- a whole turn of a lone worker at the array lock
abbrev pub turn : List Call
turn = Lock ∷ Step ∷ Step ∷ Step ∷ Unlock ∷ Step ∷ []

abbrev pub turn_answers : List ℕ
turn_answers = 0 ∷ 0 ∷ 0 ∷ 20 ∷ 0 ∷ 21 ∷ []

-- ## The table

abbrev pub tas_busy : Row
tas_busy = record {
  on = tas tas_calls.new_words;
  calls = by 0 (Lock ∷ Step ∷ []) ++ by 1 (Lock ∷ Step ∷ Unlock ∷ []);
  answers = 0 ∷ 20 ∷ 0 ∷ 0 ∷ 2 ∷ [];
  worker = 0;
  words = Some 0 ∷ [];
}

abbrev pub ticket_alone : Row
ticket_alone = record {
  on = ticket ticket_calls.new_words;
  calls = by 5 (Lock ∷ Step ∷ Step ∷ Step ∷ Step ∷ Lock ∷ []);
  answers = 0 ∷ 0 ∷ 0 ∷ 20 ∷ 5 ∷ 3 ∷ [];
  worker = 5;
  words = Some 1 ∷ Some 0 ∷ Some 5 ∷ None ∷ [];
}

-- the last ticket before `next` wraps
abbrev pub ticket_wraps : Row
ticket_wraps = record {
  on = ticket (record { next = 4294967295; serving = 4294967295; holder = None; at = slice_set (replicate 16 ticket_label.Out) 3 ticket_label.W0 });
  calls = by 3 (Step ∷ []);
  answers = 0 ∷ [];
  worker = 3;
  words = Some 0 ∷ Some 4294967295 ∷ None ∷ Some 4294967295 ∷ [];
}

abbrev pub array_sixteenth : Row
array_sixteenth = record {
  on = array array_calls.new_words;
  calls = by 3 (repeated 15 turn ++ (Lock ∷ Step ∷ []));
  answers = repeated 15 turn_answers ++ (0 ∷ 0 ∷ []);
  worker = 3;
  words = Some 16 ∷ Some 15 ∷ [];
}

abbrev pub array_seventeenth : Row
array_seventeenth = record {
  on = array array_calls.new_words;
  calls = by 3 (repeated 16 turn ++ (Lock ∷ Step ∷ []));
  answers = repeated 16 turn_answers ++ (0 ∷ 0 ∷ []);
  worker = 3;
  words = Some 17 ∷ Some 0 ∷ [];
}

abbrev pub mcs_alone : Row
mcs_alone = record {
  on = mcs mcs_calls.new_words;
  calls = by 7 (Lock ∷ Step ∷ Step ∷ Step ∷ Unlock ∷ Step ∷ Step ∷ Step ∷ Unlock ∷ []);
  answers = 0 ∷ 0 ∷ 0 ∷ 20 ∷ 0 ∷ 0 ∷ 0 ∷ 21 ∷ 4 ∷ [];
  worker = 7;
  words = None ∷ None ∷ [];
}

abbrev pub clh_alone : Row
clh_alone = record {
  on = clh clh_calls.new_words;
  calls = by 0 (Lock ∷ Step ∷ Step ∷ Step ∷ Step ∷ Unlock ∷ Step ∷ Step ∷ []);
  answers = 0 ∷ 0 ∷ 0 ∷ 0 ∷ 20 ∷ 0 ∷ 0 ∷ 21 ∷ [];
  worker = 0;
  words = Some 0 ∷ Some 16 ∷ None ∷ [];
}

-- the last worker, and one above it, at each kind; neither call writes a word
abbrev pub last_worker : Words → Row
last_worker s = record {
  on = s;
  calls = by 15 (Lock ∷ []) ++ by 16 (Lock ∷ []);
  answers = 0 ∷ 1 ∷ [];
  worker = 15;
  words = read s 15;
}

abbrev pub heaviest : Row
heaviest = record {
  on = tas tas_calls.new_words;
  calls = by 0 (Lock ∷ Step ∷ Look 118 1000000 ∷ Look 118 1000001 ∷ []);
  answers = 0 ∷ 20 ∷ 0 ∷ 9 ∷ [];
  worker = 0;
  words = Some 0 ∷ [];
}

abbrev pub table : List Row
table = tas_busy ∷ ticket_alone ∷ ticket_wraps ∷ array_sixteenth ∷ array_seventeenth ∷ mcs_alone ∷ clh_alone ∷ heaviest ∷ map last_worker kinds

-- ## What the rules give

abbrev pub given : Row → List ℕ × List (Option ℕ)
given row = let end = run (new_book row.on) row.calls in (end.1, read end.0.0 row.worker)

abbrev pub expected : Row → List ℕ × List (Option ℕ)
expected row = (row.answers, row.words)

-- every row comes out as it says
abbrev pub Worked : Type 0
Worked = map given table ≡ map expected table
