-- Every word of the test-and-set lock after every call that is let through; `lock/specs/Calls.antt` says which calls are.
use Rattle.std.specs.Prelude.{◌≡◌, ℕ, Bool, true, false, length, replicate, Some, None, Ok, Err, Option, slice_index_or, slice_set}
use Rattle.lock.specs.declared.place.Place.{Place}
use Rattle.lock.specs.declared.place.Place.TheVariants.{Out, Waiting, Inside, Leaving}
use Rattle.lock.specs.declared.answer.Answer.TheVariants.{Done, Entered, Left}
use Rattle.lock.specs.declared.refusal.Refusal.TheVariants.{Idle}
use Rattle.lock.specs.Calls.{Outcome, names}
use Rattle.tas.specs.declared.words.Words.{Words}

abbrev pub new_words : Words
new_words = record { holder = None; at = replicate 16 Out }

abbrev pub label : Words → ℕ → Place
label s w = slice_index_or s.at w Out

-- the mark: the word names w
abbrev pub mark : Words → ℕ → Bool
mark s w = names s.holder w

-- the word becomes h, and w goes to p
abbrev pub put : Words → Option ℕ → ℕ → Place → Words
put s h w p = record { holder = h; at = slice_set s.at w p }

-- after an accepted `lock`
abbrev pub come : Words → ℕ → Words
come s w = put s s.holder w Waiting

-- after an accepted `unlock`
abbrev pub leave : Words → ℕ → Words
leave s w = put s s.holder w Leaving

-- W0: enter where the word is free, else stay
abbrev pub W0 : Option ℕ → Words → ℕ → Outcome Words
W0 None s w = (put s (Some w) w Inside, Ok Entered)
W0 (Some h) s w = (s, Ok Done)

-- X0: free the word
abbrev pub X0 : Words → ℕ → Outcome Words
X0 s w = (put s None w Out, Ok Left)

abbrev pub access : Place → Words → ℕ → Outcome Words
access Out s w = (s, Err Idle)
access Waiting s w = W0 s.holder s w
access Inside s w = (s, Err Idle)
access Leaving s w = X0 s w

-- after the access that the worker has before it
abbrev pub accessed : Words → ℕ → Outcome Words
accessed s w = access (label s w) s w

-- ## What holds at every moment

abbrev pub Sixteen : Words → Type 0
Sixteen s = length s.at ≡ 16

abbrev pub holding : Place → Bool
holding Out = false
holding Waiting = false
holding Inside = true
holding Leaving = true

-- the word names exactly the worker that is inside or leaving
abbrev pub Named : Words → Type 0
Named s = (w : ℕ) → holding (label s w) ≡ names s.holder w

abbrev pub Holds : Words → Type 0
Holds s = Sixteen s × Named s
