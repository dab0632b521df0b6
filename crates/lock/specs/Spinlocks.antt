-- A spinlock's ghost members of `Lock`, and what its calls keep.
use Rattle.std.specs.Prelude.{ℕ, Result}
use Rattle.lock.specs.declared.answer.Answer.{Answer}
use Rattle.lock.specs.declared.refusal.Refusal.{Refusal}
use Rattle.lock.specs.Rules.{Request, Obeys}
use Rattle.lock.specs.declared.algorithm.Algorithm.{Ghosts as Algorithm}
use Rattle.lock.specs.declared.interface.Lock.{Ghosts as Lock}
use Rattle.lock.specs.declared.spinlock.Spinlock.{Spinlock}
use Rattle.lock.specs.Algorithms.{places, pair}

-- the lock of an algorithm: its bound, places and due pair
abbrev pub lock_of : {S : Type 0} (a : Algorithm S) → Lock (Spinlock S a)
lock_of a = record { BOUND = a.BOUND; places = λ s. places a s.words; pair = λ s. pair a s.words }

-- the call q by the worker w, answered by r, keeps the rules
abbrev pub ObeysRules : {S : Type 0} (a : Algorithm S) → Request → ℕ → Result Answer Refusal → Spinlock S a → Spinlock S a → Type 0
ObeysRules a q w r before after = Obeys (lock_of a).places (lock_of a).pair q w r before after
