-- The life of a book: the calls made on it since it was new, with their answers.
use Rattle.std.specs.Prelude.{◌≡◌, ℕ, [], ◌∷◌, replicate, Result}
use Rattle.lock.specs.declared.interface.Lock.{Ghosts}
use Rattle.lock.specs.declared.place.Place.TheVariants.{Out}
use Rattle.lock.specs.declared.answer.Answer.{Answer}
use Rattle.lock.specs.declared.refusal.Refusal.{Refusal}
use Rattle.lock.specs.Rules.{locking, unlocking, stepping, Obeys, place_at}
use Rattle.book.specs.declared.call.Call.{Call}
use Rattle.book.specs.declared.call.Call.TheVariants.{Lock, Unlock, Step, Look, Enter}
use Rattle.book.specs.declared.table.Table.{Table}
use Rattle.book.specs.declared.Book.{Book}
use Rattle.book.specs.History.{History, Turn}
use Rattle.book.specs.Stock.{new_table, unlocked, looked, entered}

-- what a call by the worker w, answered by r, makes of the lock s and the table tb
abbrev pub Effect : {S : Type 0} (lock : Ghosts S) → Call → ℕ → Result Answer Refusal → S → Table → S → Table → Type 0
Effect lock Lock w r s tb s' tb' = Obeys lock.places lock.pair locking w r s s' × (tb' ≡ tb)
Effect lock Unlock w r s tb s' tb' = Obeys lock.places lock.pair unlocking w r s s' × (tb' ≡ unlocked r w tb)
Effect lock Step w r s tb s' tb' = Obeys lock.places lock.pair stepping w r s s' × (tb' ≡ tb)
Effect lock (Look c g) w r s tb s' tb' = (s' ≡ s) × ((tb', r) ≡ looked (place_at (lock.places s) w) w c g tb)
Effect lock Enter w r s tb s' tb' = (s' ≡ s) × ((tb', r) ≡ entered (place_at (lock.places s) w) w tb)

-- a call on a book
abbrev pub Called : {S : Type 0} (lock : Ghosts S) → Call → ℕ → Result Answer Refusal → Book S → Book S → Type 0
Called lock c w r before after = Effect lock c w r before.lock before.table after.lock after.table

-- the book has this history, newest first: it was made new, and then each call was made on it
pub data Life {S : Type 0} (lock : Ghosts S) : History → Book S → Type 0 where
  made : {b : Book S} → lock.places b.lock ≡ replicate 16 Out → b.table ≡ new_table → Life lock [] b
  then : {h : History} {b : Book S} {t : Turn} (b' : Book S) → Life lock h b → t.due ≡ lock.pair b.lock → Called lock t.call t.worker t.answer b b' → Life lock (t ∷ h) b'
