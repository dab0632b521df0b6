-- How far off each worker is: one that leaves is two accesses off, one that finds the word free is one off.
use Rattle.std.specs.Prelude.{ℕ, Some, None, Option}
use Rattle.lock.specs.declared.place.Place.{Place}
use Rattle.lock.specs.declared.place.Place.TheVariants.{Out, Waiting, Inside, Leaving}
use Rattle.tas.specs.declared.words.Words.{Words}
use Rattle.tas.specs.Accesses.{label}

abbrev pub distance_at : Place → Option ℕ → Option ℕ
distance_at Out h = None
distance_at Waiting None = Some 1
distance_at Waiting (Some h) = None
distance_at Inside h = None
distance_at Leaving h = Some 2

abbrev pub distance : Words → ℕ → Option ℕ
distance s w = distance_at (label s w) s.holder
