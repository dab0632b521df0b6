-- The words by which the refusal is printed.
use Rattle.std.specs.Prelude.{ℕ, List, codes}
use Rattle.list.specs.declared.memory.Memory.{Memory}
use Rattle.list.specs.declared.memory.Memory.TheVariants.{TooShort}

abbrev pub memory_name : Memory → List ℕ
memory_name TooShort = codes "memory too short"
