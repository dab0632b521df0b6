-- The number of the refusal.
use Rattle.std.specs.Prelude.{ℕ}
use Rattle.list.specs.declared.memory.Memory.{Memory}
use Rattle.list.specs.declared.memory.Memory.TheVariants.{TooShort}

abbrev pub memory_number : Memory → ℕ
memory_number TooShort = 16
