-- What a text leaves in the memory that it is written into.
use Rattle.std.specs.Prelude.{◌≡◌, ℕ, if◌then◌else◌, List, ◌++◌, length, drop, Ok, Err, Result, nat_le}
use Rattle.list.specs.declared.memory.Memory.{Memory}
use Rattle.list.specs.declared.memory.Memory.TheVariants.{TooShort}

-- its length, if it fits
abbrev pub write_answer : List ℕ → List ℕ → Result ℕ Memory
write_answer text memory = if nat_le (length text) (length memory) then Ok (length text) else Err TooShort

-- the text at the front and the rest as it was, or all as it was
abbrev pub write_memory : List ℕ → List ℕ → List ℕ
write_memory text memory = if nat_le (length text) (length memory) then text ++ drop (length text) memory else memory

-- the text is written into the memory, and the answer says how
pub record Overwrites (text before : List ℕ) (r : Result ℕ Memory) (after : List ℕ) : Type 0 where
  pub value : r ≡ write_answer text before
  pub memory : after ≡ write_memory text before
