-- What a list over lent memory holds.
use Rattle.std.specs.Prelude.{◌≡◌, ℕ, if◌then◌else◌, List, length, take, drop, Ok, Err, Result, nat_lt}
use Rattle.std.specs.Borrow.{GName}
use Rattle.list.specs.declared.List.{List as Listing}
use Rattle.list.specs.declared.memory.Memory.{Memory}
use Rattle.list.specs.declared.memory.Memory.TheVariants.{TooShort}

module _ {X : Type 0} where
  abbrev pub list_len : Listing X → ℕ
  list_len l = l.len

  -- all that was lent, the part past the items too
  abbrev pub list_memory : Listing X → List X
  list_memory l = l.items.now

  -- how many it can hold
  abbrev pub list_room : Listing X → ℕ
  list_room l = length (list_memory l)

  abbrev pub list_items : Listing X → List X
  list_items l = take (list_len l) (list_memory l)

  -- whose memory it is, by the ghost name of the reference
  abbrev pub lender : Listing X → GName
  lender l = l.items.ghost_name

  -- what `push` answers
  abbrev pub push_answer : Listing X → Result (Unit {0}) Memory
  push_answer l = if nat_lt (list_len l) (list_room l) then Ok tt else Err TooShort

-- the memory past the items is as it was, and is still the same lender's
pub record KeepsRest {X : Type 0} (before after : Listing X) : Type 0 where
  pub memory : drop (list_len after) (list_memory after) ≡ drop (list_len after) (list_memory before)
  pub same : lender after ≡ lender before
