-- What printing does.
use Rattle.std.specs.Prelude.{◌≡◌, ℕ, ◌+◌, ◌<◌, List, ◌++◌, length, Some, None, Option, Result, MatchResult}
use Rattle.list.specs.Held.{KeepsRest, list_len, list_room, list_items}
use Rattle.list.specs.declared.List.{List as Listing}
use Rattle.list.specs.declared.memory.Memory.{Memory}

-- how many bytes fit, and the list that takes them, if there is one
pub record Page : Type 0 where
  pub space : ℕ
  pub list : Option (Listing ℕ)

-- the bytes were added to a list, and the memory past them is as it was
pub record Appended (a : Listing ℕ) (bytes : List ℕ) (b : Listing ℕ) : Type 0 where
  pub longer : list_len b ≡ list_len a + length bytes
  pub items : list_items b ≡ list_items a ++ bytes
  pub rest : KeepsRest a b
  pub room : list_room b ≡ list_room a

abbrev pub Kept : Option (Listing ℕ) → List ℕ → Option (Listing ℕ) → Type 0
Kept None bytes None = Unit {0}
Kept None bytes (Some b) = ⊥
Kept (Some a) bytes None = ⊥
Kept (Some a) bytes (Some b) = Appended a bytes b

-- the bytes are printed
pub record Prints (a : Page) (bytes : List ℕ) (b : Page) : Type 0 where
  pub spent : a.space ≡ length bytes + b.space
  pub kept : Kept a.list bytes b.list

-- all of the bytes are printed, or they do not fit
abbrev pub Printed : Page → List ℕ → Result (Unit {0}) Memory → Page → Type 0
Printed a bytes r b = MatchResult r (λ done. Prints a bytes b) (λ e. a.space < length bytes)
