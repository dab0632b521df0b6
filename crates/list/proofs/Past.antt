-- What a push leaves of the memory of a list.
use Rattle.std.proofs.Common.{◌≡◌, ℕ, ◌+◌, List, length, drop, set, ap, ◌∙◌, arith}
use Rattle.std.proofs.lemmas.List.{length-set, drop-drop, drop-set-lt}
use Rattle.list.specs.Held.{list_len, list_room, list_memory, lender, KeepsRest}
use Rattle.list.specs.declared.List.{List as Listing}

-- what is past it stays
pub past_push : {X : Type 0} (n m : ℕ) (memory before after : List X) (x : X) → m ≡ n + 1 → after ≡ set before n x → drop n before ≡ drop n memory → drop m after ≡ drop m memory
past_push n m memory before after x longer written past = rw (longer, written) (let a = drop-set-lt (n + 1) before n x (omega arith) in let b = drop-drop 1 n before in let c = drop-drop 1 n memory in cc)

module _ {X : Type 0} (before after : Listing X) (x : X) (written : list_memory after ≡ set (list_memory before) (list_len before) x) where
  pub room_push : list_room after ≡ list_room before
  room_push = ap length written ∙ length-set (list_memory before) (list_len before) x

  pub rest_push : (start : Listing X) → list_len after ≡ list_len before + 1 → lender after ≡ lender before → KeepsRest start before → KeepsRest start after
  rest_push start longer same k = record { memory = past_push _ _ _ _ _ x longer written k.memory; same = same ∙ k.same }
