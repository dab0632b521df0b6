-- What the answer of a push says of the list before it.
use Rattle.std.proofs.Common.{◌≡◌, ◌<◌, ◌≤◌, Ok, Err, arith}
use Rattle.std.proofs.lemmas.Bool.Decides.{nat_tests}
use Rattle.list.specs.Held.{list_len, list_room, push_answer}
use Rattle.list.specs.declared.List.{List as Listing}
use Rattle.list.specs.declared.memory.Memory.{Memory}

pub push_fits : {X : Type 0} (l : Listing X) (u : Unit {0}) → Ok u ≡ push_answer l → list_len l < list_room l
push_fits l u e = grind (arith, nat_tests)

pub push_full : {X : Type 0} (l : Listing X) (m : Memory) → Err m ≡ push_answer l → list_room l ≤ list_len l
push_full l m e = grind (arith, nat_tests)
