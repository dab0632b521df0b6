-- A list of bytes, cut at the first of one byte.
use Rattle.std.specs.Prelude.{ℕ, Bool, true, false, if◌then◌else◌, List, [], ◌∷◌, ◌==◌}

abbrev pub has : ℕ → List ℕ → Bool
has b [] = false
has b (x ∷ xs) = if x == b then true else has b xs

-- the bytes before the first b, or all of them
abbrev pub before : ℕ → List ℕ → List ℕ
before b [] = []
before b (x ∷ xs) = if x == b then [] else x ∷ before b xs

-- the bytes after the first b, or none
abbrev pub after : ℕ → List ℕ → List ℕ
after b [] = []
after b (x ∷ xs) = if x == b then xs else after b xs
