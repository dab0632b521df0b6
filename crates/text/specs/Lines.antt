-- The lines of a text, each ended by byte 10; byte 61 ends a key.
use Rattle.std.specs.Prelude.{ℕ, if◌then◌else◌, List, [], ◌∷◌, ◌++◌, ◌==◌}
use Rattle.text.specs.Cuts.{before, after}

-- a line as its key and its value, or one that the text's end cuts
pub data Line : Type 0 where
  whole : List ℕ → List ℕ → Line
  cut : Line

-- the lines, where the bytes so far of the first are given
abbrev pub lines_after : List ℕ → List ℕ → List Line
lines_after [] [] = []
lines_after (b ∷ so) [] = cut ∷ []
lines_after so (x ∷ xs) = if x == 10 then whole (before 61 so) (after 61 so) ∷ lines_after [] xs else lines_after (so ++ x ∷ []) xs

unfoldable pub lines : List ℕ → List Line
lines bytes = lines_after [] bytes

-- a line as it is written
abbrev pub line_text : List ℕ → List ℕ → List ℕ
line_text key value = key ++ (61 ∷ (value ++ (10 ∷ [])))
