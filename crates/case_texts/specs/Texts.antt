-- One text after the other.
use Rattle.std.specs.Prelude.{◌≡◌, ℕ, ◌+◌, if◌then◌else◌, List, ◌∷◌, [], length, take, drop, position, Some, None, Option, ◌==◌}
use Rattle.std.specs.Borrow.{Bor}

-- where the first percent sign stands
abbrev pub sign_of : List ℕ → Option ℕ
sign_of bytes = position (λ x. x == 37) bytes

-- the byte after a sign, a newline in our files, is passed over, but where it is a sign itself: then an empty text ends there
abbrev pub text_start : List ℕ → List ℕ
text_start [] = []
text_start (x ∷ rest) = if x == 37 then x ∷ rest else rest

-- the bytes before the sign are the text
abbrev pub NextText : List ℕ → Option (Bor (List ℕ)) → List ℕ → Type 0
NextText before None after = (sign_of before ≡ None) × (after ≡ before)
NextText before (Some text) after = (sign_of before ≡ Some (length text.now)) × (text.now ≡ take (length text.now) before) × (after ≡ text_start (drop (length text.now + 1) before))
