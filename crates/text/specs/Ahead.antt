-- What a reader hands on of the lines that are still to be read.
use Rattle.std.specs.Prelude.{◌≡◌, ℕ, ◌+◌, List, [], ◌∷◌}
use Rattle.text.specs.Lines.{Line, whole, cut, lines}
use Rattle.text.specs.declared.reader.Reader.{Reader}
use Rattle.text.specs.declared.token.Token.{Token}
use Rattle.text.specs.declared.token.Token.TheVariants as token

abbrev pub ahead : Reader → List Line
ahead r = lines r.left.now

-- the number of the next line
abbrev pub line_number : Reader → ℕ
line_number r = r.line

-- a reader at the start of a text
pub record Opened (text : List ℕ) (r : Reader) : Type 0 where
  pub all : ahead r ≡ lines text
  pub first : line_number r ≡ 1

-- the next line has this key and this value, and is read
pub record Taken (key value : List ℕ) (r q : Reader) : Type 0 where
  pub next : ahead r ≡ whole key value ∷ ahead q
  pub count : line_number q ≡ line_number r + 1

-- the token is the next line; at the end the reader stays
abbrev pub Handed : Reader → Token → Reader → Type 0
Handed r (token.Line key value line) q = (line ≡ line_number r) × Taken key.now value.now r q
Handed r (token.Cut line) q = (line ≡ line_number r) × (ahead r ≡ cut ∷ []) × (q ≡ r)
Handed r (token.End line) q = (line ≡ line_number r) × (ahead r ≡ []) × (q ≡ r)
