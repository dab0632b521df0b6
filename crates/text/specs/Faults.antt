-- The number and the line of each fault, as transcripts write them, and its words.
use Rattle.std.specs.Prelude.{ℕ, List, ◌++◌, codes, decimal}
use Rattle.text.specs.declared.fault.Fault.{Fault}
use Rattle.text.specs.declared.fault.Fault.TheVariants.{Key, Value, TooMany, Ended, TooLong}

abbrev pub fault_number : Fault → ℕ
fault_number (Key line) = 11
fault_number (Value line) = 12
fault_number (TooMany line) = 13
fault_number (Ended line) = 14
fault_number TooLong = 15

abbrev pub fault_line : Fault → ℕ
fault_line (Key line) = line
fault_line (Value line) = line
fault_line (TooMany line) = line
fault_line (Ended line) = line
fault_line TooLong = 0

abbrev pub fault_words : Fault → List ℕ
fault_words (Key line) = codes "line " ++ decimal line ++ codes ": not the expected key"
fault_words (Value line) = codes "line " ++ decimal line ++ codes ": not an allowed value"
fault_words (TooMany line) = codes "line " ++ decimal line ++ codes ": an event too many"
fault_words (Ended line) = codes "line " ++ decimal line ++ codes ": the text ends"
fault_words TooLong = codes "more than " ++ decimal 32768 ++ codes " bytes"
