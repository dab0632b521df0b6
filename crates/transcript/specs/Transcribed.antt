-- The text of a transcript.
use Rattle.std.specs.Prelude.{ℕ, List, ◌++◌, Some, None, codes, decimal, Option, Result, ◌==◌}
use Rattle.std.specs.List.{count_by, flat_map}
use Rattle.lock.specs.Numbers.{outcome_number}
use Rattle.lock.specs.declared.answer.Answer.{Answer}
use Rattle.lock.specs.declared.refusal.Refusal.{Refusal}
use Rattle.text.specs.Faults.{fault_number, fault_line}
use Rattle.text.specs.Lines.{line_text}
use Rattle.text.specs.declared.fault.Fault.{Fault}
use Rattle.transcript.specs.declared.state.Ending.{Ending}

abbrev pub Outcome : Type 0
Outcome = Result Answer Refusal

abbrev pub answer_text : Outcome → List ℕ
answer_text a = line_text (codes "answer") (decimal (outcome_number a))

-- how many answers are 4
abbrev pub misuses : List Outcome → ℕ
misuses answers = count_by (λ a. outcome_number a == 4) answers

abbrev pub inside_text : Option ℕ → List ℕ
inside_text (Some w) = line_text (codes "inside") (decimal w)
inside_text None = line_text (codes "inside") (codes "none")

abbrev pub ending_text : Ending → ℕ → List ℕ
ending_text e misuse =
    inside_text e.inside ++
    (line_text (codes "misuse") (decimal misuse) ++
    (line_text (codes "chests") (decimal e.chests) ++
    line_text (codes "grams") (decimal e.grams)))

abbrev pub run_text : List Outcome → Ending → List ℕ
run_text answers e = flat_map answer_text answers ++ ending_text e (misuses answers)

abbrev pub fault_text : Fault → List ℕ
fault_text f = line_text (codes "fault") (decimal (fault_number f)) ++ line_text (codes "line") (decimal (fault_line f))
