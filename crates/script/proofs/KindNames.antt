-- The names of the kinds of lock: no two are the same, none is empty, and none has a newline.
use Rattle.std.proofs.Common.{◌≡◌, ℕ, ◌+◌, ◌*◌, ◌<◌, false, cond, eqb, List, [], ◌∷◌, length, sym, refl, ap, ◌∙◌, arith}
use Rattle.text.specs.Cuts.{has}
use Rattle.script.specs.declared.kind.Kind.{Kind}
use Rattle.script.specs.declared.kind.Kind.TheVariants.{Tas, Ticket, Array, Mcs, Clh}
use Rattle.script.specs.Names.{kind_name}

-- a name as one number
abbrev code : List ℕ → ℕ
code [] = 0
code (b ∷ bs) = b + 256 * code bs

abbrev code_of : Kind → ℕ
code_of k = code (kind_name k)

abbrev kind_by : ℕ → Kind
kind_by n = cond (eqb n (code_of Tas)) Tas (cond (eqb n (code_of Ticket)) Ticket (cond (eqb n (code_of Array)) Array (cond (eqb n (code_of Mcs)) Mcs Clh)))

kind_back : (k : Kind) → kind_by (code_of k) ≡ k
kind_back Tas = refl
kind_back Ticket = refl
kind_back Array = refl
kind_back Mcs = refl
kind_back Clh = refl

pub kind_once : (v : List ℕ) (j k : Kind) → v ≡ kind_name j → v ≡ kind_name k → j ≡ k
kind_once v j k a b = sym (kind_back j) ∙ ap (λ l. kind_by (code l)) (sym a ∙ b) ∙ kind_back k

pub kind_some : (k : Kind) → 0 < length (kind_name k)
kind_some Tas = omega arith
kind_some Ticket = omega arith
kind_some Array = omega arith
kind_some Mcs = omega arith
kind_some Clh = omega arith

pub kind_line : (k : Kind) → has 10 (kind_name k) ≡ false
kind_line Tas = refl
kind_line Ticket = refl
kind_line Array = refl
kind_line Mcs = refl
kind_line Clh = refl
