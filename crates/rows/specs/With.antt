-- A table with one value changed.
use Rattle.std.specs.Prelude.{ℕ, slice_set}
use Rattle.std.proofs.Common.{◌∙◌, length-set}
use Rattle.rows.specs.declared.table.Rows.{Rows}

module _ {T : Type 0} {N : ℕ} where
  unfoldable pub with : Rows T N → ℕ → T → Rows T N
  with t i x = record { items = slice_set t.items i x; whole = length-set t.items i x ∙ t.whole }
