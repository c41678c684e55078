-- A cell that is lent. Assumes nothing.
use Rattle.std.specs.Prelude.{ℕ, slice_set}
use Rattle.std.proofs.Common.{◌∙◌, length-set}
use Rattle.semantics.specs.declared.values.Value.{Value}
use Rattle.engine.specs.declared.cells.Cells.{Cells}

-- the cells with x in cell i
abbrev pub with_cell : {S : Type 0} → Cells S → ℕ → Value S → Cells S
with_cell c i x = record { cells = slice_set c.cells i x; whole = length-set c.cells i x ∙ c.whole }
