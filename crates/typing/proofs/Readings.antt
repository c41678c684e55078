-- A file whose records, part by part, are those of a program.
use Rattle.std.proofs.Common.{◌≡◌, ℕ, ◌<◌, List, length, get_or, Some, Ok}
use Rattle.program.specs.Layout.{layout_of}
use Rattle.program.specs.Program.{Program, no_node, no_variable, no_procedure}
use Rattle.program.specs.declared.layout.Layout.{Layout}
use Rattle.typing.specs.Faults.{node_record, variable_record, procedure_record, variable_part, procedure_part}

pub record Reads (bs : List ℕ) (p : Program) (l : Layout) : Type 0 where
  pub layout : layout_of bs ≡ Ok l
  pub nodes : l.nodes ≡ length p.nodes
  pub variables : l.variables ≡ length p.variables
  pub procedures : l.procedures ≡ length p.procedures
  pub node : (n : ℕ) → n < length p.nodes → node_record bs n ≡ Some (get_or p.nodes n no_node)
  pub variable : (v : ℕ) → v < length p.variables → variable_record (variable_part l bs) v ≡ Some (get_or p.variables v no_variable)
  pub procedure : (q : ℕ) → q < length p.procedures → procedure_record (procedure_part l bs) q ≡ Some (get_or p.procedures q no_procedure)
