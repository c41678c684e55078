-- What a file cut into its parts holds, and the faults of its records. Assumes nothing.
use Rattle.std.specs.Prelude.{ℕ, List, Option}
use Rattle.levels.specs.Rules.{Rules}
use Rattle.program.specs.declared.records.Variable.{Variable}
use Rattle.program.specs.declared.records.Procedure.{Procedure}
use Rattle.program.specs.declared.refusal.Refusal.{Refusal}
use Rattle.typing.specs.Faults.{variable_fault, procedure_fault, node_fault, variable_part, procedure_part, file_variables, file_procedures, file_nodes}
use Rattle.typing.specs.declared.classes.TypedNode.{TypedNode}
use Rattle.checker.specs.declared.records.Parts.{Parts}

abbrev pub variables_of : Parts → List Variable
variables_of p = file_variables p.layout p.file.now

abbrev pub procedures_of : Parts → List Procedure
procedures_of p = file_procedures p.layout p.file.now

abbrev pub nodes_of : Rules → Parts → List TypedNode
nodes_of r p = file_nodes r p.layout p.file.now

-- the fault of the record of a number
abbrev pub fault_of_variable : Rules → Parts → ℕ → Option Refusal
fault_of_variable r p = variable_fault r p.layout.procedures (variable_part p.layout p.file.now)

abbrev pub fault_of_procedure : Rules → Parts → ℕ → Option Refusal
fault_of_procedure r p =
    procedure_fault r p.file.now p.layout.nodes p.layout.procedures (variables_of p) (procedure_part p.layout p.file.now)

abbrev pub fault_of_node : Rules → Parts → ℕ → Option Refusal
fault_of_node r p = node_fault r (variables_of p) (procedures_of p) p.file.now
