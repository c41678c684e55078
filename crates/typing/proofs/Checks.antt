-- A program whose records pass every row, as the tests have it.
use Rattle.std.proofs.Common.{◌≡◌, ℕ, suc, ◌<◌, ◌≤◌, true, ◌||◌, eqb, length, Some, None}
use Rattle.levels.specs.Rules.{Rules}
use Rattle.program.proofs.Statements.{statement_node}
use Rattle.program.specs.Program.{Program}
use Rattle.program.specs.declared.records.Node.{Node}
use Rattle.program.specs.declared.records.Variable.{Variable}
use Rattle.program.specs.declared.records.Procedure.{Procedure}
use Rattle.typing.specs.Faults.{variable_fits, result_fits, parameters_fit, main_fits, is_body}
use Rattle.typing.specs.Formed.{times_child}
use Rattle.typing.specs.Rows.{first_broken, node_rows}
use Rattle.typing.specs.Typing.{NodeIs, VariableIs, ProcedureIs}
use Rattle.typing.proofs.Tabled.{home, below}

pub record ProcedureChecks (r : Rules) (p : Program) (q : ℕ) (d : Procedure) : Type 0 where
  pub result : result_fits r (Some d) ≡ true
  pub parameters : parameters_fit p.variables q d ≡ true
  pub above : (o : ℕ) (b : Procedure) → suc o ≡ q → ProcedureIs p o b → b.body < d.body
  pub body : d.body < length p.nodes
  pub statement : (x : Node) → NodeIs p d.body x → statement_node x ≡ true
  pub last : suc q ≡ length p.procedures → suc d.body ≡ length p.nodes
  pub main : main_fits (length p.procedures) q d ≡ true

pub record Sizes (p : Program) : Type 0 where
  pub some_nodes : 1 ≤ length p.nodes
  pub few_nodes : length p.nodes ≤ 1024
  pub few_variables : length p.variables ≤ 128
  pub some_procedures : 1 ≤ length p.procedures
  pub few_procedures : length p.procedures ≤ 32

pub record Checks (r : Rules) (p : Program) : Type 0 where
  pub sizes : Sizes p
  pub variables : (i : ℕ) (v : Variable) → VariableIs p i v → variable_fits r (length p.procedures) (Some v) ≡ true
  pub procedures : (q : ℕ) (d : Procedure) → ProcedureIs p q d → ProcedureChecks r p q d
  pub nodes : (n : ℕ) (x : Node) → NodeIs p n x → first_broken r (below r p n) n (home p n) x node_rows ≡ None
  pub names : (n : ℕ) → n < length p.nodes → (is_body p.procedures n || eqb (times_child n p.nodes) 1) ≡ true
