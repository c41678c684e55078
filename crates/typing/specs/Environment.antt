-- What is known of a program where one of its nodes is checked. Assumes nothing.
use Rattle.std.specs.Prelude.{ℕ, zero, suc, cond, List, Some, None, Option, ◌==◌}
use Rattle.words.specs.declared.types.DataType.{DataType}
use Rattle.program.specs.Program.{at, no_node, no_variable, no_procedure}
use Rattle.program.specs.declared.records.Variable.{Variable}
use Rattle.program.specs.declared.records.Procedure.{Procedure}
use Rattle.typing.specs.Exits.{falling}
use Rattle.typing.specs.declared.classes.Exits.{Exits}
use Rattle.typing.specs.declared.classes.Class.{Class}
use Rattle.typing.specs.declared.classes.Class.TheVariants.{Value, Argument, Statement}
use Rattle.typing.specs.declared.classes.TypedNode.{TypedNode}

-- the variables, the procedures, and the nodes below the one that is checked
pub record Environment : Type 0 where
  pub variables : List Variable
  pub procedures : List Procedure
  pub nodes : List TypedNode

abbrev pub no_typed_node : TypedNode
no_typed_node = record { node = no_node; procedure = 0; class = Argument }

abbrev pub variable_at : Environment → ℕ → Option Variable
variable_at e v = at no_variable e.variables v

abbrev pub procedure_at : Environment → ℕ → Option Procedure
procedure_at e q = at no_procedure e.procedures q

abbrev pub node_at : Environment → ℕ → Option TypedNode
node_at e n = at no_typed_node e.nodes n

-- the data type of an expression, which a void call has not; its level; and the exits of a statement
abbrev pub class_type : Class → Option DataType
class_type (Value t l) = t
class_type Argument = None
class_type (Statement x) = None

abbrev pub class_level : Class → ℕ
class_level (Value t l) = l
class_level Argument = 0
class_level (Statement x) = 0

abbrev pub class_exits : Class → Exits
class_exits (Value t l) = falling
class_exits Argument = falling
class_exits (Statement x) = x

abbrev pub type_in : Option TypedNode → Option DataType
type_in None = None
type_in (Some n) = class_type n.class

abbrev pub level_in : Option TypedNode → ℕ
level_in None = 0
level_in (Some n) = class_level n.class

abbrev pub exits_in : Option TypedNode → Exits
exits_in None = falling
exits_in (Some n) = class_exits n.class

abbrev pub type_of : Environment → ℕ → Option DataType
type_of e n = type_in (node_at e n)

abbrev pub level_of : Environment → ℕ → ℕ
level_of e n = level_in (node_at e n)

abbrev pub exits_of : Environment → ℕ → Exits
exits_of e n = exits_in (node_at e n)

abbrev pub body_in : Option Procedure → ℕ
body_in None = 0
body_in (Some d) = d.body

-- node 0 belongs to procedure 0, and the node after a body to the procedure after
unfoldable pub procedure_of : List Procedure → ℕ → ℕ
procedure_of ds zero = 0
procedure_of ds (suc n) =
    cond (body_in (at no_procedure ds (procedure_of ds n)) == n) (suc (procedure_of ds n)) (procedure_of ds n)
