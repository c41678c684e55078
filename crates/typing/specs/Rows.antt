-- The rows that refuse a decoded node, one definition each. Assumes nothing.
-- A row is passed by node n of procedure q at place k in the environment e.
use Rattle.std.specs.Prelude.{ℕ, zero, suc, Bool, true, false, cond, not, ◌&&◌, ◌||◌, List, [], ◌∷◌, Some, None, Option, ◌==◌, nat_lt}
use Rattle.words.specs.Numbers.{type_number}
use Rattle.words.specs.declared.types.DataType.{DataType}
use Rattle.words.specs.declared.types.DataType.TheVariants.{Bool as Boolean, Int, Unsigned}
use Rattle.words.specs.declared.types.Comparison.{Comparison as Order}
use Rattle.words.specs.declared.types.Comparison.TheVariants.{Equal, NotEqual, Less, LessOrEqual, Greater, GreaterOrEqual}
use Rattle.levels.specs.Rules.{Rules}
use Rattle.program.specs.declared.records.Node.{Node}
use Rattle.program.specs.declared.records.Node.TheVariants.{Constant, Variable, Minus, Not, Arithmetic, Comparison, And, Or, Choice, Assignment, Call, Argument as ArgumentNode, Release, Expression, Sequence, If, IfElse, While, DoWhile, Return, ReturnVoid, Break, Continue, Definition, Output}
use Rattle.program.specs.declared.records.Role.{Role}
use Rattle.program.specs.declared.records.Role.TheVariants.{Global, Input, Local, Parameter}
use Rattle.program.specs.declared.records.Variable.{Variable as VariableRecord}
use Rattle.program.specs.declared.records.Procedure.{Procedure}
use Rattle.program.specs.declared.refusal.Refusal.{Refusal}
use Rattle.program.specs.declared.refusal.Refusal.TheVariants.{Child as BadChild, Scope as BadScope, Call as BadCall, DataType as BadType, Level as BadLevel, Exits as BadExits}
use Rattle.typing.specs.Environment.{Environment, variable_at, procedure_at, node_at, type_of, level_of, exits_of, class_exits}
use Rattle.typing.specs.Classes.{class_of}
use Rattle.typing.specs.declared.classes.Exits.{Exits}
use Rattle.typing.specs.declared.classes.Class.{Class}
use Rattle.typing.specs.declared.classes.Class.TheVariants.{Value, Argument, Statement}
use Rattle.typing.specs.declared.classes.TypedNode.{TypedNode}

-- ---- row 11: each child is below 1024, below its parent, of the parent's procedure and of the class that the parent asks

abbrev pub class_within : ℕ → Option TypedNode → Option Class
class_within q None = None
class_within q (Some n) = cond (n.procedure == q) (Some n.class) None

-- the class of a child, where it is one that may be a child of node k of procedure q
abbrev pub child_class : Environment → ℕ → ℕ → ℕ → Option Class
child_class e k q c = cond (nat_lt c 1024) (cond (nat_lt c k) (class_within q (node_at e c)) None) None

abbrev pub is_value : Option Class → Bool
is_value None = false
is_value (Some (Value t l)) = true
is_value (Some Argument) = false
is_value (Some (Statement x)) = false

abbrev pub is_argument : Option Class → Bool
is_argument None = false
is_argument (Some (Value t l)) = false
is_argument (Some Argument) = true
is_argument (Some (Statement x)) = false

abbrev pub is_statement : Option Class → Bool
is_statement None = false
is_statement (Some (Value t l)) = false
is_statement (Some Argument) = false
is_statement (Some (Statement x)) = true

abbrev pub value_child : Environment → ℕ → ℕ → ℕ → Bool
value_child e k q c = is_value (child_class e k q c)

abbrev pub statement_child : Environment → ℕ → ℕ → ℕ → Bool
statement_child e k q c = is_statement (child_class e k q c)

-- an argument that may be absent
abbrev pub argument_child : Environment → ℕ → ℕ → Option ℕ → Bool
argument_child e k q None = true
argument_child e k q (Some c) = is_argument (child_class e k q c)

abbrev pub children_fit : Environment → ℕ → ℕ → Node → Bool
children_fit e k q (Constant t w) = true
children_fit e k q (Variable v) = true
children_fit e k q (Minus a) = value_child e k q a
children_fit e k q (Not a) = value_child e k q a
children_fit e k q (Arithmetic o a b) = value_child e k q a && value_child e k q b
children_fit e k q (Comparison o a b) = value_child e k q a && value_child e k q b
children_fit e k q (And a b) = value_child e k q a && value_child e k q b
children_fit e k q (Or a b) = value_child e k q a && value_child e k q b
children_fit e k q (Choice a b c) = value_child e k q a && value_child e k q b && value_child e k q c
children_fit e k q (Assignment v b) = value_child e k q b
children_fit e k q (Call g f) = argument_child e k q f
children_fit e k q (ArgumentNode a n) = value_child e k q a && argument_child e k q n
children_fit e k q (Release a) = value_child e k q a
children_fit e k q (Expression a) = value_child e k q a
children_fit e k q (Sequence a b) = statement_child e k q a && statement_child e k q b
children_fit e k q (If a b) = value_child e k q a && statement_child e k q b
children_fit e k q (IfElse a b c) = value_child e k q a && statement_child e k q b && statement_child e k q c
children_fit e k q (While a b) = value_child e k q a && statement_child e k q b
children_fit e k q (DoWhile a b) = value_child e k q a && statement_child e k q b
children_fit e k q (Return a) = value_child e k q a
children_fit e k q ReturnVoid = true
children_fit e k q Break = true
children_fit e k q Continue = true
children_fit e k q (Definition v) = true
children_fit e k q (Output a) = value_child e k q a

-- ---- row 12: a variable that is named is there, and of this procedure if it is a local or a parameter

-- in procedure q: which variables may be read, which assigned to, and which defined
abbrev pub readable_role : ℕ → Role → Bool
readable_role q Global = true
readable_role q Input = true
readable_role q (Local o) = o == q
readable_role q (Parameter o) = o == q

abbrev pub assignable_role : ℕ → Role → Bool
assignable_role q Global = true
assignable_role q Input = true
assignable_role q (Local o) = o == q
assignable_role q (Parameter o) = false

abbrev pub definable_role : ℕ → Role → Bool
definable_role q Global = false
definable_role q Input = false
definable_role q (Local o) = o == q
definable_role q (Parameter o) = false

abbrev pub readable : ℕ → Option VariableRecord → Bool
readable q None = false
readable q (Some v) = readable_role q v.role

abbrev pub assignable : ℕ → Option VariableRecord → Bool
assignable q None = false
assignable q (Some v) = assignable_role q v.role

abbrev pub definable : ℕ → Option VariableRecord → Bool
definable q None = false
definable q (Some v) = definable_role q v.role

abbrev pub scope_fits : Environment → ℕ → Node → Bool
scope_fits e q (Constant t w) = true
scope_fits e q (Variable v) = readable q (variable_at e v)
scope_fits e q (Minus a) = true
scope_fits e q (Not a) = true
scope_fits e q (Arithmetic o a b) = true
scope_fits e q (Comparison o a b) = true
scope_fits e q (And a b) = true
scope_fits e q (Or a b) = true
scope_fits e q (Choice a b c) = true
scope_fits e q (Assignment v b) = assignable q (variable_at e v)
scope_fits e q (Call g f) = true
scope_fits e q (ArgumentNode a n) = true
scope_fits e q (Release a) = true
scope_fits e q (Expression a) = true
scope_fits e q (Sequence a b) = true
scope_fits e q (If a b) = true
scope_fits e q (IfElse a b c) = true
scope_fits e q (While a b) = true
scope_fits e q (DoWhile a b) = true
scope_fits e q (Return a) = true
scope_fits e q ReturnVoid = true
scope_fits e q Break = true
scope_fits e q Continue = true
scope_fits e q (Definition v) = definable q (variable_at e v)
scope_fits e q (Output a) = true

-- ---- arguments: rows 13, 14 and 15 test them at their call

-- what is tested of the arguments of a call: their number, their data types or their levels
pub data ArgumentTest : Type 0 where
  Number : ArgumentTest
  Types : ArgumentTest
  Levels : ArgumentTest

-- two data types that are there and the same
abbrev pub agree : Option DataType → Option DataType → Bool
agree None t = false
agree (Some t) None = false
agree (Some t) (Some u) = type_number t == type_number u

abbrev pub variable_type : Option VariableRecord → Option DataType
variable_type None = None
variable_type (Some v) = Some v.data_type

abbrev pub variable_level : Option VariableRecord → ℕ
variable_level None = 0
variable_level (Some v) = v.level

-- the argument's expression a against the parameter of number v
abbrev pub argument_fits : Rules → Environment → ArgumentTest → ℕ → ℕ → Bool
argument_fits r e Number v a = true
argument_fits r e Types v a = agree (type_of e a) (variable_type (variable_at e v))
argument_fits r e Levels v a = r.flows (level_of e a) (variable_level (variable_at e v))

abbrev pub argument_node : Node → Option (ℕ × Option ℕ)
argument_node (Constant t w) = None
argument_node (Variable v) = None
argument_node (Minus a) = None
argument_node (Not a) = None
argument_node (Arithmetic o a b) = None
argument_node (Comparison o a b) = None
argument_node (And a b) = None
argument_node (Or a b) = None
argument_node (Choice a b c) = None
argument_node (Assignment v b) = None
argument_node (Call g f) = None
argument_node (ArgumentNode a n) = Some (a, n)
argument_node (Release a) = None
argument_node (Expression a) = None
argument_node (Sequence a b) = None
argument_node (If a b) = None
argument_node (IfElse a b c) = None
argument_node (While a b) = None
argument_node (DoWhile a b) = None
argument_node (Return a) = None
argument_node ReturnVoid = None
argument_node Break = None
argument_node Continue = None
argument_node (Definition v) = None
argument_node (Output a) = None

abbrev pub argument_in : Option TypedNode → Option (ℕ × Option ℕ)
argument_in None = None
argument_in (Some n) = argument_node n.node

-- the expression of an argument, and the argument after it
abbrev pub argument_at : Environment → Option ℕ → Option (ℕ × Option ℕ)
argument_at e None = None
argument_at e (Some k) = argument_in (node_at e k)

abbrev pub is_absent : {X : Type 0} → Option X → Bool
is_absent None = true
is_absent (Some x) = false

abbrev pub first_argument_fits : Rules → Environment → ArgumentTest → ℕ → Option (ℕ × Option ℕ) → Bool
first_argument_fits r e t v None = false
first_argument_fits r e t v (Some (a, next)) = argument_fits r e t v a

abbrev pub next_argument : Option (ℕ × Option ℕ) → Option ℕ
next_argument None = None
next_argument (Some (a, next)) = next

-- the arguments from k on are m, and each fits its parameter, from number v on
unfoldable pub arguments_fit : Rules → Environment → ArgumentTest → ℕ → ℕ → Option ℕ → Bool
arguments_fit r e t zero v k = is_absent k
arguments_fit r e t (suc m) v k =
    first_argument_fits r e t v (argument_at e k) && arguments_fit r e t m (suc v) (next_argument (argument_at e k))

abbrev pub call_fits : Rules → Environment → ArgumentTest → Option Procedure → Option ℕ → Bool
call_fits r e t None f = false
call_fits r e t (Some d) f = arguments_fit r e t d.parameters d.first_parameter f

-- row 13: the procedure that is called is smaller, and has as many parameters as there are arguments
abbrev pub calls_fit : Rules → Environment → ℕ → Node → Bool
calls_fit r e q (Constant t w) = true
calls_fit r e q (Variable v) = true
calls_fit r e q (Minus a) = true
calls_fit r e q (Not a) = true
calls_fit r e q (Arithmetic o a b) = true
calls_fit r e q (Comparison o a b) = true
calls_fit r e q (And a b) = true
calls_fit r e q (Or a b) = true
calls_fit r e q (Choice a b c) = true
calls_fit r e q (Assignment v b) = true
calls_fit r e q (Call g f) = nat_lt g q && call_fits r e Number (procedure_at e g) f
calls_fit r e q (ArgumentNode a n) = true
calls_fit r e q (Release a) = true
calls_fit r e q (Expression a) = true
calls_fit r e q (Sequence a b) = true
calls_fit r e q (If a b) = true
calls_fit r e q (IfElse a b c) = true
calls_fit r e q (While a b) = true
calls_fit r e q (DoWhile a b) = true
calls_fit r e q (Return a) = true
calls_fit r e q ReturnVoid = true
calls_fit r e q Break = true
calls_fit r e q Continue = true
calls_fit r e q (Definition v) = true
calls_fit r e q (Output a) = true

-- ---- row 14: data types

-- the operators on numbers, and those on all data types
abbrev pub numeric : DataType → Bool
numeric Boolean = false
numeric Int = true
numeric Unsigned = true

abbrev pub is_equality : Order → Bool
is_equality Equal = true
is_equality NotEqual = true
is_equality Less = false
is_equality LessOrEqual = false
is_equality Greater = false
is_equality GreaterOrEqual = false

-- + - * / % take numbers
abbrev pub arithmetic_takes : Option DataType → Bool
arithmetic_takes None = false
arithmetic_takes (Some t) = numeric t

-- == and != take all data types, < <= > >= numbers
abbrev pub comparison_takes : Order → Option DataType → Bool
comparison_takes o None = false
comparison_takes o (Some t) = is_equality o || numeric t

abbrev pub is_bool : Environment → ℕ → Bool
is_bool e a = agree (type_of e a) (Some Boolean)

abbrev pub result_of : Option Procedure → Option DataType
result_of None = None
result_of (Some d) = d.result

abbrev pub is_void : Option Procedure → Bool
is_void None = false
is_void (Some d) = is_absent d.result

abbrev pub types_fit : Rules → Environment → ℕ → Node → Bool
types_fit r e q (Constant t w) = true
types_fit r e q (Variable v) = true
types_fit r e q (Minus a) = agree (type_of e a) (Some Int)
types_fit r e q (Not a) = is_bool e a
types_fit r e q (Arithmetic o a b) = agree (type_of e a) (type_of e b) && arithmetic_takes (type_of e a)
types_fit r e q (Comparison o a b) = agree (type_of e a) (type_of e b) && comparison_takes o (type_of e a)
types_fit r e q (And a b) = is_bool e a && is_bool e b
types_fit r e q (Or a b) = is_bool e a && is_bool e b
types_fit r e q (Choice a b c) = is_bool e a && agree (type_of e b) (type_of e c)
types_fit r e q (Assignment v b) = agree (type_of e b) (variable_type (variable_at e v))
types_fit r e q (Call g f) = call_fits r e Types (procedure_at e g) f
types_fit r e q (ArgumentNode a n) = true
types_fit r e q (Release a) = not (is_absent (type_of e a))
types_fit r e q (Expression a) = true
types_fit r e q (Sequence a b) = true
types_fit r e q (If a b) = is_bool e a
types_fit r e q (IfElse a b c) = is_bool e a
types_fit r e q (While a b) = is_bool e a
types_fit r e q (DoWhile a b) = is_bool e a
types_fit r e q (Return a) = agree (type_of e a) (result_of (procedure_at e q))
types_fit r e q ReturnVoid = is_void (procedure_at e q)
types_fit r e q Break = true
types_fit r e q Continue = true
types_fit r e q (Definition v) = true
types_fit r e q (Output a) = not (is_absent (type_of e a))

-- ---- row 15: levels

abbrev pub is_public : Environment → ℕ → Bool
is_public e a = level_of e a == 0

abbrev pub result_level : Option Procedure → ℕ
result_level None = 0
result_level (Some d) = d.level

abbrev pub levels_fit : Rules → Environment → ℕ → Node → Bool
levels_fit r e q (Constant t w) = true
levels_fit r e q (Variable v) = true
levels_fit r e q (Minus a) = true
levels_fit r e q (Not a) = true
levels_fit r e q (Arithmetic o a b) = true
levels_fit r e q (Comparison o a b) = true
levels_fit r e q (And a b) = true
levels_fit r e q (Or a b) = true
levels_fit r e q (Choice a b c) = is_public e a
levels_fit r e q (Assignment v b) = r.flows (level_of e b) (variable_level (variable_at e v))
levels_fit r e q (Call g f) = call_fits r e Levels (procedure_at e g) f
levels_fit r e q (ArgumentNode a n) = true
levels_fit r e q (Release a) = true
levels_fit r e q (Expression a) = true
levels_fit r e q (Sequence a b) = true
levels_fit r e q (If a b) = is_public e a
levels_fit r e q (IfElse a b c) = is_public e a
levels_fit r e q (While a b) = is_public e a
levels_fit r e q (DoWhile a b) = is_public e a
levels_fit r e q (Return a) = r.flows (level_of e a) (result_level (procedure_at e q))
levels_fit r e q ReturnVoid = true
levels_fit r e q Break = true
levels_fit r e q Continue = true
levels_fit r e q (Definition v) = true
levels_fit r e q (Output a) = is_public e a

-- ---- row 16: exits

abbrev pub repeats : Exits → Bool
repeats x = x.falls || x.continues

-- a sequence goes on after its first part, and a loop after its body
abbrev pub parts_fit : Environment → Node → Bool
parts_fit e (Constant t w) = true
parts_fit e (Variable v) = true
parts_fit e (Minus a) = true
parts_fit e (Not a) = true
parts_fit e (Arithmetic o a b) = true
parts_fit e (Comparison o a b) = true
parts_fit e (And a b) = true
parts_fit e (Or a b) = true
parts_fit e (Choice a b c) = true
parts_fit e (Assignment v b) = true
parts_fit e (Call g f) = true
parts_fit e (ArgumentNode a n) = true
parts_fit e (Release a) = true
parts_fit e (Expression a) = true
parts_fit e (Sequence a b) = (exits_of e a).falls
parts_fit e (If a b) = true
parts_fit e (IfElse a b c) = true
parts_fit e (While a b) = repeats (exits_of e b)
parts_fit e (DoWhile a b) = repeats (exits_of e b)
parts_fit e (Return a) = true
parts_fit e ReturnVoid = true
parts_fit e Break = true
parts_fit e Continue = true
parts_fit e (Definition v) = true
parts_fit e (Output a) = true

-- the body of a void procedure falls or returns, and any other only returns
abbrev pub body_exits_fit : Option DataType → Exits → Bool
body_exits_fit None x = not x.breaks && not x.continues
body_exits_fit (Some t) x = x.returns && not x.falls && not x.breaks && not x.continues

-- the demand on a body, tested at the node that is one
abbrev pub body_fits : ℕ → Option Procedure → Class → Bool
body_fits k None c = true
body_fits k (Some d) c = cond (d.body == k) (body_exits_fit d.result (class_exits c)) true

abbrev pub exits_fit : Rules → Environment → ℕ → ℕ → Node → Bool
exits_fit r e k q n = parts_fit e n && body_fits k (procedure_at e q) (class_of r e n)

-- ---- all rows, in order

-- a row, by what it tests: children, variables, calls, data types, levels, exits
pub data NodeRow : Type 0 where
  Child : NodeRow
  Scope : NodeRow
  Called : NodeRow
  Typed : NodeRow
  Level : NodeRow
  Ended : NodeRow

abbrev pub node_rows : List NodeRow
node_rows = Child ∷ Scope ∷ Called ∷ Typed ∷ Level ∷ Ended ∷ []

abbrev pub passes : Rules → Environment → ℕ → ℕ → Node → NodeRow → Bool
passes r e k q n Child = children_fit e k q n
passes r e k q n Scope = scope_fits e q n
passes r e k q n Called = calls_fit r e q n
passes r e k q n Typed = types_fit r e q n
passes r e k q n Level = levels_fit r e q n
passes r e k q n Ended = exits_fit r e k q n

abbrev pub refusal_of : NodeRow → ℕ → Refusal
refusal_of Child k = BadChild k
refusal_of Scope k = BadScope k
refusal_of Called k = BadCall k
refusal_of Typed k = BadType k
refusal_of Level k = BadLevel k
refusal_of Ended k = BadExits k

-- the first row of a list that a node does not pass
abbrev pub first_broken : Rules → Environment → ℕ → ℕ → Node → List NodeRow → Option Refusal
first_broken r e k q n [] = None
first_broken r e k q n (row ∷ rows) = cond (passes r e k q n row) (first_broken r e k q n rows) (Some (refusal_of row k))
