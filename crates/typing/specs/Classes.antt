-- The class of each node, from the classes of its children. Assumes nothing.
use Rattle.std.specs.Prelude.{ℕ, Some, None, Option}
use Rattle.words.specs.declared.types.DataType.TheVariants.{Bool, Int}
use Rattle.levels.specs.Rules.{Rules}
use Rattle.program.specs.declared.records.Node.{Node}
use Rattle.program.specs.declared.records.Node.TheVariants.{Constant, Variable, Minus, Not, Arithmetic, Comparison, And, Or, Choice, Assignment, Call, Argument as ArgumentNode, Release, Expression, Sequence, If, IfElse, While, DoWhile, Return, ReturnVoid, Break, Continue, Definition, Output}
use Rattle.program.specs.declared.records.Variable.{Variable as VariableRecord}
use Rattle.program.specs.declared.records.Procedure.{Procedure}
use Rattle.typing.specs.Exits.{falling, returning, breaking, continuing, union, sequence_exits, loop_exits}
use Rattle.typing.specs.Environment.{Environment, variable_at, procedure_at, type_of, level_of, exits_of}
use Rattle.typing.specs.declared.classes.Class.{Class}
use Rattle.typing.specs.declared.classes.Class.TheVariants.{Value, Argument, Statement}

-- a variable's value, and that of an assignment to it
abbrev pub class_of_variable : Option VariableRecord → Class
class_of_variable None = Value None 0
class_of_variable (Some v) = Value (Some v.data_type) v.level

abbrev pub class_of_call : Option Procedure → Class
class_of_call None = Value None 0
class_of_call (Some d) = Value d.result d.level

abbrev pub joint_of : Rules → Environment → ℕ → ℕ → ℕ
joint_of r e a b = r.joint (level_of e a) (level_of e b)

abbrev pub class_of : Rules → Environment → Node → Class
class_of r e (Constant t w) = Value (Some t) 0
class_of r e (Variable v) = class_of_variable (variable_at e v)
class_of r e (Minus a) = Value (Some Int) (level_of e a)
class_of r e (Not a) = Value (Some Bool) (level_of e a)
class_of r e (Arithmetic o a b) = Value (type_of e a) (joint_of r e a b)
class_of r e (Comparison o a b) = Value (Some Bool) (joint_of r e a b)
class_of r e (And a b) = Value (Some Bool) (joint_of r e a b)
class_of r e (Or a b) = Value (Some Bool) (joint_of r e a b)
class_of r e (Choice a b c) = Value (type_of e b) (joint_of r e b c)
class_of r e (Assignment v b) = class_of_variable (variable_at e v)
class_of r e (Call g f) = class_of_call (procedure_at e g)
class_of r e (ArgumentNode a n) = Argument
class_of r e (Release a) = Value (type_of e a) 0
class_of r e (Expression a) = Statement falling
class_of r e (Sequence a b) = Statement (sequence_exits (exits_of e a) (exits_of e b))
class_of r e (If a b) = Statement (union (exits_of e b) falling)
class_of r e (IfElse a b c) = Statement (union (exits_of e b) (exits_of e c))
class_of r e (While a b) = Statement (loop_exits (exits_of e b))
class_of r e (DoWhile a b) = Statement (loop_exits (exits_of e b))
class_of r e (Return a) = Statement returning
class_of r e ReturnVoid = Statement returning
class_of r e Break = Statement breaking
class_of r e Continue = Statement continuing
class_of r e (Definition v) = Statement falling
class_of r e (Output a) = Statement falling
