-- What the fields of a record stand for. Assumes nothing.
use Rattle.std.specs.Prelude.{ℕ, Bool, true, false, cond, not, ◌&&◌, Some, None, Option, ◌==◌, nat_le, nat_lt}
use Rattle.words.specs.Numbers.{type_numbered, arithmetic_numbered, comparison_numbered}
use Rattle.words.specs.declared.types.DataType.{DataType}
use Rattle.words.specs.declared.types.DataType.TheVariants.{Bool as Boolean, Int, Unsigned}
use Rattle.words.specs.declared.types.Arithmetic.{Arithmetic as Operator}
use Rattle.words.specs.declared.types.Comparison.{Comparison as Order}
use Rattle.program.specs.declared.fields.NodeFields.{NodeFields}
use Rattle.program.specs.declared.fields.VariableFields.{VariableFields}
use Rattle.program.specs.declared.fields.ProcedureFields.{ProcedureFields}
use Rattle.program.specs.declared.records.Node.{Node}
use Rattle.program.specs.declared.records.Node.TheVariants.{Constant, Variable, Minus, Not, Arithmetic, Comparison, And, Or, Choice, Assignment, Call, Argument, Release, Expression, Sequence, If, IfElse, While, DoWhile, Return, ReturnVoid, Break, Continue, Definition, Output}
use Rattle.program.specs.declared.records.Role.{Role}
use Rattle.program.specs.declared.records.Role.TheVariants.{Global, Input, Local, Parameter}
use Rattle.program.specs.declared.records.Variable.{Variable as VariableRecord}
use Rattle.program.specs.declared.records.Procedure.{Procedure}

abbrev pub only_if : {X : Type 0} → Bool → Option X → Option X
only_if true x = x
only_if false x = None

-- a field that may be absent is so as 65535
abbrev pub absent_or : ℕ → Option ℕ
absent_or n = cond (n == 65535) None (Some n)

-- the fields that a kind does not use are 0: all but a, all but a and b, all but a, b and c, and all
abbrev pub lone : NodeFields → Bool
lone f = f.sort == 0 && f.b == 0 && f.c == 0 && f.word == 0

abbrev pub pair : NodeFields → Bool
pair f = f.sort == 0 && f.c == 0 && f.word == 0

abbrev pub triple : NodeFields → Bool
triple f = f.sort == 0 && f.word == 0

abbrev pub bare : NodeFields → Bool
bare f = f.sort == 0 && f.a == 0 && f.b == 0 && f.c == 0 && f.word == 0

-- a bool is 0 or 1
abbrev pub word_fits : DataType → ℕ → Bool
word_fits Boolean w = nat_lt w 2
word_fits Int w = true
word_fits Unsigned w = true

abbrev pub constant_of : NodeFields → Option DataType → Option Node
constant_of f None = None
constant_of f (Some t) = only_if (word_fits t f.word && f.a == 0 && f.b == 0 && f.c == 0) (Some (Constant t f.word))

abbrev pub constant_decoded : NodeFields → Option Node
constant_decoded f = constant_of f (type_numbered f.sort)

abbrev pub arithmetic_of : NodeFields → Option Operator → Option Node
arithmetic_of f None = None
arithmetic_of f (Some o) = only_if (f.c == 0 && f.word == 0) (Some (Arithmetic o f.a f.b))

abbrev pub arithmetic_decoded : NodeFields → Option Node
arithmetic_decoded f = arithmetic_of f (arithmetic_numbered f.sort)

abbrev pub comparison_of : NodeFields → Option Order → Option Node
comparison_of f None = None
comparison_of f (Some o) = only_if (f.c == 0 && f.word == 0) (Some (Comparison o f.a f.b))

abbrev pub comparison_decoded : NodeFields → Option Node
comparison_decoded f = comparison_of f (comparison_numbered f.sort)

-- the node of a record, by its kind
abbrev pub node_decoded : NodeFields → Option Node
node_decoded f =
    cond (f.kind == 1) (constant_decoded f)
    (cond (f.kind == 2) (only_if (lone f) (Some (Variable f.a)))
    (cond (f.kind == 3) (only_if (lone f) (Some (Minus f.a)))
    (cond (f.kind == 4) (only_if (lone f) (Some (Not f.a)))
    (cond (f.kind == 5) (arithmetic_decoded f)
    (cond (f.kind == 6) (comparison_decoded f)
    (cond (f.kind == 7) (only_if (pair f) (Some (And f.a f.b)))
    (cond (f.kind == 8) (only_if (pair f) (Some (Or f.a f.b)))
    (cond (f.kind == 9) (only_if (triple f) (Some (Choice f.a f.b f.c)))
    (cond (f.kind == 10) (only_if (pair f) (Some (Assignment f.a f.b)))
    (cond (f.kind == 11) (only_if (pair f) (Some (Call f.a (absent_or f.b))))
    (cond (f.kind == 12) (only_if (pair f) (Some (Argument f.a (absent_or f.b))))
    (cond (f.kind == 13) (only_if (lone f) (Some (Release f.a)))
    (cond (f.kind == 20) (only_if (lone f) (Some (Expression f.a)))
    (cond (f.kind == 21) (only_if (pair f) (Some (Sequence f.a f.b)))
    (cond (f.kind == 22) (only_if (pair f) (Some (If f.a f.b)))
    (cond (f.kind == 23) (only_if (triple f) (Some (IfElse f.a f.b f.c)))
    (cond (f.kind == 24) (only_if (pair f) (Some (While f.a f.b)))
    (cond (f.kind == 25) (only_if (pair f) (Some (DoWhile f.a f.b)))
    (cond (f.kind == 27) (only_if (lone f) (Some (Return f.a)))
    (cond (f.kind == 28) (only_if (bare f) (Some ReturnVoid))
    (cond (f.kind == 29) (only_if (bare f) (Some Break))
    (cond (f.kind == 30) (only_if (bare f) (Some Continue))
    (cond (f.kind == 31) (only_if (lone f) (Some (Definition f.a)))
    (cond (f.kind == 32) (only_if (lone f) (Some (Output f.a)))
    None))))))))))))))))))))))))

-- the kinds of statements
abbrev pub is_statement_kind : ℕ → Bool
is_statement_kind k = nat_le 20 k && nat_le k 32 && not (k == 26)

abbrev pub role_decoded : ℕ → ℕ → Option Role
role_decoded u o =
    cond (u == 0) (only_if (o == 65535) (Some Global))
    (cond (u == 1) (only_if (o == 65535) (Some Input))
    (cond (u == 2) (Some (Local o))
    (cond (u == 3) (Some (Parameter o))
    None)))

abbrev pub variable_of : VariableFields → Option Role → Option DataType → Option VariableRecord
variable_of f None t = None
variable_of f (Some u) None = None
variable_of f (Some u) (Some t) = Some (record { role = u; data_type = t; level = f.level })

abbrev pub variable_decoded : VariableFields → Option VariableRecord
variable_decoded f = variable_of f (role_decoded f.role f.owner) (type_numbered f.data_type)

-- void is 255
abbrev pub typed_result : Option DataType → Option (Option DataType)
typed_result None = None
typed_result (Some t) = Some (Some t)

abbrev pub result_decoded : ℕ → Option (Option DataType)
result_decoded n = cond (n == 255) (Some None) (typed_result (type_numbered n))

abbrev pub procedure_of : ProcedureFields → Option (Option DataType) → Option Procedure
procedure_of f None = None
procedure_of f (Some t) =
    only_if (f.spare == 0) (Some (record { result = t; parameters = f.parameters; first_parameter = f.first_parameter; body = f.body; level = f.level }))

abbrev pub procedure_decoded : ProcedureFields → Option Procedure
procedure_decoded f = procedure_of f (result_decoded f.result)
