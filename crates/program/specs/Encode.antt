-- The file of a program: the bytes of its records and the trailer. Assumes nothing.
use Rattle.std.specs.Prelude.{ℕ, ◌+◌, ◌*◌, ◌/◌, ◌%◌, List, [], ◌∷◌, ◌++◌, length, Some, None, Option}
use Rattle.words.specs.Numbers.{type_number, arithmetic_number, comparison_number}
use Rattle.words.specs.declared.types.DataType.{DataType}
use Rattle.program.specs.Program.{Program}
use Rattle.program.specs.declared.fields.NodeFields.{NodeFields}
use Rattle.program.specs.declared.fields.VariableFields.{VariableFields}
use Rattle.program.specs.declared.fields.ProcedureFields.{ProcedureFields}
use Rattle.program.specs.declared.records.Node.{Node}
use Rattle.program.specs.declared.records.Node.TheVariants.{Constant, Variable, Minus, Not, Arithmetic, Comparison, And, Or, Choice, Assignment, Call, Argument, Release, Expression, Sequence, If, IfElse, While, DoWhile, Return, ReturnVoid, Break, Continue, Definition, Output}
use Rattle.program.specs.declared.records.Role.{Role}
use Rattle.program.specs.declared.records.Role.TheVariants.{Global, Input, Local, Parameter}
use Rattle.program.specs.declared.records.Variable.{Variable as VariableRecord}
use Rattle.program.specs.declared.records.Procedure.{Procedure}

-- a field that may be absent is so as 65535
abbrev pub field_of : Option ℕ → ℕ
field_of None = 65535
field_of (Some k) = k

abbrev pub fields : ℕ → ℕ → ℕ → ℕ → ℕ → ℕ → NodeFields
fields kind sort a b c word = record { kind = kind; sort = sort; a = a; b = b; c = c; word = word }

abbrev pub node_encoded : Node → NodeFields
node_encoded (Constant t w) = fields 1 (type_number t) 0 0 0 w
node_encoded (Variable v) = fields 2 0 v 0 0 0
node_encoded (Minus a) = fields 3 0 a 0 0 0
node_encoded (Not a) = fields 4 0 a 0 0 0
node_encoded (Arithmetic o a b) = fields 5 (arithmetic_number o) a b 0 0
node_encoded (Comparison o a b) = fields 6 (comparison_number o) a b 0 0
node_encoded (And a b) = fields 7 0 a b 0 0
node_encoded (Or a b) = fields 8 0 a b 0 0
node_encoded (Choice a b c) = fields 9 0 a b c 0
node_encoded (Assignment v b) = fields 10 0 v b 0 0
node_encoded (Call g f) = fields 11 0 g (field_of f) 0 0
node_encoded (Argument a n) = fields 12 0 a (field_of n) 0 0
node_encoded (Release a) = fields 13 0 a 0 0 0
node_encoded (Expression a) = fields 20 0 a 0 0 0
node_encoded (Sequence a b) = fields 21 0 a b 0 0
node_encoded (If a b) = fields 22 0 a b 0 0
node_encoded (IfElse a b c) = fields 23 0 a b c 0
node_encoded (While a b) = fields 24 0 a b 0 0
node_encoded (DoWhile a b) = fields 25 0 a b 0 0
node_encoded (Return a) = fields 27 0 a 0 0 0
node_encoded ReturnVoid = fields 28 0 0 0 0 0
node_encoded Break = fields 29 0 0 0 0 0
node_encoded Continue = fields 30 0 0 0 0 0
node_encoded (Definition v) = fields 31 0 v 0 0 0
node_encoded (Output a) = fields 32 0 a 0 0 0

abbrev pub role_number : Role → ℕ
role_number Global = 0
role_number Input = 1
role_number (Local q) = 2
role_number (Parameter q) = 3

abbrev pub owner_number : Role → ℕ
owner_number Global = 65535
owner_number Input = 65535
owner_number (Local q) = q
owner_number (Parameter q) = q

abbrev pub variable_encoded : VariableRecord → VariableFields
variable_encoded v =
    record { role = role_number v.role; data_type = type_number v.data_type; owner = owner_number v.role; level = v.level }

-- void is 255
abbrev pub result_number : Option DataType → ℕ
result_number None = 255
result_number (Some t) = type_number t

abbrev pub procedure_encoded : Procedure → ProcedureFields
procedure_encoded d =
    record { result = result_number d.result; parameters = d.parameters; first_parameter = d.first_parameter; body = d.body; spare = 0; level = d.level }

-- a number as two bytes and as four, the highest first
abbrev pub half_bytes : ℕ → List ℕ
half_bytes n = n / 256 ∷ n % 256 ∷ []

abbrev pub word_bytes : ℕ → List ℕ
word_bytes n = n / 16777216 ∷ n / 65536 % 256 ∷ n / 256 % 256 ∷ n % 256 ∷ []

abbrev pub node_bytes : Node → List ℕ
node_bytes n =
    let f = node_encoded n in
    f.kind ∷ f.sort ∷ half_bytes f.a ++ half_bytes f.b ++ half_bytes f.c ++ word_bytes f.word

abbrev pub variable_bytes : VariableRecord → List ℕ
variable_bytes v =
    let f = variable_encoded v in
    f.role ∷ f.data_type ∷ half_bytes f.owner ++ word_bytes f.level

abbrev pub procedure_bytes : Procedure → List ℕ
procedure_bytes d =
    let f = procedure_encoded d in
    f.result ∷ f.parameters ∷ half_bytes f.first_parameter ++ half_bytes f.body ++ half_bytes f.spare ++ word_bytes f.level

-- the bytes of all records of a list, in order
abbrev pub each : {X : Type 0} → (X → List ℕ) → List X → List ℕ
each bytes [] = []
each bytes (x ∷ xs) = bytes x ++ each bytes xs

-- the places of the variables and of the procedures, and the closing bytes
abbrev pub trailer_bytes : Program → List ℕ
trailer_bytes p =
    let place = 12 * length p.nodes in
    word_bytes place ++ word_bytes (place + 8 * length p.variables) ++ 0x53 ∷ 0x43 ∷ 0x50 ∷ 0x54 ∷ []

abbrev pub encoded : Program → List ℕ
encoded p =
    each node_bytes p.nodes ++ each variable_bytes p.variables ++ each procedure_bytes p.procedures ++ trailer_bytes p
