-- The typing rules of the language, as derivations over the nodes of a program. Assumes nothing.
-- In procedure q, node n is an expression of a data type and a level, the arguments of a call fit its parameters, and a statement has its exits.
use Rattle.std.specs.Prelude.{◌≡◌, ℕ, ◌<◌, true, false, ◌||◌, List, [], ◌∷◌, take, drop, Some, None, Option}
use Rattle.words.specs.declared.types.DataType.{DataType}
use Rattle.words.specs.declared.types.DataType.TheVariants.{Bool, Int, Unsigned}
use Rattle.words.specs.declared.types.Arithmetic.{Arithmetic as Operator}
use Rattle.words.specs.declared.types.Comparison.{Comparison as Order}
use Rattle.words.specs.declared.types.Comparison.TheVariants.{Equal, NotEqual, Less, LessOrEqual, Greater, GreaterOrEqual}
use Rattle.levels.specs.Rules.{Rules}
use Rattle.program.specs.Program.{Program, at, no_node, no_variable, no_procedure}
use Rattle.program.specs.declared.records.Node.{Node}
use Rattle.program.specs.declared.records.Node.TheVariants.{Constant, Variable, Minus, Not, Arithmetic, Comparison, And, Or, Choice, Assignment, Call, Argument, Release, Expression as ExpressionNode, Sequence, If, IfElse, While, DoWhile, Return, ReturnVoid, Break, Continue, Definition, Output}
use Rattle.program.specs.declared.records.Role.{Role}
use Rattle.program.specs.declared.records.Role.TheVariants.{Global, Input, Local, Parameter}
use Rattle.program.specs.declared.records.Variable.{Variable as VariableRecord}
use Rattle.program.specs.declared.records.Procedure.{Procedure}
use Rattle.typing.specs.Exits.{falling, returning, breaking, continuing, union, sequence_exits, loop_exits}
use Rattle.typing.specs.declared.classes.Exits.{Exits}

-- what node n, variable v and procedure q of a program are
abbrev pub NodeIs : Program → ℕ → Node → Type 0
NodeIs p n x = at no_node p.nodes n ≡ Some x

abbrev pub VariableIs : Program → ℕ → VariableRecord → Type 0
VariableIs p v x = at no_variable p.variables v ≡ Some x

abbrev pub ProcedureIs : Program → ℕ → Procedure → Type 0
ProcedureIs p q d = at no_procedure p.procedures q ≡ Some d

-- procedure q may read globals, inputs and what it owns; assign to all of these but its parameters; and define its locals
abbrev pub Readable : ℕ → Role → Type 0
Readable q Global = Unit {0}
Readable q Input = Unit {0}
Readable q (Local o) = o ≡ q
Readable q (Parameter o) = o ≡ q

abbrev pub Assignable : ℕ → Role → Type 0
Assignable q Global = Unit {0}
Assignable q Input = Unit {0}
Assignable q (Local o) = o ≡ q
Assignable q (Parameter o) = ⊥

abbrev pub Definable : ℕ → Role → Type 0
Definable q Global = ⊥
Definable q Input = ⊥
Definable q (Local o) = o ≡ q
Definable q (Parameter o) = ⊥

-- the data types that an operator takes
abbrev pub Numeric : DataType → Type 0
Numeric Bool = ⊥
Numeric Int = Unit {0}
Numeric Unsigned = Unit {0}

abbrev pub Comparable : Order → DataType → Type 0
Comparable Equal t = Unit {0}
Comparable NotEqual t = Unit {0}
Comparable Less t = Numeric t
Comparable LessOrEqual t = Numeric t
Comparable Greater t = Numeric t
Comparable GreaterOrEqual t = Numeric t

-- the parameters of a procedure are consecutive variables
abbrev pub parameters_of : Program → Procedure → List VariableRecord
parameters_of p d = take d.parameters (drop d.first_parameter p.variables)

-- a loop's body comes to its end, or goes on with the next round
abbrev pub Repeats : Exits → Type 0
Repeats x = (x.falls || x.continues) ≡ true

-- the body of a void procedure falls through or returns, and any other only returns
abbrev pub Ends : Option DataType → Exits → Type 0
Ends None x = (x.breaks ≡ false) × (x.continues ≡ false)
Ends (Some t) x = x ≡ returning

module _ (r : Rules) (p : Program) (q : ℕ) where
  mutual
    -- node n is an expression of data type t and level l
    pub data Expression : ℕ → DataType → ℕ → Type 0 where
      constant : {n w : ℕ} {t : DataType} → NodeIs p n (Constant t w) → Expression n t 0
      variable : {n v : ℕ} {x : VariableRecord} → NodeIs p n (Variable v) → VariableIs p v x → Readable q x.role → Expression n x.data_type x.level
      minus : {n a l : ℕ} → NodeIs p n (Minus a) → Expression a Int l → Expression n Int l
      not : {n a l : ℕ} → NodeIs p n (Not a) → Expression a Bool l → Expression n Bool l
      arithmetic : {n a b l m : ℕ} {o : Operator} {t : DataType} → NodeIs p n (Arithmetic o a b) → Numeric t → Expression a t l → Expression b t m → Expression n t (r.joint l m)
      comparison : {n a b l m : ℕ} {o : Order} {t : DataType} → NodeIs p n (Comparison o a b) → Comparable o t → Expression a t l → Expression b t m → Expression n Bool (r.joint l m)
      and : {n a b l m : ℕ} → NodeIs p n (And a b) → Expression a Bool l → Expression b Bool m → Expression n Bool (r.joint l m)
      or : {n a b l m : ℕ} → NodeIs p n (Or a b) → Expression a Bool l → Expression b Bool m → Expression n Bool (r.joint l m)
      choice : {n a b c l m : ℕ} {t : DataType} → NodeIs p n (Choice a b c) → Expression a Bool 0 → Expression b t l → Expression c t m → Expression n t (r.joint l m)
      assignment : {n v b l : ℕ} {x : VariableRecord} → NodeIs p n (Assignment v b) → VariableIs p v x → Assignable q x.role → Expression b x.data_type l → r.flows l x.level ≡ true → Expression n x.data_type x.level
      call : {n g : ℕ} {f : Option ℕ} {d : Procedure} {t : DataType} → NodeIs p n (Call g f) → g < q → ProcedureIs p g d → d.result ≡ Some t → Arguments f (parameters_of p d) → Expression n t d.level
      release : {n a l : ℕ} {t : DataType} → NodeIs p n (Release a) → Expression a t l → Expression n t 0

    -- the arguments from the first on fit the parameters, one for one
    pub data Arguments : Option ℕ → List VariableRecord → Type 0 where
      none : Arguments None []
      argument : {n a l : ℕ} {next : Option ℕ} {x : VariableRecord} {xs : List VariableRecord} → NodeIs p n (Argument a next) → Expression a x.data_type l → r.flows l x.level ≡ true → Arguments next xs → Arguments (Some n) (x ∷ xs)

  -- node n calls a void procedure
  pub data VoidCall : ℕ → Type 0 where
    void_call : {n g : ℕ} {f : Option ℕ} {d : Procedure} → NodeIs p n (Call g f) → g < q → ProcedureIs p g d → d.result ≡ None → Arguments f (parameters_of p d) → VoidCall n

  -- node n is a statement that ends in one of these ways
  pub data Statement : ℕ → Exits → Type 0 where
    expression : {n a l : ℕ} {t : DataType} → NodeIs p n (ExpressionNode a) → Expression a t l → Statement n falling
    procedure_call : {n a : ℕ} → NodeIs p n (ExpressionNode a) → VoidCall a → Statement n falling
    sequence : {n a b : ℕ} {x y : Exits} → NodeIs p n (Sequence a b) → Statement a x → x.falls ≡ true → Statement b y → Statement n (sequence_exits x y)
    if : {n a b : ℕ} {x : Exits} → NodeIs p n (If a b) → Expression a Bool 0 → Statement b x → Statement n (union x falling)
    if_else : {n a b c : ℕ} {x y : Exits} → NodeIs p n (IfElse a b c) → Expression a Bool 0 → Statement b x → Statement c y → Statement n (union x y)
    while : {n a b : ℕ} {x : Exits} → NodeIs p n (While a b) → Expression a Bool 0 → Statement b x → Repeats x → Statement n (loop_exits x)
    do_while : {n a b : ℕ} {x : Exits} → NodeIs p n (DoWhile a b) → Expression a Bool 0 → Statement b x → Repeats x → Statement n (loop_exits x)
    return : {n a l : ℕ} {t : DataType} {d : Procedure} → NodeIs p n (Return a) → ProcedureIs p q d → d.result ≡ Some t → Expression a t l → r.flows l d.level ≡ true → Statement n returning
    return_void : {n : ℕ} {d : Procedure} → NodeIs p n ReturnVoid → ProcedureIs p q d → d.result ≡ None → Statement n returning
    break : {n : ℕ} → NodeIs p n Break → Statement n breaking
    continue : {n : ℕ} → NodeIs p n Continue → Statement n continuing
    definition : {n v : ℕ} {x : VariableRecord} → NodeIs p n (Definition v) → VariableIs p v x → Definable q x.role → Statement n falling
    output : {n a : ℕ} {t : DataType} → NodeIs p n (Output a) → Expression a t 0 → Statement n falling

-- the body of procedure q is a statement that ends as it may
pub record Body (r : Rules) (p : Program) (q : ℕ) (d : Procedure) : Type 0 where
  pub exits : Exits
  pub statement : Statement r p q d.body exits
  pub ends : Ends d.result exits

-- every procedure of the program has a derivation for its body
abbrev pub WellTyped : Rules → Program → Type 0
WellTyped r p = (q : ℕ) (d : Procedure) → ProcedureIs p q d → Body r p q d
