-- What the tables of a file are that no row refuses. Assumes nothing.
use Rattle.std.specs.Prelude.{◌≡◌, ℕ, Bool, true, ◌&&◌, List, [], ◌∷◌, Some, None, Option, nat_lt}
use Rattle.levels.specs.Rules.{Rules}
use Rattle.program.specs.Encode.{encoded}
use Rattle.program.specs.Program.{Program, children}
use Rattle.program.specs.declared.records.Node.{Node}
use Rattle.program.specs.declared.records.Node.TheVariants.{Constant, Variable, Minus, Not, Arithmetic, Comparison, And, Or, Choice, Assignment, Call, Argument, Release, Expression, Sequence, If, IfElse, While, DoWhile, Return, ReturnVoid, Break, Continue, Definition, Output}
use Rattle.typing.specs.Acceptance.{Bytes}
use Rattle.typing.specs.Environment.{Environment}
use Rattle.typing.specs.Formed.{WellFormed}
use Rattle.typing.specs.Typing.{WellTyped}
use Rattle.semantics.specs.Fitting.{environment_of}
use Rattle.semantics.specs.State.{node_of, procedure}

-- they are those of a well-formed and well-typed program, which the file encodes
pub record Checked (r : Rules) (bs : List ℕ) (e : Environment) : Type 0 where
  pub program : Program
  pub encodes : Bytes bs → bs ≡ encoded program
  pub formed : WellFormed r program
  pub typed : WellTyped r program
  pub is : e ≡ environment_of r program

abbrev pub all_below : ℕ → List ℕ → Bool
all_below n [] = true
all_below n (m ∷ ms) = nat_lt m n && all_below n ms

-- the procedure that a node calls
abbrev pub callee : Node → Option ℕ
callee (Constant t w) = None
callee (Variable v) = None
callee (Minus a) = None
callee (Not a) = None
callee (Arithmetic o a b) = None
callee (Comparison o a b) = None
callee (And a b) = None
callee (Or a b) = None
callee (Choice a b c) = None
callee (Assignment v b) = None
callee (Call g f) = Some g
callee (Argument a n) = None
callee (Release a) = None
callee (Expression a) = None
callee (Sequence a b) = None
callee (If a b) = None
callee (IfElse a b c) = None
callee (While a b) = None
callee (DoWhile a b) = None
callee (Return a) = None
callee ReturnVoid = None
callee Break = None
callee Continue = None
callee (Definition v) = None
callee (Output a) = None

abbrev pub body_below : Environment → ℕ → Option ℕ → Bool
body_below e n None = true
body_below e n (Some g) = nat_lt (procedure e g).body n

-- what node n may begin lies below it: its children, and the body of the procedure that it calls
abbrev pub descends : Environment → ℕ → Node → Bool
descends e n x = all_below n (children x) && body_below e n (callee x)

abbrev pub Descends : Environment → Type 0
Descends e = (n : ℕ) → descends e n (node_of e n) ≡ true
