-- A program as its lists of records. Assumes nothing.
use Rattle.std.specs.Prelude.{ℕ, ◌+◌, cond, List, [], ◌∷◌, ◌++◌, length, Some, None, Option, ◌==◌, nat_lt, slice_index_or}
use Rattle.words.specs.declared.types.DataType.TheVariants.{Bool as Boolean}
use Rattle.program.specs.declared.records.Node.{Node}
use Rattle.program.specs.declared.records.Node.TheVariants.{Constant, Variable, Minus, Not, Arithmetic, Comparison, And, Or, Choice, Assignment, Call, Argument, Release, Expression, Sequence, If, IfElse, While, DoWhile, Return, ReturnVoid, Break, Continue, Definition, Output}
use Rattle.program.specs.declared.records.Role.TheVariants.{Global}
use Rattle.program.specs.declared.records.Variable.{Variable as VariableRecord}
use Rattle.program.specs.declared.records.Procedure.{Procedure}

pub record Program : Type 0 where
  pub nodes : List Node
  pub variables : List VariableRecord
  pub procedures : List Procedure

-- what stands at place k, if anything; d is never met
abbrev pub at : {X : Type 0} → X → List X → ℕ → Option X
at d xs k = cond (nat_lt k (length xs)) (Some (slice_index_or xs k d)) None

abbrev pub no_node : Node
no_node = Break

abbrev pub no_variable : VariableRecord
no_variable = record { role = Global; data_type = Boolean; level = 0 }

abbrev pub no_procedure : Procedure
no_procedure = record { result = None; parameters = 0; first_parameter = 0; body = 0; level = 0 }

abbrev pub optional : Option ℕ → List ℕ
optional None = []
optional (Some k) = k ∷ []

-- the numbers that are there, in order
abbrev pub present : List (Option ℕ) → List ℕ
present [] = []
present (x ∷ xs) = optional x ++ present xs

-- the nodes that a node names as its children, in order
abbrev pub children : Node → List ℕ
children (Constant t w) = []
children (Variable v) = []
children (Minus a) = a ∷ []
children (Not a) = a ∷ []
children (Arithmetic o a b) = a ∷ b ∷ []
children (Comparison o a b) = a ∷ b ∷ []
children (And a b) = a ∷ b ∷ []
children (Or a b) = a ∷ b ∷ []
children (Choice a b c) = a ∷ b ∷ c ∷ []
children (Assignment v b) = b ∷ []
children (Call g f) = optional f
children (Argument a n) = a ∷ optional n
children (Release a) = a ∷ []
children (Expression a) = a ∷ []
children (Sequence a b) = a ∷ b ∷ []
children (If a b) = a ∷ b ∷ []
children (IfElse a b c) = a ∷ b ∷ c ∷ []
children (While a b) = a ∷ b ∷ []
children (DoWhile a b) = a ∷ b ∷ []
children (Return a) = a ∷ []
children ReturnVoid = []
children Break = []
children Continue = []
children (Definition v) = []
children (Output a) = a ∷ []

-- how often a number stands in a list
abbrev pub times_in : ℕ → List ℕ → ℕ
times_in k [] = 0
times_in k (x ∷ xs) = cond (x == k) 1 0 + times_in k xs
