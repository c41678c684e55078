-- What it is for a program to be well formed, and for a file to be a well-formed and well-typed program's. Assumes nothing.
use Rattle.std.specs.Prelude.{◌≡◌, ℕ, suc, ◌+◌, ◌<◌, ◌≤◌, true, ◌⊎◌, List, [], ◌∷◌, length, None}
use Rattle.words.specs.declared.types.DataType.TheVariants.{Bool as Boolean}
use Rattle.levels.specs.Rules.{Rules}
use Rattle.program.specs.Encode.{encoded}
use Rattle.program.specs.Program.{Program, children, times_in}
use Rattle.program.specs.declared.records.Node.{Node}
use Rattle.program.specs.declared.records.Node.TheVariants.{Constant}
use Rattle.program.specs.declared.records.Role.{Role}
use Rattle.program.specs.declared.records.Role.TheVariants.{Global, Input, Local, Parameter}
use Rattle.program.specs.declared.records.Variable.{Variable}
use Rattle.program.specs.declared.records.Procedure.{Procedure}
use Rattle.typing.specs.Typing.{NodeIs, VariableIs, ProcedureIs, WellTyped}

-- the owner of a local or a parameter is a procedure
abbrev pub Owned : Program → Role → Type 0
Owned p Global = Unit {0}
Owned p Input = Unit {0}
Owned p (Local q) = q < length p.procedures
Owned p (Parameter q) = q < length p.procedures

pub record VariableFormed (r : Rules) (p : Program) (v : Variable) : Type 0 where
  pub owned : Owned p v.role
  pub level : r.is_level v.level ≡ true

-- number i is among the c numbers from f on
abbrev pub Within : ℕ → ℕ → ℕ → Type 0
Within f c i = (f ≤ i) × (i < f + c)

-- procedure q: its parameters are just the variables that are so by their role, its body stands above those of the procedures before it,
-- and the last procedure, main, is void, takes nothing and has the last node as its body
pub record ProcedureFormed (r : Rules) (p : Program) (q : ℕ) (d : Procedure) : Type 0 where
  pub level : r.is_level d.level ≡ true
  pub void_public : d.result ≡ None → d.level ≡ 0
  pub few : d.parameters ≤ 8
  pub none : d.parameters ≡ 0 → d.first_parameter ≡ 0
  pub there : d.first_parameter + d.parameters ≤ length p.variables
  pub owned : (i : ℕ) (v : Variable) → VariableIs p i v → Within d.first_parameter d.parameters i → v.role ≡ Parameter q
  pub all_owned : (i : ℕ) (v : Variable) → VariableIs p i v → v.role ≡ Parameter q → Within d.first_parameter d.parameters i
  pub rises : (o : ℕ) (b : Procedure) → o < q → ProcedureIs p o b → b.body < d.body
  pub body : d.body < length p.nodes
  pub main_last : suc q ≡ length p.procedures → suc d.body ≡ length p.nodes
  pub main_void : suc q ≡ length p.procedures → d.result ≡ None
  pub main_bare : suc q ≡ length p.procedures → d.parameters ≡ 0

-- the nodes of procedure q are those above the bodies before, up to its own
pub record Belongs (p : Program) (q n : ℕ) : Type 0 where
  pub procedure : Procedure
  pub is : ProcedureIs p q procedure
  pub within : n ≤ procedure.body
  pub above : (o : ℕ) (b : Procedure) → o < q → ProcedureIs p o b → b.body < n

abbrev pub Among : ℕ → List ℕ → Type 0
Among n [] = ⊥
Among n (m ∷ ms) = (n ≡ m) ⊎ Among n ms

-- how often node n is named as a child
abbrev pub times_child : ℕ → List Node → ℕ
times_child n [] = 0
times_child n (x ∷ xs) = times_in n (children x) + times_child n xs

abbrev pub IsBody : Program → ℕ → Type 0
IsBody p n = (q : ℕ) × (d : Procedure) × ProcedureIs p q d × (d.body ≡ n)

pub record WellFormed (r : Rules) (p : Program) : Type 0 where
  pub some_nodes : 1 ≤ length p.nodes
  pub few_nodes : length p.nodes ≤ 1024
  pub few_variables : length p.variables ≤ 128
  pub some_procedures : 1 ≤ length p.procedures
  pub few_procedures : length p.procedures ≤ 32
  pub variables : (i : ℕ) (v : Variable) → VariableIs p i v → VariableFormed r p v
  pub procedures : (q : ℕ) (d : Procedure) → ProcedureIs p q d → ProcedureFormed r p q d
  -- a constant bool is 0 or 1
  pub bools : (n w : ℕ) → NodeIs p n (Constant Boolean w) → w < 2
  -- a child lies below its parent, in the same procedure
  pub below : (n m : ℕ) (x : Node) → NodeIs p n x → Among m (children x) → m < n
  pub together : (n m q : ℕ) (x : Node) → NodeIs p n x → Among m (children x) → Belongs p q n → Belongs p q m
  -- every node but a body is named as a child just once
  pub once : (n : ℕ) → n < length p.nodes → (IsBody p n → ⊥) → times_child n p.nodes ≡ 1

-- the file is that of a program that is well formed and has a typing derivation
pub record Accepted (r : Rules) (bs : List ℕ) : Type 0 where
  pub program : Program
  pub encodes : bs ≡ encoded program
  pub formed : WellFormed r program
  pub typed : WellTyped r program
