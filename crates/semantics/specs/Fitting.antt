-- In a well-typed program figures of level 0 are plain and all others held. Assumes nothing.
use Rattle.std.specs.Prelude.{◌≡◌, ℕ, ◌≤◌, true, false, List, length, Some, None, Option, ◌==◌, slice_index_or}
use Rattle.words.specs.declared.types.DataType.{DataType}
use Rattle.levels.specs.Rules.{Rules}
use Rattle.program.specs.Program.{Program, no_node}
use Rattle.program.specs.declared.records.Variable.{Variable}
use Rattle.program.specs.declared.records.Procedure.{Procedure}
use Rattle.typing.specs.Environment.{Environment, procedure_of}
use Rattle.typing.specs.Faults.{environment, typed_node}
use Rattle.typing.specs.First.{table}
use Rattle.typing.specs.Formed.{WellFormed, Belongs}
use Rattle.typing.specs.Typing.{VariableIs, ProcedureIs, Expression, Statement, WellTyped}
use Rattle.typing.specs.declared.classes.Exits.{Exits}
use Rattle.typing.specs.declared.classes.TypedNode.{TypedNode}
use Rattle.semantics.specs.State.{Shown, Kept, cell, node_of}
use Rattle.semantics.specs.Natural.{Ending, ends, stops, Runs}
use Rattle.semantics.specs.declared.values.Value.{Value}
use Rattle.semantics.specs.declared.values.Value.TheVariants.{Plain, Held}
use Rattle.semantics.specs.declared.values.Signal.TheVariants.{Gives, Argues, Falls, Returns, Breaks, Continues}

abbrev pub Fits : ℕ → Value ℕ → Type 0
Fits l (Plain w) = l ≡ 0
Fits l (Held w) = (l == 0) ≡ false

-- every variable has a cell, whose figure fits its level
pub record Fitting (p : Program) (k : Kept) : Type 0 where
  pub there : length p.variables ≤ length k.cells
  pub fits : (v : ℕ) (x : Variable) → VariableIs p v x → Fits x.level (cell v k)

-- a value that a procedure returns is there where it has a result, and fits its level
abbrev pub Returned : Option DataType → ℕ → Option (Value ℕ) → Type 0
Returned None l None = Unit {0}
Returned None l (Some x) = ⊥
Returned (Some t) l None = ⊥
Returned (Some t) l (Some x) = Fits l x

module _ (p : Program) where
  -- an expression of level l ends with a figure that fits, or stops the run
  abbrev pub ValueEnding : ℕ → Ending → Type 0
  ValueEnding l (ends (Gives x) s k m) = Fits l x × Fitting p k
  ValueEnding l (ends (Argues x next) s k m) = ⊥
  ValueEnding l (ends Falls s k m) = ⊥
  ValueEnding l (ends (Returns x) s k m) = ⊥
  ValueEnding l (ends Breaks s k m) = ⊥
  ValueEnding l (ends Continues s k m) = ⊥
  ValueEnding l (stops o s k) = Fitting p k

  -- an argument of level l ends with a figure that fits, and names the next
  abbrev pub ArgumentEnding : ℕ → Option ℕ → Ending → Type 0
  ArgumentEnding l f (ends (Gives x) s k m) = ⊥
  ArgumentEnding l f (ends (Argues x next) s k m) = (next ≡ f) × Fits l x × Fitting p k
  ArgumentEnding l f (ends Falls s k m) = ⊥
  ArgumentEnding l f (ends (Returns x) s k m) = ⊥
  ArgumentEnding l f (ends Breaks s k m) = ⊥
  ArgumentEnding l f (ends Continues s k m) = ⊥
  ArgumentEnding l f (stops o s k) = Fitting p k

  -- a call of a procedure ends by its result
  abbrev pub CallEnding : Option DataType → ℕ → Ending → Type 0
  CallEnding None l (ends (Gives x) s k m) = ⊥
  CallEnding (Some t) l (ends (Gives x) s k m) = Fits l x × Fitting p k
  CallEnding t l (ends (Argues x next) s k m) = ⊥
  CallEnding None l (ends Falls s k m) = Fitting p k
  CallEnding (Some t) l (ends Falls s k m) = ⊥
  CallEnding t l (ends (Returns x) s k m) = ⊥
  CallEnding t l (ends Breaks s k m) = ⊥
  CallEnding t l (ends Continues s k m) = ⊥
  CallEnding t l (stops o s k) = Fitting p k

  -- a statement of a procedure with result t of level l ends in one of its ways
  abbrev pub StatementEnding : Option DataType → ℕ → Exits → Ending → Type 0
  StatementEnding t l x (ends (Gives y) s k m) = ⊥
  StatementEnding t l x (ends (Argues y next) s k m) = ⊥
  StatementEnding t l x (ends Falls s k m) = (x.falls ≡ true) × Fitting p k
  StatementEnding t l x (ends (Returns y) s k m) = (x.returns ≡ true) × Returned t l y × Fitting p k
  StatementEnding t l x (ends Breaks s k m) = (x.breaks ≡ true) × Fitting p k
  StatementEnding t l x (ends Continues s k m) = (x.continues ≡ true) × Fitting p k
  StatementEnding t l x (stops o s k) = Fitting p k

-- the typed nodes of a program
abbrev pub nodes_of : Rules → Program → List TypedNode
nodes_of r p =
    table (λ ns n. typed_node r (environment p.variables p.procedures ns) (procedure_of p.procedures n) (slice_index_or p.nodes n no_node)) (length p.nodes)

abbrev pub environment_of : Rules → Program → Environment
environment_of r p = environment p.variables p.procedures (nodes_of r p)

-- in a well-typed program: from cells that fit, an expression gives a figure that fits its level and a statement ends as its exits say, and the cells fit again
pub record FiguresFit (r : Rules) (p : Program) : Type 0 where
  pub expressions : (q n l m : ℕ) (t : DataType) (s : Shown) (k : Kept) (a : Ending) → Expression r p q n t l → Fitting p k → Runs (environment_of r p) n (node_of (environment_of r p) n) s k m a → ValueEnding p l a
  pub statements : (q n m : ℕ) (d : Procedure) (x : Exits) (s : Shown) (k : Kept) (a : Ending) → ProcedureIs p q d → Statement r p q n x → Belongs p q n → Fitting p k → Runs (environment_of r p) n (node_of (environment_of r p) n) s k m a → StatementEnding p d.result d.level x a

abbrev pub LevelsKept : Rules → Type 0
LevelsKept r = (p : Program) → WellFormed r p → WellTyped r p → FiguresFit r p
