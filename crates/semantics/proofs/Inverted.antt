-- What a typing derivation says of a node, by the node's kind.
use Rattle.std.proofs.Common.{◌≡◌, ℕ, true, ◌⊎◌, List, [], ◌∷◌, Some, None, Option, sym, refl, ap, ◌∙◌, subst, inl, inr}
use Rattle.words.specs.declared.types.DataType.{DataType}
use Rattle.words.specs.declared.types.DataType.TheVariants.{Bool, Int}
use Rattle.levels.specs.Rules.{Rules}
use Rattle.program.specs.Program.{Program, no_procedure}
use Rattle.program.specs.declared.records.Node.{Node}
use Rattle.program.specs.declared.records.Node.TheVariants.{Constant, Variable, Minus, Not, Arithmetic, Comparison, And, Or, Choice, Assignment, Call, Argument, Release, Expression as ExpressionNode, Sequence, If, IfElse, While, DoWhile, Return, ReturnVoid, Break, Continue, Definition, Output}
use Rattle.program.specs.declared.records.Variable.{Variable as VariableRecord}
use Rattle.program.specs.declared.records.Procedure.{Procedure}
use Rattle.typing.specs.Environment.{level_of}
use Rattle.typing.specs.Exits.{falling, returning, breaking, continuing, union, sequence_exits, loop_exits}
use Rattle.typing.specs.Formed.{Belongs}
use Rattle.typing.specs.Typing.{NodeIs, VariableIs, ProcedureIs, parameters_of, Expression, Arguments, VoidCall, Statement, constant, variable, minus, not, arithmetic, comparison, and, or, choice, assignment, call, release, none, argument, void_call, expression, procedure_call, sequence, if, if_else, while, do_while, return, return_void, break, continue, definition, output}
use Rattle.typing.specs.declared.classes.Exits.{Exits}
use Rattle.typing.specs.declared.classes.TypedNode.{TypedNode}
use Rattle.typing.proofs.Tabled.{at_item}
use Rattle.semantics.specs.State.{node_of, procedure, procedure_of_node}
use Rattle.semantics.proofs.Cells.{tables}

-- typed nodes that are those of a program
pub record Describes (r : Rules) (p : Program) (ns : List TypedNode) : Type 0 where
  pub nodes : (n : ℕ) (x : Node) → NodeIs p n x → node_of (tables p ns) n ≡ x
  pub levels : (q n l : ℕ) (t : DataType) → Expression r p q n t l → level_of (tables p ns) n ≡ l
  pub homes : (q n : ℕ) → Belongs p q n → procedure_of_node (tables p ns) n ≡ q

module _ (r : Rules) (p : Program) (ns : List TypedNode) where
  abbrev pub called_at : ℕ → Procedure
  called_at g = procedure (tables p ns) g

  -- node a is an expression
  abbrev pub Valued : ℕ → ℕ → Type 0
  Valued q a = (t : DataType) × (l : ℕ) × Expression r p q a t l

  abbrev pub TypedAs : ℕ → Node → DataType → ℕ → Type 0
  TypedAs q (Constant t w) u l = l ≡ 0
  TypedAs q (Variable v) u l = (x : VariableRecord) × VariableIs p v x × (l ≡ x.level)
  TypedAs q (Minus a) u l = Expression r p q a Int l
  TypedAs q (Not a) u l = Expression r p q a Bool l
  TypedAs q (Arithmetic o a b) u l = Valued q a × Valued q b
  TypedAs q (Comparison o a b) u l = Valued q a × Valued q b
  TypedAs q (And a b) u l = Valued q a × Valued q b
  TypedAs q (Or a b) u l = Valued q a × Valued q b
  TypedAs q (Choice a b c) u l = (i : ℕ) × (j : ℕ) × Valued q a × Expression r p q b u i × Expression r p q c u j × (l ≡ r.joint i j)
  TypedAs q (Assignment v b) u l = (x : VariableRecord) × (i : ℕ) × VariableIs p v x × Expression r p q b x.data_type i × (r.flows i x.level ≡ true) × (l ≡ x.level)
  TypedAs q (Call g f) u l = ProcedureIs p g (called_at g) × ((called_at g).result ≡ Some u) × Arguments r p q f (parameters_of p (called_at g)) × (l ≡ (called_at g).level)
  TypedAs q (Argument a next) u l = ⊥
  TypedAs q (Release a) u l = Valued q a × (l ≡ 0)
  TypedAs q (ExpressionNode a) u l = ⊥
  TypedAs q (Sequence a b) u l = ⊥
  TypedAs q (If a b) u l = ⊥
  TypedAs q (IfElse a b c) u l = ⊥
  TypedAs q (While a b) u l = ⊥
  TypedAs q (DoWhile a b) u l = ⊥
  TypedAs q (Return a) u l = ⊥
  TypedAs q ReturnVoid u l = ⊥
  TypedAs q Break u l = ⊥
  TypedAs q Continue u l = ⊥
  TypedAs q (Definition v) u l = ⊥
  TypedAs q (Output a) u l = ⊥

  -- a call of a void procedure
  abbrev pub VoidAs : ℕ → Node → Type 0
  VoidAs q (Call g f) = ProcedureIs p g (called_at g) × ((called_at g).result ≡ None) × Arguments r p q f (parameters_of p (called_at g))
  VoidAs q (Constant t w) = ⊥
  VoidAs q (Variable v) = ⊥
  VoidAs q (Minus a) = ⊥
  VoidAs q (Not a) = ⊥
  VoidAs q (Arithmetic o a b) = ⊥
  VoidAs q (Comparison o a b) = ⊥
  VoidAs q (And a b) = ⊥
  VoidAs q (Or a b) = ⊥
  VoidAs q (Choice a b c) = ⊥
  VoidAs q (Assignment v b) = ⊥
  VoidAs q (Argument a next) = ⊥
  VoidAs q (Release a) = ⊥
  VoidAs q (ExpressionNode a) = ⊥
  VoidAs q (Sequence a b) = ⊥
  VoidAs q (If a b) = ⊥
  VoidAs q (IfElse a b c) = ⊥
  VoidAs q (While a b) = ⊥
  VoidAs q (DoWhile a b) = ⊥
  VoidAs q (Return a) = ⊥
  VoidAs q ReturnVoid = ⊥
  VoidAs q Break = ⊥
  VoidAs q Continue = ⊥
  VoidAs q (Definition v) = ⊥
  VoidAs q (Output a) = ⊥

  -- an argument whose expression has level l, before the argument f
  abbrev pub ArguedAs : ℕ → Node → ℕ → Option ℕ → Type 0
  ArguedAs q (Argument a next) l f = (t : DataType) × Expression r p q a t l × (next ≡ f)
  ArguedAs q (Constant t w) l f = ⊥
  ArguedAs q (Variable v) l f = ⊥
  ArguedAs q (Minus a) l f = ⊥
  ArguedAs q (Not a) l f = ⊥
  ArguedAs q (Arithmetic o a b) l f = ⊥
  ArguedAs q (Comparison o a b) l f = ⊥
  ArguedAs q (And a b) l f = ⊥
  ArguedAs q (Or a b) l f = ⊥
  ArguedAs q (Choice a b c) l f = ⊥
  ArguedAs q (Assignment v b) l f = ⊥
  ArguedAs q (Call g h) l f = ⊥
  ArguedAs q (Release a) l f = ⊥
  ArguedAs q (ExpressionNode a) l f = ⊥
  ArguedAs q (Sequence a b) l f = ⊥
  ArguedAs q (If a b) l f = ⊥
  ArguedAs q (IfElse a b c) l f = ⊥
  ArguedAs q (While a b) l f = ⊥
  ArguedAs q (DoWhile a b) l f = ⊥
  ArguedAs q (Return a) l f = ⊥
  ArguedAs q ReturnVoid l f = ⊥
  ArguedAs q Break l f = ⊥
  ArguedAs q Continue l f = ⊥
  ArguedAs q (Definition v) l f = ⊥
  ArguedAs q (Output a) l f = ⊥

  abbrev pub StatedAs : ℕ → Node → Exits → Type 0
  StatedAs q (Constant t w) x = ⊥
  StatedAs q (Variable v) x = ⊥
  StatedAs q (Minus a) x = ⊥
  StatedAs q (Not a) x = ⊥
  StatedAs q (Arithmetic o a b) x = ⊥
  StatedAs q (Comparison o a b) x = ⊥
  StatedAs q (And a b) x = ⊥
  StatedAs q (Or a b) x = ⊥
  StatedAs q (Choice a b c) x = ⊥
  StatedAs q (Assignment v b) x = ⊥
  StatedAs q (Call g f) x = ⊥
  StatedAs q (Argument a next) x = ⊥
  StatedAs q (Release a) x = ⊥
  StatedAs q (ExpressionNode a) x = (Valued q a ⊎ VoidCall r p q a) × (x ≡ falling)
  StatedAs q (Sequence a b) x = (y : Exits) × (z : Exits) × Statement r p q a y × Statement r p q b z × (x ≡ sequence_exits y z)
  StatedAs q (If a b) x = (y : Exits) × Valued q a × Statement r p q b y × (x ≡ union y falling)
  StatedAs q (IfElse a b c) x = (y : Exits) × (z : Exits) × Valued q a × Statement r p q b y × Statement r p q c z × (x ≡ union y z)
  StatedAs q (While a b) x = (y : Exits) × Valued q a × Statement r p q b y × (x ≡ loop_exits y)
  StatedAs q (DoWhile a b) x = (y : Exits) × Valued q a × Statement r p q b y × (x ≡ loop_exits y)
  StatedAs q (Return a) x = (t : DataType) × (l : ℕ) × ((called_at q).result ≡ Some t) × Expression r p q a t l × (r.flows l (called_at q).level ≡ true) × (x ≡ returning)
  StatedAs q ReturnVoid x = ((called_at q).result ≡ None) × (x ≡ returning)
  StatedAs q Break x = x ≡ breaking
  StatedAs q Continue x = x ≡ continuing
  StatedAs q (Definition v) x = x ≡ falling
  StatedAs q (Output a) x = Valued q a × (x ≡ falling)

  -- the procedure of a number is the one that the tables have
  pub procedure_told : (g : ℕ) (d : Procedure) → ProcedureIs p g d → called_at g ≡ d
  procedure_told g d h = at_item no_procedure p.procedures g d h

  module _ (told : Describes r p ns) where
    turned : (n : ℕ) (x : Node) (P : Node → Type 0) → NodeIs p n x → P x → P (node_of (tables p ns) n)
    turned n x P h y = subst P (sym (told.nodes n x h)) y

    pub typed_as : {q n l : ℕ} {t : DataType} → Expression r p q n t l → TypedAs q (node_of (tables p ns) n) t l
    typed_as {q = q} {n = n} {l = l} {t = t} (constant h) = turned n _ (λ x. TypedAs q x t l) h refl
    typed_as {q = q} {n = n} {l = l} {t = t} (variable {x = y} h v s) = turned n _ (λ x. TypedAs q x t l) h (y, v, refl)
    typed_as {q = q} {n = n} {l = l} {t = t} (minus h d) = turned n _ (λ x. TypedAs q x t l) h d
    typed_as {q = q} {n = n} {l = l} {t = t} (not h d) = turned n _ (λ x. TypedAs q x t l) h d
    typed_as {q = q} {n = n} {l = l} {t = t} (arithmetic h k d f) = turned n _ (λ x. TypedAs q x t l) h ((_, _, d), (_, _, f))
    typed_as {q = q} {n = n} {l = l} {t = t} (comparison h k d f) = turned n _ (λ x. TypedAs q x t l) h ((_, _, d), (_, _, f))
    typed_as {q = q} {n = n} {l = l} {t = t} (and h d f) = turned n _ (λ x. TypedAs q x t l) h ((_, _, d), (_, _, f))
    typed_as {q = q} {n = n} {l = l} {t = t} (or h d f) = turned n _ (λ x. TypedAs q x t l) h ((_, _, d), (_, _, f))
    typed_as {q = q} {n = n} {l = l} {t = t} (choice h a d f) = turned n _ (λ x. TypedAs q x t l) h (_, _, (_, _, a), d, f, refl)
    typed_as {q = q} {n = n} {l = l} {t = t} (assignment {x = y} h v s d f) = turned n _ (λ x. TypedAs q x t l) h (y, _, v, d, f, refl)
    typed_as {q = q} {n = n} {l = l} {t = t} (call {g = g} {f = f} {d = k} h lt v s d) =
        turned n _ (λ x. TypedAs q x t l) h (moved (sym (procedure_told g k v)) v s d)
      where
        moved : {c k : Procedure} → c ≡ k → ProcedureIs p g c → c.result ≡ Some t → Arguments r p q f (parameters_of p c) → ProcedureIs p g k × (k.result ≡ Some t) × Arguments r p q f (parameters_of p k) × (c.level ≡ k.level)
        moved e v s d =
            (subst (ProcedureIs p g) e v, subst (λ (k : Procedure). k.result ≡ Some t) e s, subst (λ (k : Procedure). Arguments r p q f (parameters_of p k)) e d, ap (λ (k : Procedure). k.level) e)
    typed_as {q = q} {n = n} {l = l} {t = t} (release h d) = turned n _ (λ x. TypedAs q x t l) h ((_, _, d), refl)

    pub void_as : {q n : ℕ} → VoidCall r p q n → VoidAs q (node_of (tables p ns) n)
    void_as {q = q} {n = n} (void_call {g = g} {f = f} {d = k} h lt v s d) = turned n _ (VoidAs q) h (moved (sym (procedure_told g k v)) v s d)
      where
        moved : {c k : Procedure} → c ≡ k → ProcedureIs p g c → c.result ≡ None → Arguments r p q f (parameters_of p c) → ProcedureIs p g k × (k.result ≡ None) × Arguments r p q f (parameters_of p k)
        moved e v s d =
            (subst (ProcedureIs p g) e v, subst (λ (k : Procedure). k.result ≡ None) e s, subst (λ (k : Procedure). Arguments r p q f (parameters_of p k)) e d)

    pub argued_as : {q a l : ℕ} {t : DataType} (n : ℕ) (next : Option ℕ) → NodeIs p n (Argument a next) → Expression r p q a t l → ArguedAs q (node_of (tables p ns) n) l next
    argued_as {q = q} {l = l} n next h d = turned n _ (λ x. ArguedAs q x l next) h (_, d, refl)

    pub stated_as : {q n : ℕ} {x : Exits} → Statement r p q n x → StatedAs q (node_of (tables p ns) n) x
    stated_as {q = q} {n = n} {x = x} (expression h d) = turned n _ (λ y. StatedAs q y x) h (inl (_, _, d), refl)
    stated_as {q = q} {n = n} {x = x} (procedure_call h d) = turned n _ (λ y. StatedAs q y x) h (inr d, refl)
    stated_as {q = q} {n = n} {x = x} (sequence h d f g) = turned n _ (λ y. StatedAs q y x) h (_, _, d, g, refl)
    stated_as {q = q} {n = n} {x = x} (if h d f) = turned n _ (λ y. StatedAs q y x) h (_, (_, _, d), f, refl)
    stated_as {q = q} {n = n} {x = x} (if_else h d f g) = turned n _ (λ y. StatedAs q y x) h (_, _, (_, _, d), f, g, refl)
    stated_as {q = q} {n = n} {x = x} (while h d f g) = turned n _ (λ y. StatedAs q y x) h (_, (_, _, d), f, refl)
    stated_as {q = q} {n = n} {x = x} (do_while h d f g) = turned n _ (λ y. StatedAs q y x) h (_, (_, _, d), f, refl)
    stated_as {q = q} {n = n} {x = x} (return {l = l} {d = k} h v s d f) =
        turned n _ (λ y. StatedAs q y x) h
        (_, _, ap (λ (k : Procedure). k.result) (procedure_told q k v) ∙ s, d, subst (λ (k : Procedure). r.flows l k.level ≡ true) (sym (procedure_told q k v)) f, refl)
    stated_as {q = q} {n = n} {x = x} (return_void {d = k} h v s) = turned n _ (λ y. StatedAs q y x) h (ap (λ (k : Procedure). k.result) (procedure_told q k v) ∙ s, refl)
    stated_as {q = q} {n = n} {x = x} (break h) = turned n _ (λ y. StatedAs q y x) h refl
    stated_as {q = q} {n = n} {x = x} (continue h) = turned n _ (λ y. StatedAs q y x) h refl
    stated_as {q = q} {n = n} {x = x} (definition h v s) = turned n _ (λ y. StatedAs q y x) h refl
    stated_as {q = q} {n = n} {x = x} (output h d) = turned n _ (λ y. StatedAs q y x) h ((_, _, d), refl)

    pub statement_node : {q n : ℕ} {x : Exits} → Statement r p q n x → NodeIs p n (node_of (tables p ns) n)
    statement_node {n = n} (expression h d) = turned n _ (NodeIs p n) h h
    statement_node {n = n} (procedure_call h d) = turned n _ (NodeIs p n) h h
    statement_node {n = n} (sequence h d f g) = turned n _ (NodeIs p n) h h
    statement_node {n = n} (if h d f) = turned n _ (NodeIs p n) h h
    statement_node {n = n} (if_else h d f g) = turned n _ (NodeIs p n) h h
    statement_node {n = n} (while h d f g) = turned n _ (NodeIs p n) h h
    statement_node {n = n} (do_while h d f g) = turned n _ (NodeIs p n) h h
    statement_node {n = n} (return h v s d f) = turned n _ (NodeIs p n) h h
    statement_node {n = n} (return_void h v s) = turned n _ (NodeIs p n) h h
    statement_node {n = n} (break h) = turned n _ (NodeIs p n) h h
    statement_node {n = n} (continue h) = turned n _ (NodeIs p n) h h
    statement_node {n = n} (definition h v s) = turned n _ (NodeIs p n) h h
    statement_node {n = n} (output h d) = turned n _ (NodeIs p n) h h

    -- the first of the arguments that fit parameters, and the others
    pub record FirstArgument (q n : ℕ) (vs : List VariableRecord) : Type 0 where
      pub parameter : VariableRecord
      pub others : List VariableRecord
      pub level : ℕ
      pub next : Option ℕ
      pub whole : vs ≡ parameter ∷ others
      pub argued : ArguedAs q (node_of (tables p ns) n) level next
      pub flows : r.flows level parameter.level ≡ true
      pub rest : Arguments r p q next others

    pub first_argument : {q n : ℕ} {vs : List VariableRecord} → Arguments r p q (Some n) vs → FirstArgument q n vs
    first_argument {n = n} (argument {l = l} {next = next} {x = x} {xs = xs} h d f g) =
        record { parameter = x; others = xs; level = l; next = next; whole = refl; argued = argued_as n next h d; flows = f; rest = g }

    pub no_argument : {q : ℕ} {vs : List VariableRecord} → Arguments r p q None vs → vs ≡ []
    no_argument none = refl
