-- A program that passes every row is well formed and well typed.
use Rattle.std.proofs.Common.{◌≡◌, ℕ, zero, suc, ◌+◌, ◌<◌, ◌≤◌, Bool, true, false, cond, not, ◌&&◌, ◌||◌, eqb, ltb, leb, List, [], ◌∷◌, length, get_or, Some, None, Option, sym, refl, ap, ◌∙◌, subst, ap₂, ⊎_elim, le_of_suc-le-suc, not-suc-le-zero, eq-or-lt_of_le, arith}
use Rattle.std.proofs.lemmas.Bool.{and_parts, ltb-true, leb-true, le-leb, lt-ltb, eqb-true, eq-eqb, not-true}
use Rattle.words.specs.declared.types.DataType.{DataType}
use Rattle.words.specs.declared.types.DataType.TheVariants.{Bool as Boolean}
use Rattle.levels.specs.Rules.{Rules}
use Rattle.program.proofs.Statements.{statement_node}
use Rattle.program.specs.Program.{Program, at, children, no_node, no_variable, no_procedure}
use Rattle.program.specs.declared.records.Node.{Node}
use Rattle.program.specs.declared.records.Node.TheVariants.{Constant, Variable, Minus, Not, Arithmetic, Comparison, And, Or, Choice, Assignment, Call, Argument, Release, Expression, Sequence, If, IfElse, While, DoWhile, Return, ReturnVoid, Break, Continue, Definition, Output}
use Rattle.program.specs.declared.records.Role.{Role}
use Rattle.program.specs.declared.records.Role.TheVariants.{Global, Input, Local, Parameter}
use Rattle.program.specs.declared.records.Variable.{Variable as VariableRecord}
use Rattle.program.specs.declared.records.Procedure.{Procedure}
use Rattle.program.specs.declared.refusal.Refusal.{Refusal}
use Rattle.typing.specs.Classes.{class_of, class_of_variable, class_of_call}
use Rattle.typing.specs.Environment.{Environment, procedure_at, class_exits}
use Rattle.typing.specs.Faults.{variable_fits, owner_fits, void_fits, is_parameter_of, same_truth, owned_at, all_below, parameters_fit, is_body}
use Rattle.typing.specs.Formed.{Owned, VariableFormed, Within, ProcedureFormed, Belongs, Among, times_child, IsBody, WellFormed}
use Rattle.typing.specs.Rows.{passes, first_broken, refusal_of, node_rows, parts_fit, body_fits, body_exits_fit, is_absent, is_value, is_argument, is_statement, value_child, statement_child, argument_child, children_fit, Child as ChildRow, Scope, Called, Typed, Level, Ended}
use Rattle.typing.specs.Typing.{NodeIs, VariableIs, ProcedureIs, Ends, Statement, WellTyped}
use Rattle.typing.specs.declared.classes.Class.{Class}
use Rattle.typing.specs.declared.classes.Exits.{Exits}
use Rattle.typing.proofs.Rising.{all_below_at}
use Rattle.typing.proofs.Tabled.{home, below, typed, class_is, at_below, at_there, at_item, some_none, false_true}
use Rattle.typing.proofs.Complete.{Passes}
use Rattle.typing.proofs.Sound.{Child, child, as_statement, all_derive, absent}
use Rattle.typing.proofs.Belonging.{belongs, belongs_once, body_belongs, body_told}
use Rattle.typing.proofs.Checks.{Checks}

-- ---- variables and procedures

owner_told : (p : Program) (u : Role) → owner_fits (length p.procedures) u ≡ true → Owned p u
owner_told p Global h = tt
owner_told p Input h = tt
owner_told p (Local q) h = ltb-true q (length p.procedures) h
owner_told p (Parameter q) h = ltb-true q (length p.procedures) h

variable_told : (r : Rules) (p : Program) (v : VariableRecord) → variable_fits r (length p.procedures) (Some v) ≡ true → VariableFormed r p v
variable_told r p v h =
    let k = and_parts (owner_fits (length p.procedures) v.role) (r.is_level v.level) h in
    record { owned = owner_told p v.role k.0; level = k.1 }

void_told : (u : Option DataType) (l : ℕ) → void_fits u l ≡ true → u ≡ None → l ≡ 0
void_told None l h e = eqb-true l 0 h
void_told (Some t) l h e = some_none t e

or_told : (a b : Bool) → (not a || b) ≡ true → a ≡ true → b ≡ true
or_told true b h e = h
or_told false b h e = false_true e

pub parameter_told : (q : ℕ) (u : Role) → is_parameter_of q u ≡ true → u ≡ Parameter q
parameter_told q Global h = false_true h
parameter_told q Input h = false_true h
parameter_told q (Local o) h = false_true h
parameter_told q (Parameter o) h = ap Parameter (eqb-true o q h)

same_told : (a b : Bool) → same_truth a b ≡ true → a ≡ b
same_told true true h = refl
same_told true false h = false_true h
same_told false true h = false_true h
same_told false false h = refl

pub within_told : (f c i : ℕ) → (leb f i && ltb i (f + c)) ≡ true → Within f c i
within_told f c i h = let k = and_parts (leb f i) (ltb i (f + c)) h in (leb-true f i k.0, ltb-true i (f + c) k.1)

pub within_shown : (f c i : ℕ) → Within f c i → (leb f i && ltb i (f + c)) ≡ true
within_shown f c i w = ap₂ (λ (a b : Bool). a && b) (le-leb f i w.0) (lt-ltb i (f + c) w.1)

-- the test of the parameters, part by part
record Parameters (vs : List VariableRecord) (q : ℕ) (d : Procedure) : Type 0 where
  few : leb d.parameters 8 ≡ true
  there : leb (d.first_parameter + d.parameters) (length vs) ≡ true
  none : (not (eqb d.parameters 0) || eqb d.first_parameter 0) ≡ true
  owned : all_below (owned_at vs q d.first_parameter d.parameters) (length vs) ≡ true

parameters_told : (vs : List VariableRecord) (q : ℕ) (d : Procedure) → parameters_fit vs q d ≡ true → Parameters vs q d
parameters_told vs q d h =
    let a = and_parts _ (all_below (owned_at vs q d.first_parameter d.parameters) (length vs)) h in
    let b = and_parts _ (not (eqb d.parameters 0) || eqb d.first_parameter 0) a.0 in
    let c = and_parts (leb d.parameters 8) (leb (d.first_parameter + d.parameters) (length vs)) b.0 in
    record { few = c.0; there = c.1; none = b.1; owned = a.1 }

module _ (r : Rules) (p : Program) (k : Checks r p) where
  there : (g : ℕ) (d : Procedure) → ProcedureIs p g d → d.first_parameter + d.parameters ≤ length p.variables
  there g d h = leb-true (d.first_parameter + d.parameters) (length p.variables) (parameters_told p.variables g d (k.procedures g d h).parameters).there

  -- bodies rise from procedure to procedure
  rises : (o q : ℕ) (b d : Procedure) → o < q → ProcedureIs p o b → ProcedureIs p q d → b.body < d.body
  rises o zero b d lt h i = absurd (not-suc-le-zero lt)
  rises o (suc q) b d lt h i =
      let c = get_or p.procedures q no_procedure in
      let below : q < length p.procedures = omega (arith, at_below no_procedure p.procedures (suc q) d i) in
      let j = at_there no_procedure p.procedures q below in
      let up = (k.procedures (suc q) d i).above q c refl j in
      ⊎_elim
      (λ e. subst (λ (a : Procedure). a.body < d.body) (sym (at_item no_procedure p.procedures q c j) ∙ ap (λ (n : ℕ). get_or p.procedures n no_procedure) (sym e) ∙ at_item no_procedure p.procedures o b h) up)
      (λ less. omega (arith, rises o q b c less h j, up))
      (eq-or-lt_of_le (le_of_suc-le-suc lt))

  parameter_at : (i q : ℕ) (v : VariableRecord) (d : Procedure) → VariableIs p i v → ProcedureIs p q d → is_parameter_of q v.role ≡ (leb d.first_parameter i && ltb i (d.first_parameter + d.parameters))
  parameter_at i q v d h j =
      let lt = at_below no_variable p.variables i v h in
      let t = all_below_at (owned_at p.variables q d.first_parameter d.parameters) i (length p.variables) (parameters_told p.variables q d (k.procedures q d j).parameters).owned lt in
      same_told _ _ (ap (λ (w : VariableRecord). same_truth (is_parameter_of q w.role) (leb d.first_parameter i && ltb i (d.first_parameter + d.parameters))) (sym (at_item no_variable p.variables i v h)) ∙ t)

  procedure_formed : (q : ℕ) (d : Procedure) → ProcedureIs p q d → ProcedureFormed r p q d
  procedure_formed q d h =
      let c = k.procedures q d h in
      let level = and_parts (r.is_level d.level) (void_fits d.result d.level) c.result in
      let m = parameters_told p.variables q d c.parameters in
      let main : suc q ≡ length p.procedures → (is_absent d.result && eqb d.parameters 0) ≡ true = λ e. or_told (eqb (q + 1) (length p.procedures)) _ c.main (eq-eqb (q + 1) (length p.procedures) (omega arith)) in
      record {
        level = level.0;
        void_public = void_told d.result d.level level.1;
        few = leb-true d.parameters 8 m.few;
        none = λ e. eqb-true d.first_parameter 0 (or_told (eqb d.parameters 0) _ m.none (eq-eqb d.parameters 0 e));
        there = there q d h;
        owned = λ i v j w. parameter_told q v.role (parameter_at i q v d j h ∙ within_shown d.first_parameter d.parameters i w);
        all_owned = λ i v j e. within_told d.first_parameter d.parameters i (sym (parameter_at i q v d j h) ∙ ap (is_parameter_of q) e ∙ eq-eqb q q refl);
        rises = λ o b lt j. rises o q b d lt j h;
        body = c.body;
        main_last = c.last;
        main_void = λ e. absent d.result (and_parts (is_absent d.result) (eqb d.parameters 0) (main e)).0;
        main_bare = λ e. eqb-true d.parameters 0 (and_parts (is_absent d.result) (eqb d.parameters 0) (main e)).1;
      }

  -- ---- nodes

  row_told : (b : Bool) (o : Option Refusal) (x : Refusal) → cond b o (Some x) ≡ None → (b ≡ true) × (o ≡ None)
  row_told true o x h = (refl, h)
  row_told false o x h = some_none x h

  rows_told : (e : Environment) (n q : ℕ) (x : Node) → first_broken r e n q x node_rows ≡ None → Passes r e n q x × (body_fits n (procedure_at e q) (class_of r e x) ≡ true)
  rows_told e n q x h =
      let a = row_told (passes r e n q x ChildRow) _ (refusal_of ChildRow n) h in
      let b = row_told (passes r e n q x Scope) _ (refusal_of Scope n) a.1 in
      let c = row_told (passes r e n q x Called) _ (refusal_of Called n) b.1 in
      let d = row_told (passes r e n q x Typed) _ (refusal_of Typed n) c.1 in
      let f = row_told (passes r e n q x Level) _ (refusal_of Level n) d.1 in
      let g = row_told (passes r e n q x Ended) _ (refusal_of Ended n) f.1 in
      let i = and_parts (parts_fit e x) (body_fits n (procedure_at e q) (class_of r e x)) g.0 in
      (record { child = a.0; scope = b.0; called = c.0; types = d.0; levels = f.0; parts = i.0 }, i.1)

  pub passes_row : (n : ℕ) (x : Node) → NodeIs p n x → Passes r (below r p n) n (home p n) x
  passes_row n x h = (rows_told (below r p n) n (home p n) x (k.nodes n x h)).0

  -- each child of a list lies below node n, in its procedure
  Lie : ℕ → ℕ → List ℕ → Type 0
  Lie n q ms = (m : ℕ) → Among m ms → (m < n) × (home p m ≡ q)

  nothing : (n q : ℕ) → Lie n q []
  unfolding Lie
  nothing n q m c = absurd c

  more : (n q a : ℕ) (ms : List ℕ) (f : Option Class → Bool) → Child r p q n a f → Lie n q ms → Lie n q (a ∷ ms)
  unfolding Lie
  more n q a ms f c lie m h = ⊎_elim (λ e. subst (λ (o : ℕ). (o < n) × (home p o ≡ q)) (sym e) (c.lt, c.at_home)) (lie m) h

  value : (n q a : ℕ) (ms : List ℕ) → value_child (below r p n) n q a ≡ true → Lie n q ms → Lie n q (a ∷ ms)
  value n q a ms h lie = more n q a ms is_value (child r p q n a is_value refl h) lie

  statement : (n q a : ℕ) (ms : List ℕ) → statement_child (below r p n) n q a ≡ true → Lie n q ms → Lie n q (a ∷ ms)
  statement n q a ms h lie = more n q a ms is_statement (child r p q n a is_statement refl h) lie

  chain : (n q g : ℕ) (f : Option ℕ) → argument_child (below r p n) n q f ≡ true → Lie n q (children (Call g f))
  chain n q g None h = nothing n q
  chain n q g (Some a) h = more n q a [] is_argument (child r p q n a is_argument refl h) (nothing n q)

  children_told : (n q : ℕ) (x : Node) → children_fit (below r p n) n q x ≡ true → Lie n q (children x)
  children_told n q (Constant t w) h = nothing n q
  children_told n q (Variable v) h = nothing n q
  children_told n q (Minus a) h = value n q a [] h (nothing n q)
  children_told n q (Not a) h = value n q a [] h (nothing n q)
  children_told n q (Arithmetic o a b) h = let c = and_parts (value_child (below r p n) n q a) _ h in value n q a _ c.0 (value n q b [] c.1 (nothing n q))
  children_told n q (Comparison o a b) h = let c = and_parts (value_child (below r p n) n q a) _ h in value n q a _ c.0 (value n q b [] c.1 (nothing n q))
  children_told n q (And a b) h = let c = and_parts (value_child (below r p n) n q a) _ h in value n q a _ c.0 (value n q b [] c.1 (nothing n q))
  children_told n q (Or a b) h = let c = and_parts (value_child (below r p n) n q a) _ h in value n q a _ c.0 (value n q b [] c.1 (nothing n q))
  children_told n q (Choice a b d) h =
      let c = and_parts (value_child (below r p n) n q a && value_child (below r p n) n q b) _ h in
      let c' = and_parts (value_child (below r p n) n q a) _ c.0 in
      value n q a _ c'.0 (value n q b _ c'.1 (value n q d [] c.1 (nothing n q)))
  children_told n q (Assignment v b) h = value n q b [] h (nothing n q)
  children_told n q (Call g f) h = chain n q g f h
  children_told n q (Argument a f) h = let c = and_parts (value_child (below r p n) n q a) _ h in value n q a _ c.0 (chain n q a f c.1)
  children_told n q (Release a) h = value n q a [] h (nothing n q)
  children_told n q (Expression a) h = value n q a [] h (nothing n q)
  children_told n q (Sequence a b) h = let c = and_parts (statement_child (below r p n) n q a) _ h in statement n q a _ c.0 (statement n q b [] c.1 (nothing n q))
  children_told n q (If a b) h = let c = and_parts (value_child (below r p n) n q a) _ h in value n q a _ c.0 (statement n q b [] c.1 (nothing n q))
  children_told n q (IfElse a b d) h =
      let c = and_parts (value_child (below r p n) n q a && statement_child (below r p n) n q b) _ h in
      let c' = and_parts (value_child (below r p n) n q a) _ c.0 in
      value n q a _ c'.0 (statement n q b _ c'.1 (statement n q d [] c.1 (nothing n q)))
  children_told n q (While a b) h = let c = and_parts (value_child (below r p n) n q a) _ h in value n q a _ c.0 (statement n q b [] c.1 (nothing n q))
  children_told n q (DoWhile a b) h = let c = and_parts (value_child (below r p n) n q a) _ h in value n q a _ c.0 (statement n q b [] c.1 (nothing n q))
  children_told n q (Return a) h = value n q a [] h (nothing n q)
  children_told n q ReturnVoid h = nothing n q
  children_told n q Break h = nothing n q
  children_told n q Continue h = nothing n q
  children_told n q (Definition v) h = nothing n q
  children_told n q (Output a) h = value n q a [] h (nothing n q)

  lie : (n m : ℕ) (x : Node) → NodeIs p n x → Among m (children x) → (m < n) × (home p m ≡ home p n)
  unfolding Lie
  lie n m x h c = children_told n (home p n) x (passes_row n x h).child m c

  some : 1 ≤ length p.procedures
  some = k.sizes.some_procedures

  last : (q : ℕ) (d : Procedure) → ProcedureIs p q d → suc q ≡ length p.procedures → suc d.body ≡ length p.nodes
  last q d h = (k.procedures q d h).last

  together : (n m q : ℕ) (x : Node) → NodeIs p n x → Among m (children x) → Belongs p q n → Belongs p q m
  together n m q x h c b =
      let lt = at_below no_node p.nodes n x h in
      let down = lie n m x h c in
      let same : home p m ≡ q = down.1 ∙ sym (belongs_once p some rises last q (home p n) n b (belongs p some rises last n lt)) in
      subst (λ (o : ℕ). Belongs p o m) same (belongs p some rises last m (omega (arith, down.0)))

  named_once : (n : ℕ) → n < length p.nodes → (IsBody p n → ⊥) → times_child n p.nodes ≡ 1
  named_once n lt other = by (is_body p.procedures n) refl (k.names n lt)
    where
      by : (b : Bool) → is_body p.procedures n ≡ b → (b || eqb (times_child n p.nodes) 1) ≡ true → times_child n p.nodes ≡ 1
      by true e h = let (d, i, s) = body_told p some rises last n lt e in absurd (other (home p n, d, i, s))
      by false e h = eqb-true (times_child n p.nodes) 1 h

  pub formed : ((n w : ℕ) → NodeIs p n (Constant Boolean w) → w < 2) → WellFormed r p
  formed bools =
      record {
        some_nodes = k.sizes.some_nodes;
        few_nodes = k.sizes.few_nodes;
        few_variables = k.sizes.few_variables;
        some_procedures = some;
        few_procedures = k.sizes.few_procedures;
        variables = λ i v h. variable_told r p v (k.variables i v h);
        procedures = procedure_formed;
        bools = bools;
        below = λ n m x h c. (lie n m x h c).0;
        together = together;
        once = named_once;
      }

  -- ---- bodies

  statement_classed : (e : Environment) (x : Node) → is_statement (Some (class_of r e x)) ≡ statement_node x
  statement_classed e (Constant t w) = refl
  statement_classed e (Variable v) = by (at no_variable e.variables v)
    where
      by : (o : Option VariableRecord) → is_statement (Some (class_of_variable o)) ≡ false
      by None = refl
      by (Some x) = refl
  statement_classed e (Minus a) = refl
  statement_classed e (Not a) = refl
  statement_classed e (Arithmetic o a b) = refl
  statement_classed e (Comparison o a b) = refl
  statement_classed e (And a b) = refl
  statement_classed e (Or a b) = refl
  statement_classed e (Choice a b c) = refl
  statement_classed e (Assignment v b) = by (at no_variable e.variables v)
    where
      by : (o : Option VariableRecord) → is_statement (Some (class_of_variable o)) ≡ false
      by None = refl
      by (Some x) = refl
  statement_classed e (Call g f) = by (procedure_at e g)
    where
      by : (o : Option Procedure) → is_statement (Some (class_of_call o)) ≡ false
      by None = refl
      by (Some d) = refl
  statement_classed e (Argument a n) = refl
  statement_classed e (Release a) = refl
  statement_classed e (Expression a) = refl
  statement_classed e (Sequence a b) = refl
  statement_classed e (If a b) = refl
  statement_classed e (IfElse a b c) = refl
  statement_classed e (While a b) = refl
  statement_classed e (DoWhile a b) = refl
  statement_classed e (Return a) = refl
  statement_classed e ReturnVoid = refl
  statement_classed e Break = refl
  statement_classed e Continue = refl
  statement_classed e (Definition v) = refl
  statement_classed e (Output a) = refl

  exits_are : (x : Exits) (a b c d : Bool) → x.falls ≡ a → x.returns ≡ b → x.breaks ≡ c → x.continues ≡ d → x ≡ record { falls = a; returns = b; breaks = c; continues = d }
  exits_are x a b c d f g h i = λ j. record { falls = f j; returns = g j; breaks = h j; continues = i j }

  ends_told : (u : Option DataType) (x : Exits) → body_exits_fit u x ≡ true → Ends u x
  ends_told None x h =
      let a = and_parts (not x.breaks) (not x.continues) h in (not-true x.breaks a.0, not-true x.continues a.1)
  ends_told (Some t) x h =
      let a = and_parts _ (not x.continues) h in
      let b = and_parts _ (not x.breaks) a.0 in
      let c = and_parts x.returns (not x.falls) b.0 in
      exits_are x false true false false (not-true x.falls c.1) c.0 (not-true x.breaks b.1) (not-true x.continues a.1)

  body_fits_told : (n : ℕ) (d : Procedure) (c : Class) → d.body ≡ n → body_fits n (Some d) c ≡ true → body_exits_fit d.result (class_exits c) ≡ true
  body_fits_told n d c e h = sym (ap (λ (b : Bool). cond b (body_exits_fit d.result (class_exits c)) true) (eq-eqb d.body n e)) ∙ h

  pub well_typed : WellTyped r p
  unfolding below
  well_typed q d h =
      let n = d.body in
      let lt = (k.procedures q d h).body in
      let x = get_or p.nodes n no_node in
      let i = at_there no_node p.nodes n lt in
      let e = class_is r p n x i in
      let same : home p n ≡ q = belongs_once p some rises last (home p n) q n (belongs p some rises last n lt) (body_belongs p some rises last q d h) in
      let f = sym (ap (λ (o : Option Procedure). body_fits n o (class_of r (below r p n) x)) (ap (at no_procedure p.procedures) same ∙ h)) ∙ (rows_told (below r p n) n (home p n) x (k.nodes n x i)).1 in
      let state : is_statement (Some (typed r p n).class) ≡ true = ap (λ (c : Class). is_statement (Some c)) e ∙ statement_classed (below r p n) x ∙ (k.procedures q d h).statement x i in
      record {
        exits = class_exits (typed r p n).class;
        statement = subst (λ (o : ℕ). Statement r p o n (class_exits (typed r p n).class)) same (as_statement r p (home p n) n (typed r p n).class state (all_derive r p there passes_row n lt));
        ends = subst (λ (c : Class). Ends d.result (class_exits c)) (sym e) (ends_told d.result (class_exits (class_of r (below r p n) x)) (body_fits_told n d (class_of r (below r p n) x) refl f));
      }
