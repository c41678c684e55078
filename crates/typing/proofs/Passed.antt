-- A program that is well formed and well typed passes every row.
use Rattle.std.proofs.Common.{◌≡◌, ℕ, suc, ◌+◌, ◌<◌, ◌≤◌, Bool, true, false, cond, not, ◌&&◌, ◌||◌, eqb, ltb, leb, length, get_or, Some, None, Option, sym, refl, ap, ◌∙◌, subst, ⊎_elim, arith}
use Rattle.std.proofs.lemmas.Bool.{and_from, le-leb, lt-ltb, eqb-true, eq-eqb, not_from_false, cases_Bool, both_ways}
use Rattle.words.specs.declared.types.DataType.{DataType}
use Rattle.levels.specs.Rules.{Rules}
use Rattle.program.proofs.Statements.{statement_node}
use Rattle.program.specs.Program.{Program, children, no_node, no_variable}
use Rattle.program.specs.declared.records.Node.{Node}
use Rattle.program.specs.declared.records.Role.{Role}
use Rattle.program.specs.declared.records.Role.TheVariants.{Global, Input, Local, Parameter}
use Rattle.program.specs.declared.records.Variable.{Variable as VariableRecord}
use Rattle.program.specs.declared.records.Procedure.{Procedure}
use Rattle.program.specs.declared.refusal.Refusal.{Refusal}
use Rattle.typing.specs.Classes.{class_of}
use Rattle.typing.specs.Environment.{procedure_at, class_exits}
use Rattle.typing.specs.Faults.{variable_fits, owner_fits, void_fits, is_parameter_of, same_truth, owned_at, parameters_fit, is_body}
use Rattle.typing.specs.Formed.{Owned, Among, times_child, WellFormed}
use Rattle.typing.specs.Rows.{first_broken, node_rows, parts_fit, body_fits, body_exits_fit, is_absent}
use Rattle.typing.specs.Typing.{NodeIs, VariableIs, ProcedureIs, Ends, Statement, WellTyped, expression, procedure_call, sequence, if, if_else, while, do_while, return, return_void, break, continue, definition, output}
use Rattle.typing.specs.declared.classes.Class.{Class}
use Rattle.typing.specs.declared.classes.Exits.{Exits}
use Rattle.typing.proofs.Rising.{all_below_from}
use Rattle.typing.proofs.Tabled.{home, below, class_is, at_below, at_there, false_true}
use Rattle.typing.proofs.Complete.{Passes, Passing, expression_passes, void_passes, argument_node_passes, statement_passes}
use Rattle.typing.proofs.Determined.{statement_class}
use Rattle.typing.proofs.Belonging.{belongs, belongs_once, body_told, body_shown}
use Rattle.typing.proofs.Reached.{Derived, expression_derived, void_derived, arguments_derived, statement_derived, reached}
use Rattle.typing.proofs.Checks.{ProcedureChecks, Checks}
use Rattle.typing.proofs.Forms.{parameter_told, within_told, within_shown}

-- ---- variables and procedures

owner_shown : (p : Program) (u : Role) → Owned p u → owner_fits (length p.procedures) u ≡ true
owner_shown p Global h = refl
owner_shown p Input h = refl
owner_shown p (Local q) h = lt-ltb q (length p.procedures) h
owner_shown p (Parameter q) h = lt-ltb q (length p.procedures) h

void_shown : (u : Option DataType) (l : ℕ) → (u ≡ None → l ≡ 0) → void_fits u l ≡ true
void_shown None l h = eq-eqb l 0 (h refl)
void_shown (Some t) l h = refl

absent_shown : {X : Type 0} (o : Option X) → o ≡ None → is_absent o ≡ true
absent_shown o e = ap is_absent e

or_shown : (a b : Bool) → (a ≡ true → b ≡ true) → (not a || b) ≡ true
or_shown true b h = h refl
or_shown false b h = refl

same_shown : (a b : Bool) → (a ≡ true → b ≡ true) → (b ≡ true → a ≡ true) → same_truth a b ≡ true
same_shown true b h i = h refl
same_shown false true h i = false_true (i refl)
same_shown false false h i = refl

parameter_shown : (q : ℕ) (u : Role) → u ≡ Parameter q → is_parameter_of q u ≡ true
parameter_shown q u e = ap (is_parameter_of q) e ∙ eq-eqb q q refl

ends_shown : (u : Option DataType) (x : Exits) → Ends u x → body_exits_fit u x ≡ true
ends_shown None x h = and_from (not x.breaks) (not x.continues) (not_from_false x.breaks h.0) (not_from_false x.continues h.1)
ends_shown (Some t) x h = ap (body_exits_fit (Some t)) h

-- a node with a derivation as a statement is one by its kind
statement_kind : {r : Rules} {p : Program} {q n : ℕ} {x : Exits} → Statement r p q n x → (y : Node) × NodeIs p n y × (statement_node y ≡ true)
statement_kind (expression h d) = (_, h, refl)
statement_kind (procedure_call h d) = (_, h, refl)
statement_kind (sequence h d f e) = (_, h, refl)
statement_kind (if h d e) = (_, h, refl)
statement_kind (if_else h d e f) = (_, h, refl)
statement_kind (while h d e f) = (_, h, refl)
statement_kind (do_while h d e f) = (_, h, refl)
statement_kind (return h g t d f) = (_, h, refl)
statement_kind (return_void h g t) = (_, h, refl)
statement_kind (break h) = (_, h, refl)
statement_kind (continue h) = (_, h, refl)
statement_kind (definition h v s) = (_, h, refl)
statement_kind (output h d) = (_, h, refl)

module _ (r : Rules) (p : Program) (w : WellFormed r p) (t : WellTyped r p) where
  variable_passes : (i : ℕ) (v : VariableRecord) → VariableIs p i v → variable_fits r (length p.procedures) (Some v) ≡ true
  variable_passes i v h =
      let f = w.variables i v h in
      and_from (owner_fits (length p.procedures) v.role) (r.is_level v.level) (owner_shown p v.role f.owned) f.level

  owned_passes : (q i : ℕ) (d : Procedure) → ProcedureIs p q d → i < length p.variables → owned_at p.variables q d.first_parameter d.parameters i ≡ true
  owned_passes q i d h lt =
      let f = w.procedures q d h in
      let v = get_or p.variables i no_variable in
      let j = at_there no_variable p.variables i lt in
      same_shown (is_parameter_of q v.role) (leb d.first_parameter i && ltb i (d.first_parameter + d.parameters))
      (λ e. within_shown d.first_parameter d.parameters i (f.all_owned i v j (parameter_told q v.role e)))
      (λ e. parameter_shown q v.role (f.owned i v j (within_told d.first_parameter d.parameters i e)))

  parameters_pass : (q : ℕ) (d : Procedure) → ProcedureIs p q d → parameters_fit p.variables q d ≡ true
  parameters_pass q d h =
      let f = w.procedures q d h in
      and_from _ _
      (and_from _ _
      (and_from _ _ (le-leb d.parameters 8 f.few) (le-leb (d.first_parameter + d.parameters) (length p.variables) f.there))
      (or_shown (eqb d.parameters 0) _ (λ e. eq-eqb d.first_parameter 0 (f.none (eqb-true d.parameters 0 e)))))
      (all_below_from (owned_at p.variables q d.first_parameter d.parameters) (length p.variables) (λ i lt. owned_passes q i d h lt))

  procedure_passes : (q : ℕ) (d : Procedure) → ProcedureIs p q d → ProcedureChecks r p q d
  procedure_passes q d h =
      let f = w.procedures q d h in
      let (y, i, s) = statement_kind (t q d h).statement in
      record {
        result = and_from (r.is_level d.level) (void_fits d.result d.level) f.level (void_shown d.result d.level f.void_public);
        parameters = parameters_pass q d h;
        above = λ o b e j. f.rises o b (omega arith) j;
        body = f.body;
        statement = λ x j. let same : x ≡ y = cc in ap statement_node same ∙ s;
        last = f.main_last;
        main = or_shown (eqb (q + 1) (length p.procedures)) _
            (λ e. let last : suc q ≡ length p.procedures = omega (arith, eqb-true (q + 1) (length p.procedures) e) in
            and_from (is_absent d.result) (eqb d.parameters 0) (absent_shown d.result (f.main_void last)) (eq-eqb d.parameters 0 (f.main_bare last)));
      }

  -- ---- nodes

  some : 1 ≤ length p.procedures
  some = w.some_procedures

  pub rises : (o q : ℕ) (b d : Procedure) → o < q → ProcedureIs p o b → ProcedureIs p q d → b.body < d.body
  rises o q b d lt h i = (w.procedures q d i).rises o b lt h

  pub last : (q : ℕ) (d : Procedure) → ProcedureIs p q d → suc q ≡ length p.procedures → suc d.body ≡ length p.nodes
  last q d h = (w.procedures q d h).main_last

  pub beside : (n m : ℕ) (x : Node) → NodeIs p n x → Among m (children x) → home p m ≡ home p n
  beside n m x h c =
      let lt = at_below no_node p.nodes n x h in
      let less = w.below n m x h c in
      belongs_once p some rises last (home p m) (home p n) m (belongs p some rises last m (omega arith)) (w.together n m (home p n) x h c (belongs p some rises last n lt))

  once : (n : ℕ) → n < length p.nodes → is_body p.procedures n ≡ false → times_child n p.nodes ≡ 1
  once n lt e = w.once n lt (λ b. both_ways (is_body p.procedures n) e (body_shown p some rises last n lt b))

  bodies : (n : ℕ) → n < length p.nodes → is_body p.procedures n ≡ true → Derived r p (home p n) n
  bodies n lt e =
      let (d, h, s) = body_told p some rises last n lt e in
      subst (Derived r p (home p n)) s (statement_derived (t (home p n) d h).statement)

  derived : (n : ℕ) → n < length p.nodes → Derived r p (home p n) n
  derived n lt = reached r p w.below beside once bodies n lt

  there : (g : ℕ) (d : Procedure) → ProcedureIs p g d → d.first_parameter + d.parameters ≤ length p.variables
  there g d h = (w.procedures g d h).there

  passing : (n : ℕ) → Derived r p (home p n) n → Passing r p w.few_nodes w.below beside there (home p n) n
  passing n (expression_derived d) = expression_passes r p w.few_nodes w.below beside there refl d
  passing n (void_derived d) = void_passes r p w.few_nodes w.below beside there refl d
  passing n (arguments_derived d) = argument_node_passes r p w.few_nodes w.below beside there refl d
  passing n (statement_derived d) = statement_passes r p w.few_nodes w.below beside there refl d

  -- the demand on a body
  demand : (n : ℕ) (x : Node) (b : Bool) (d : Procedure) → NodeIs p n x → ProcedureIs p (home p n) d → eqb d.body n ≡ b → cond b (body_exits_fit d.result (class_exits (class_of r (below r p n) x))) true ≡ true
  demand n x false d h i e = refl
  demand n x true d h i e =
      let k = t (home p n) d i in
      let s = subst (λ (m : ℕ). Statement r p (home p n) m k.exits) (eqb-true d.body n e) k.statement in
      ap (λ (c : Class). body_exits_fit d.result (class_exits c)) (sym (class_is r p n x h) ∙ statement_class r p w.below s) ∙ ends_shown d.result k.exits k.ends

  body_passes : (n : ℕ) (x : Node) → NodeIs p n x → body_fits n (procedure_at (below r p n) (home p n)) (class_of r (below r p n) x) ≡ true
  unfolding below
  body_passes n x h =
      let b = belongs p some rises last n (at_below no_node p.nodes n x h) in
      ap (λ (o : Option Procedure). body_fits n o (class_of r (below r p n) x)) b.is ∙ demand n x (eqb b.procedure.body n) b.procedure h b.is refl

  row_shown : (b : Bool) (o : Option Refusal) (y : Refusal) → b ≡ true → o ≡ None → cond b o (Some y) ≡ None
  row_shown b o y e f = ap (λ (c : Bool). cond c o (Some y)) e ∙ f

  node_passes : (n : ℕ) (x : Node) → NodeIs p n x → first_broken r (below r p n) n (home p n) x node_rows ≡ None
  node_passes n x h =
      let (y, i, a) = passing n (derived n (at_below no_node p.nodes n x h)) in
      let same : y ≡ x = cc in
      let k = subst (Passes r (below r p n) n (home p n)) same a in
      row_shown _ _ _ k.child (row_shown _ _ _ k.scope (row_shown _ _ _ k.called (row_shown _ _ _ k.types (row_shown _ _ _ k.levels
      (row_shown _ _ _ (and_from (parts_fit (below r p n) x) _ k.parts (body_passes n x h)) refl)))))

  name_passes : (n : ℕ) → n < length p.nodes → (is_body p.procedures n || eqb (times_child n p.nodes) 1) ≡ true
  name_passes n lt =
      ⊎_elim (λ e. ap (λ (b : Bool). b || eqb (times_child n p.nodes) 1) e)
      (λ e. ap (λ (b : Bool). b || eqb (times_child n p.nodes) 1) e ∙ eq-eqb (times_child n p.nodes) 1 (once n lt e))
      (cases_Bool (is_body p.procedures n))

  pub checks : Checks r p
  checks =
      record {
        sizes = record { some_nodes = w.some_nodes; few_nodes = w.few_nodes; few_variables = w.few_variables; some_procedures = w.some_procedures; few_procedures = w.few_procedures };
        variables = variable_passes;
        procedures = procedure_passes;
        nodes = node_passes;
        names = name_passes;
      }
