-- A node that passes the rows, above nodes with derivations, has a derivation.
use Rattle.std.proofs.Common.{◌≡◌, ℕ, zero, suc, ◌+◌, ◌<◌, ◌≤◌, Bool, true, false, cond, not as negate, ◌&&◌, ◌||◌, eqb, ltb, List, [], length, get_or, take, drop, Some, None, Option, sym, refl, ap, ◌∙◌, subst, le_refl, not-suc-le-zero, arith, drop-cons}
use Rattle.std.proofs.lemmas.Bool.{ltb-true, eqb-true, and_parts}
use Rattle.words.specs.Numbers.{type_number}
use Rattle.words.specs.declared.types.DataType.{DataType}
use Rattle.words.specs.declared.types.DataType.TheVariants.{Bool as Boolean, Int, Unsigned}
use Rattle.words.specs.declared.types.Comparison.{Comparison as Order}
use Rattle.words.specs.declared.types.Comparison.TheVariants.{Equal, NotEqual, Less, LessOrEqual, Greater, GreaterOrEqual}
use Rattle.levels.specs.Rules.{Rules}
use Rattle.program.specs.Program.{Program, no_node, no_variable}
use Rattle.program.specs.declared.records.Node.{Node}
use Rattle.program.specs.declared.records.Node.TheVariants.{Constant, Variable, Minus, Not, Arithmetic, Comparison, And, Or, Choice, Assignment, Call, Argument as ArgumentNode, Release, Expression as ExpressionNode, Sequence, If, IfElse, While, DoWhile, Return, ReturnVoid, Break, Continue, Definition, Output}
use Rattle.program.specs.declared.records.Role.{Role}
use Rattle.program.specs.declared.records.Role.TheVariants.{Global, Input, Local, Parameter}
use Rattle.program.specs.declared.records.Variable.{Variable as VariableRecord}
use Rattle.program.specs.declared.records.Procedure.{Procedure}
use Rattle.typing.specs.Classes.{class_of, class_of_variable, class_of_call}
use Rattle.typing.specs.Environment.{node_at, variable_at, procedure_at, type_of, level_of, exits_of, type_in, level_in, exits_in, class_type, class_level, class_exits}
use Rattle.typing.specs.Exits.{falling, returning}
use Rattle.typing.specs.Rows.{child_class, class_within, is_value, is_argument, is_statement, value_child, statement_child, argument_child, readable, readable_role, assignable, assignable_role, definable, definable_role, agree, variable_type, variable_level, argument_fits, argument_in, argument_node, first_argument_fits, next_argument, arguments_fit, call_fits, numeric, is_equality, arithmetic_takes, comparison_takes, result_of, is_void, is_absent, is_bool, is_public, result_level, ArgumentTest, Types, Levels}
use Rattle.typing.specs.Typing.{NodeIs, ProcedureIs, Readable, Assignable, Definable, Numeric, Comparable, parameters_of, Expression, Arguments, VoidCall, Statement, constant, variable, minus, not, arithmetic, comparison, and, or, choice, assignment, call, release, none, argument, void_call, expression, procedure_call, sequence, if, if_else, while, do_while, return, return_void, break, continue, definition, output}
use Rattle.typing.specs.declared.classes.Class.{Class}
use Rattle.typing.specs.declared.classes.Class.TheVariants.{Value, Argument, Statement as StatementClass}
use Rattle.typing.specs.declared.classes.Exits.{Exits}
use Rattle.typing.specs.declared.classes.TypedNode.{TypedNode}
use Rattle.typing.proofs.Tabled.{home, below, typed, seen, node_is, class_is, procedure_is, at_there, some_none, false_true}
use Rattle.typing.proofs.Complete.{Passes}

-- ---- what single tests tell

number_is : (t u : DataType) → type_number t ≡ type_number u → t ≡ u
number_is Boolean Boolean h = refl
number_is Boolean Int h = absurd (omega arith)
number_is Boolean Unsigned h = absurd (omega arith)
number_is Int Boolean h = absurd (omega arith)
number_is Int Int h = refl
number_is Int Unsigned h = absurd (omega arith)
number_is Unsigned Boolean h = absurd (omega arith)
number_is Unsigned Int h = absurd (omega arith)
number_is Unsigned Unsigned h = refl

agreed : (x y : Option DataType) → agree x y ≡ true → (t : DataType) × (x ≡ Some t) × (y ≡ Some t)
agreed None y h = false_true h
agreed (Some t) None h = false_true h
agreed (Some t) (Some u) h =
    let e = number_is t u (eqb-true (type_number t) (type_number u) h) in (t, refl, ap Some (sym e))

agreed_with : (x : Option DataType) (t : DataType) → agree x (Some t) ≡ true → x ≡ Some t
agreed_with x t h = let e = agreed x (Some t) h in e.1 ∙ sym e.2

numeric_told : (t : DataType) → numeric t ≡ true → Numeric t
numeric_told Boolean h = false_true h
numeric_told Int h = tt
numeric_told Unsigned h = tt

comparable_told : (o : Order) (t : DataType) → (is_equality o || numeric t) ≡ true → Comparable o t
comparable_told Equal t h = tt
comparable_told NotEqual t h = tt
comparable_told Less t h = numeric_told t h
comparable_told LessOrEqual t h = numeric_told t h
comparable_told Greater t h = numeric_told t h
comparable_told GreaterOrEqual t h = numeric_told t h

readable_told : (q : ℕ) (u : Role) → readable_role q u ≡ true → Readable q u
readable_told q Global h = tt
readable_told q Input h = tt
readable_told q (Local o) h = eqb-true o q h
readable_told q (Parameter o) h = eqb-true o q h

assignable_told : (q : ℕ) (u : Role) → assignable_role q u ≡ true → Assignable q u
assignable_told q Global h = tt
assignable_told q Input h = tt
assignable_told q (Local o) h = eqb-true o q h
assignable_told q (Parameter o) h = false_true h

definable_told : (q : ℕ) (u : Role) → definable_role q u ≡ true → Definable q u
definable_told q Global h = false_true h
definable_told q Input h = false_true h
definable_told q (Local o) h = eqb-true o q h
definable_told q (Parameter o) h = false_true h

present : {X : Type 0} (o : Option X) → negate (is_absent o) ≡ true → (x : X) × (o ≡ Some x)
present None h = false_true h
present (Some x) h = (x, refl)

pub absent : {X : Type 0} (o : Option X) → is_absent o ≡ true → o ≡ None
absent None h = refl
absent (Some x) h = false_true h

module _ (r : Rules) (p : Program) where
  -- an argument that is there lies below node n, in procedure q
  Chain : ℕ → ℕ → Option ℕ → Type 0
  Chain q n None = Unit {0}
  Chain q n (Some m) = (m < n) × (home p m ≡ q) × ((typed r p m).class ≡ Argument)

  -- what a derivation for node n of procedure q is, where its class is known
  unfoldable pub Derives : ℕ → ℕ → Class → Type 0
  unfolding Chain
  Derives q n (Value None l) = VoidCall r p q n
  Derives q n (Value (Some t) l) = Expression r p q n t l
  Derives q n Argument = (a : ℕ) × (next : Option ℕ) × NodeIs p n (ArgumentNode a next) × (a < n) × (home p a ≡ q) × Chain q n next
  Derives q n (StatementClass x) = Statement r p q n x

  as_expression : (q n : ℕ) (t : DataType) (c : Class) → class_type c ≡ Some t → Derives q n c → Expression r p q n t (class_level c)
  unfolding Derives
  as_expression q n t (Value None l) h d = some_none t (sym h)
  as_expression q n t (Value (Some u) l) h d = let e : u ≡ t = cc in subst (λ (v : DataType). Expression r p q n v l) e d
  as_expression q n t Argument h d = some_none t (sym h)
  as_expression q n t (StatementClass x) h d = some_none t (sym h)

  pub as_statement : (q n : ℕ) (c : Class) → is_statement (Some c) ≡ true → Derives q n c → Statement r p q n (class_exits c)
  unfolding Derives
  as_statement q n (Value t l) h d = false_true h
  as_statement q n Argument h d = false_true h
  as_statement q n (StatementClass x) h d = d

  as_argument : (c : Class) → is_argument (Some c) ≡ true → c ≡ Argument
  as_argument (Value t l) h = false_true h
  as_argument Argument h = refl
  as_argument (StatementClass x) h = false_true h

  -- what the row on children tells of one, by a test that an absent class fails
  pub record Child (q n m : ℕ) (f : Option Class → Bool) : Type 0 where
    pub lt : m < n
    pub at_home : home p m ≡ q
    pub fits : f (Some (typed r p m).class) ≡ true

  within : (q m : ℕ) (f : Option Class → Bool) → f None ≡ false → (b : Bool) → eqb (typed r p m).procedure q ≡ b → f (cond b (Some (typed r p m).class) None) ≡ true → (home p m ≡ q) × (f (Some (typed r p m).class) ≡ true)
  within q m f z true e h = (sym (procedure_is r p m) ∙ eqb-true (typed r p m).procedure q e, h)
  within q m f z false e h = false_true (sym z ∙ h)

  tested : (q n m : ℕ) (f : Option Class → Bool) → f None ≡ false → (b c : Bool) → ltb m n ≡ c → f (cond b (cond c (class_within q (node_at (below r p n) m)) None) None) ≡ true → Child q n m f
  tested q n m f z false c e h = false_true (sym z ∙ h)
  tested q n m f z true false e h = false_true (sym z ∙ h)
  tested q n m f z true true e h =
      let lt = ltb-true m n e in
      let w = within q m f z (eqb (typed r p m).procedure q) refl (sym (ap (λ (o : Option TypedNode). f (class_within q o)) (seen r p n m lt)) ∙ h) in
      record { lt = lt; at_home = w.0; fits = w.1 }

  pub child : (q n m : ℕ) (f : Option Class → Bool) → f None ≡ false → f (child_class (below r p n) n q m) ≡ true → Child q n m f
  child q n m f z h = tested q n m f z (ltb m 1024) (ltb m n) refl h

  -- ---- one node, above nodes that have derivations

  module _ (n : ℕ) (lower_derive : (m : ℕ) → m < n → Derives (home p m) m (typed r p m).class) where
    derive_in : (q m : ℕ) → m < n → home p m ≡ q → Derives q m (typed r p m).class
    derive_in q m lt e = subst (λ (o : ℕ). Derives o m (typed r p m).class) e (lower_derive m lt)

    operand_of : (q m : ℕ) (t : DataType) → m < n → home p m ≡ q → type_of (below r p n) m ≡ Some t → Expression r p q m t (level_of (below r p n) m)
    operand_of q m t lt e h =
        subst (λ (l : ℕ). Expression r p q m t l) (sym (ap level_in (seen r p n m lt)))
        (as_expression q m t (typed r p m).class (sym (ap type_in (seen r p n m lt)) ∙ h) (derive_in q m lt e))

    operand : (q m : ℕ) (t : DataType) → value_child (below r p n) n q m ≡ true → type_of (below r p n) m ≡ Some t → Expression r p q m t (level_of (below r p n) m)
    operand q m t f h = let c = child q n m is_value refl f in operand_of q m t c.lt c.at_home h

    public_operand : (q m : ℕ) (t : DataType) → value_child (below r p n) n q m ≡ true → type_of (below r p n) m ≡ Some t → is_public (below r p n) m ≡ true → Expression r p q m t 0
    public_operand q m t f h l =
        subst (λ (k : ℕ). Expression r p q m t k) (eqb-true (level_of (below r p n) m) 0 l) (operand q m t f h)

    guard : (q m : ℕ) → value_child (below r p n) n q m ≡ true → is_bool (below r p n) m ≡ true → is_public (below r p n) m ≡ true → Expression r p q m Boolean 0
    guard q m f b l = public_operand q m Boolean f (agreed_with (type_of (below r p n) m) Boolean b) l

    part : (q m : ℕ) → statement_child (below r p n) n q m ≡ true → Statement r p q m (exits_of (below r p n) m)
    part q m f =
        let c = child q n m is_statement refl f in
        subst (λ (x : Exits). Statement r p q m x) (sym (ap exits_in (seen r p n m c.lt)))
        (as_statement q m (typed r p m).class c.fits (derive_in q m c.lt c.at_home))

    -- ---- the arguments of a call

    chain : (q : ℕ) (k : Option ℕ) → argument_child (below r p n) n q k ≡ true → Chain q n k
    unfolding Chain
    chain q None f = tt
    chain q (Some m) f = let c = child q n m is_argument refl f in (c.lt, c.at_home, as_argument (typed r p m).class c.fits)

    -- a chain that lies below m lies below n
    chain_down : (q m : ℕ) (k : Option ℕ) → m < n → Chain q m k → Chain q n k
    unfolding Chain
    chain_down q m None lt c = tt
    chain_down q m (Some o) lt c = (omega (arith, c.0), c.1, c.2)

    argument_typed : (q v a : ℕ) → v < length p.variables → a < n → home p a ≡ q → argument_fits r (below r p n) Types v a ≡ true → Expression r p q a (get_or p.variables v no_variable).data_type (level_of (below r p n) a)
    unfolding below
    argument_typed q v a lt less e h =
        let x = get_or p.variables v no_variable in
        let i = at_there no_variable p.variables v lt in
        operand_of q a x.data_type less e (agreed_with (type_of (below r p n) a) x.data_type (sym (ap (λ (o : Option VariableRecord). agree (type_of (below r p n) a) (variable_type o)) i) ∙ h))

    argument_flows : (v a : ℕ) → v < length p.variables → argument_fits r (below r p n) Levels v a ≡ true → r.flows (level_of (below r p n) a) (get_or p.variables v no_variable).level ≡ true
    unfolding below
    argument_flows v a lt h =
        sym (ap (λ (o : Option VariableRecord). r.flows (level_of (below r p n) a) (variable_level o)) (at_there no_variable p.variables v lt)) ∙ h

    -- a test of the arguments from j on, where j is known
    at_argument : (m v j a : ℕ) (next : Option ℕ) (t : ArgumentTest) → j < n → NodeIs p j (ArgumentNode a next) → arguments_fit r (below r p n) t (suc m) v (Some j) ≡ true → (argument_fits r (below r p n) t v a ≡ true) × (arguments_fit r (below r p n) t m (suc v) next ≡ true)
    unfolding arguments_fit
    at_argument m v j a next t lt h f =
        let known = ap argument_in (seen r p n j lt) ∙ ap argument_node (node_is r p j _ h) in
        and_parts (argument_fits r (below r p n) t v a) (arguments_fit r (below r p n) t m (suc v) next)
        (sym (ap (λ (o : Option (ℕ × Option ℕ)). first_argument_fits r (below r p n) t v o && arguments_fit r (below r p n) t m (suc v) (next_argument o)) known) ∙ f)

    arguments : (q m v : ℕ) (k : Option ℕ) → arguments_fit r (below r p n) Types m v k ≡ true → arguments_fit r (below r p n) Levels m v k ≡ true → v + m ≤ length p.variables → Chain q n k → Arguments r p q k (take m (drop v p.variables))
    unfolding arguments_fit Chain Derives
    arguments q zero v k t l fits c = subst (λ (o : Option ℕ). Arguments r p q o []) (sym (absent k t)) none
    arguments q (suc m) v None t l fits c = false_true t
    arguments q (suc m) v (Some j) t l fits c =
        let (a, next, h, less, at_home, rest) = subst (Derives q j) c.2 (derive_in q j c.0 c.1) in
        let types = at_argument m v j a next Types c.0 h t in
        let levels = at_argument m v j a next Levels c.0 h l in
        let lt : v < length p.variables = omega arith in
        let down : a < n = omega (arith, c.0) in
        let after = arguments q m (suc v) next types.1 levels.1 (omega arith) (chain_down q j next c.0 rest) in
        subst (λ (xs : List VariableRecord). Arguments r p q (Some j) xs) (sym (ap (take (suc m)) (drop-cons p.variables v no_variable lt)))
        (argument h (argument_typed q v a lt down at_home types.0) (argument_flows v a lt levels.0) after)

    -- ---- the rule of each kind

    value : (q l : ℕ) (u : Option DataType) (t : DataType) → u ≡ Some t → Expression r p q n t l → Derives q n (Value u l)
    unfolding Derives
    value q l u t e d = subst (λ (o : Option DataType). Derives q n (Value o l)) (sym e) d

    variable_rule : (q v : ℕ) (o : Option VariableRecord) → NodeIs p n (Variable v) → variable_at (below r p n) v ≡ o → readable q o ≡ true → Derives q n (class_of_variable o)
    unfolding Derives below
    variable_rule q v None h i s = false_true s
    variable_rule q v (Some x) h i s = variable h i (readable_told q x.role s)

    assignment_rule : (q v b : ℕ) (o : Option VariableRecord) → NodeIs p n (Assignment v b) → variable_at (below r p n) v ≡ o → assignable q o ≡ true → value_child (below r p n) n q b ≡ true → agree (type_of (below r p n) b) (variable_type o) ≡ true → r.flows (level_of (below r p n) b) (variable_level o) ≡ true → Derives q n (class_of_variable o)
    unfolding Derives below
    assignment_rule q v b None h i s c t f = false_true s
    assignment_rule q v b (Some x) h i s c t f =
        assignment h i (assignable_told q x.role s) (operand q b x.data_type c (agreed_with (type_of (below r p n) b) x.data_type t)) f

    call_result : (q g : ℕ) (f : Option ℕ) (d : Procedure) (u : Option DataType) → NodeIs p n (Call g f) → g < q → ProcedureIs p g d → d.result ≡ u → Arguments r p q f (parameters_of p d) → Derives q n (Value u d.level)
    unfolding Derives
    call_result q g f d None h lt i e s = void_call h lt i e s
    call_result q g f d (Some t) h lt i e s = call h lt i e s

    call_rule : (q g : ℕ) (f : Option ℕ) (o : Option Procedure) → NodeIs p n (Call g f) → procedure_at (below r p n) g ≡ o → ((d : Procedure) → ProcedureIs p g d → d.first_parameter + d.parameters ≤ length p.variables) → ltb g q ≡ true → argument_child (below r p n) n q f ≡ true → call_fits r (below r p n) Types o f ≡ true → call_fits r (below r p n) Levels o f ≡ true → Derives q n (class_of_call o)
    unfolding below
    call_rule q g f None h i there lt c t l = false_true t
    call_rule q g f (Some d) h i there lt c t l =
        call_result q g f d d.result h (ltb-true g q lt) i refl (arguments q d.parameters d.first_parameter f t l (there d i) (chain q f c))

    argument_rule : (q a : ℕ) (k : Option ℕ) → NodeIs p n (ArgumentNode a k) → value_child (below r p n) n q a ≡ true → argument_child (below r p n) n q k ≡ true → Derives q n Argument
    unfolding Derives
    argument_rule q a k h c s = let o = child q n a is_value refl c in (a, k, h, o.lt, o.at_home, chain q k s)

    expression_rule : (q a : ℕ) (c : Class) → NodeIs p n (ExpressionNode a) → is_value (Some c) ≡ true → Derives q a c → Statement r p q n falling
    unfolding Derives
    expression_rule q a (Value None l) h f d = procedure_call h d
    expression_rule q a (Value (Some t) l) h f d = expression h d
    expression_rule q a Argument h f d = false_true f
    expression_rule q a (StatementClass x) h f d = false_true f

    return_rule : (q a : ℕ) (o : Option Procedure) → NodeIs p n (Return a) → procedure_at (below r p n) q ≡ o → value_child (below r p n) n q a ≡ true → agree (type_of (below r p n) a) (result_of o) ≡ true → r.flows (level_of (below r p n) a) (result_level o) ≡ true → Statement r p q n returning
    unfolding below
    return_rule q a None h i c t f = let e = agreed (type_of (below r p n) a) None t in some_none e.0 (sym e.2)
    return_rule q a (Some d) h i c t f =
        let e = agreed (type_of (below r p n) a) d.result t in return h i e.2 (operand q a e.0 c e.1) f

    return_void_rule : (q : ℕ) (o : Option Procedure) → NodeIs p n ReturnVoid → procedure_at (below r p n) q ≡ o → is_void o ≡ true → Statement r p q n returning
    unfolding below
    return_void_rule q None h i v = false_true v
    return_void_rule q (Some d) h i v = return_void h i (absent d.result v)

    definition_rule : (q v : ℕ) (o : Option VariableRecord) → NodeIs p n (Definition v) → variable_at (below r p n) v ≡ o → definable q o ≡ true → Statement r p q n falling
    unfolding below
    definition_rule q v None h i s = false_true s
    definition_rule q v (Some x) h i s = definition h i (definable_told q x.role s)

    pub node_derives : (q : ℕ) (x : Node) → NodeIs p n x → ((g : ℕ) (d : Procedure) → ProcedureIs p g d → d.first_parameter + d.parameters ≤ length p.variables) → Passes r (below r p n) n q x → Derives q n (class_of r (below r p n) x)
    unfolding Derives
    node_derives q (Constant t w) h there k = constant h
    node_derives q (Variable v) h there k = variable_rule q v (variable_at (below r p n) v) h refl k.scope
    node_derives q (Minus a) h there k = minus h (operand q a Int k.child (agreed_with (type_of (below r p n) a) Int k.types))
    node_derives q (Not a) h there k = not h (operand q a Boolean k.child (agreed_with (type_of (below r p n) a) Boolean k.types))
    node_derives q (Arithmetic o a b) h there k =
        let c = and_parts (value_child (below r p n) n q a) _ k.child in
        let t = and_parts (agree (type_of (below r p n) a) (type_of (below r p n) b)) _ k.types in
        let e = agreed (type_of (below r p n) a) (type_of (below r p n) b) t.0 in
        value q _ (type_of (below r p n) a) e.0 e.1
        (arithmetic h (numeric_told e.0 (sym (ap arithmetic_takes e.1) ∙ t.1)) (operand q a e.0 c.0 e.1) (operand q b e.0 c.1 e.2))
    node_derives q (Comparison o a b) h there k =
        let c = and_parts (value_child (below r p n) n q a) _ k.child in
        let t = and_parts (agree (type_of (below r p n) a) (type_of (below r p n) b)) _ k.types in
        let e = agreed (type_of (below r p n) a) (type_of (below r p n) b) t.0 in
        comparison h (comparable_told o e.0 (sym (ap (comparison_takes o) e.1) ∙ t.1)) (operand q a e.0 c.0 e.1) (operand q b e.0 c.1 e.2)
    node_derives q (And a b) h there k =
        let c = and_parts (value_child (below r p n) n q a) _ k.child in
        let t = and_parts (is_bool (below r p n) a) _ k.types in
        and h (operand q a Boolean c.0 (agreed_with _ Boolean t.0)) (operand q b Boolean c.1 (agreed_with _ Boolean t.1))
    node_derives q (Or a b) h there k =
        let c = and_parts (value_child (below r p n) n q a) _ k.child in
        let t = and_parts (is_bool (below r p n) a) _ k.types in
        or h (operand q a Boolean c.0 (agreed_with _ Boolean t.0)) (operand q b Boolean c.1 (agreed_with _ Boolean t.1))
    node_derives q (Choice a b d) h there k =
        let c = and_parts (value_child (below r p n) n q a && value_child (below r p n) n q b) _ k.child in
        let c' = and_parts (value_child (below r p n) n q a) _ c.0 in
        let t = and_parts (is_bool (below r p n) a) _ k.types in
        let e = agreed (type_of (below r p n) b) (type_of (below r p n) d) t.1 in
        value q _ (type_of (below r p n) b) e.0 e.1
        (choice h (guard q a c'.0 t.0 k.levels) (operand q b e.0 c'.1 e.1) (operand q d e.0 c.1 e.2))
    node_derives q (Assignment v b) h there k = assignment_rule q v b (variable_at (below r p n) v) h refl k.scope k.child k.types k.levels
    node_derives q (Call g f) h there k =
        let c = and_parts (ltb g q) _ k.called in
        call_rule q g f (procedure_at (below r p n) g) h refl (there g) c.0 k.child k.types k.levels
    node_derives q (ArgumentNode a m) h there k =
        let c = and_parts (value_child (below r p n) n q a) _ k.child in argument_rule q a m h c.0 c.1
    node_derives q (Release a) h there k =
        let e = present (type_of (below r p n) a) k.types in
        value q 0 (type_of (below r p n) a) e.0 e.1 (release h (operand q a e.0 k.child e.1))
    node_derives q (ExpressionNode a) h there k =
        let c = child q n a is_value refl k.child in
        expression_rule q a (typed r p a).class h c.fits (derive_in q a c.lt c.at_home)
    node_derives q (Sequence a b) h there k =
        let c = and_parts (statement_child (below r p n) n q a) _ k.child in sequence h (part q a c.0) k.parts (part q b c.1)
    node_derives q (If a b) h there k =
        let c = and_parts (value_child (below r p n) n q a) _ k.child in if h (guard q a c.0 k.types k.levels) (part q b c.1)
    node_derives q (IfElse a b d) h there k =
        let c = and_parts (value_child (below r p n) n q a && statement_child (below r p n) n q b) _ k.child in
        let c' = and_parts (value_child (below r p n) n q a) _ c.0 in
        if_else h (guard q a c'.0 k.types k.levels) (part q b c'.1) (part q d c.1)
    node_derives q (While a b) h there k =
        let c = and_parts (value_child (below r p n) n q a) _ k.child in
        while h (guard q a c.0 k.types k.levels) (part q b c.1) k.parts
    node_derives q (DoWhile a b) h there k =
        let c = and_parts (value_child (below r p n) n q a) _ k.child in
        do_while h (guard q a c.0 k.types k.levels) (part q b c.1) k.parts
    node_derives q (Return a) h there k = return_rule q a (procedure_at (below r p n) q) h refl k.child k.types k.levels
    node_derives q ReturnVoid h there k = return_void_rule q (procedure_at (below r p n) q) h refl k.types
    node_derives q Break h there k = break h
    node_derives q Continue h there k = continue h
    node_derives q (Definition v) h there k = definition_rule q v (variable_at (below r p n) v) h refl k.scope
    node_derives q (Output a) h there k =
        let e = present (type_of (below r p n) a) k.types in output h (public_operand q a e.0 k.child e.1 k.levels)

  -- ---- all nodes

  module _
      (there : (g : ℕ) (d : Procedure) → ProcedureIs p g d → d.first_parameter + d.parameters ≤ length p.variables)
      (passes : (n : ℕ) (x : Node) → NodeIs p n x → Passes r (below r p n) n (home p n) x)
    where
      one_derives : (n : ℕ) → n < length p.nodes → ((m : ℕ) → m < n → Derives (home p m) m (typed r p m).class) → Derives (home p n) n (typed r p n).class
      one_derives n lt before =
          let h = at_there no_node p.nodes n lt in
          subst (Derives (home p n) n) (sym (class_is r p n _ h)) (node_derives n before (home p n) _ h there (passes n _ h))

      up_to : (k n : ℕ) → k ≤ length p.nodes → n < k → Derives (home p n) n (typed r p n).class
      up_to zero n few lt = absurd (not-suc-le-zero lt)
      up_to (suc k) n few lt = one_derives n (omega arith) (λ m less. up_to k m (omega arith) (omega arith))

      pub all_derive : (n : ℕ) → n < length p.nodes → Derives (home p n) n (typed r p n).class
      all_derive n lt = up_to (length p.nodes) n (le_refl (length p.nodes)) lt
