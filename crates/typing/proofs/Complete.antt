-- A node with a derivation passes the rows.
use Rattle.std.proofs.Common.{◌≡◌, ℕ, zero, suc, ◌+◌, ◌<◌, ◌≤◌, Bool, true, false, cond, not as negate, ◌&&◌, ◌||◌, eqb, ltb, List, [], ◌∷◌, length, get_or, take, drop, Some, None, Option, sym, refl, ap, ◌∙◌, ap₂, inl, inr, arith, drop-cons}
use Rattle.std.proofs.lemmas.Bool.{lt-ltb, eq-eqb, and_from as two}
use Rattle.words.specs.declared.types.DataType.{DataType}
use Rattle.words.specs.declared.types.DataType.TheVariants.{Bool as Boolean, Int, Unsigned}
use Rattle.words.specs.declared.types.Comparison.{Comparison as Order}
use Rattle.words.specs.declared.types.Comparison.TheVariants.{Equal, NotEqual, Less, LessOrEqual, Greater, GreaterOrEqual}
use Rattle.levels.specs.Rules.{Rules}
use Rattle.program.specs.Program.{Program, children, no_node, no_variable}
use Rattle.program.specs.declared.records.Node.{Node}
use Rattle.program.specs.declared.records.Node.TheVariants.{Call, Argument as ArgumentNode}
use Rattle.program.specs.declared.records.Role.{Role}
use Rattle.program.specs.declared.records.Role.TheVariants.{Global, Input, Local, Parameter}
use Rattle.program.specs.declared.records.Variable.{Variable as VariableRecord}
use Rattle.program.specs.declared.records.Procedure.{Procedure}
use Rattle.typing.specs.Environment.{Environment, node_at, procedure_at, procedure_of, type_of, level_of, exits_of}
use Rattle.typing.specs.Formed.{Among}
use Rattle.typing.specs.Rows.{child_class, class_within, is_value, is_argument, is_statement, argument_child, children_fit, readable, readable_role, assignable, assignable_role, definable, definable_role, scope_fits, agree, variable_type, variable_level, argument_fits, argument_at, argument_in, argument_node, first_argument_fits, next_argument, arguments_fit, call_fits, calls_fit, arithmetic_takes, comparison_takes, result_of, is_void, is_absent, types_fit, result_level, levels_fit, repeats, parts_fit, ArgumentTest, Number, Types, Levels}
use Rattle.typing.specs.Typing.{NodeIs, VariableIs, ProcedureIs, Readable, Assignable, Definable, Numeric, Comparable, parameters_of, Expression, Arguments, VoidCall, Statement, constant, variable, minus, not, arithmetic, comparison, and, or, choice, assignment, call, release, none, argument, void_call, expression, procedure_call, sequence, if, if_else, while, do_while, return, return_void, break, continue, definition, output}
use Rattle.typing.specs.declared.classes.Class.{Class}
use Rattle.typing.specs.declared.classes.Class.TheVariants.{Value, Statement as StatementClass}
use Rattle.typing.specs.declared.classes.Exits.{Exits}
use Rattle.typing.proofs.Tabled.{below, typed, seen, node_is, procedure_is, at_below, at_there, some_none}
use Rattle.typing.proofs.Determined.{expression_class, argument_class, void_class, statement_class, type_known, level_known, exits_known}

-- ---- the tests of single facts

pub agree_same : (t : DataType) → agree (Some t) (Some t) ≡ true
agree_same Boolean = refl
agree_same Int = refl
agree_same Unsigned = refl

numeric_taken : (t : DataType) → Numeric t → arithmetic_takes (Some t) ≡ true
numeric_taken Boolean h = absurd h
numeric_taken Int h = refl
numeric_taken Unsigned h = refl

order_taken : (t : DataType) → Numeric t → (false || arithmetic_takes (Some t)) ≡ true
order_taken Boolean h = absurd h
order_taken Int h = refl
order_taken Unsigned h = refl

comparable_taken : (o : Order) (t : DataType) → Comparable o t → comparison_takes o (Some t) ≡ true
comparable_taken Equal t h = refl
comparable_taken NotEqual t h = refl
comparable_taken Less t h = order_taken t h
comparable_taken LessOrEqual t h = order_taken t h
comparable_taken Greater t h = order_taken t h
comparable_taken GreaterOrEqual t h = order_taken t h

readable_passes : (q : ℕ) (u : Role) → Readable q u → readable_role q u ≡ true
readable_passes q Global h = refl
readable_passes q Input h = refl
readable_passes q (Local o) h = eq-eqb o q h
readable_passes q (Parameter o) h = eq-eqb o q h

assignable_passes : (q : ℕ) (u : Role) → Assignable q u → assignable_role q u ≡ true
assignable_passes q Global h = refl
assignable_passes q Input h = refl
assignable_passes q (Local o) h = eq-eqb o q h
assignable_passes q (Parameter o) h = absurd h

definable_passes : (q : ℕ) (u : Role) → Definable q u → definable_role q u ≡ true
definable_passes q Global h = absurd h
definable_passes q Input h = absurd h
definable_passes q (Local o) h = eq-eqb o q h
definable_passes q (Parameter o) h = absurd h

-- all rows but the demand on a body
pub record Passes (r : Rules) (e : Environment) (n q : ℕ) (x : Node) : Type 0 where
  pub child : children_fit e n q x ≡ true
  pub scope : scope_fits e q x ≡ true
  pub called : calls_fit r e q x ≡ true
  pub types : types_fit r e q x ≡ true
  pub levels : levels_fit r e q x ≡ true
  pub parts : parts_fit e x ≡ true

module _
    (r : Rules) (p : Program)
    (few : length p.nodes ≤ 1024)
    (lower : (n m : ℕ) (x : Node) → NodeIs p n x → Among m (children x) → m < n)
    (beside : (n m : ℕ) (x : Node) → NodeIs p n x → Among m (children x) → procedure_of p.procedures m ≡ procedure_of p.procedures n)
    (there : (g : ℕ) (d : Procedure) → ProcedureIs p g d → d.first_parameter + d.parameters ≤ length p.variables)
  where
    abbrev pub Home : ℕ → ℕ → Type 0
    Home q n = q ≡ procedure_of p.procedures n

    child_known : (q n m : ℕ) (x : Node) → Home q n → NodeIs p n x → Among m (children x) → child_class (below r p n) n q m ≡ Some (typed r p m).class
    child_known q n m x home h c =
        let lt = lower n m x h c in
        let small : m < 1024 = omega (arith, at_below no_node p.nodes n x h) in
        let same : (typed r p m).procedure ≡ q = procedure_is r p m ∙ beside n m x h c ∙ sym home in
        ap (λ (b : Bool). cond b (cond (ltb m n) (class_within q (node_at (below r p n) m)) None) None) (lt-ltb m 1024 small)
        ∙ ap (λ (b : Bool). cond b (class_within q (node_at (below r p n) m)) None) (lt-ltb m n lt)
        ∙ ap (class_within q) (seen r p n m lt)
        ∙ ap (λ (b : Bool). cond b (Some (typed r p m).class) None) (eq-eqb (typed r p m).procedure q same)

    value_known : (q n m l : ℕ) (t : Option DataType) (x : Node) → Home q n → NodeIs p n x → Among m (children x) → (typed r p m).class ≡ Value t l → is_value (child_class (below r p n) n q m) ≡ true
    value_known q n m l t x home h c e = ap is_value (child_known q n m x home h c) ∙ ap (λ (k : Class). is_value (Some k)) e

    statement_known : (q n m : ℕ) (y : Exits) (x : Node) → Home q n → NodeIs p n x → Among m (children x) → (typed r p m).class ≡ StatementClass y → is_statement (child_class (below r p n) n q m) ≡ true
    statement_known q n m y x home h c e = ap is_statement (child_known q n m x home h c) ∙ ap (λ (k : Class). is_statement (Some k)) e

    -- an operand of a data type and a level
    record Operand (q n m l : ℕ) (t : DataType) : Type 0 where
      lt : m < n
      fits : is_value (child_class (below r p n) n q m) ≡ true
      type : type_of (below r p n) m ≡ Some t
      level : level_of (below r p n) m ≡ l

    operand : (q n m l : ℕ) (t : DataType) (x : Node) → Home q n → NodeIs p n x → Among m (children x) → Expression r p q m t l → Operand q n m l t
    operand q n m l t x home h c d =
        let k = expression_class r p lower d in
        let lt = lower n m x h c in
        record { lt = lt; fits = value_known q n m l (Some t) x home h c k; type = type_known r p lower n m l (Some t) lt k; level = level_known r p lower n m l (Some t) lt k }

    -- a part that is a statement
    record Part (q n m : ℕ) (y : Exits) : Type 0 where
      fits : is_statement (child_class (below r p n) n q m) ≡ true
      exits : exits_of (below r p n) m ≡ y

    part : (q n m : ℕ) (y : Exits) (x : Node) → Home q n → NodeIs p n x → Among m (children x) → Statement r p q m y → Part q n m y
    part q n m y x home h c d =
        let k = statement_class r p lower d in
        record { fits = statement_known q n m y x home h c k; exits = exits_known r p lower n m y (lower n m x h c) k }

    agrees : (n m : ℕ) (t : DataType) → type_of (below r p n) m ≡ Some t → agree (type_of (below r p n) m) (Some t) ≡ true
    agrees n m t e = ap (λ (u : Option DataType). agree u (Some t)) e ∙ agree_same t

    both_agree : (n a b : ℕ) (t : DataType) → type_of (below r p n) a ≡ Some t → type_of (below r p n) b ≡ Some t → agree (type_of (below r p n) a) (type_of (below r p n) b) ≡ true
    both_agree n a b t d e = ap₂ agree d e ∙ agree_same t

    public : (n m : ℕ) → level_of (below r p n) m ≡ 0 → eqb (level_of (below r p n) m) 0 ≡ true
    public n m e = eq-eqb (level_of (below r p n) m) 0 e

    -- ---- the arguments of a call

    head_is : (v m : ℕ) (x : VariableRecord) (xs : List VariableRecord) → v < length p.variables → x ∷ xs ≡ take (suc m) (drop v p.variables) → (VariableIs p v x) × (xs ≡ take m (drop (suc v) p.variables))
    head_is v m x xs lt h =
        let e : x ∷ xs ≡ get_or p.variables v no_variable ∷ take m (drop (suc v) p.variables) = h ∙ ap (take (suc m)) (drop-cons p.variables v no_variable lt) in
        let first : get_or p.variables v no_variable ≡ x = cc in
        (at_there no_variable p.variables v lt ∙ ap Some first, cc)

    -- an argument that is there lies below the call
    ChainBelow : ℕ → Option ℕ → Type 0
    ChainBelow n None = Unit {0}
    ChainBelow n (Some m) = m < n

    argument_known : (n m a : ℕ) (next : Option ℕ) → m < n → NodeIs p m (ArgumentNode a next) → argument_at (below r p n) (Some m) ≡ Some (a, next)
    argument_known n m a next lt h = ap argument_in (seen r p n m lt) ∙ ap argument_node (node_is r p m _ h)

    argument_passes : (q n v a l : ℕ) (x : VariableRecord) (t : ArgumentTest) → a < n → VariableIs p v x → Expression r p q a x.data_type l → r.flows l x.level ≡ true → argument_fits r (below r p n) t v a ≡ true
    unfolding below
    argument_passes q n v a l x Number lt h d f = refl
    argument_passes q n v a l x Types lt h d f =
        ap₂ (λ (t : Option DataType) (y : Option VariableRecord). agree t (variable_type y)) (type_known r p lower n a l (Some x.data_type) lt (expression_class r p lower d)) h ∙ agree_same x.data_type
    argument_passes q n v a l x Levels lt h d f =
        ap₂ (λ (m : ℕ) (y : Option VariableRecord). r.flows m (variable_level y)) (level_known r p lower n a l (Some x.data_type) lt (expression_class r p lower d)) h ∙ f

    next_below : (n m a : ℕ) (next : Option ℕ) → m < n → NodeIs p m (ArgumentNode a next) → ChainBelow n next
    unfolding ChainBelow
    next_below n m a None lt h = tt
    next_below n m a (Some k) lt h = let less : k < m = lower m k _ h (inr (inl refl)) in omega arith

    arguments_pass : (q n m v : ℕ) (k : Option ℕ) (xs : List VariableRecord) (t : ArgumentTest) → Arguments r p q k xs → xs ≡ take m (drop v p.variables) → v + m ≤ length p.variables → ChainBelow n k → arguments_fit r (below r p n) t m v k ≡ true
    unfolding arguments_fit ChainBelow
    arguments_pass q n zero v None xs t none h fits c = refl
    arguments_pass q n (suc m) v None xs t none h fits c =
        let lt : v < length p.variables = omega arith in
        let e : [] ≡ get_or p.variables v no_variable ∷ take m (drop (suc v) p.variables) = h ∙ ap (take (suc m)) (drop-cons p.variables v no_variable lt) in
        let z : ◌≡◌ {A = ℕ} 0 1 = cc in
        absurd (omega arith)
    arguments_pass q n zero v (Some k) xs t (argument i d f s) h fits c = let z : ◌≡◌ {A = ℕ} 0 1 = cc in absurd (omega arith)
    arguments_pass q n (suc m) v (Some k) xs t (argument {a = a} {l = l} {next = next} {x = x} {xs = ys} i d f s) h fits c =
        let front = head_is v m x ys (omega arith) h in
        let less : a < k = lower k a _ i (inl refl) in
        let here = argument_passes q n v a l x t (omega arith) front.0 d f in
        let after = arguments_pass q n m (suc v) next ys t s front.1 (omega arith) (next_below n k a next c i) in
        ap (λ (o : Option (ℕ × Option ℕ)). first_argument_fits r (below r p n) t v o && arguments_fit r (below r p n) t m (suc v) (next_argument o)) (argument_known n k a next c i)
        ∙ two (argument_fits r (below r p n) t v a) (arguments_fit r (below r p n) t m (suc v) next) here after

    first_below : (n g : ℕ) (f : Option ℕ) → NodeIs p n (Call g f) → ChainBelow n f
    unfolding ChainBelow
    first_below n g None h = tt
    first_below n g (Some m) h = lower n m _ h (inl refl)

    call_passes : (q n g : ℕ) (f : Option ℕ) (d : Procedure) (t : ArgumentTest) → NodeIs p n (Call g f) → ProcedureIs p g d → Arguments r p q f (parameters_of p d) → call_fits r (below r p n) t (procedure_at (below r p n) g) f ≡ true
    unfolding below
    call_passes q n g f d t h i s =
        ap (λ (o : Option Procedure). call_fits r (below r p n) t o f) i
        ∙ arguments_pass q n d.parameters d.first_parameter f (parameters_of p d) t s refl (there g d i) (first_below n g f h)

    argument_child_passes : (q n : ℕ) (k : Option ℕ) (x : Node) (xs : List VariableRecord) → Home q n → NodeIs p n x → ((m : ℕ) → k ≡ Some m → Among m (children x)) → Arguments r p q k xs → argument_child (below r p n) n q k ≡ true
    argument_child_passes q n None x xs home h c s = refl
    argument_child_passes q n (Some m) x xs home h c s =
        ap is_argument (child_known q n m x home h (c m refl)) ∙ ap (λ (k : Class). is_argument (Some k)) (argument_class r p lower s)

    -- the first argument among the children of a call, and the next among those of an argument
    among_first : (g : ℕ) (f : Option ℕ) (m : ℕ) → f ≡ Some m → Among m (children (Call g f))
    among_first g None m e = some_none m (sym e)
    among_first g (Some k) m e = inl cc

    among_next : (a : ℕ) (f : Option ℕ) (m : ℕ) → f ≡ Some m → Among m (children (ArgumentNode a f))
    among_next a None m e = some_none m (sym e)
    among_next a (Some k) m e = inr (inl cc)

    -- a node passes the rows, whatever it is
    abbrev pub Passing : ℕ → ℕ → Type 0
    Passing q n = (x : Node) × (NodeIs p n x) × Passes r (below r p n) n q x

    pub expression_passes : {q n l : ℕ} {t : DataType} → Home q n → Expression r p q n t l → Passing q n
    unfolding below
    expression_passes {q = q} {n = n} home (constant h) =
        (_, h, record { child = refl; scope = refl; called = refl; types = refl; levels = refl; parts = refl })
    expression_passes {q = q} {n = n} home (variable {x = x} h v s) =
        (_, h, record { child = refl; scope = ap (readable q) v ∙ readable_passes q x.role s; called = refl; types = refl; levels = refl; parts = refl })
    expression_passes {q = q} {n = n} home (minus {a = a} {l = l} h d) =
        let o = operand q n a l Int _ home h (inl refl) d in
        (_, h, record { child = o.fits; scope = refl; called = refl; types = agrees n a Int o.type; levels = refl; parts = refl })
    expression_passes {q = q} {n = n} home (not {a = a} {l = l} h d) =
        let o = operand q n a l Boolean _ home h (inl refl) d in
        (_, h, record { child = o.fits; scope = refl; called = refl; types = agrees n a Boolean o.type; levels = refl; parts = refl })
    expression_passes {q = q} {n = n} home (arithmetic {a = a} {b = b} {l = l} {m = m} {t = t} h k d e) =
        let o = operand q n a l t _ home h (inl refl) d in
        let u = operand q n b m t _ home h (inr (inl refl)) e in (
          _,
          h,
          record {
            child = two _ _ o.fits u.fits;
            scope = refl;
            called = refl;
            types = two _ _ (both_agree n a b t o.type u.type) (ap arithmetic_takes o.type ∙ numeric_taken t k);
            levels = refl;
            parts = refl;
          },
        )
    expression_passes {q = q} {n = n} home (comparison {a = a} {b = b} {l = l} {m = m} {o = w} {t = t} h k d e) =
        let o = operand q n a l t _ home h (inl refl) d in
        let u = operand q n b m t _ home h (inr (inl refl)) e in (
          _,
          h,
          record {
            child = two _ _ o.fits u.fits;
            scope = refl;
            called = refl;
            types = two _ _ (both_agree n a b t o.type u.type) (ap (comparison_takes w) o.type ∙ comparable_taken w t k);
            levels = refl;
            parts = refl;
          },
        )
    expression_passes {q = q} {n = n} home (and {a = a} {b = b} {l = l} {m = m} h d e) =
        let o = operand q n a l Boolean _ home h (inl refl) d in
        let u = operand q n b m Boolean _ home h (inr (inl refl)) e in
        (_, h, record { child = two _ _ o.fits u.fits; scope = refl; called = refl; types = two _ _ (agrees n a Boolean o.type) (agrees n b Boolean u.type); levels = refl; parts = refl })
    expression_passes {q = q} {n = n} home (or {a = a} {b = b} {l = l} {m = m} h d e) =
        let o = operand q n a l Boolean _ home h (inl refl) d in
        let u = operand q n b m Boolean _ home h (inr (inl refl)) e in
        (_, h, record { child = two _ _ o.fits u.fits; scope = refl; called = refl; types = two _ _ (agrees n a Boolean o.type) (agrees n b Boolean u.type); levels = refl; parts = refl })
    expression_passes {q = q} {n = n} home (choice {a = a} {b = b} {c = c} {l = l} {m = m} {t = t} h d e f) =
        let o = operand q n a 0 Boolean _ home h (inl refl) d in
        let u = operand q n b l t _ home h (inr (inl refl)) e in
        let w = operand q n c m t _ home h (inr (inr (inl refl))) f in (
          _,
          h,
          record {
            child = two _ _ (two _ _ o.fits u.fits) w.fits;
            scope = refl;
            called = refl;
            types = two _ _ (agrees n a Boolean o.type) (both_agree n b c t u.type w.type);
            levels = public n a o.level;
            parts = refl;
          },
        )
    expression_passes {q = q} {n = n} home (assignment {v = v} {b = b} {l = l} {x = x} h i s d f) =
        let o = operand q n b l x.data_type _ home h (inl refl) d in (
          _,
          h,
          record {
            child = o.fits;
            scope = ap (assignable q) i ∙ assignable_passes q x.role s;
            called = refl;
            types = ap₂ (λ (t : Option DataType) (y : Option VariableRecord). agree t (variable_type y)) o.type i ∙ agree_same x.data_type;
            levels = ap₂ (λ (m : ℕ) (y : Option VariableRecord). r.flows m (variable_level y)) o.level i ∙ f;
            parts = refl;
          },
        )
    expression_passes {q = q} {n = n} home (call {g = g} {f = f} {d = d} h lt i t s) = (
      _,
      h,
      record {
        child = argument_child_passes q n f _ (parameters_of p d) home h (among_first g f) s;
        scope = refl;
        called = two _ _ (lt-ltb g q lt) (call_passes q n g f d Number h i s);
        types = call_passes q n g f d Types h i s;
        levels = call_passes q n g f d Levels h i s;
        parts = refl;
      },
    )
    expression_passes {q = q} {n = n} home (release {a = a} {l = l} {t = t} h d) =
        let o = operand q n a l t _ home h (inl refl) d in
        (_, h, record { child = o.fits; scope = refl; called = refl; types = ap (λ (u : Option DataType). negate (is_absent u)) o.type; levels = refl; parts = refl })

    pub void_passes : {q n : ℕ} → Home q n → VoidCall r p q n → Passing q n
    void_passes {q = q} {n = n} home (void_call {g = g} {f = f} {d = d} h lt i t s) = (
      _,
      h,
      record {
        child = argument_child_passes q n f _ (parameters_of p d) home h (among_first g f) s;
        scope = refl;
        called = two _ _ (lt-ltb g q lt) (call_passes q n g f d Number h i s);
        types = call_passes q n g f d Types h i s;
        levels = call_passes q n g f d Levels h i s;
        parts = refl;
      },
    )

    pub argument_node_passes : {q n : ℕ} {xs : List VariableRecord} → Home q n → Arguments r p q (Some n) xs → Passing q n
    argument_node_passes {q = q} home (argument {n = n} {a = a} {l = l} {next = next} {x = x} {xs = ys} h d f s) =
        let o = operand q n a l x.data_type _ home h (inl refl) d in (
          _,
          h,
          record {
            child = two _ _ o.fits (argument_child_passes q n next _ ys home h (among_next a next) s);
            scope = refl;
            called = refl;
            types = refl;
            levels = refl;
            parts = refl;
          },
        )

    pub statement_passes : {q n : ℕ} {x : Exits} → Home q n → Statement r p q n x → Passing q n
    unfolding below
    statement_passes {q = q} {n = n} home (expression {a = a} {l = l} {t = t} h d) =
        let o = operand q n a l t _ home h (inl refl) d in
        (_, h, record { child = o.fits; scope = refl; called = refl; types = refl; levels = refl; parts = refl })
    statement_passes {q = q} {n = n} home (procedure_call {a = a} h d) =
        let k = void_class r p lower d in
        (_, h, record { child = value_known q n a k.0 None _ home h (inl refl) k.1; scope = refl; called = refl; types = refl; levels = refl; parts = refl })
    statement_passes {q = q} {n = n} home (sequence {a = a} {b = b} {x = x} {y = y} h d f e) =
        let o = part q n a x _ home h (inl refl) d in
        let u = part q n b y _ home h (inr (inl refl)) e in
        (_, h, record { child = two _ _ o.fits u.fits; scope = refl; called = refl; types = refl; levels = refl; parts = ap (λ (z : Exits). z.falls) o.exits ∙ f })
    statement_passes {q = q} {n = n} home (if {a = a} {b = b} {x = x} h d e) =
        let o = operand q n a 0 Boolean _ home h (inl refl) d in
        let u = part q n b x _ home h (inr (inl refl)) e in
        (_, h, record { child = two _ _ o.fits u.fits; scope = refl; called = refl; types = agrees n a Boolean o.type; levels = public n a o.level; parts = refl })
    statement_passes {q = q} {n = n} home (if_else {a = a} {b = b} {c = c} {x = x} {y = y} h d e f) =
        let o = operand q n a 0 Boolean _ home h (inl refl) d in
        let u = part q n b x _ home h (inr (inl refl)) e in
        let w = part q n c y _ home h (inr (inr (inl refl))) f in
        (_, h, record { child = two _ _ (two _ _ o.fits u.fits) w.fits; scope = refl; called = refl; types = agrees n a Boolean o.type; levels = public n a o.level; parts = refl })
    statement_passes {q = q} {n = n} home (while {a = a} {b = b} {x = x} h d e f) =
        let o = operand q n a 0 Boolean _ home h (inl refl) d in
        let u = part q n b x _ home h (inr (inl refl)) e in
        (_, h, record { child = two _ _ o.fits u.fits; scope = refl; called = refl; types = agrees n a Boolean o.type; levels = public n a o.level; parts = ap repeats u.exits ∙ f })
    statement_passes {q = q} {n = n} home (do_while {a = a} {b = b} {x = x} h d e f) =
        let o = operand q n a 0 Boolean _ home h (inl refl) d in
        let u = part q n b x _ home h (inr (inl refl)) e in
        (_, h, record { child = two _ _ o.fits u.fits; scope = refl; called = refl; types = agrees n a Boolean o.type; levels = public n a o.level; parts = ap repeats u.exits ∙ f })
    statement_passes {q = q} {n = n} home (return {a = a} {l = l} {t = t} {d = i} h g k d f) =
        let o = operand q n a l t _ home h (inl refl) d in (
          _,
          h,
          record {
            child = o.fits;
            scope = refl;
            called = refl;
            types = ap₂ (λ (u : Option DataType) (y : Option Procedure). agree u (result_of y)) o.type g ∙ ap (agree (Some t)) k ∙ agree_same t;
            levels = ap₂ (λ (m : ℕ) (y : Option Procedure). r.flows m (result_level y)) o.level g ∙ f;
            parts = refl;
          },
        )
    statement_passes {q = q} {n = n} home (return_void h g k) =
        (_, h, record { child = refl; scope = refl; called = refl; types = ap is_void g ∙ ap is_absent k; levels = refl; parts = refl })
    statement_passes {q = q} {n = n} home (break h) = (_, h, record { child = refl; scope = refl; called = refl; types = refl; levels = refl; parts = refl })
    statement_passes {q = q} {n = n} home (continue h) = (_, h, record { child = refl; scope = refl; called = refl; types = refl; levels = refl; parts = refl })
    statement_passes {q = q} {n = n} home (definition {x = x} h v s) =
        (_, h, record { child = refl; scope = ap (definable q) v ∙ definable_passes q x.role s; called = refl; types = refl; levels = refl; parts = refl })
    statement_passes {q = q} {n = n} home (output {a = a} {t = t} h d) =
        let o = operand q n a 0 t _ home h (inl refl) d in
        (_, h, record { child = o.fits; scope = refl; called = refl; types = ap (λ (u : Option DataType). negate (is_absent u)) o.type; levels = public n a o.level; parts = refl })
