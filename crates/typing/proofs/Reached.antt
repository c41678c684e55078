-- In a well-formed program every node is reached from a body, so that the derivations for the bodies have one for it.
use Rattle.std.proofs.Common.{◌≡◌, ℕ, zero, suc, ◌+◌, ◌<◌, ◌≤◌, Bool, true, false, cond, eqb, List, [], ◌∷◌, length, get_or, Some, None, Option, sym, refl, subst, inl, inr, ⊎_elim, suc-le-suc, arith}
use Rattle.std.proofs.lemmas.Bool.{eqb-true, cases_Bool}
use Rattle.words.specs.declared.types.DataType.{DataType}
use Rattle.levels.specs.Rules.{Rules}
use Rattle.program.specs.Program.{Program, children, times_in, no_node}
use Rattle.program.specs.declared.records.Node.{Node}
use Rattle.program.specs.declared.records.Node.TheVariants.{Call}
use Rattle.program.specs.declared.records.Variable.{Variable as VariableRecord}
use Rattle.typing.specs.Faults.{is_body}
use Rattle.typing.specs.Formed.{Among, times_child}
use Rattle.typing.specs.Typing.{NodeIs, parameters_of, Expression, Arguments, VoidCall, Statement, constant, variable, minus, not, arithmetic, comparison, and, or, choice, assignment, call, release, argument, void_call, expression, procedure_call, sequence, if, if_else, while, do_while, return, return_void, break, continue, definition, output}
use Rattle.typing.specs.declared.classes.Exits.{Exits}
use Rattle.typing.proofs.Tabled.{home, at_there}

-- node n of procedure q has a derivation, of whatever form
pub data Derived (r : Rules) (p : Program) (q : ℕ) : ℕ → Type 0 where
  expression_derived : {n l : ℕ} {t : DataType} → Expression r p q n t l → Derived r p q n
  void_derived : {n : ℕ} → VoidCall r p q n → Derived r p q n
  arguments_derived : {n : ℕ} {xs : List VariableRecord} → Arguments r p q (Some n) xs → Derived r p q n
  statement_derived : {n : ℕ} {x : Exits} → Statement r p q n x → Derived r p q n

module _ (r : Rules) (p : Program) (q : ℕ) where
  -- each child of a list has a derivation
  Each : List ℕ → Type 0
  Each ms = (m : ℕ) → Among m ms → Derived r p q m

  nothing : Each []
  unfolding Each
  nothing m c = absurd c

  more : (a : ℕ) (ms : List ℕ) → Derived r p q a → Each ms → Each (a ∷ ms)
  unfolding Each
  more a ms d each m c = ⊎_elim (λ e. subst (Derived r p q) (sym e) d) (each m) c

  argument_each : (k : Option ℕ) (xs : List VariableRecord) (g : ℕ) → Arguments r p q k xs → Each (children (Call g k))
  argument_each None xs g s = nothing
  argument_each (Some m) xs g s = more m [] (arguments_derived s) nothing

  Children : ℕ → Type 0
  Children n = (x : Node) × NodeIs p n x × Each (children x)

  expression_children : {n l : ℕ} {t : DataType} → Expression r p q n t l → Children n
  unfolding Children
  expression_children (constant h) = (_, h, nothing)
  expression_children (variable h v s) = (_, h, nothing)
  expression_children (minus h d) = (_, h, more _ _ (expression_derived d) nothing)
  expression_children (not h d) = (_, h, more _ _ (expression_derived d) nothing)
  expression_children (arithmetic h k d e) = (_, h, more _ _ (expression_derived d) (more _ _ (expression_derived e) nothing))
  expression_children (comparison h k d e) = (_, h, more _ _ (expression_derived d) (more _ _ (expression_derived e) nothing))
  expression_children (and h d e) = (_, h, more _ _ (expression_derived d) (more _ _ (expression_derived e) nothing))
  expression_children (or h d e) = (_, h, more _ _ (expression_derived d) (more _ _ (expression_derived e) nothing))
  expression_children (choice h d e f) = (_, h, more _ _ (expression_derived d) (more _ _ (expression_derived e) (more _ _ (expression_derived f) nothing)))
  expression_children (assignment h v s d f) = (_, h, more _ _ (expression_derived d) nothing)
  expression_children (call {g = g} {f = f} {d = d} h lt i t s) = (_, h, argument_each f (parameters_of p d) g s)
  expression_children (release h d) = (_, h, more _ _ (expression_derived d) nothing)

  statement_children : {n : ℕ} {x : Exits} → Statement r p q n x → Children n
  unfolding Children
  statement_children (expression h d) = (_, h, more _ _ (expression_derived d) nothing)
  statement_children (procedure_call h d) = (_, h, more _ _ (void_derived d) nothing)
  statement_children (sequence h d f e) = (_, h, more _ _ (statement_derived d) (more _ _ (statement_derived e) nothing))
  statement_children (if h d e) = (_, h, more _ _ (expression_derived d) (more _ _ (statement_derived e) nothing))
  statement_children (if_else h d e f) = (_, h, more _ _ (expression_derived d) (more _ _ (statement_derived e) (more _ _ (statement_derived f) nothing)))
  statement_children (while h d e f) = (_, h, more _ _ (expression_derived d) (more _ _ (statement_derived e) nothing))
  statement_children (do_while h d e f) = (_, h, more _ _ (expression_derived d) (more _ _ (statement_derived e) nothing))
  statement_children (return h g t d f) = (_, h, more _ _ (expression_derived d) nothing)
  statement_children (return_void h g t) = (_, h, nothing)
  statement_children (break h) = (_, h, nothing)
  statement_children (continue h) = (_, h, nothing)
  statement_children (definition h v s) = (_, h, nothing)
  statement_children (output h d) = (_, h, more _ _ (expression_derived d) nothing)

  derived_children : {n : ℕ} → Derived r p q n → Children n
  unfolding Children
  derived_children (expression_derived d) = expression_children d
  derived_children (void_derived (void_call {g = g} {f = f} {d = d} h lt i t s)) = (_, h, argument_each f (parameters_of p d) g s)
  derived_children (arguments_derived (argument {a = a} {next = next} {xs = xs} h d f s)) = (_, h, more a _ (expression_derived d) (argument_each next xs a s))
  derived_children (statement_derived d) = statement_children d

  child_derived : (n m : ℕ) (x : Node) → Derived r p q n → NodeIs p n x → Among m (children x) → Derived r p q m
  unfolding Each Children
  child_derived n m x d h c =
      let (y, i, each) = derived_children d in
      let same : x ≡ y = cc in
      each m (subst (λ (z : Node). Among m (children z)) same c)

-- what is counted is there
among_step : (n m : ℕ) (ms : List ℕ) (b : Bool) → eqb m n ≡ b → (0 < times_in n ms → Among n ms) → 0 < cond b 1 0 + times_in n ms → Among n (m ∷ ms)
among_step n m ms true e rest h = inl (sym (eqb-true m n e))
among_step n m ms false e rest h = inr (rest (omega arith))

among_counted : (n : ℕ) (ms : List ℕ) → 0 < times_in n ms → Among n ms
among_counted n [] h = absurd (omega arith)
among_counted n (m ∷ ms) h = among_step n m ms (eqb m n) refl (among_counted n ms) h

-- a node that is named has a parent
Parent : ℕ → List Node → Type 0
Parent n xs = (o : ℕ) × (o < length xs) × Among n (children (get_or xs o no_node))

parent_step : (n : ℕ) (x : Node) (xs : List Node) (k : ℕ) → times_in n (children x) ≡ k → (0 < times_child n xs → Parent n xs) → 0 < k + times_child n xs → Parent n (x ∷ xs)
unfolding Parent
parent_step n x xs zero e rest h = let (o, lt, c) = rest (omega arith) in (suc o, suc-le-suc lt, c)
parent_step n x xs (suc k) e rest h = (0, omega arith, among_counted n (children x) (omega arith))

parent : (n : ℕ) (xs : List Node) → 0 < times_child n xs → Parent n xs
parent n [] h = absurd (omega arith)
parent n (x ∷ xs) h = parent_step n x xs (times_in n (children x)) refl (parent n xs) h

module _
    (r : Rules) (p : Program)
    (lower : (n m : ℕ) (x : Node) → NodeIs p n x → Among m (children x) → m < n)
    (beside : (n m : ℕ) (x : Node) → NodeIs p n x → Among m (children x) → home p m ≡ home p n)
    (once : (n : ℕ) → n < length p.nodes → is_body p.procedures n ≡ false → times_child n p.nodes ≡ 1)
    (bodies : (n : ℕ) → n < length p.nodes → is_body p.procedures n ≡ true → Derived r p (home p n) n)
  where
    reach : (k n : ℕ) → n < length p.nodes → length p.nodes ≤ n + k → Derived r p (home p n) n
    unfolding Parent
    reach zero n lt far = absurd (omega arith)
    reach (suc k) n lt far =
        ⊎_elim (bodies n lt)
        (λ e.
        let (o, less, c) = parent n p.nodes (omega (arith, once n lt e)) in
        let h = at_there no_node p.nodes o less in
        let up = lower o n _ h c in
        subst (λ (q : ℕ). Derived r p q n) (sym (beside o n _ h c)) (child_derived r p (home p o) o n _ (reach k o less (omega arith)) h c))
        (cases_Bool (is_body p.procedures n))

    pub reached : (n : ℕ) → n < length p.nodes → Derived r p (home p n) n
    reached n lt = reach (length p.nodes) n lt (omega arith)
