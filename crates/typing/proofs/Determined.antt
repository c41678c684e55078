-- A derivation for a node gives just the class that the table of typed nodes has.
use Rattle.std.proofs.Common.{◌≡◌, ℕ, ◌<◌, List, Some, None, Option, refl, ap, ◌∙◌, ap₂, inl, inr}
use Rattle.words.specs.declared.types.DataType.{DataType}
use Rattle.words.specs.declared.types.DataType.TheVariants.{Bool, Int}
use Rattle.levels.specs.Rules.{Rules}
use Rattle.program.specs.Program.{Program, children}
use Rattle.program.specs.declared.records.Node.{Node}
use Rattle.program.specs.declared.records.Variable.{Variable as VariableRecord}
use Rattle.typing.specs.Classes.{class_of_variable, class_of_call}
use Rattle.typing.specs.Environment.{type_of, level_of, exits_of, type_in, level_in, exits_in, class_type, class_level, class_exits}
use Rattle.typing.specs.Exits.{falling, union, sequence_exits, loop_exits}
use Rattle.typing.specs.Formed.{Among}
use Rattle.typing.specs.Typing.{NodeIs, Expression, Arguments, VoidCall, Statement, constant, variable, minus, not, arithmetic, comparison, and, or, choice, assignment, call, release, argument, void_call, expression, procedure_call, sequence, if, if_else, while, do_while, return, return_void, break, continue, definition, output}
use Rattle.typing.specs.declared.classes.Class.TheVariants.{Value, Argument, Statement as StatementClass}
use Rattle.typing.specs.declared.classes.Exits.{Exits}
use Rattle.typing.proofs.Tabled.{below, typed, seen, class_is}

module _ (r : Rules) (p : Program) (lower : (n m : ℕ) (x : Node) → NodeIs p n x → Among m (children x) → m < n) where
  -- what is known below node n of a node m whose class is known
  pub type_known : (n m l : ℕ) (t : Option DataType) → m < n → (typed r p m).class ≡ Value t l → type_of (below r p n) m ≡ t
  type_known n m l t lt e = ap type_in (seen r p n m lt) ∙ ap class_type e

  pub level_known : (n m l : ℕ) (t : Option DataType) → m < n → (typed r p m).class ≡ Value t l → level_of (below r p n) m ≡ l
  level_known n m l t lt e = ap level_in (seen r p n m lt) ∙ ap class_level e

  pub exits_known : (n m : ℕ) (x : Exits) → m < n → (typed r p m).class ≡ StatementClass x → exits_of (below r p n) m ≡ x
  exits_known n m x lt e = ap exits_in (seen r p n m lt) ∙ ap class_exits e

  joint_known : (n a b l m : ℕ) (t u : Option DataType) → a < n → b < n → (typed r p a).class ≡ Value t l → (typed r p b).class ≡ Value u m → r.joint (level_of (below r p n) a) (level_of (below r p n) b) ≡ r.joint l m
  joint_known n a b l m t u p q d e = ap₂ r.joint (level_known n a l t p d) (level_known n b m u q e)

  pub expression_class : {q n l : ℕ} {t : DataType} → Expression r p q n t l → (typed r p n).class ≡ Value (Some t) l
  unfolding below
  expression_class {n = n} (constant h) = class_is r p n _ h
  expression_class {n = n} (variable h v s) = class_is r p n _ h ∙ ap class_of_variable v
  expression_class {n = n} (minus {a = a} {l = l} h d) =
      class_is r p n _ h ∙ ap (Value (Some Int)) (level_known n a l (Some Int) (lower n a _ h (inl refl)) (expression_class d))
  expression_class {n = n} (not {a = a} {l = l} h d) =
      class_is r p n _ h ∙ ap (Value (Some Bool)) (level_known n a l (Some Bool) (lower n a _ h (inl refl)) (expression_class d))
  expression_class {n = n} (arithmetic {a = a} {b = b} {l = l} {m = m} {t = t} h k d e) =
      let c = expression_class d in
      let c' = expression_class e in
      let lt = lower n a _ h (inl refl) in
      class_is r p n _ h ∙ ap₂ Value (type_known n a l (Some t) lt c) (joint_known n a b l m (Some t) (Some t) lt (lower n b _ h (inr (inl refl))) c c')
  expression_class {n = n} (comparison {a = a} {b = b} {l = l} {m = m} {t = t} h k d e) =
      class_is r p n _ h ∙ ap (Value (Some Bool)) (joint_known n a b l m (Some t) (Some t) (lower n a _ h (inl refl)) (lower n b _ h (inr (inl refl))) (expression_class d) (expression_class e))
  expression_class {n = n} (and {a = a} {b = b} {l = l} {m = m} h d e) =
      class_is r p n _ h ∙ ap (Value (Some Bool)) (joint_known n a b l m (Some Bool) (Some Bool) (lower n a _ h (inl refl)) (lower n b _ h (inr (inl refl))) (expression_class d) (expression_class e))
  expression_class {n = n} (or {a = a} {b = b} {l = l} {m = m} h d e) =
      class_is r p n _ h ∙ ap (Value (Some Bool)) (joint_known n a b l m (Some Bool) (Some Bool) (lower n a _ h (inl refl)) (lower n b _ h (inr (inl refl))) (expression_class d) (expression_class e))
  expression_class {n = n} (choice {a = a} {b = b} {c = c} {l = l} {m = m} {t = t} h d e f) =
      let k = expression_class e in
      let lt = lower n b _ h (inr (inl refl)) in
      class_is r p n _ h ∙ ap₂ Value (type_known n b l (Some t) lt k) (joint_known n b c l m (Some t) (Some t) lt (lower n c _ h (inr (inr (inl refl)))) k (expression_class f))
  expression_class {n = n} (assignment h v s d f) = class_is r p n _ h ∙ ap class_of_variable v
  expression_class {n = n} (call {d = d} h lt g t s) = class_is r p n _ h ∙ ap class_of_call g ∙ ap (λ (u : Option DataType). Value u d.level) t
  expression_class {n = n} (release {a = a} {l = l} {t = t} h d) =
      class_is r p n _ h ∙ ap (λ (u : Option DataType). Value u 0) (type_known n a l (Some t) (lower n a _ h (inl refl)) (expression_class d))

  pub argument_class : {q n : ℕ} {xs : List VariableRecord} → Arguments r p q (Some n) xs → (typed r p n).class ≡ Argument
  argument_class (argument {n = n} h d f s) = class_is r p n _ h

  pub void_class : {q n : ℕ} → VoidCall r p q n → (l : ℕ) × ((typed r p n).class ≡ Value None l)
  unfolding below
  void_class (void_call {n = n} {d = d} h lt g t s) = (d.level, class_is r p n _ h ∙ ap class_of_call g ∙ ap (λ (u : Option DataType). Value u d.level) t)

  pub statement_class : {q n : ℕ} {x : Exits} → Statement r p q n x → (typed r p n).class ≡ StatementClass x
  statement_class {n = n} (expression h d) = class_is r p n _ h
  statement_class {n = n} (procedure_call h d) = class_is r p n _ h
  statement_class {n = n} (sequence {a = a} {b = b} {x = x} {y = y} h d f e) =
      class_is r p n _ h ∙ ap₂ (λ (u v : Exits). StatementClass (sequence_exits u v)) (exits_known n a x (lower n a _ h (inl refl)) (statement_class d)) (exits_known n b y (lower n b _ h (inr (inl refl))) (statement_class e))
  statement_class {n = n} (if {a = a} {b = b} {x = x} h d e) =
      class_is r p n _ h ∙ ap (λ (u : Exits). StatementClass (union u falling)) (exits_known n b x (lower n b _ h (inr (inl refl))) (statement_class e))
  statement_class {n = n} (if_else {b = b} {c = c} {x = x} {y = y} h d e f) =
      class_is r p n _ h ∙ ap₂ (λ (u v : Exits). StatementClass (union u v)) (exits_known n b x (lower n b _ h (inr (inl refl))) (statement_class e)) (exits_known n c y (lower n c _ h (inr (inr (inl refl)))) (statement_class f))
  statement_class {n = n} (while {b = b} {x = x} h d e f) =
      class_is r p n _ h ∙ ap (λ (u : Exits). StatementClass (loop_exits u)) (exits_known n b x (lower n b _ h (inr (inl refl))) (statement_class e))
  statement_class {n = n} (do_while {b = b} {x = x} h d e f) =
      class_is r p n _ h ∙ ap (λ (u : Exits). StatementClass (loop_exits u)) (exits_known n b x (lower n b _ h (inr (inl refl))) (statement_class e))
  statement_class {n = n} (return h g t d f) = class_is r p n _ h
  statement_class {n = n} (return_void h g t) = class_is r p n _ h
  statement_class {n = n} (break h) = class_is r p n _ h
  statement_class {n = n} (continue h) = class_is r p n _ h
  statement_class {n = n} (definition h v s) = class_is r p n _ h
  statement_class {n = n} (output h d) = class_is r p n _ h
