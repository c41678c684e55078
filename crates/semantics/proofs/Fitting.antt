-- In a well-typed program a run keeps figures of level 0 plain and all others held, and ends each node as it may.
use Rattle.std.proofs.Common.{◌≡◌, ℕ, Bool, true, false, cond, eqb, List, [], ◌∷◌, ◌++◌, Some, None, Option, sym, refl, ap, ◌∙◌, subst, inl, inr, ⊎_elim, true≢false, append_assoc, append-nil, le_refl}
use Rattle.std.proofs.lemmas.Bool.{eqb-true, or_left, or_right}
use Rattle.words.specs.declared.types.DataType.{DataType}
use Rattle.levels.specs.Rules.{Rules, Lawful}
use Rattle.program.specs.Program.{Program}
use Rattle.program.specs.declared.records.Node.{Node}
use Rattle.program.specs.declared.records.Variable.{Variable as VariableRecord}
use Rattle.typing.specs.Environment.{level_of}
use Rattle.typing.specs.Exits.{without_falls, union, sequence_exits, loop_exits, falling}
use Rattle.typing.specs.Formed.{WellFormed, Belongs}
use Rattle.typing.specs.Typing.{NodeIs, ProcedureIs, parameters_of, Expression, Arguments, Statement, Ends, WellTyped}
use Rattle.typing.specs.declared.classes.Exits.{Exits}
use Rattle.typing.specs.declared.classes.TypedNode.{TypedNode}
use Rattle.semantics.specs.State.{Shown, Kept, full, written, word_in, plain_word, settled, working_both, decides, plain_result, held_result, holds, cell, node_of, figure_type, result_level}
use Rattle.semantics.specs.Natural.{Ending, ends, stops, on_value, gives, falls, argues, called, goes_on, left, lined, plainly, combined, Runs, cut, constant, variable, minus, not, arithmetic, comparison, and, or, choice, choice_stays, assignment, call, argument, release, expression, sequence, sequence_leaves, if, if_not, if_stays, if_else, if_else_stays, while, do_while, return, return_void, break, continue, definition, output, Operates, both, skips, stays, Rounds, holds_on, fails, guard_stays, Bodies, again, leaves, Passes, passes, argument_stays, enters}
use Rattle.semantics.specs.Fitting.{Fits, Fitting, Returned, ValueEnding, ArgumentEnding, CallEnding, StatementEnding}
use Rattle.semantics.specs.declared.lines.LineKind.{LineKind}
use Rattle.semantics.specs.declared.lines.Outcome.{Outcome}
use Rattle.semantics.specs.declared.lines.Outcome.TheVariants.{LinesFull}
use Rattle.semantics.specs.declared.values.Operator.{Operator}
use Rattle.semantics.specs.declared.values.Operator.TheVariants.{Arithmetic as Calculates, Comparison as Compares, And, Or}
use Rattle.semantics.specs.declared.values.Value.{Value}
use Rattle.semantics.specs.declared.values.Value.TheVariants.{Plain, Held}
use Rattle.semantics.specs.declared.values.Signal.{Signal}
use Rattle.semantics.specs.declared.values.Signal.TheVariants.{Gives, Argues, Falls, Returns, Breaks, Continues}
use Rattle.semantics.proofs.Cells.{Takes, result_fits, plain_takes, flow_takes, settling_cells, working_cells, working_both_cells, same_cells, Passable, tables, level_is, assigned_fits, entered_fits}
use Rattle.semantics.proofs.Inverted.{Describes, called_at, Valued, TypedAs, VoidAs, ArguedAs, StatedAs, typed_as, void_as, stated_as, statement_node, first_argument, no_argument}

same_some : {X : Type 0} {x y : X} → Some x ≡ Some y → x ≡ y
same_some h = cc

fits_at : {i l : ℕ} (x : Value ℕ) → i ≡ l → Fits i x → Fits l x
fits_at x e f = subst (λ (n : ℕ). Fits n x) e f

-- a first operand that decides is plain
decided_takes : (o : Operator) (x : Value ℕ) (l : ℕ) → decides o x ≡ true → Takes l x
decided_takes (Calculates o t) x l h = absurd (true≢false (sym h))
decided_takes (Compares o t) x l h = absurd (true≢false (sym h))
decided_takes And (Plain w) l h = plain_takes l w
decided_takes And (Held w) l h = absurd (true≢false (sym h))
decided_takes Or (Plain w) l h = plain_takes l w
decided_takes Or (Held w) l h = absurd (true≢false (sym h))

-- whatever may be done by x may be done by y
record Less (x y : Exits) : Type 0 where
  pub falls : x.falls ≡ true → y.falls ≡ true
  pub returns : x.returns ≡ true → y.returns ≡ true
  pub breaks : x.breaks ≡ true → y.breaks ≡ true
  pub continues : x.continues ≡ true → y.continues ≡ true

less_left : (x y : Exits) → Less x (union x y)
less_left x y =
    record { falls = or_left x.falls y.falls; returns = or_left x.returns y.returns; breaks = or_left x.breaks y.breaks; continues = or_left x.continues y.continues }

less_right : (x y : Exits) → Less y (union x y)
less_right x y =
    record { falls = or_right x.falls y.falls; returns = or_right x.returns y.returns; breaks = or_right x.breaks y.breaks; continues = or_right x.continues y.continues }

module _ (p : Program) where
  -- what follows a value of level l
  waits : {l : ℕ} (g : Value ℕ → Shown → Kept → ℕ → Ending) (P : Ending → Type 0) → ((o : Outcome) (s : Shown) (k : Kept) → Fitting p k → P (stops o s k)) → (a : Ending) → ValueEnding p l a → ((x : Value ℕ) (s : Shown) (k : Kept) (m : ℕ) → Fits l x → Fitting p k → P (g x s k m)) → P (on_value a g)
  waits g P st (ends (Gives x) s k m) v f = f x s k m v.0 v.1
  waits g P st (ends (Argues x next) s k m) v f = absurd v
  waits g P st (ends Falls s k m) v f = absurd v
  waits g P st (ends (Returns x) s k m) v f = absurd v
  waits g P st (ends Breaks s k m) v f = absurd v
  waits g P st (ends Continues s k m) v f = absurd v
  waits g P st (stops o s k) v f = st o s k v

  -- an expression that gives no value stops the run
  ungiven : (l : ℕ) (P : Ending → Type 0) → ((o : Outcome) (s : Shown) (k : Kept) → Fitting p k → P (stops o s k)) → (a : Ending) → gives a ≡ false → ValueEnding p l a → P a
  ungiven l P st (ends (Gives x) s k m) h v = absurd (true≢false h)
  ungiven l P st (ends (Argues x next) s k m) h v = absurd v
  ungiven l P st (ends Falls s k m) h v = absurd v
  ungiven l P st (ends (Returns x) s k m) h v = absurd v
  ungiven l P st (ends Breaks s k m) h v = absurd v
  ungiven l P st (ends Continues s k m) h v = absurd v
  ungiven l P st (stops o s k) h v = st o s k v

  unargued : (l : ℕ) (f : Option ℕ) (t : Option DataType) (i : ℕ) (a : Ending) → argues a ≡ false → ArgumentEnding p l f a → CallEnding p t i a
  unargued l f t i (ends (Gives x) s k m) h v = absurd v
  unargued l f t i (ends (Argues x next) s k m) h v = absurd (true≢false h)
  unargued l f t i (ends Falls s k m) h v = absurd v
  unargued l f t i (ends (Returns x) s k m) h v = absurd v
  unargued l f t i (ends Breaks s k m) h v = absurd v
  unargued l f t i (ends Continues s k m) h v = absurd v
  unargued l f None i (stops o s k) h v = v
  unargued l f (Some t) i (stops o s k) h v = v

  -- a call with a result is an expression, and a void one falls through
  call_value : (l : ℕ) (t : DataType) (a : Ending) → CallEnding p (Some t) l a → ValueEnding p l a
  call_value l t (ends (Gives x) s k m) v = v
  call_value l t (ends (Argues x next) s k m) v = absurd v
  call_value l t (ends Falls s k m) v = absurd v
  call_value l t (ends (Returns x) s k m) v = absurd v
  call_value l t (ends Breaks s k m) v = absurd v
  call_value l t (ends Continues s k m) v = absurd v
  call_value l t (stops o s k) v = v

  any_level : (l i : ℕ) (a : Ending) → CallEnding p None l a → CallEnding p None i a
  any_level l i (ends (Gives x) s k m) v = absurd v
  any_level l i (ends (Argues x next) s k m) v = absurd v
  any_level l i (ends Falls s k m) v = v
  any_level l i (ends (Returns x) s k m) v = absurd v
  any_level l i (ends Breaks s k m) v = absurd v
  any_level l i (ends Continues s k m) v = absurd v
  any_level l i (stops o s k) v = v

  void_falls : (l : ℕ) (g : Value ℕ → Shown → Kept → ℕ → Ending) (P : Ending → Type 0) → ((o : Outcome) (s : Shown) (k : Kept) → Fitting p k → P (stops o s k)) → ((s : Shown) (k : Kept) (m : ℕ) → Fitting p k → P (ends Falls s k m)) → (a : Ending) → CallEnding p None l a → P (on_value a g)
  void_falls l g P st f (ends (Gives x) s k m) v = absurd v
  void_falls l g P st f (ends (Argues x next) s k m) v = absurd v
  void_falls l g P st f (ends Falls s k m) v = f s k m v
  void_falls l g P st f (ends (Returns x) s k m) v = absurd v
  void_falls l g P st f (ends Breaks s k m) v = absurd v
  void_falls l g P st f (ends Continues s k m) v = absurd v
  void_falls l g P st f (stops o s k) v = st o s k v

  more_exits : (l : ℕ) (t : Option DataType) (x y : Exits) → Less x y → (a : Ending) → StatementEnding p t l x a → StatementEnding p t l y a
  more_exits l t x y h (ends (Gives z) s k m) v = absurd v
  more_exits l t x y h (ends (Argues z next) s k m) v = absurd v
  more_exits l t x y h (ends Falls s k m) v = (h.falls v.0, v.1)
  more_exits l t x y h (ends (Returns z) s k m) v = (h.returns v.0, v.1, v.2)
  more_exits l t x y h (ends Breaks s k m) v = (h.breaks v.0, v.1)
  more_exits l t x y h (ends Continues s k m) v = (h.continues v.0, v.1)
  more_exits l t x y h (stops o s k) v = v

  -- a first part that does not fall through leaves its sequence
  leaving : (l : ℕ) (t : Option DataType) (x y : Exits) (a : Ending) → falls a ≡ false → StatementEnding p t l x a → StatementEnding p t l (sequence_exits x y) a
  leaving l t x y (ends (Gives z) s k m) h v = absurd v
  leaving l t x y (ends (Argues z next) s k m) h v = absurd v
  leaving l t x y (ends Falls s k m) h v = absurd (true≢false h)
  leaving l t x y (ends (Returns z) s k m) h v = (or_left x.returns y.returns v.0, v.1, v.2)
  leaving l t x y (ends Breaks s k m) h v = (or_left x.breaks y.breaks v.0, v.1)
  leaving l t x y (ends Continues s k m) h v = (or_left x.continues y.continues v.0, v.1)
  leaving l t x y (stops o s k) h v = v

  -- the body of a loop goes on, or leaves it
  going_on : (l : ℕ) (t : Option DataType) (x : Exits) (z : Signal ℕ) (s : Shown) (k : Kept) (m : ℕ) → goes_on (ends z s k m) ≡ true → StatementEnding p t l x (ends z s k m) → Fitting p k
  going_on l t x (Gives z) s k m h v = absurd v
  going_on l t x (Argues z next) s k m h v = absurd v
  going_on l t x Falls s k m h v = v.1
  going_on l t x (Returns z) s k m h v = v.2
  going_on l t x Breaks s k m h v = v.1
  going_on l t x Continues s k m h v = v.1

  left_loop : (l : ℕ) (t : Option DataType) (x : Exits) (a : Ending) → goes_on a ≡ false → StatementEnding p t l x a → StatementEnding p t l (loop_exits x) (left a)
  left_loop l t x (ends (Gives z) s k m) h v = absurd v
  left_loop l t x (ends (Argues z next) s k m) h v = absurd v
  left_loop l t x (ends Falls s k m) h v = absurd (true≢false h)
  left_loop l t x (ends (Returns z) s k m) h v = (or_left x.returns false v.0, v.1, v.2)
  left_loop l t x (ends Breaks s k m) h v = (or_right x.falls true refl, v.1)
  left_loop l t x (ends Continues s k m) h v = absurd (true≢false h)
  left_loop l t x (stops o s k) h v = v

  -- the end of a body, as the end of its call
  called_ending : (t : Option DataType) (l : ℕ) (x : Exits) → Ends t x → (a : Ending) → StatementEnding p t l x a → CallEnding p t l (called a)
  called_ending t l x e (ends (Gives z) s k m) v = absurd v
  called_ending t l x e (ends (Argues z next) s k m) v = absurd v
  called_ending None l x e (ends Falls s k m) v = v.1
  called_ending (Some t) l x e (ends Falls s k m) v = absurd (true≢false (sym v.0 ∙ ap (λ (y : Exits). y.falls) e))
  called_ending None l x e (ends (Returns None) s k m) v = v.2
  called_ending None l x e (ends (Returns (Some y)) s k m) v = absurd v.1
  called_ending (Some t) l x e (ends (Returns None) s k m) v = absurd v.1
  called_ending (Some t) l x e (ends (Returns (Some y)) s k m) v = (v.1, v.2)
  called_ending None l x e (ends Breaks s k m) v = absurd (true≢false (sym v.0 ∙ e.0))
  called_ending (Some t) l x e (ends Breaks s k m) v = absurd (true≢false (sym v.0 ∙ ap (λ (y : Exits). y.breaks) e))
  called_ending None l x e (ends Continues s k m) v = absurd (true≢false (sym v.0 ∙ e.1))
  called_ending (Some t) l x e (ends Continues s k m) v = absurd (true≢false (sym v.0 ∙ ap (λ (y : Exits). y.continues) e))
  called_ending None l x e (stops o s k) v = v
  called_ending (Some t) l x e (stops o s k) v = v

  -- a line is written or stops the run
  line_ends : (P : Ending → Type 0) (kind : LineKind) (n : ℕ) (t : DataType) (w : ℕ) (z : Signal ℕ) (s : Shown) (k : Kept) (m : ℕ) → P (stops LinesFull s k) → P (ends z (written kind n t w s) k m) → P (lined kind n t w z s k m)
  line_ends P kind n t w z s k m a b = by (full s)
    where
      by : (c : Bool) → P (cond c (stops LinesFull s k) (ends z (written kind n t w s) k m))
      by true = a
      by false = b

  passable_more : (xs : List (Value ℕ)) (vs : List VariableRecord) (x : Value ℕ) (v : VariableRecord) → Passable p xs vs → Takes v.level x → Passable p (xs ++ x ∷ []) (vs ++ v ∷ [])
  passable_more [] [] x v h t = (t, tt)
  passable_more [] (u ∷ us) x v h t = absurd h
  passable_more (y ∷ ys) [] x v h t = absurd h
  passable_more (y ∷ ys) (u ∷ us) x v h t = (h.0, passable_more ys us x v h.1 t)

module _ (r : Rules) (law : Lawful r) (p : Program) (formed : WellFormed r p) (well : WellTyped r p) (ns : List TypedNode) (told : Describes r p ns)
    (level_told : (q n l : ℕ) (t : DataType) → Expression r p q n t l → r.is_level l ≡ true) where
  combined_fits : (n : ℕ) (o : Operator) (x y : Value ℕ) (s : Shown) (k : Kept) (m l : ℕ) → level_of (tables p ns) n ≡ l → Fitting p k → ValueEnding p l (combined (tables p ns) n o x y s k m)
  combined_fits n o x y s k m l lv f = by (eqb (level_of (tables p ns) n) 0) (plain_result o (plain_word x) (plain_word y)) refl
    where
      by : (t : Bool) (u : Option ℕ) → eqb (level_of (tables p ns) n) 0 ≡ t → ValueEnding p l (cond t (plainly u s k m) (ends (Gives (Held (held_result o (word_in x) (word_in y)))) s (working_both (level_of (tables p ns) n) x y k) m))
      by true None e = f
      by true (Some w) e = (sym lv ∙ eqb-true (level_of (tables p ns) n) 0 e, f)
      by false u e = (ap (λ i. eqb i 0) (sym lv) ∙ e, same_cells p (working_both_cells (level_of (tables p ns) n) x y k) f)

  -- the arm of a choice that runs
  arm : {q b c i j : ℕ} {u : DataType} (t : Bool) → Expression r p q b u i → Expression r p q c u j → (m : ℕ) × Expression r p q (cond t b c) u m × (r.flows m (r.joint i j) ≡ true)
  arm {i = i} {j = j} true d f = (i, d, law.joint_left i j (level_told _ _ i _ d) (level_told _ _ j _ f))
  arm {i = i} {j = j} false d f = (j, f, law.joint_right i j (level_told _ _ i _ d) (level_told _ _ j _ f))

  -- and the branch of an if
  branch : {q b c : ℕ} {y z : Exits} (t : Bool) → Statement r p q b y → Statement r p q c z → Belongs p q b → Belongs p q c → (w : Exits) × Statement r p q (cond t b c) w × Belongs p q (cond t b c) × Less w (union y z)
  branch {y = y} {z = z} true d f i j = (y, d, i, less_left y z)
  branch {y = y} {z = z} false d f i j = (z, f, j, less_right y z)

  abbrev L : ℕ → ℕ
  L q = (called_at r p ns q).level

  abbrev T : ℕ → Option DataType
  T q = (called_at r p ns q).result

  own_body : (g : ℕ) → ProcedureIs p g (called_at r p ns g) → Belongs p g (called_at r p ns g).body
  own_body g w = record { procedure = called_at r p ns g; is = w; within = le_refl (called_at r p ns g).body; above = λ o b lt i. (formed.procedures g (called_at r p ns g) w).rises o b lt i }

  leveled : {q n l : ℕ} {t : DataType} → Expression r p q n t l → level_of (tables p ns) n ≡ l
  leveled {q = q} {n = n} {l = l} {t = t} d = told.levels q n l t d

  mutual
    value_as : {n m : ℕ} {x : Node} {s : Shown} {k : Kept} {a : Ending} → Runs (tables p ns) n x s k m a → (q l : ℕ) (t : DataType) → level_of (tables p ns) n ≡ l → TypedAs r p ns q x t l → Fitting p k → ValueEnding p l a
    value_as cut q l t lv ty f = f
    value_as constant q l t lv ty f = (ty, f)
    value_as (variable {v = v} {k = k}) q l t lv ty f = (fits_at (cell v k) (sym ty.2) (f.fits v ty.0 ty.1), f)
    value_as {n = n} (minus {r = a} h) q l t lv ty f =
        waits p _ (ValueEnding p l) (λ o s k g. g) a (value_as h q _ _ (leveled ty) (typed_as r p ns told ty) f) (λ x s k m fx fk. (fits_at _ lv (result_fits (level_of (tables p ns) n) _ _), same_cells p (working_cells (level_of (tables p ns) n) x k) fk))
    value_as {n = n} (not {r = a} h) q l t lv ty f =
        waits p _ (ValueEnding p l) (λ o s k g. g) a (value_as h q _ _ (leveled ty) (typed_as r p ns told ty) f) (λ x s k m fx fk. (fits_at _ lv (result_fits (level_of (tables p ns) n) _ _), same_cells p (working_cells (level_of (tables p ns) n) x k) fk))
    value_as (arithmetic h) q l t lv ty f = operates h q l lv ty.0 ty.1 f
    value_as (comparison h) q l t lv ty f = operates h q l lv ty.0 ty.1 f
    value_as (and h) q l t lv ty f = operates h q l lv ty.0 ty.1 f
    value_as (or h) q l t lv ty f = operates h q l lv ty.0 ty.1 f
    value_as {n = n} (choice {x = x} {r = a} h j) q l t lv ty f =
        let c = ty.2 in
        let v = value_as h q c.1 c.0 (leveled c.2) (typed_as r p ns told c.2) f in
        let w = arm (holds x) ty.3 ty.4 in
        let i : r.flows w.0 (level_of (tables p ns) n) ≡ true = subst (λ i. r.flows w.0 i ≡ true) (sym (lv ∙ ty.5)) w.2 in
        waits p _ (ValueEnding p l) (λ o s k g. g) a (value_as j q w.0 t (leveled w.1) (typed_as r p ns told w.1) v.1) (λ y s k m fy fk. (fits_at _ lv (flow_takes law w.0 (level_of (tables p ns) n) y i fy), same_cells p (settling_cells (level_of (tables p ns) n) y k) fk))
    value_as (choice_stays {r = a} h j) q l t lv ty f = let c = ty.2 in ungiven p c.1 (ValueEnding p l) (λ o s k g. g) a j (value_as h q c.1 c.0 (leveled c.2) (typed_as r p ns told c.2) f)
    value_as (assignment {v = v} {r = a} h) q l t lv ty f =
        let y = ty.0 in
        waits p _ (ValueEnding p l) (λ o s k g. g) a (value_as h q ty.1 _ (leveled ty.3) (typed_as r p ns told ty.3) f)
        (λ x s k m fx fk.
        let t = flow_takes law ty.1 y.level x ty.4 fx in
        (fits_at _ (sym ty.5) (subst (λ i. Fits y.level (settled i x)) (sym (level_is p ns v y ty.2)) t), assigned_fits p ns v x (λ u h. subst (λ (z : VariableRecord). Takes z.level x) (same_some (sym ty.2 ∙ h)) t) fk))
    value_as (call {g = g} {r = a} h) q l t lv ty f =
        let v = passing h q [] (parameters_of p (called_at r p ns g)) ty.0 refl ty.2 tt f in
        subst (λ i. ValueEnding p i a) (sym ty.3) (call_value p (L g) t a (subst (λ u. CallEnding p u (L g) a) ty.1 v))
    value_as {n = n} (release {a = b} {r = a} h) q l t lv ty f =
        let c = ty.0 in
        waits p _ (ValueEnding p l) (λ o s k g. g) a (value_as h q c.1 c.0 (leveled c.2) (typed_as r p ns told c.2) f) (λ x s k m fx fk. line_ends p (ValueEnding p l) _ n (figure_type (tables p ns) b) (word_in x) (Gives (Plain (word_in x))) s k m fk (ty.1, fk))
    value_as (argument h) q l t lv ty f = absurd ty
    value_as (expression h) q l t lv ty f = absurd ty
    value_as (sequence h j) q l t lv ty f = absurd ty
    value_as (sequence_leaves h j) q l t lv ty f = absurd ty
    value_as (if h u j) q l t lv ty f = absurd ty
    value_as (if_not h u) q l t lv ty f = absurd ty
    value_as (if_stays h j) q l t lv ty f = absurd ty
    value_as (if_else h j) q l t lv ty f = absurd ty
    value_as (if_else_stays h j) q l t lv ty f = absurd ty
    value_as (while h) q l t lv ty f = absurd ty
    value_as (do_while h) q l t lv ty f = absurd ty
    value_as (return h) q l t lv ty f = absurd ty
    value_as return_void q l t lv ty f = absurd ty
    value_as break q l t lv ty f = absurd ty
    value_as continue q l t lv ty f = absurd ty
    value_as definition q l t lv ty f = absurd ty
    value_as (output h) q l t lv ty f = absurd ty

    operates : {n a b m : ℕ} {o : Operator} {s : Shown} {k : Kept} {z : Ending} → Operates (tables p ns) n o a b s k m z → (q l : ℕ) → level_of (tables p ns) n ≡ l → Valued r p ns q a → Valued r p ns q b → Fitting p k → ValueEnding p l z
    operates (both {n = n} {o = o} {x = x} {r = z} h d j) q l lv a b f =
        let v = value_as h q a.1 a.0 (leveled a.2) (typed_as r p ns told a.2) f in
        waits p _ (ValueEnding p l) (λ o s k g. g) z (value_as j q b.1 b.0 (leveled b.2) (typed_as r p ns told b.2) v.1) (λ y s k m fy fk. combined_fits n o x y s k m l lv fk)
    operates (skips {n = n} {o = o} {x = x} {j = j} h d) q l lv a b f =
        let v = value_as h q a.1 a.0 (leveled a.2) (typed_as r p ns told a.2) f in
        (fits_at _ lv (decided_takes o x (level_of (tables p ns) n) d), same_cells p (settling_cells (level_of (tables p ns) n) x j) v.1)
    operates (stays {r = z} h j) q l lv a b f = ungiven p a.1 (ValueEnding p l) (λ o s k g. g) z j (value_as h q a.1 a.0 (leveled a.2) (typed_as r p ns told a.2) f)

    void_run : {n m : ℕ} {x : Node} {s : Shown} {k : Kept} {a : Ending} → Runs (tables p ns) n x s k m a → (q : ℕ) → VoidAs r p ns q x → Fitting p k → CallEnding p None 0 a
    void_run cut q ty f = f
    void_run (call {g = g} {r = a} h) q ty f =
        any_level p (L g) 0 a (subst (λ u. CallEnding p u (L g) a) ty.1 (passing h q [] (parameters_of p (called_at r p ns g)) ty.0 refl ty.2 tt f))
    void_run constant q ty f = absurd ty
    void_run variable q ty f = absurd ty
    void_run (minus h) q ty f = absurd ty
    void_run (not h) q ty f = absurd ty
    void_run (arithmetic h) q ty f = absurd ty
    void_run (comparison h) q ty f = absurd ty
    void_run (and h) q ty f = absurd ty
    void_run (or h) q ty f = absurd ty
    void_run (choice h j) q ty f = absurd ty
    void_run (choice_stays h j) q ty f = absurd ty
    void_run (assignment h) q ty f = absurd ty
    void_run (argument h) q ty f = absurd ty
    void_run (release h) q ty f = absurd ty
    void_run (expression h) q ty f = absurd ty
    void_run (sequence h j) q ty f = absurd ty
    void_run (sequence_leaves h j) q ty f = absurd ty
    void_run (if h t j) q ty f = absurd ty
    void_run (if_not h t) q ty f = absurd ty
    void_run (if_stays h j) q ty f = absurd ty
    void_run (if_else h j) q ty f = absurd ty
    void_run (if_else_stays h j) q ty f = absurd ty
    void_run (while h) q ty f = absurd ty
    void_run (do_while h) q ty f = absurd ty
    void_run (return h) q ty f = absurd ty
    void_run return_void q ty f = absurd ty
    void_run break q ty f = absurd ty
    void_run continue q ty f = absurd ty
    void_run definition q ty f = absurd ty
    void_run (output h) q ty f = absurd ty

    argument_run : {n m : ℕ} {x : Node} {s : Shown} {k : Kept} {a : Ending} → Runs (tables p ns) n x s k m a → (q l : ℕ) (g : Option ℕ) → ArguedAs r p ns q x l g → Fitting p k → ArgumentEnding p l g a
    argument_run cut q l g ty f = f
    argument_run (argument {r = a} h) q l g ty f = waits p _ (ArgumentEnding p l g) (λ o s k i. i) a (value_as h q l ty.0 (leveled ty.1) (typed_as r p ns told ty.1) f) (λ x s k m fx fk. (ty.2, fx, fk))
    argument_run constant q l g ty f = absurd ty
    argument_run variable q l g ty f = absurd ty
    argument_run (minus h) q l g ty f = absurd ty
    argument_run (not h) q l g ty f = absurd ty
    argument_run (arithmetic h) q l g ty f = absurd ty
    argument_run (comparison h) q l g ty f = absurd ty
    argument_run (and h) q l g ty f = absurd ty
    argument_run (or h) q l g ty f = absurd ty
    argument_run (choice h j) q l g ty f = absurd ty
    argument_run (choice_stays h j) q l g ty f = absurd ty
    argument_run (assignment h) q l g ty f = absurd ty
    argument_run (call h) q l g ty f = absurd ty
    argument_run (release h) q l g ty f = absurd ty
    argument_run (expression h) q l g ty f = absurd ty
    argument_run (sequence h j) q l g ty f = absurd ty
    argument_run (sequence_leaves h j) q l g ty f = absurd ty
    argument_run (if h t j) q l g ty f = absurd ty
    argument_run (if_not h t) q l g ty f = absurd ty
    argument_run (if_stays h j) q l g ty f = absurd ty
    argument_run (if_else h j) q l g ty f = absurd ty
    argument_run (if_else_stays h j) q l g ty f = absurd ty
    argument_run (while h) q l g ty f = absurd ty
    argument_run (do_while h) q l g ty f = absurd ty
    argument_run (return h) q l g ty f = absurd ty
    argument_run return_void q l g ty f = absurd ty
    argument_run break q l g ty f = absurd ty
    argument_run continue q l g ty f = absurd ty
    argument_run definition q l g ty f = absurd ty
    argument_run (output h) q l g ty f = absurd ty

    -- the arguments of a call of procedure g: the values so far fit the parameters ds, and those to come vs
    passing : {g m : ℕ} {i : Option ℕ} {xs : List (Value ℕ)} {s : Shown} {k : Kept} {a : Ending} → Passes (tables p ns) g i xs s k m a → (q : ℕ) (ds vs : List VariableRecord) → ProcedureIs p g (called_at r p ns g) → parameters_of p (called_at r p ns g) ≡ ds ++ vs → Arguments r p q i vs → Passable p xs ds → Fitting p k → CallEnding p (T g) (L g) a
    passing (passes {next = next} {x = x} {xs = xs} h j) q ds vs w e d t f =
        let c = first_argument r p ns told d in
        let v = argument_run h q c.level c.next c.argued f in
        passing j q (ds ++ c.parameter ∷ []) c.others w
        (e ∙ ap (λ us. ds ++ us) c.whole ∙ sym (append_assoc ds (c.parameter ∷ []) c.others))
        (subst (λ n. Arguments r p q n c.others) (sym v.0) c.rest)
        (passable_more p xs ds x c.parameter t (flow_takes law c.level c.parameter.level x c.flows v.1)) v.2
    passing (argument_stays {g = g} {r = a} h j) q ds vs w e d t f =
        let c = first_argument r p ns told d in unargued p c.level c.next (T g) (L g) a j (argument_run h q c.level c.next c.argued f)
    passing (enters {g = g} {xs = xs} {r = a} h) q ds vs w e d t f =
        let b = well g (called_at r p ns g) w in
        let i : parameters_of p (called_at r p ns g) ≡ ds = e ∙ ap (λ us. ds ++ us) (no_argument r p ns told d) ∙ append-nil ds in
        called_ending p (T g) (L g) b.exits b.ends a
        (statement_as h g b.exits (statement_node r p ns told b.statement) (own_body g w) (stated_as r p ns told b.statement) (entered_fits p ns g xs (subst (Passable p xs) (sym i) t) f))

    statement_as : {n m : ℕ} {y : Node} {s : Shown} {k : Kept} {a : Ending} → Runs (tables p ns) n y s k m a → (q : ℕ) (x : Exits) → NodeIs p n y → Belongs p q n → StatedAs r p ns q y x → Fitting p k → StatementEnding p (T q) (L q) x a
    statement_as cut q x i b ty f = f
    statement_as (expression {r = a} h) q x i b ty f =
        ⊎_elim
        (λ c. waits p _ (StatementEnding p (T q) (L q) x) (λ o s k g. g) a (value_as h q c.1 c.0 (leveled c.2) (typed_as r p ns told c.2) f) (λ y s k m fy fk. (ap (λ (z : Exits). z.falls) ty.1, fk)))
        (λ c. void_falls p 0 _ (StatementEnding p (T q) (L q) x) (λ o s k g. g) (λ s k m fk. (ap (λ (z : Exits). z.falls) ty.1, fk)) a (void_run h q (void_as r p ns told c) f))
        ty.0
    statement_as {n = n} (sequence {a = c} {b = d} {r = a} h j) q x i b ty f =
        let v = statement_as h q ty.0 (statement_node r p ns told ty.2) (formed.together n c q _ i (inl refl) b) (stated_as r p ns told ty.2) f in
        let w = statement_as j q ty.1 (statement_node r p ns told ty.3) (formed.together n d q _ i (inr (inl refl)) b) (stated_as r p ns told ty.3) v.1 in
        subst (λ z. StatementEnding p (T q) (L q) z a) (sym ty.4) (more_exits p (L q) (T q) ty.1 (sequence_exits ty.0 ty.1) (less_right (without_falls ty.0) ty.1) a w)
    statement_as {n = n} (sequence_leaves {a = c} {r = a} h j) q x i b ty f =
        let v = statement_as h q ty.0 (statement_node r p ns told ty.2) (formed.together n c q _ i (inl refl) b) (stated_as r p ns told ty.2) f in
        subst (λ z. StatementEnding p (T q) (L q) z a) (sym ty.4) (leaving p (L q) (T q) ty.0 ty.1 a j v)
    statement_as {n = n} (if {b = d} {r = a} h t j) q x i b ty f =
        let c = ty.1 in
        let v = value_as h q c.1 c.0 (leveled c.2) (typed_as r p ns told c.2) f in
        let w = statement_as j q ty.0 (statement_node r p ns told ty.2) (formed.together n d q _ i (inr (inl refl)) b) (stated_as r p ns told ty.2) v.1 in
        subst (λ z. StatementEnding p (T q) (L q) z a) (sym ty.3) (more_exits p (L q) (T q) ty.0 (union ty.0 falling) (less_left ty.0 falling) a w)
    statement_as (if_not h t) q x i b ty f =
        let c = ty.1 in (ap (λ (z : Exits). z.falls) ty.3 ∙ or_right ty.0.falls true refl, (value_as h q c.1 c.0 (leveled c.2) (typed_as r p ns told c.2) f).1)
    statement_as (if_stays {r = a} h j) q x i b ty f = let c = ty.1 in ungiven p c.1 (StatementEnding p (T q) (L q) x) (λ o s k g. g) a j (value_as h q c.1 c.0 (leveled c.2) (typed_as r p ns told c.2) f)
    statement_as {n = n} (if_else {b = d} {c = g} {x = z} {r = a} h j) q x i b ty f =
        let c = ty.2 in
        let v = value_as h q c.1 c.0 (leveled c.2) (typed_as r p ns told c.2) f in
        let w = branch (holds z) ty.3 ty.4 (formed.together n d q _ i (inr (inl refl)) b) (formed.together n g q _ i (inr (inr (inl refl))) b) in
        subst (λ z. StatementEnding p (T q) (L q) z a) (sym ty.5) (more_exits p (L q) (T q) w.0 (union ty.0 ty.1) w.3 a (statement_as j q w.0 (statement_node r p ns told w.1) w.2 (stated_as r p ns told w.1) v.1))
    statement_as (if_else_stays {r = a} h j) q x i b ty f = let c = ty.2 in ungiven p c.1 (StatementEnding p (T q) (L q) x) (λ o s k g. g) a j (value_as h q c.1 c.0 (leveled c.2) (typed_as r p ns told c.2) f)
    statement_as {n = n} (while {b = d} {r = a} h) q x i b ty f =
        subst (λ z. StatementEnding p (T q) (L q) z a) (sym ty.3) (rounds h q ty.0 ty.1 ty.2 (formed.together n d q _ i (inr (inl refl)) b) f)
    statement_as {n = n} (do_while {b = d} {r = a} h) q x i b ty f =
        subst (λ z. StatementEnding p (T q) (L q) z a) (sym ty.3) (bodies h q ty.0 ty.1 ty.2 (formed.together n d q _ i (inr (inl refl)) b) f)
    statement_as {n = n} (return {r = a} h) q x i b ty f =
        waits p _ (StatementEnding p (T q) (L q) x) (λ o s k g. g) a (value_as h q ty.1 ty.0 (leveled ty.3) (typed_as r p ns told ty.3) f)
        (λ y s k m fy fk.
        let e : result_level (tables p ns) n ≡ L q = ap (λ o. (called_at r p ns o).level) (told.homes q n b) in
        let t : Fits (L q) (settled (result_level (tables p ns) n) y) = subst (λ l. Fits (L q) (settled l y)) (sym e) (flow_takes law ty.1 (L q) y ty.4 fy) in
        (ap (λ (z : Exits). z.returns) ty.5, subst (λ u. Returned u (L q) (Some (settled (result_level (tables p ns) n) y))) (sym ty.2) t, same_cells p (settling_cells (result_level (tables p ns) n) y k) fk))
    statement_as return_void q x i b ty f =
        (ap (λ (z : Exits). z.returns) ty.1, subst (λ u. Returned u (L q) None) (sym ty.0) tt, f)
    statement_as break q x i b ty f = (ap (λ (z : Exits). z.breaks) ty, f)
    statement_as continue q x i b ty f = (ap (λ (z : Exits). z.continues) ty, f)
    statement_as (definition {v = v}) q x i b ty f = (ap (λ (z : Exits). z.falls) ty, assigned_fits p ns v (Plain 0) (λ y h. plain_takes y.level 0) f)
    statement_as {n = n} (output {a = d} {r = a} h) q x i b ty f =
        let c = ty.0 in
        waits p _ (StatementEnding p (T q) (L q) x) (λ o s k g. g) a (value_as h q c.1 c.0 (leveled c.2) (typed_as r p ns told c.2) f)
        (λ y s k m fy fk. line_ends p (StatementEnding p (T q) (L q) x) _ n (figure_type (tables p ns) d) (plain_word y) Falls s k m fk (ap (λ (z : Exits). z.falls) ty.1, fk))
    statement_as constant q x i b ty f = absurd ty
    statement_as variable q x i b ty f = absurd ty
    statement_as (minus h) q x i b ty f = absurd ty
    statement_as (not h) q x i b ty f = absurd ty
    statement_as (arithmetic h) q x i b ty f = absurd ty
    statement_as (comparison h) q x i b ty f = absurd ty
    statement_as (and h) q x i b ty f = absurd ty
    statement_as (or h) q x i b ty f = absurd ty
    statement_as (choice h j) q x i b ty f = absurd ty
    statement_as (choice_stays h j) q x i b ty f = absurd ty
    statement_as (assignment h) q x i b ty f = absurd ty
    statement_as (call h) q x i b ty f = absurd ty
    statement_as (argument h) q x i b ty f = absurd ty
    statement_as (release h) q x i b ty f = absurd ty

    rounds : {c d m : ℕ} {s : Shown} {k : Kept} {a : Ending} → Rounds (tables p ns) c d s k m a → (q : ℕ) (y : Exits) → Valued r p ns q c → Statement r p q d y → Belongs p q d → Fitting p k → StatementEnding p (T q) (L q) (loop_exits y) a
    rounds (holds_on h t j) q y c d b f = bodies j q y c d b (value_as h q c.1 c.0 (leveled c.2) (typed_as r p ns told c.2) f).1
    rounds (fails h t) q y c d b f = (or_right y.falls true refl, (value_as h q c.1 c.0 (leveled c.2) (typed_as r p ns told c.2) f).1)
    rounds (guard_stays {r = a} h j) q y c d b f = ungiven p c.1 (StatementEnding p (T q) (L q) (loop_exits y)) (λ o s k g. g) a j (value_as h q c.1 c.0 (leveled c.2) (typed_as r p ns told c.2) f)

    bodies : {c d m : ℕ} {s : Shown} {k : Kept} {a : Ending} → Bodies (tables p ns) c d s k m a → (q : ℕ) (y : Exits) → Valued r p ns q c → Statement r p q d y → Belongs p q d → Fitting p k → StatementEnding p (T q) (L q) (loop_exits y) a
    bodies (again {m = m} {z = z} {t = t} {j = j} h g i) q y c d b f = rounds i q y c d b (going_on p (L q) (T q) y z t j m g (statement_as h q y (statement_node r p ns told d) b (stated_as r p ns told d) f))
    bodies (leaves {r = a} h g) q y c d b f = left_loop p (L q) (T q) y a g (statement_as h q y (statement_node r p ns told d) b (stated_as r p ns told d) f)

  pub value : {n m : ℕ} {s : Shown} {k : Kept} {a : Ending} → Runs (tables p ns) n (node_of (tables p ns) n) s k m a → (q l : ℕ) (t : DataType) → Expression r p q n t l → Fitting p k → ValueEnding p l a
  value h q l t d f = value_as h q l t (leveled d) (typed_as r p ns told d) f

  pub statement : {n m : ℕ} {s : Shown} {k : Kept} {a : Ending} → Runs (tables p ns) n (node_of (tables p ns) n) s k m a → (q : ℕ) (x : Exits) → Statement r p q n x → Belongs p q n → Fitting p k → StatementEnding p (T q) (L q) x a
  statement h q x d b f = statement_as h q x (statement_node r p ns told d) b (stated_as r p ns told d) f
