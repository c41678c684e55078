-- Figures and cells that an observer of level o cannot tell apart. Here alone the laws of the levels are used.
use Rattle.std.proofs.Common.{◌≡◌, ℕ, zero, suc, Bool, true, false, cond, eqb, List, [], ◌∷◌, length, get_or, take, drop, set, sym, refl, ap, ◌∙◌, subst, true≢false, arith, get_or-set_other, get_or-set_same}
use Rattle.std.proofs.lemmas.Bool.{eqb-true, eq-eqb}
use Rattle.levels.specs.Rules.{Rules, Lawful}
use Rattle.program.specs.Program.{Program, no_variable}
use Rattle.program.specs.declared.records.Variable.{Variable}
use Rattle.typing.specs.Typing.{VariableIs, parameters_of}
use Rattle.typing.specs.declared.classes.TypedNode.{TypedNode}
use Rattle.typing.proofs.Tabled.{at_below, at_item}
use Rattle.semantics.specs.State.{Kept, word_in, plain_word, settled, settling, result, cell, stored, level_at, bound, is_local_of, cleared, entered, procedure}
use Rattle.semantics.specs.Fitting.{Fits, Fitting}
use Rattle.semantics.specs.declared.values.Value.{Value}
use Rattle.semantics.specs.declared.values.Value.TheVariants.{Plain, Held}
use Rattle.semantics.proofs.Cells.{result_fits, plain_takes, flow_takes, settling_cells, drop_next, same_cells, stored_fits, tables, level_is}

module _ (r : Rules) (o : ℕ) where
  -- two figures of level l, which are the same where the observer may know them
  pub record Agree (l : ℕ) (x y : Value ℕ) : Type 0 where
    pub left : Fits l x
    pub right : Fits l y
    pub same : r.flows l o ≡ true → x ≡ y

  -- what is kept by two runs, alike in the cells that the observer may know
  pub record Alike (p : Program) (k j : Kept) : Type 0 where
    pub left : Fitting p k
    pub right : Fitting p j
    pub same : (v : ℕ) (x : Variable) → VariableIs p v x → r.flows x.level o ≡ true → cell v k ≡ cell v j

  -- the figures that parameters take, two and two
  abbrev pub Taken : List Variable → List (Value ℕ) → List (Value ℕ) → Type 0
  Taken [] [] [] = Unit {0}
  Taken [] [] (y ∷ ys) = ⊥
  Taken [] (x ∷ xs) ys = ⊥
  Taken (d ∷ ds) [] ys = ⊥
  Taken (d ∷ ds) (x ∷ xs) [] = ⊥
  Taken (d ∷ ds) (x ∷ xs) (y ∷ ys) = Agree d.level (settled d.level x) (settled d.level y) × Taken ds xs ys

module _ (r : Rules) (law : Lawful r) (o : ℕ) (known : r.is_level o ≡ true) where
  -- ---- figures

  pub agree_at : {l m : ℕ} {x y : Value ℕ} → l ≡ m → Agree r o l x y → Agree r o m x y
  agree_at {x = x} {y = y} e a = subst (λ (i : ℕ). Agree r o i x y) e a

  pub public_same : {x y : Value ℕ} → Agree r o 0 x y → x ≡ y
  public_same a = a.same (law.public_below o known)

  pub one_public : (w : ℕ) → Agree r o 0 (Plain w) (Plain w)
  one_public w = record { left = refl; right = refl; same = λ h. refl }

  pub agree_result : (l : ℕ) (f : ℕ → ℕ) {x y : Value ℕ} → Agree r o l x y → Agree r o l (result l (f (plain_word x)) (f (word_in x))) (result l (f (plain_word y)) (f (word_in y)))
  agree_result l f {x = x} {y = y} a =
      record { left = result_fits l (f (plain_word x)) (f (word_in x)); right = result_fits l (f (plain_word y)) (f (word_in y)); same = λ h. ap (λ (z : Value ℕ). result l (f (plain_word z)) (f (word_in z))) (a.same h) }

  pub agree_settled : (l m : ℕ) {x y : Value ℕ} → r.flows l m ≡ true → Agree r o l x y → Agree r o m (settled m x) (settled m y)
  agree_settled l m {x = x} {y = y} h a =
      record { left = flow_takes law l m x h a.left; right = flow_takes law l m y h a.right; same = λ k. ap (settled m) (a.same (law.transitive l m o h k)) }

  -- the same plain word
  pub agree_plain : (m w : ℕ) → Agree r o m (settled m (Plain w)) (settled m (Plain w))
  agree_plain m w = record { left = plain_takes m w; right = plain_takes m w; same = λ h. refl }

  -- and two that the observer may not know
  pub agree_hidden : (m w v : ℕ) → r.flows m o ≡ false → Agree r o m (settled m (Plain w)) (settled m (Plain v))
  agree_hidden m w v n = record { left = plain_takes m w; right = plain_takes m v; same = λ h. absurd (true≢false (sym h ∙ n)) }

  -- two operands of levels l and m at an operator whose level is not public
  pub agree_held : (l m : ℕ) (f : ℕ → ℕ → ℕ) {x y u v : Value ℕ} → r.is_level l ≡ true → r.is_level m ≡ true → eqb (r.joint l m) 0 ≡ false → Agree r o l x y → Agree r o m u v → Agree r o (r.joint l m) (Held (f (word_in x) (word_in u))) (Held (f (word_in y) (word_in v)))
  agree_held l m f {x = x} {v = v} i j n a b =
      record {
        left = n;
        right = n;
        same = λ h.
            ap (λ (z : Value ℕ). Held (f (word_in x) (word_in z))) (b.same (law.transitive m (r.joint l m) o (law.joint_right l m i j) h))
            ∙ ap (λ (z : Value ℕ). Held (f (word_in z) (word_in v))) (a.same (law.transitive l (r.joint l m) o (law.joint_left l m i j) h));
      }

  -- both operands of a public operator are public
  pub public_both : (l m : ℕ) → r.is_level l ≡ true → r.is_level m ≡ true → r.joint l m ≡ 0 → (l ≡ 0) × (m ≡ 0)
  public_both l m i j e = (
    law.public_alone l (subst (λ (n : ℕ). r.flows l n ≡ true) e (law.joint_left l m i j)),
    law.public_alone m (subst (λ (n : ℕ). r.flows m n ≡ true) e (law.joint_right l m i j)),
  )

  -- ---- cells

  module _ (p : Program) where
    pub alike_cells : {k j i h : Kept} → i.cells ≡ k.cells → h.cells ≡ j.cells → Alike r o p k j → Alike r o p i h
    alike_cells {k = k} {j = j} {i = i} {h = h} e f a =
        record {
          left = same_cells p {k = k} {j = i} e a.left;
          right = same_cells p {k = j} {j = h} f a.right;
          same = λ v x q s. ap (λ (cs : List (Value ℕ)). get_or cs v (Plain 0)) e ∙ a.same v x q s ∙ sym (ap (λ (cs : List (Value ℕ)). get_or cs v (Plain 0)) f);
        }

    pub alike_settled : {k j : Kept} (l m : ℕ) (x y : Value ℕ) → Alike r o p k j → Alike r o p (settling l x k) (settling m y j)
    alike_settled {k = k} {j = j} l m x y a = alike_cells {k = k} {j = j} {i = settling l x k} {h = settling m y j} (settling_cells l x k) (settling_cells m y j) a

    pub alike_cell : {k j : Kept} (v : ℕ) (x : Variable) → VariableIs p v x → Alike r o p k j → Agree r o x.level (cell v k) (cell v j)
    alike_cell v x q a = record { left = a.left.fits v x q; right = a.right.fits v x q; same = a.same v x q }

    pub alike_stored : {k j : Kept} (v l : ℕ) (x y : Value ℕ) → ((z : Variable) → VariableIs p v z → Agree r o z.level (settled l x) (settled l y)) → Alike r o p k j → Alike r o p (stored v l x k) (stored v l y j)
    alike_stored {k = k} {j = j} v l x y g a =
        record {
          left = stored_fits p v l x (λ z q. (g z q).left) a.left;
          right = stored_fits p v l y (λ z q. (g z q).right) a.right;
          same = λ u z q s. by u z q s (eqb u v) refl;
        }
      where
        there : (i : Kept) (w : Value ℕ) (u : ℕ) (z : Variable) → VariableIs p u z → u ≡ v → Fitting p i → get_or (set (settling l w i).cells v (settled l w)) u (Plain 0) ≡ settled l w
        there i w u z q e f =
            ap (λ (n : ℕ). get_or (set (settling l w i).cells v (settled l w)) n (Plain 0)) e
            ∙ get_or-set_same (settling l w i).cells v (settled l w) (Plain 0) (omega (arith, e, at_below no_variable p.variables u z q, f.there, ap length (settling_cells l w i)))

        apart : (i : Kept) (w : Value ℕ) (u : ℕ) → (u ≡ v → ⊥) → get_or (set (settling l w i).cells v (settled l w)) u (Plain 0) ≡ cell u i
        apart i w u n = get_or-set_other (settling l w i).cells v u (settled l w) (Plain 0) n ∙ ap (λ (cs : List (Value ℕ)). get_or cs u (Plain 0)) (settling_cells l w i)

        by : (u : ℕ) (z : Variable) → VariableIs p u z → r.flows z.level o ≡ true → (t : Bool) → eqb u v ≡ t → cell u (stored v l x k) ≡ cell u (stored v l y j)
        by u z q s true e =
            let i : u ≡ v = eqb-true u v e in
            there k x u z q i a.left ∙ (g z (subst (λ (n : ℕ). VariableIs p n z) i q)).same s ∙ sym (there j y u z q i a.right)
        by u z q s false e =
            let n : u ≡ v → ⊥ = λ i. true≢false (sym (eq-eqb u v i) ∙ e) in
            apart k x u n ∙ a.same u z q s ∙ sym (apart j y u n)

    pub alike_cleared : (g i : ℕ) (vs : List Variable) (k j : Kept) → drop i p.variables ≡ vs → Alike r o p k j → Alike r o p (cleared g i vs k) (cleared g i vs j)
    unfolding cleared
    alike_cleared g i [] k j h a = a
    alike_cleared g i (v ∷ vs) k j h a = alike_cleared g (suc i) vs _ _ (drop_next no_variable i p.variables h).1 (by (is_local_of g v.role))
      where
        by : (t : Bool) → Alike r o p (cond t (stored i v.level (Plain 0) k) k) (cond t (stored i v.level (Plain 0) j) j)
        by true =
            alike_stored i v.level (Plain 0) (Plain 0)
            (λ z q. subst (λ (w : Variable). Agree r o w.level (settled v.level (Plain 0)) (settled v.level (Plain 0))) (sym (drop_next no_variable i p.variables h).0 ∙ at_item no_variable p.variables i z q) (agree_plain v.level 0))
            a
        by false = a

    module _ (ns : List TypedNode) where
      alike_bound : (v c : ℕ) (xs ys : List (Value ℕ)) (ds : List Variable) (k j : Kept) → drop v p.variables ≡ ds → Taken r o (take c ds) xs ys → Alike r o p k j → Alike r o p (bound (tables p ns) v xs k) (bound (tables p ns) v ys j)
      unfolding bound
      alike_bound v zero [] [] ds k j h t a = a
      alike_bound v zero [] (y ∷ ys) ds k j h t a = absurd t
      alike_bound v zero (x ∷ xs) ys ds k j h t a = absurd t
      alike_bound v (suc c) [] [] [] k j h t a = a
      alike_bound v (suc c) [] (y ∷ ys) [] k j h t a = absurd t
      alike_bound v (suc c) (x ∷ xs) ys [] k j h t a = absurd t
      alike_bound v (suc c) [] ys (d ∷ ds) k j h t a = absurd t
      alike_bound v (suc c) (x ∷ xs) [] (d ∷ ds) k j h t a = absurd t
      alike_bound v (suc c) (x ∷ xs) (y ∷ ys) (d ∷ ds) k j h t a =
          alike_bound (suc v) c xs ys ds _ _ (drop_next no_variable v p.variables h).1 t.1 (alike_stored v (level_at (tables p ns) v) x y fit a)
        where
          fit : (z : Variable) → VariableIs p v z → Agree r o z.level (settled (level_at (tables p ns) v) x) (settled (level_at (tables p ns) v) y)
          fit z q =
              let same : d ≡ z = sym (drop_next no_variable v p.variables h).0 ∙ at_item no_variable p.variables v z q in
              subst (λ (l : ℕ). Agree r o z.level (settled l x) (settled l y)) (sym (level_is p ns v z q)) (subst (λ (w : Variable). Agree r o w.level (settled w.level x) (settled w.level y)) same t.0)

      pub alike_entered : {k j : Kept} (g : ℕ) (xs ys : List (Value ℕ)) → Taken r o (parameters_of p (procedure (tables p ns) g)) xs ys → Alike r o p k j → Alike r o p (entered (tables p ns) g xs k) (entered (tables p ns) g ys j)
      alike_entered {k = k} {j = j} g xs ys t a =
          let d = procedure (tables p ns) g in
          alike_cleared g 0 p.variables _ _ refl (alike_bound d.first_parameter d.parameters xs ys (drop d.first_parameter p.variables) k j refl t a)
