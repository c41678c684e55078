-- Figures and cells that fit their levels, through the changes that a run makes.
use Rattle.std.proofs.Common.{◌≡◌, ℕ, zero, suc, ◌<◌, ◌≤◌, Bool, true, false, cond, eqb, List, [], ◌∷◌, length, get_or, take, drop, set, sym, refl, ap, ◌∙◌, subst, true≢false, arith, length-set, get_or-set_other, get_or-set_same}
use Rattle.std.proofs.lemmas.Bool.{eqb-true, eq-eqb}
use Rattle.levels.specs.Rules.{Rules, Lawful}
use Rattle.program.specs.Program.{Program, no_variable}
use Rattle.program.specs.declared.records.Variable.{Variable}
use Rattle.typing.specs.Environment.{Environment}
use Rattle.typing.specs.Faults.{environment}
use Rattle.typing.specs.Rows.{variable_level}
use Rattle.typing.specs.Typing.{VariableIs, parameters_of}
use Rattle.typing.specs.declared.classes.TypedNode.{TypedNode}
use Rattle.typing.proofs.Tabled.{at_below, at_item}
use Rattle.semantics.specs.State.{Kept, settled, settling, result, working, working_both, operated, put, stored, level_at, bound, is_local_of, cleared, entered, procedure}
use Rattle.semantics.specs.Fitting.{Fits, Fitting}
use Rattle.semantics.specs.declared.values.Value.{Value}
use Rattle.semantics.specs.declared.values.Value.TheVariants.{Plain, Held}

-- a figure that fits level l once it is put in where that is due
abbrev pub Takes : ℕ → Value ℕ → Type 0
Takes l x = Fits l (settled l x)

either_fits : (l a b : ℕ) (t : Bool) → eqb l 0 ≡ t → Fits l (cond t (Plain a) (Held b))
either_fits l a b true e = eqb-true l 0 e
either_fits l a b false e = e

pub result_fits : (l a b : ℕ) → Fits l (result l a b)
result_fits l a b = either_fits l a b (eqb l 0) refl

pub plain_takes : (l w : ℕ) → Takes l (Plain w)
plain_takes l w = either_fits l w w (eqb l 0) refl

-- nothing but level 0 flows into level 0
pub flow_takes : {r : Rules} → Lawful r → (m l : ℕ) (x : Value ℕ) → r.flows m l ≡ true → Fits m x → Takes l x
flow_takes law m l (Plain w) h f = plain_takes l w
flow_takes {r = r} law m l (Held w) h f = by (eqb l 0) refl
  where
    by : (t : Bool) → eqb l 0 ≡ t → eqb l 0 ≡ false
    by true e =
        let z : m ≡ 0 = law.public_alone m (subst (λ (i : ℕ). r.flows m i ≡ true) (eqb-true l 0 e) h) in
        absurd (true≢false (sym (eq-eqb m 0 z) ∙ f))
    by false e = e

-- ---- only what is stored changes the cells

pub settling_cells : (l : ℕ) (x : Value ℕ) (k : Kept) → (settling l x k).cells ≡ k.cells
settling_cells l (Plain w) k = by (eqb l 0)
  where
    by : (t : Bool) → (cond t k (put k)).cells ≡ k.cells
    by true = refl
    by false = refl
settling_cells l (Held w) k = refl

either_cells : (t : Bool) (k j : Kept) → j.cells ≡ k.cells → (cond t k j).cells ≡ k.cells
either_cells true k j h = refl
either_cells false k j h = h

pub working_cells : (l : ℕ) (x : Value ℕ) (k : Kept) → (working l x k).cells ≡ k.cells
working_cells l x k = either_cells (eqb l 0) k (operated (settling l x k)) (settling_cells l x k)

pub working_both_cells : (l : ℕ) (x y : Value ℕ) (k : Kept) → (working_both l x y k).cells ≡ k.cells
working_both_cells l x y k =
    either_cells (eqb l 0) k (operated (settling l y (settling l x k))) (settling_cells l y (settling l x k) ∙ settling_cells l x k)

-- ---- the rest of a list from number i on

pub drop_next : {X : Type 0} (d : X) (i : ℕ) (l : List X) {v : X} {vs : List X} → drop i l ≡ v ∷ vs → (get_or l i d ≡ v) × (drop (suc i) l ≡ vs)
drop_next d zero l h = (ap (λ xs. get_or xs 0 d) h, ap (λ xs. drop 1 xs) h)
drop_next d (suc i) [] h = cc
drop_next d (suc i) (x ∷ xs) h = drop_next d i xs h

module _ (p : Program) where
  pub same_cells : {k j : Kept} → j.cells ≡ k.cells → Fitting p k → Fitting p j
  same_cells h f =
      record {
        there = subst (λ cs. length p.variables ≤ length cs) (sym h) f.there;
        fits = λ v x i. subst (λ cs. Fits x.level (get_or cs v (Plain 0))) (sym h) (f.fits v x i);
      }

  -- a figure is stored that fits the variable
  pub stored_fits : {k : Kept} (v l : ℕ) (x : Value ℕ) → ((y : Variable) → VariableIs p v y → Fits y.level (settled l x)) → Fitting p k → Fitting p (stored v l x k)
  stored_fits {k = k} v l x g f =
      let j = same_cells {k = k} {j = settling l x k} (settling_cells l x k) f in
      let cs = (settling l x k).cells in
      record {
        there = subst (λ n. length p.variables ≤ n) (sym (length-set cs v (settled l x))) j.there;
        fits = λ u y i. by u y i (eqb u v) refl j;
      }
    where
      by : (u : ℕ) (y : Variable) → VariableIs p u y → (t : Bool) → eqb u v ≡ t → Fitting p (settling l x k) → Fits y.level (get_or (set (settling l x k).cells v (settled l x)) u (Plain 0))
      by u y i true e j =
          let z : u ≡ v = eqb-true u v e in
          let i' : VariableIs p v y = subst (λ n. VariableIs p n y) z i in
          let lt : v < length (settling l x k).cells = omega (arith, at_below no_variable p.variables v y i', j.there) in
          subst (λ n. Fits y.level (get_or (set (settling l x k).cells v (settled l x)) n (Plain 0))) (sym z)
          (subst (λ z. Fits y.level z) (sym (get_or-set_same (settling l x k).cells v (settled l x) (Plain 0) lt)) (g y i'))
      by u y i false e j =
          subst (λ z. Fits y.level z) (sym (get_or-set_other (settling l x k).cells v u (settled l x) (Plain 0) (λ z. absurd (true≢false (sym (eq-eqb u v z) ∙ e))))) (j.fits u y i)

  -- the figures that the parameters take
  abbrev pub Passable : List (Value ℕ) → List Variable → Type 0
  Passable [] [] = Unit {0}
  Passable [] (v ∷ vs) = ⊥
  Passable (x ∷ xs) [] = ⊥
  Passable (x ∷ xs) (v ∷ vs) = Takes v.level x × Passable xs vs

  cleared_by : (g i : ℕ) (vs : List Variable) (k : Kept) → drop i p.variables ≡ vs → Fitting p k → Fitting p (cleared g i vs k)
  unfolding cleared
  cleared_by g i [] k h f = f
  cleared_by g i (v ∷ vs) k h f = cleared_by g (suc i) vs _ (drop_next no_variable i p.variables h).1 (by (is_local_of g v.role))
    where
      same : (y : Variable) → VariableIs p i y → v ≡ y
      same y n = sym (drop_next no_variable i p.variables h).0 ∙ at_item no_variable p.variables i y n

      by : (t : Bool) → Fitting p (cond t (stored i v.level (Plain 0) k) k)
      by true = stored_fits i v.level (Plain 0) (λ y n. subst (λ z. Fits z.level (settled v.level (Plain 0))) (same y n) (plain_takes v.level 0)) f
      by false = f

  module _ (ns : List TypedNode) where
    abbrev pub tables : Environment
    tables = environment p.variables p.procedures ns

    pub level_is : (v : ℕ) (y : Variable) → VariableIs p v y → level_at tables v ≡ y.level
    level_is v y h = ap variable_level h

    -- a variable is assigned a figure that it takes
    pub assigned_fits : {k : Kept} (v : ℕ) (x : Value ℕ) → ((y : Variable) → VariableIs p v y → Takes y.level x) → Fitting p k → Fitting p (stored v (level_at tables v) x k)
    assigned_fits v x g f = stored_fits v (level_at tables v) x (λ y h. subst (λ l. Fits y.level (settled l x)) (sym (level_is v y h)) (g y h)) f

    bound_by : (v c : ℕ) (xs : List (Value ℕ)) (ds : List Variable) (k : Kept) → drop v p.variables ≡ ds → Passable xs (take c ds) → Fitting p k → Fitting p (bound tables v xs k)
    unfolding bound
    bound_by v c [] ds k h t f = f
    bound_by v zero (x ∷ xs) ds k h t f = absurd t
    bound_by v (suc c) (x ∷ xs) [] k h t f = absurd t
    bound_by v (suc c) (x ∷ xs) (d ∷ ds) k h t f =
        bound_by (suc v) c xs ds _ (drop_next no_variable v p.variables h).1 t.1 (stored_fits v (level_at tables v) x fit f)
      where
        fit : (y : Variable) → VariableIs p v y → Fits y.level (settled (level_at tables v) x)
        fit y n =
            let same : d ≡ y = sym (drop_next no_variable v p.variables h).0 ∙ at_item no_variable p.variables v y n in
            subst (λ l. Fits y.level (settled l x)) (sym (level_is v y n)) (subst (λ z. Takes z.level x) same t.0)

    pub entered_fits : {k : Kept} (g : ℕ) (xs : List (Value ℕ)) → Passable xs (parameters_of p (procedure tables g)) → Fitting p k → Fitting p (entered tables g xs k)
    entered_fits g xs t f =
        let d = procedure tables g in
        cleared_by g 0 p.variables _ refl (bound_by d.first_parameter d.parameters xs (drop d.first_parameter p.variables) _ refl t f)
