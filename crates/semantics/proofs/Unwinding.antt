-- Two runs that an observer cannot tell apart stay so turn by turn, or their lines part at a release.
use Rattle.std.proofs.Common.{◌≡◌, ℕ, zero, suc, Bool, true, false, cond, eqb, List, [], ◌∷◌, ◌++◌, length, Some, None, Option, sym, refl, ap, ◌∙◌, subst, inl, inr, true≢false, append_assoc, append-nil}
use Rattle.std.proofs.lemmas.Bool.{eqb-true, eq-eqb}
use Rattle.words.specs.Operators.{minus_word, not_word}
use Rattle.words.specs.declared.types.DataType.{DataType}
use Rattle.words.specs.declared.types.DataType.TheVariants.{Bool as Boolean}
use Rattle.levels.specs.Rules.{Rules, Lawful}
use Rattle.program.specs.Encode.{encoded}
use Rattle.program.specs.Program.{Program, children}
use Rattle.program.specs.declared.records.Node.{Node}
use Rattle.program.specs.declared.records.Procedure.{Procedure}
use Rattle.program.specs.declared.records.Variable.{Variable as VariableRecord}
use Rattle.typing.specs.Environment.{level_of}
use Rattle.typing.specs.Formed.{WellFormed, Belongs, Among}
use Rattle.typing.specs.Typing.{NodeIs, VariableIs, ProcedureIs, parameters_of, Expression, Arguments, void_call, Statement, WellTyped, constant, variable, minus, not, arithmetic, comparison, and, or, choice, assignment, call, release, none, argument, expression, procedure_call, sequence, if, if_else, while, do_while, return, return_void, break, continue, definition, output}
use Rattle.typing.specs.declared.classes.Exits.{Exits}
use Rattle.typing.proofs.Belonging.{body_belongs}
use Rattle.typing.proofs.Passed.{rises, last}
use Rattle.typing.proofs.Tabled.{some_none}
use Rattle.typing.proofs.Theorems.{sound_acceptance}
use Rattle.semantics.specs.State.{Shown, Kept, tick, full, written, word_in, plain_word, settled, settling, result, working, working_both, decides, plain_result, held_result, holds, stored, level_at, node_of, procedure}
use Rattle.semantics.specs.Fitting.{nodes_of, environment_of}
use Rattle.semantics.specs.Machine.{Frame, wait, then, loop, calling, running, Move, begin, under, over, line, Config, done, shown, plainly, argued, begins, got, got_both, meets, drive, pass, turn, run, Want, first, second, chosen}
use Rattle.semantics.specs.declared.lines.LineKind.TheVariants.{Release as ReleaseLine, Output as OutputLine}
use Rattle.semantics.specs.declared.lines.Outcome.TheVariants.{LinesFull}
use Rattle.semantics.specs.declared.values.Operator.{Operator}
use Rattle.semantics.specs.declared.values.Operator.TheVariants.{Arithmetic as Calculates, Comparison as Compares, And, Or}
use Rattle.semantics.specs.declared.values.Signal.{Signal}
use Rattle.semantics.specs.declared.values.Signal.TheVariants.{Gives, Argues, Falls, Returns, Breaks, Continues}
use Rattle.semantics.specs.declared.values.Value.{Value}
use Rattle.semantics.specs.declared.values.Value.TheVariants.{Plain, Held}
use Rattle.semantics.proofs.Agreeing.{Agree, Alike, Taken, agree_at, public_same, one_public, agree_result, agree_settled, agree_plain, agree_held, public_both, alike_cells, alike_settled, alike_cell, alike_stored, alike_entered}
use Rattle.semantics.proofs.Cells.{level_is, working_cells, working_both_cells}
use Rattle.semantics.proofs.Described.{described}
use Rattle.semantics.proofs.Growing.{pass_grows, run_grows, parts_grow, parts_here}
use Rattle.semantics.proofs.Inverted.{procedure_told}
use Rattle.semantics.proofs.Low.{Part, figure, nothing, passing, statement, Bare, Ends, e_gives, e_argues, e_returns, e_bare, Begins, b_figure, b_void, b_argument, b_statement, Called, c_result, c_void, Waits, w_minus, w_not, w_first, w_second, w_choosing, w_chosen, w_assigning, w_arguing, w_releasing, w_outputting, w_discarding, w_void, w_branching, w_branching_else, w_guarding, w_returning, Above, a_wait, a_then, a_loop, a_calling, a_running, Stack, bottom, on, Moves, m_begin, m_under, m_over, m_output, m_release, m_stop, Low, low_at, low_done, Seen, same, parted}

-- what is waited for is an expression, or a call of a void procedure
abbrev Awaited : Part → Type 0
Awaited (figure l) = Unit {0}
Awaited nothing = Unit {0}
Awaited (passing l next) = ⊥
Awaited (statement q) = ⊥

module _ (r : Rules) (law : Lawful r) (o : ℕ) (known : r.is_level o ≡ true) (p : Program) (formed : WellFormed r p) (well : WellTyped r p) where
  awaited : {a b : Part} {n : ℕ} {w v : Want} → Waits r o p a b n w v → Awaited a
  awaited (w_minus e) = tt
  awaited (w_not e) = tt
  awaited (w_first e i j d) = tt
  awaited (w_second e i j d) = tt
  awaited (w_choosing e i j d f) = tt
  awaited (w_chosen e f) = tt
  awaited (w_assigning v f) = tt
  awaited w_arguing = tt
  awaited w_releasing = tt
  awaited w_outputting = tt
  awaited w_discarding = tt
  awaited w_void = tt
  awaited (w_branching d b) = tt
  awaited (w_branching_else d b f c) = tt
  awaited (w_guarding c d b) = tt
  awaited (w_returning s e f) = tt

  level_is_level : {q n l : ℕ} {t : DataType} → Expression r p q n t l → r.is_level l ≡ true
  level_is_level {q = q} {n = n} {l = l} {t = t} d = (sound_acceptance r law (encoded p) (record { program = p; encodes = refl; formed = formed; typed = well })).1.levels q n l t d

  level_told : {q n l : ℕ} {t : DataType} → Expression r p q n t l → level_of (environment_of r p) n ≡ l
  level_told {q = q} {n = n} {l = l} {t = t} d = (described r p formed well).levels q n l t d

  -- ---- calls

  taken_more : (ds : List VariableRecord) (d : VariableRecord) (xs ys : List (Value ℕ)) (x y : Value ℕ) → Taken r o ds xs ys → Agree r o d.level (settled d.level x) (settled d.level y) → Taken r o (ds ++ d ∷ []) (xs ++ x ∷ []) (ys ++ y ∷ [])
  taken_more [] d [] [] x y t a = (a, tt)
  taken_more [] d [] (v ∷ ys) x y t a = absurd t
  taken_more [] d (u ∷ xs) ys x y t a = absurd t
  taken_more (c ∷ ds) d [] ys x y t a = absurd t
  taken_more (c ∷ ds) d (u ∷ xs) [] x y t a = absurd t
  taken_more (c ∷ ds) d (u ∷ xs) (v ∷ ys) x y t a = (t.0, taken_more ds d xs ys x y t.1 a)

  argued_low : {g q : ℕ} {c : Part} {f : Option ℕ} {k j : Kept} (n : ℕ) (ds rest : List VariableRecord) (xs ys : List (Value ℕ)) → Called r o p g c → ProcedureIs p g (procedure (environment_of r p) g) → parameters_of p (procedure (environment_of r p) g) ≡ ds ++ rest → Taken r o ds xs ys → Arguments r p q f rest → Alike r o p k j → Moves r o p c (argued (environment_of r p) n g xs f k) (argued (environment_of r p) n g ys f j)
  argued_low {g = g} n ds [] xs ys cl i eq t none al =
      let d = procedure (environment_of r p) g in
      m_under (a_running cl) (b_statement (well g d i).statement (body_belongs p formed.some_procedures (rises r p formed well) (last r p formed well) g d i))
      (alike_entered r law o known p (nodes_of r p) g xs ys (subst (λ (vs : List VariableRecord). Taken r o vs xs ys) (sym (eq ∙ append-nil ds)) t) al)
  argued_low n ds (x ∷ rest) xs ys cl i eq t (argument h d fl rs) al = m_under (a_calling x ds rest cl i eq t fl rs) (b_argument h d) al

  called_result : {q : ℕ} {f : Option ℕ} {d : Procedure} {t : DataType} {k j : Kept} (n g : ℕ) → ProcedureIs p g d → d.result ≡ Some t → Arguments r p q f (parameters_of p d) → Alike r o p k j → Moves r o p (figure d.level) (argued (environment_of r p) n g [] f k) (argued (environment_of r p) n g [] f j)
  called_result {q = q} {f = f} {d = d} {k = k} {j = j} n g i s ps al =
      let e = procedure_told r p (nodes_of r p) g d i in
      subst (λ (c : Procedure). Moves r o p (figure c.level) (argued (environment_of r p) n g [] f k) (argued (environment_of r p) n g [] f j)) e
      (argued_low n [] (parameters_of p (procedure (environment_of r p) g)) [] [] (c_result (ap (λ (c : Procedure). c.result) e ∙ s)) (subst (ProcedureIs p g) (sym e) i) refl tt (subst (λ (c : Procedure). Arguments r p q f (parameters_of p c)) (sym e) ps) al)

  called_void : {q : ℕ} {f : Option ℕ} {d : Procedure} {k j : Kept} (n g : ℕ) → ProcedureIs p g d → d.result ≡ None → Arguments r p q f (parameters_of p d) → Alike r o p k j → Moves r o p nothing (argued (environment_of r p) n g [] f k) (argued (environment_of r p) n g [] f j)
  called_void {q = q} {f = f} {d = d} n g i s ps al =
      let e = procedure_told r p (nodes_of r p) g d i in
      argued_low n [] (parameters_of p (procedure (environment_of r p) g)) [] [] (c_void (ap (λ (c : Procedure). c.result) e ∙ s)) (subst (ProcedureIs p g) (sym e) i) refl tt (subst (λ (c : Procedure). Arguments r p q f (parameters_of p c)) (sym e) ps) al

  -- ---- a node begins

  step : {a : Part} (n : ℕ) (k j : Kept) (x : Node) → NodeIs p n x → Moves r o p a (begins (environment_of r p) n x k) (begins (environment_of r p) n x j) → Moves r o p a (begins (environment_of r p) n (node_of (environment_of r p) n) k) (begins (environment_of r p) n (node_of (environment_of r p) n) j)
  step {a = a} n k j x h m =
      subst (λ (y : Node). Moves r o p a (begins (environment_of r p) n y k) (begins (environment_of r p) n y j)) (sym ((described r p formed well).nodes n x h)) m

  child : {q : ℕ} (n m : ℕ) (x : Node) → NodeIs p n x → Among m (children x) → Belongs p q n → Belongs p q m
  child {q = q} n m x h c b = formed.together n m q x h c b

  figure_low : {q l : ℕ} {t : DataType} (n : ℕ) (k j : Kept) → Expression r p q n t l → Alike r o p k j → Moves r o p (figure l) (begins (environment_of r p) n (node_of (environment_of r p) n) k) (begins (environment_of r p) n (node_of (environment_of r p) n) j)
  unfolding begins
  figure_low n k j (constant {w = w} h) al = step n k j _ h (m_over (e_gives (one_public r law o known w)) al)
  figure_low n k j (variable {v = v} {x = x} h i s) al = step n k j _ h (m_over (e_gives (alike_cell r law o known p v x i al)) al)
  figure_low n k j (minus h d) al = step n k j _ h (m_under (a_wait (w_minus (level_told (minus h d)))) (b_figure d) al)
  figure_low n k j (not h d) al = step n k j _ h (m_under (a_wait (w_not (level_told (not h d)))) (b_figure d) al)
  figure_low n k j (arithmetic h s d f) al = step n k j _ h (m_under (a_wait (w_first (level_told (arithmetic h s d f)) (level_is_level d) (level_is_level f) f)) (b_figure d) al)
  figure_low n k j (comparison h s d f) al = step n k j _ h (m_under (a_wait (w_first (level_told (comparison h s d f)) (level_is_level d) (level_is_level f) f)) (b_figure d) al)
  figure_low n k j (and h d f) al = step n k j _ h (m_under (a_wait (w_first (level_told (and h d f)) (level_is_level d) (level_is_level f) f)) (b_figure d) al)
  figure_low n k j (or h d f) al = step n k j _ h (m_under (a_wait (w_first (level_told (or h d f)) (level_is_level d) (level_is_level f) f)) (b_figure d) al)
  figure_low n k j (choice h c d f) al = step n k j _ h (m_under (a_wait (w_choosing (level_told (choice h c d f)) (level_is_level d) (level_is_level f) d f)) (b_figure c) al)
  figure_low n k j (assignment h i s d f) al = step n k j _ h (m_under (a_wait (w_assigning i f)) (b_figure d) al)
  figure_low n k j (call h lt i s d) al = step n k j _ h (called_result n _ i s d al)
  figure_low n k j (release h d) al = step n k j _ h (m_under (a_wait w_releasing) (b_figure d) al)

  statement_low : {q : ℕ} {x : Exits} (n : ℕ) (k j : Kept) → Statement r p q n x → Belongs p q n → Alike r o p k j → Moves r o p (statement q) (begins (environment_of r p) n (node_of (environment_of r p) n) k) (begins (environment_of r p) n (node_of (environment_of r p) n) j)
  unfolding begins
  statement_low n k j (expression h d) b al = step n k j _ h (m_under (a_wait w_discarding) (b_figure d) al)
  statement_low n k j (procedure_call h d) b al = step n k j _ h (m_under (a_wait w_void) (b_void d) al)
  statement_low n k j (sequence h d f g) b al = step n k j _ h (m_under (a_then g (child n _ _ h (inr (inl refl)) b)) (b_statement d (child n _ _ h (inl refl) b)) al)
  statement_low n k j (if h c d) b al = step n k j _ h (m_under (a_wait (w_branching d (child n _ _ h (inr (inl refl)) b))) (b_figure c) al)
  statement_low n k j (if_else h c d f) b al = step n k j _ h (m_under (a_wait (w_branching_else d (child n _ _ h (inr (inl refl)) b) f (child n _ _ h (inr (inr (inl refl))) b))) (b_figure c) al)
  statement_low n k j (while h c d f) b al = step n k j _ h (m_under (a_wait (w_guarding c d (child n _ _ h (inr (inl refl)) b))) (b_figure c) al)
  statement_low n k j (do_while h c d f) b al = let i = child n _ _ h (inr (inl refl)) b in step n k j _ h (m_under (a_loop c d i) (b_statement d i) al)
  statement_low {q = q} n k j (return {l = l} {d = z} h i s d f) b al =
      let e = procedure_told r p (nodes_of r p) q z i in
      step n k j _ h (m_under (a_wait (w_returning (ap (λ (c : Procedure). c.result) e ∙ s) (ap (λ (i : ℕ). (procedure (environment_of r p) i).level) ((described r p formed well).homes q n b)) (subst (λ (c : Procedure). r.flows l c.level ≡ true) (sym e) f))) (b_figure d) al)
  statement_low n k j (return_void h i s) b al = step n k j _ h (m_over (e_bare (Returns None) tt) al)
  statement_low n k j (break h) b al = step n k j _ h (m_over (e_bare Breaks tt) al)
  statement_low n k j (continue h) b al = step n k j _ h (m_over (e_bare Continues tt) al)
  statement_low n k j (definition {v = v} h i s) b al =
      step n k j _ h (m_over (e_bare Falls tt)
      (alike_stored r law o known p v (level_at (environment_of r p) v) (Plain 0) (Plain 0) (λ z q. subst (λ (l : ℕ). Agree r o z.level (settled l (Plain 0)) (settled l (Plain 0))) (sym (level_is p (nodes_of r p) v z q)) (agree_plain r law o known z.level 0)) al))
  statement_low n k j (output h d) b al = step n k j _ h (m_under (a_wait w_outputting) (b_figure d) al)

  begins_low : {a : Part} (n : ℕ) (k j : Kept) → Begins r o p a n → Alike r o p k j → Moves r o p a (begins (environment_of r p) n (node_of (environment_of r p) n) k) (begins (environment_of r p) n (node_of (environment_of r p) n) j)
  unfolding begins
  begins_low n k j (b_figure d) al = figure_low n k j d al
  begins_low n k j (b_void (void_call h lt i s d)) al = step n k j _ h (called_void n _ i s d al)
  begins_low n k j (b_argument h d) al = step n k j _ h (m_under (a_wait w_arguing) (b_figure d) al)
  begins_low n k j (b_statement d b) al = statement_low n k j d b al

  -- ---- a node gets the value that it waits for

  decides_alike : (f : Operator) (l : ℕ) (x y : Value ℕ) → Agree r o l x y → decides f x ≡ decides f y
  decides_alike (Calculates c t) l x y a = refl
  decides_alike (Compares c t) l x y a = refl
  decides_alike And l (Plain w) (Plain v) a = ap (decides And) (public_same r law o known (agree_at r law o known a.left a))
  decides_alike And l (Plain w) (Held v) a = absurd (true≢false (sym (eq-eqb l 0 a.left) ∙ a.right))
  decides_alike And l (Held w) (Plain v) a = absurd (true≢false (sym (eq-eqb l 0 a.right) ∙ a.left))
  decides_alike And l (Held w) (Held v) a = refl
  decides_alike Or l (Plain w) (Plain v) a = ap (decides Or) (public_same r law o known (agree_at r law o known a.left a))
  decides_alike Or l (Plain w) (Held v) a = absurd (true≢false (sym (eq-eqb l 0 a.left) ∙ a.right))
  decides_alike Or l (Held w) (Plain v) a = absurd (true≢false (sym (eq-eqb l 0 a.right) ∙ a.left))
  decides_alike Or l (Held w) (Held v) a = refl

  first_low : {q b l m : ℕ} {t : DataType} {k j : Kept} (n : ℕ) (f : Operator) (x y : Value ℕ) → level_of (environment_of r p) n ≡ r.joint l m → r.is_level l ≡ true → r.is_level m ≡ true → Expression r p q b t m → Agree r o l x y → Alike r o p k j → Moves r o p (figure (r.joint l m)) (got (environment_of r p) n (first f b) x k) (got (environment_of r p) n (first f b) y j)
  unfolding got
  first_low {b = b} {l = l} {m = m} {k = k} {j = j} n f x y lev i u d a al =
      subst (λ (c : Bool). Moves r o p (figure (r.joint l m)) (got (environment_of r p) n (first f b) x k) (cond c (over (Gives (settled (level_of (environment_of r p) n) y)) (settling (level_of (environment_of r p) n) y j)) (under (wait n (second f y)) b j))) (decides_alike f l x y a) (by (decides f x))
    where
      by : (c : Bool) → Moves r o p (figure (r.joint l m)) (cond c (over (Gives (settled (level_of (environment_of r p) n) x)) (settling (level_of (environment_of r p) n) x k)) (under (wait n (second f x)) b k)) (cond c (over (Gives (settled (level_of (environment_of r p) n) y)) (settling (level_of (environment_of r p) n) y j)) (under (wait n (second f y)) b j))
      by true =
          subst (λ (z : ℕ). Moves r o p (figure (r.joint l m)) (over (Gives (settled z x)) (settling z x k)) (over (Gives (settled z y)) (settling z y j))) (sym lev)
          (m_over (e_gives (agree_settled r law o known l (r.joint l m) (law.joint_left l m i u) a)) (alike_settled r law o known p (r.joint l m) (r.joint l m) x y al))
      by false = m_under (a_wait (w_second lev i u a)) (b_figure d) al

  plainly_low : {l : ℕ} {k j : Kept} (w : Option ℕ) → l ≡ 0 → Alike r o p k j → Moves r o p (figure l) (plainly w k) (plainly w j)
  plainly_low None e al = m_stop al
  plainly_low (Some w) e al = m_over (e_gives (agree_at r law o known (sym e) (one_public r law o known w))) al

  second_low : {l m : ℕ} {k j : Kept} (n : ℕ) (f : Operator) (x y u v : Value ℕ) → level_of (environment_of r p) n ≡ r.joint l m → r.is_level l ≡ true → r.is_level m ≡ true → Agree r o l x y → Agree r o m u v → Alike r o p k j → Moves r o p (figure (r.joint l m)) (got_both (environment_of r p) n f x u k) (got_both (environment_of r p) n f y v j)
  second_low {l = l} {m = m} {k = k} {j = j} n f x y u v lev i h a b al =
      subst (λ (z : ℕ). Moves r o p (figure (r.joint l m)) (both z x u k) (both z y v j)) (sym lev) (by (eqb (r.joint l m) 0) refl)
    where
      both : ℕ → Value ℕ → Value ℕ → Kept → Move
      both z x u k = cond (eqb z 0) (plainly (plain_result f (plain_word x) (plain_word u)) k) (over (Gives (Held (held_result f (word_in x) (word_in u)))) (working_both z x u k))

      by : (c : Bool) → eqb (r.joint l m) 0 ≡ c → Moves r o p (figure (r.joint l m)) (cond c (plainly (plain_result f (plain_word x) (plain_word u)) k) (over (Gives (Held (held_result f (word_in x) (word_in u)))) (working_both (r.joint l m) x u k))) (cond c (plainly (plain_result f (plain_word y) (plain_word v)) j) (over (Gives (Held (held_result f (word_in y) (word_in v)))) (working_both (r.joint l m) y v j)))
      by true e =
          let z : r.joint l m ≡ 0 = eqb-true (r.joint l m) 0 e in
          let (zl, zm) = public_both r law o known l m i h z in
          let s : x ≡ y = public_same r law o known (agree_at r law o known zl a) in
          let t : u ≡ v = public_same r law o known (agree_at r law o known zm b) in
          subst (λ (w : Value ℕ). Moves r o p (figure (r.joint l m)) (plainly (plain_result f (plain_word x) (plain_word u)) k) (plainly (plain_result f (plain_word w) (plain_word v)) j)) s
          (subst (λ (w : Value ℕ). Moves r o p (figure (r.joint l m)) (plainly (plain_result f (plain_word x) (plain_word u)) k) (plainly (plain_result f (plain_word x) (plain_word w)) j)) t
          (plainly_low (plain_result f (plain_word x) (plain_word u)) z al))
      by false e =
          m_over (e_gives (agree_held r law o known l m (held_result f) i h e a b))
          (alike_cells r law o known p {k = k} {j = j} {i = working_both (r.joint l m) x u k} {h = working_both (r.joint l m) y v j} (working_both_cells (r.joint l m) x u k) (working_both_cells (r.joint l m) y v j) al)

  worked_low : {l : ℕ} {k j : Kept} (n : ℕ) (f : ℕ → ℕ) (x y : Value ℕ) → level_of (environment_of r p) n ≡ l → Agree r o l x y → Alike r o p k j → Moves r o p (figure l) (over (Gives (result (level_of (environment_of r p) n) (f (plain_word x)) (f (word_in x)))) (working (level_of (environment_of r p) n) x k)) (over (Gives (result (level_of (environment_of r p) n) (f (plain_word y)) (f (word_in y)))) (working (level_of (environment_of r p) n) y j))
  worked_low {l = l} {k = k} {j = j} n f x y lev a al =
      subst (λ (z : ℕ). Moves r o p (figure l) (over (Gives (result z (f (plain_word x)) (f (word_in x)))) (working z x k)) (over (Gives (result z (f (plain_word y)) (f (word_in y)))) (working z y j))) (sym lev)
      (m_over (e_gives (agree_result r law o known l f a)) (alike_cells r law o known p {k = k} {j = j} {i = working l x k} {h = working l y j} (working_cells l x k) (working_cells l y j) al))

  settled_low : {l m : ℕ} {k j : Kept} (i : ℕ) (x y : Value ℕ) → i ≡ m → r.flows l m ≡ true → Agree r o l x y → Alike r o p k j → Moves r o p (figure m) (over (Gives (settled i x)) (settling i x k)) (over (Gives (settled i y)) (settling i y j))
  settled_low {l = l} {m = m} {k = k} {j = j} i x y e f a al =
      subst (λ (z : ℕ). Moves r o p (figure m) (over (Gives (settled z x)) (settling z x k)) (over (Gives (settled z y)) (settling z y j))) (sym e)
      (m_over (e_gives (agree_settled r law o known l m f a)) (alike_settled r law o known p m m x y al))

  assigned_low : {l : ℕ} {k j : Kept} (v : ℕ) (c : VariableRecord) (x y : Value ℕ) → VariableIs p v c → r.flows l c.level ≡ true → Agree r o l x y → Alike r o p k j → Moves r o p (figure c.level) (over (Gives (settled (level_at (environment_of r p) v) x)) (stored v (level_at (environment_of r p) v) x k)) (over (Gives (settled (level_at (environment_of r p) v) y)) (stored v (level_at (environment_of r p) v) y j))
  assigned_low {l = l} {k = k} {j = j} v c x y i f a al =
      subst (λ (z : ℕ). Moves r o p (figure c.level) (over (Gives (settled z x)) (stored v z x k)) (over (Gives (settled z y)) (stored v z y j))) (sym (level_is p (nodes_of r p) v c i))
      (m_over (e_gives settles) (alike_stored r law o known p v c.level x y (λ z q. subst (λ (w : VariableRecord). Agree r o w.level (settled c.level x) (settled c.level y)) (one z q) settles) al))
    where
      settles : Agree r o c.level (settled c.level x) (settled c.level y)
      settles = agree_settled r law o known l c.level f a

      one : (z : VariableRecord) → VariableIs p v z → c ≡ z
      one z q = let h : Some c ≡ Some z = sym i ∙ q in cc

  -- a public figure is the same in both
  public_low : {a : Part} {k j : Kept} (x y : Value ℕ) (f : Value ℕ → Kept → Move) → Agree r o 0 x y → Moves r o p a (f x k) (f x j) → Moves r o p a (f x k) (f y j)
  public_low {a = a} {k = k} {j = j} x y f g m = subst (λ (z : Value ℕ). Moves r o p a (f x k) (f z j)) (public_same r law o known g) m

  either_low : {a : Part} {u v w z : Move} (c : Bool) → Moves r o p a u v → Moves r o p a w z → Moves r o p a (cond c u w) (cond c v z)
  either_low true m n = m
  either_low false m n = n

  chosen_low : {q b c l m : ℕ} {t : DataType} {k j : Kept} (n : ℕ) (h : Bool) → level_of (environment_of r p) n ≡ r.joint l m → r.is_level l ≡ true → r.is_level m ≡ true → Expression r p q b t l → Expression r p q c t m → Alike r o p k j → Moves r o p (figure (r.joint l m)) (under (wait n chosen) (cond h b c) k) (under (wait n chosen) (cond h b c) j)
  chosen_low {l = l} {m = m} n true lev i u d f al = m_under (a_wait (w_chosen lev (law.joint_left l m i u))) (b_figure d) al
  chosen_low {l = l} {m = m} n false lev i u d f al = m_under (a_wait (w_chosen lev (law.joint_right l m i u))) (b_figure f) al

  branch_low : {q b c : ℕ} {x y : Exits} {k j : Kept} (h : Bool) → Statement r p q b x → Belongs p q b → Statement r p q c y → Belongs p q c → Alike r o p k j → Moves r o p (statement q) (begin (cond h b c) k) (begin (cond h b c) j)
  branch_low true d b f c al = m_begin (b_statement d b) al
  branch_low false d b f c al = m_begin (b_statement f c) al

  got_low : {l n : ℕ} {b : Part} {w v : Want} {k j : Kept} (x y : Value ℕ) → Waits r o p (figure l) b n w v → Agree r o l x y → Alike r o p k j → Moves r o p b (got (environment_of r p) n w x k) (got (environment_of r p) n v y j)
  unfolding got
  got_low {n = n} x y (w_minus lev) a al = worked_low n minus_word x y lev a al
  got_low {n = n} x y (w_not lev) a al = worked_low n not_word x y lev a al
  got_low {n = n} x y (w_first {f = f} lev i u d) a al = first_low n f x y lev i u d a al
  got_low {n = n} x y (w_second {f = f} {x = s} {y = t} lev i u e) a al = second_low n f s t x y lev i u e a al
  got_low {n = n} x y (w_choosing {b = b} {c = c} lev i u d f) a al = public_low x y (λ z k. under (wait n chosen) (cond (holds z) b c) k) a (chosen_low n (holds x) lev i u d f al)
  got_low {n = n} x y (w_chosen lev f) a al = settled_low (level_of (environment_of r p) n) x y lev f a al
  got_low x y (w_assigning {v = v} {x = c} i f) a al = assigned_low v c x y i f a al
  got_low x y w_arguing a al = m_over (e_argues a) al
  got_low x y w_releasing a al = m_release al
  got_low {n = n} x y (w_outputting {t = t}) a al = public_low x y (λ z k. line OutputLine n t (plain_word z) Falls k) a (m_output al)
  got_low x y w_discarding a al = m_over (e_bare Falls tt) al
  got_low x y (w_branching {b = b} d i) a al = public_low x y (λ z k. cond (holds z) (begin b k) (over Falls k)) a (either_low (holds x) (m_begin (b_statement d i) al) (m_over (e_bare Falls tt) al))
  got_low x y (w_branching_else {b = b} {c = c} d i f u) a al = public_low x y (λ z k. begin (cond (holds z) b c) k) a (branch_low (holds x) d i f u al)
  got_low {n = n} x y (w_guarding {a = g} {b = b} c d i) a al = public_low x y (λ z k. cond (holds z) (under (loop n g b) b k) (over Falls k)) a (either_low (holds x) (m_under (a_loop c d i) (b_statement d i) al) (m_over (e_bare Falls tt) al))
  got_low {l = l} {n = n} {k = k} {j = j} x y (w_returning {q = q} s e f) a al =
      subst (λ (z : ℕ). Moves r o p (statement q) (over (Returns (Some (settled z x))) (settling z x k)) (over (Returns (Some (settled z y))) (settling z y j))) (sym e)
      (m_over (e_returns s (agree_settled r law o known l (procedure (environment_of r p) q).level f a)) (alike_settled r law o known p (procedure (environment_of r p) q).level (procedure (environment_of r p) q).level x y al))

  -- ---- a frame meets the end of what it stands above

  bare_wait : {b : Part} {k j : Kept} (n : ℕ) (w v : Want) (z : Signal ℕ) → Bare z → Alike r o p k j → Moves r o p b (meets (environment_of r p) (wait n w) z k) (meets (environment_of r p) (wait n v) z j)
  unfolding meets
  bare_wait n w v (Gives x) h al = absurd h
  bare_wait n w v (Argues x next) h al = absurd h
  bare_wait n w v Falls h al = m_over (e_bare Falls tt) al
  bare_wait n w v (Returns None) h al = m_over (e_bare (Returns None) tt) al
  bare_wait n w v (Returns (Some x)) h al = absurd h
  bare_wait n w v Breaks h al = m_over (e_bare Breaks tt) al
  bare_wait n w v Continues h al = m_over (e_bare Continues tt) al

  bare_then : {q b : ℕ} {x : Exits} {k j : Kept} (n : ℕ) (z : Signal ℕ) → Bare z → Statement r p q b x → Belongs p q b → Alike r o p k j → Moves r o p (statement q) (meets (environment_of r p) (then n b) z k) (meets (environment_of r p) (then n b) z j)
  unfolding meets
  bare_then n (Gives x) h d i al = absurd h
  bare_then n (Argues x next) h d i al = absurd h
  bare_then n Falls h d i al = m_begin (b_statement d i) al
  bare_then n (Returns None) h d i al = m_over (e_bare (Returns None) tt) al
  bare_then n (Returns (Some x)) h d i al = absurd h
  bare_then n Breaks h d i al = m_over (e_bare Breaks tt) al
  bare_then n Continues h d i al = m_over (e_bare Continues tt) al

  bare_loop : {q a b : ℕ} {x : Exits} {k j : Kept} (n : ℕ) (z : Signal ℕ) → Bare z → Expression r p q a Boolean 0 → Statement r p q b x → Belongs p q b → Alike r o p k j → Moves r o p (statement q) (meets (environment_of r p) (loop n a b) z k) (meets (environment_of r p) (loop n a b) z j)
  unfolding meets
  bare_loop n (Gives x) h c d i al = absurd h
  bare_loop n (Argues x next) h c d i al = absurd h
  bare_loop n Falls h c d i al = m_under (a_wait (w_guarding c d i)) (b_figure c) al
  bare_loop n (Returns None) h c d i al = m_over (e_bare (Returns None) tt) al
  bare_loop n (Returns (Some x)) h c d i al = absurd h
  bare_loop n Breaks h c d i al = m_over (e_bare Falls tt) al
  bare_loop n Continues h c d i al = m_under (a_wait (w_guarding c d i)) (b_figure c) al

  bare_calling : {b : Part} {k j : Kept} (n g : ℕ) (xs ys : List (Value ℕ)) (z : Signal ℕ) → Bare z → Alike r o p k j → Moves r o p b (meets (environment_of r p) (calling n g xs) z k) (meets (environment_of r p) (calling n g ys) z j)
  unfolding meets
  bare_calling n g xs ys (Gives x) h al = absurd h
  bare_calling n g xs ys (Argues x next) h al = absurd h
  bare_calling n g xs ys Falls h al = m_over (e_bare Falls tt) al
  bare_calling n g xs ys (Returns None) h al = m_over (e_bare (Returns None) tt) al
  bare_calling n g xs ys (Returns (Some x)) h al = absurd h
  bare_calling n g xs ys Breaks h al = m_over (e_bare Breaks tt) al
  bare_calling n g xs ys Continues h al = m_over (e_bare Continues tt) al

  bare_running : {b : Part} {k j : Kept} (n : ℕ) (z : Signal ℕ) → Bare z → Alike r o p k j → Moves r o p b (meets (environment_of r p) (running n) z k) (meets (environment_of r p) (running n) z j)
  unfolding meets
  bare_running n (Gives x) h al = absurd h
  bare_running n (Argues x next) h al = absurd h
  bare_running n Falls h al = m_over (e_bare Falls tt) al
  bare_running n (Returns None) h al = m_over (e_bare Falls tt) al
  bare_running n (Returns (Some x)) h al = absurd h
  bare_running n Breaks h al = m_over (e_bare Breaks tt) al
  bare_running n Continues h al = m_over (e_bare Continues tt) al

  returned_low : {g : ℕ} {c : Part} {t : DataType} {x y : Value ℕ} {k j : Kept} → Called r o p g c → (procedure (environment_of r p) g).result ≡ Some t → Agree r o (procedure (environment_of r p) g).level x y → Alike r o p k j → Moves r o p c (over (Gives x) k) (over (Gives y) j)
  returned_low (c_result s) h a al = m_over (e_gives a) al
  returned_low {t = t} (c_void s) h a al = some_none t (sym h ∙ s)

  meets_low : {a b : Part} {f g : Frame} {z y : Signal ℕ} {k j : Kept} → Above r o p a b f g → Ends r o p a z y → Alike r o p k j → Moves r o p b (meets (environment_of r p) f z k) (meets (environment_of r p) g y j)
  unfolding meets
  meets_low (a_wait w) (e_gives {x = x} {y = y} a) al = got_low x y w a al
  meets_low (a_wait w) (e_argues a) al = absurd (awaited w)
  meets_low (a_wait w) (e_returns s a) al = absurd (awaited w)
  meets_low (a_wait {n = n} {w = w} {v = v} q) (e_bare z h) al = bare_wait n w v z h al
  meets_low (a_then d i) (e_returns s a) al = m_over (e_returns s a) al
  meets_low (a_then {n = n} d i) (e_bare z h) al = bare_then n z h d i al
  meets_low (a_loop c d i) (e_returns s a) al = m_over (e_returns s a) al
  meets_low (a_loop {n = n} c d i) (e_bare z h) al = bare_loop n z h c d i al
  meets_low (a_calling {n = n} {l = l} {xs = xs} {ys = ys} d ds rest cl i eq t fl rs) (e_argues {x = x} {y = y} a) al =
      argued_low n (ds ++ d ∷ []) rest (xs ++ x ∷ []) (ys ++ y ∷ []) cl i (eq ∙ sym (append_assoc ds (d ∷ []) rest)) (taken_more ds d xs ys x y t (agree_settled r law o known l d.level fl a)) rs al
  meets_low (a_calling {n = n} {g = g} {xs = xs} {ys = ys} d ds rest cl i eq t fl rs) (e_bare z h) al = bare_calling n g xs ys z h al
  meets_low (a_running cl) (e_returns s a) al = returned_low cl s a al
  meets_low (a_running {n = n} cl) (e_bare z h) al = bare_running n z h al

  -- ---- runs

  abbrev Onward : Part → List Frame → List Frame → Type 0
  Onward a fs gs = (z y : Signal ℕ) (s : Shown) (k j : Kept) → Ends r o p a z y → Alike r o p k j → Seen r o p (pass (environment_of r p) fs z s k) (pass (environment_of r p) gs y s j)

  unless_full : {c d : Config} (b : Bool) (s : Shown) {k j : Kept} → Alike r o p k j → Seen r o p c d → Seen r o p (cond b (done LinesFull s k) c) (cond b (done LinesFull s j) d)
  unless_full true s al h = same (low_done al)
  unless_full false s al h = h

  -- two released words are the same, or the lines part here
  released_low : (fs gs : List Frame) (n w v : ℕ) (t : DataType) (s : Shown) (k j : Kept) → Onward (figure 0) fs gs → Alike r o p k j → Seen r o p (pass (environment_of r p) fs (Gives (Plain w)) (written ReleaseLine n t w s) k) (pass (environment_of r p) gs (Gives (Plain v)) (written ReleaseLine n t v s) j)
  released_low fs gs n w v t s k j up al = by (eqb w v) refl
    where
      by : (c : Bool) → eqb w v ≡ c → Seen r o p (pass (environment_of r p) fs (Gives (Plain w)) (written ReleaseLine n t w s) k) (pass (environment_of r p) gs (Gives (Plain v)) (written ReleaseLine n t v s) j)
      by true e =
          subst (λ (u : ℕ). Seen r o p (pass (environment_of r p) fs (Gives (Plain w)) (written ReleaseLine n t w s) k) (pass (environment_of r p) gs (Gives (Plain u)) (written ReleaseLine n t u s) j)) (eqb-true w v e)
          (up (Gives (Plain w)) (Gives (Plain w)) (written ReleaseLine n t w s) k j (e_gives (one_public r law o known w)) al)
      by false e =
          parted (length s.lines)
          (parts_here s.lines n s.spent w v t (shown (pass (environment_of r p) fs (Gives (Plain w)) (written ReleaseLine n t w s) k)).lines (shown (pass (environment_of r p) gs (Gives (Plain v)) (written ReleaseLine n t v s) j)).lines (λ q. true≢false (sym (eq-eqb w v q) ∙ e)) (pass_grows (environment_of r p) fs (Gives (Plain w)) (written ReleaseLine n t w s) k) (pass_grows (environment_of r p) gs (Gives (Plain v)) (written ReleaseLine n t v s) j))

  drive_low : {a : Part} {v w : Move} (fs gs : List Frame) (s : Shown) → Stack r o p a fs gs → Onward a fs gs → Moves r o p a v w → Seen r o p (drive (environment_of r p) fs (pass (environment_of r p) fs) s v) (drive (environment_of r p) gs (pass (environment_of r p) gs) s w)
  drive_low fs gs s st up (m_begin b al) = same (low_at b st al)
  drive_low fs gs s st up (m_under f b al) = same (low_at b (on f st) al)
  drive_low fs gs s st up (m_over {z = z} {y = y} {k = k} {j = j} e al) = up z y s k j e al
  drive_low fs gs s st up (m_output {n = n} {w = w} {t = t} {k = k} {j = j} al) = unless_full (full s) s al (up Falls Falls (written OutputLine n t w s) k j (e_bare Falls tt) al)
  drive_low fs gs s st up (m_release {n = n} {w = w} {v = v} {t = t} {k = k} {j = j} al) = unless_full (full s) s al (released_low fs gs n w v t s k j up al)
  drive_low fs gs s st up (m_stop al) = same (low_done al)

  pass_low : {a : Part} {fs gs : List Frame} → Stack r o p a fs gs → Onward a fs gs
  unfolding pass
  pass_low bottom z y s k j e al = same (low_done al)
  pass_low (on {fs = fs} {gs = gs} f st) z y s k j e al = drive_low fs gs s st (pass_low st) (meets_low f e al)

  turn_low : {c d : Config} → Low r o p c d → Seen r o p (turn (environment_of r p) c) (turn (environment_of r p) d)
  unfolding turn
  turn_low (low_at {n = n} {fs = fs} {gs = gs} {s = s} {k = k} {j = j} b st al) = drive_low fs gs (tick s) st (pass_low st) (begins_low n k j b al)
  turn_low (low_done al) = same (low_done al)

  -- what is seen of one turn, and then of n
  turned_low : (n : ℕ) (c d : Config) → (Low r o p c d → Seen r o p (run (environment_of r p) n c) (run (environment_of r p) n d)) → Seen r o p c d → Seen r o p (run (environment_of r p) n c) (run (environment_of r p) n d)
  turned_low n c d f (same h) = f h
  turned_low n c d f (parted i q) =
      parted i (parts_grow (shown (run (environment_of r p) n c)).lines (shown (run (environment_of r p) n d)).lines q (run_grows (environment_of r p) n c) (run_grows (environment_of r p) n d))

  pub run_low : (n : ℕ) (c d : Config) → Low r o p c d → Seen r o p (run (environment_of r p) n c) (run (environment_of r p) n d)
  unfolding run
  run_low zero c d l = same l
  run_low (suc n) c d l =
      turned_low n (turn (environment_of r p) c) (turn (environment_of r p) d) (run_low n (turn (environment_of r p) c) (turn (environment_of r p) d)) (turn_low l)
