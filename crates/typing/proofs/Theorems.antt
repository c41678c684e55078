-- The theorems on acceptance: the rows decide it, and what it gives.
use Rattle.std.proofs.Common.{◌≡◌, ℕ, zero, suc, ◌+◌, ◌*◌, ◌<◌, ◌≤◌, Bool, true, false, cond, ltb, List, [], ◌∷◌, length, get_or, drop, is_ok, Some, None, Ok, Err, Option, Result, sym, refl, ap, ◌∙◌, subst, inl, inr, ⊎_elim, le_of_suc-le-suc, not-suc-le-zero, arith}
use Rattle.std.proofs.lemmas.Bool.{and_parts, ltb-true, eq-eqb, cases_order}
use Rattle.words.specs.declared.types.DataType.{DataType}
use Rattle.words.specs.declared.types.DataType.TheVariants.{Bool as Boolean}
use Rattle.levels.specs.Rules.{Rules, Lawful}
use Rattle.program.proofs.Files.{counts_of}
use Rattle.program.proofs.Layouts.{laid_from_layout}
use Rattle.program.proofs.Recoded.{PlainNode, decoded_bool}
use Rattle.program.specs.Encode.{encoded}
use Rattle.program.specs.Fields.{node_fields_of}
use Rattle.program.specs.Layout.{layout_of}
use Rattle.program.specs.Program.{Program, children, times_in, no_node, no_variable, no_procedure}
use Rattle.program.specs.declared.layout.Layout.{Layout}
use Rattle.program.specs.declared.records.Node.{Node}
use Rattle.program.specs.declared.records.Node.TheVariants.{Constant, Call}
use Rattle.program.specs.declared.records.Procedure.{Procedure}
use Rattle.program.specs.declared.refusal.Refusal.{Refusal}
use Rattle.typing.specs.Environment.{Environment}
use Rattle.typing.specs.Faults.{known, node_record, variable_record, procedure_record, variable_part, procedure_part, file_variables, file_procedures, variable_fits, variable_fault, result_fits, procedure_fault, record_fault, node_fault, records_fault, layout_fault, first_fault, verdict_by, verdict_of}
use Rattle.typing.specs.First.{unless, first, table}
use Rattle.typing.specs.Acceptance.{Bytes, DecidesAcceptance, Unique, SoundAcceptance}
use Rattle.typing.specs.Formed.{Belongs, Among, times_child, IsBody, WellFormed, Accepted}
use Rattle.typing.specs.Typing.{NodeIs, ProcedureIs, Expression, WellTyped, constant, variable, minus, not, arithmetic, comparison, and, or, choice, assignment, call, release}
use Rattle.typing.proofs.Acceptance.{passed, checks_from_faults, faults_from_checks}
use Rattle.typing.proofs.Belonging.{belongs, belongs_once, body_belongs}
use Rattle.typing.proofs.Checks.{Sizes, Checks}
use Rattle.typing.proofs.Determined.{expression_class, statement_class}
use Rattle.typing.proofs.Files.{encodes_from_reads, reads_from_encodes}
use Rattle.typing.proofs.Forms.{formed, well_typed, passes_row}
use Rattle.typing.proofs.Passed.{checks, rises, last}
use Rattle.typing.proofs.Readings.{Reads}
use Rattle.typing.proofs.Rising.{either_none, none_at, length_table, table_at}
use Rattle.typing.proofs.Tabled.{home, at_below, at_there, at_item, some_none, false_true}

-- ---- from the rows to acceptance

-- what a record that was refused by no row decodes to
known_some : {X : Type 0} (d : X) (f : Option X → Bool) → f None ≡ false → (o : Option X) → f o ≡ true → o ≡ Some (known d o)
known_some d f z None h = false_true (sym z ∙ h)
known_some d f z (Some x) h = refl

module _ (r : Rules) (bs : List ℕ) (l : Layout) (laid : layout_of bs ≡ Ok l) (none : records_fault r l bs ≡ None) where
  -- the program whose records the file has
  pub file : Program
  file = record { nodes = table (λ _ k. known no_node (node_record bs k)) l.nodes; variables = file_variables l bs; procedures = file_procedures l bs }

  Variables : ℕ → Option Refusal
  Variables = variable_fault r l.procedures (variable_part l bs)

  Procedures : ℕ → Option Refusal
  Procedures = procedure_fault r bs l.nodes l.procedures (file_variables l bs) (procedure_part l bs)

  Nodes : ℕ → Option Refusal
  Nodes = node_fault r (file_variables l bs) (file_procedures l bs) bs

  record Faultless : Type 0 where
    variables : first Variables l.variables ≡ None
    procedures : first Procedures l.procedures ≡ None
    nodes : first Nodes l.nodes ≡ None

  faultless : Faultless
  unfolding Variables Procedures Nodes
  faultless =
      let a = either_none (first Variables l.variables) _ none in
      let b = either_none (first Procedures l.procedures) _ a.1 in
      let c = either_none (first Nodes l.nodes) _ b.1 in
      record { variables = a.0; procedures = b.0; nodes = c.0 }

  node_known : (n q : ℕ) (e : Environment) (o : Option Node) → record_fault r e n q o ≡ None → o ≡ Some (known no_node o)
  node_known n q e None h = some_none _ h
  node_known n q e (Some x) h = refl

  pub reads_file : Reads bs file l
  unfolding file Variables Procedures Nodes
  reads_file =
      record {
        layout = laid;
        nodes = sym (length_table (λ _ k. known no_node (node_record bs k)) l.nodes);
        variables = sym (length_table (λ _ i. known no_variable (variable_record (variable_part l bs) i)) l.variables);
        procedures = sym (length_table (λ _ q. known no_procedure (procedure_record (procedure_part l bs) q)) l.procedures);
        node = λ n lt.
            let less = subst (λ (m : ℕ). n < m) (length_table (λ _ k. known no_node (node_record bs k)) l.nodes) lt in
            node_known n _ _ (node_record bs n) (none_at Nodes n l.nodes faultless.nodes less)
            ∙ ap Some (sym (table_at (λ _ k. known no_node (node_record bs k)) no_node n l.nodes less));
        variable = λ i lt.
            let less = subst (λ (m : ℕ). i < m) (length_table (λ _ k. known no_variable (variable_record (variable_part l bs) k)) l.variables) lt in
            known_some no_variable (variable_fits r l.procedures) refl (variable_record (variable_part l bs) i) (passed _ _ (none_at Variables i l.variables faultless.variables less))
            ∙ ap Some (sym (table_at (λ _ k. known no_variable (variable_record (variable_part l bs) k)) no_variable i l.variables less));
        procedure = λ q lt.
            let less = subst (λ (m : ℕ). q < m) (length_table (λ _ k. known no_procedure (procedure_record (procedure_part l bs) k)) l.procedures) lt in
            known_some no_procedure (result_fits r) refl (procedure_record (procedure_part l bs) q) (passed _ _ (either_none (unless (result_fits r (procedure_record (procedure_part l bs) q)) _) _ (none_at Procedures q l.procedures faultless.procedures less)).0)
            ∙ ap Some (sym (table_at (λ _ k. known no_procedure (procedure_record (procedure_part l bs) k)) no_procedure q l.procedures less));
      }

  counts_are : l ≡ counts_of file
  counts_are = λ i. record { nodes = reads_file.nodes i; variables = reads_file.variables i; procedures = reads_file.procedures i }

  sizes : Sizes file
  sizes =
      let c = (laid_from_layout bs l laid).covers in
      let n = reads_file.nodes in
      let v = reads_file.variables in
      let q = reads_file.procedures in
      record {
        some_nodes = subst (λ (m : ℕ). 1 ≤ m) n c.some_node;
        few_nodes = subst (λ (m : ℕ). m ≤ 1024) n c.few_nodes;
        few_variables = subst (λ (m : ℕ). m ≤ 128) v c.few_variables;
        some_procedures = subst (λ (m : ℕ). 1 ≤ m) q c.some_procedure;
        few_procedures = subst (λ (m : ℕ). m ≤ 32) q c.few_procedures;
      }

  bools : (n w : ℕ) → NodeIs file n (Constant Boolean w) → w < 2
  bools n w h =
      decoded_bool (node_fields_of (drop (12 * n) bs)) w
      (reads_file.node n (at_below no_node file.nodes n _ h) ∙ ap Some (at_item no_node file.nodes n _ h))

  file_checks : Checks r file
  file_checks =
      checks_from_faults r bs file (subst (Reads bs file) counts_are reads_file) sizes (subst (λ (m : Layout). records_fault r m bs ≡ None) counts_are none)

  pub file_formed : WellFormed r file
  file_formed = formed r file file_checks bools

  pub file_typed : WellTyped r file
  file_typed = well_typed r file file_checks

  pub file_encoded : Bytes bs → bs ≡ encoded file
  file_encoded bytes = encodes_from_reads bs file l bytes reads_file

  accepted : Bytes bs → Accepted r bs
  accepted bytes = record { program = file; encodes = file_encoded bytes; formed = file_formed; typed = file_typed }

by_faults : (r : Rules) (bs : List ℕ) (l : Layout) (o : Option Refusal) → Bytes bs → layout_of bs ≡ Ok l → records_fault r l bs ≡ o → is_ok (verdict_by (Ok l) o) ≡ true → Accepted r bs
by_faults r bs l None bytes laid e h = accepted r bs l laid e bytes
by_faults r bs l (Some x) bytes laid e h = false_true h

by_layout : (r : Rules) (bs : List ℕ) (o : Result Layout Refusal) → Bytes bs → layout_of bs ≡ o → is_ok (verdict_by o (layout_fault r bs o)) ≡ true → Accepted r bs
by_layout r bs (Ok l) bytes laid h = by_faults r bs l (records_fault r l bs) bytes laid refl h
by_layout r bs (Err e) bytes laid h = false_true h

-- ---- from acceptance to the rows

plain : (r : Rules) (p : Program) → WellFormed r p → (n : ℕ) → n < length p.nodes → PlainNode (get_or p.nodes n no_node)
plain r p w n lt =
    let here : (x : Node) → get_or p.nodes n no_node ≡ x → NodeIs p n x = λ x e. at_there no_node p.nodes n lt ∙ ap Some e in
    record {
      bool = λ v e. w.bools n v (here _ e);
      first = λ g k e far. omega (arith, w.below n k _ (here _ e) (inl refl), w.few_nodes);
      next = λ a k e far. omega (arith, w.below n k _ (here _ e) (inr (inl refl)), w.few_nodes);
    }

ok_from_none : (r : Rules) (bs : List ℕ) (l : Layout) → layout_of bs ≡ Ok l → records_fault r l bs ≡ None → is_ok (verdict_of r bs) ≡ true
unfolding first_fault
ok_from_none r bs l laid none =
    ap (λ (o : Result Layout Refusal). is_ok (verdict_by o (layout_fault r bs o))) laid ∙ ap (λ (o : Option Refusal). is_ok (verdict_by (Ok l) o)) none

rejoined : (r : Rules) (bs : List ℕ) → Accepted r bs → is_ok (verdict_of r bs) ≡ true
rejoined r bs a =
    let p = a.program in
    let w = a.formed in
    let reads = reads_from_encodes bs p a.encodes w.some_nodes w.few_nodes w.few_variables w.some_procedures w.few_procedures (plain r p w) in
    ok_from_none r bs (counts_of p) reads.layout (faults_from_checks r bs p reads (checks r p w a.typed))

pub decides_acceptance : (r : Rules) → DecidesAcceptance r
unfolding first_fault
decides_acceptance r bs bytes = (by_layout r bs (layout_of bs) bytes refl, rejoined r bs)

-- ---- what acceptance gives

unique : (r : Rules) (p : Program) → WellFormed r p → Unique r p
unique r p w =
    record {
      data_type = λ q n l m t u d e. let c = expression_class r p w.below d in let k = expression_class r p w.below e in cc;
      level = λ q n l m t u d e. let c = expression_class r p w.below d in let k = expression_class r p w.below e in cc;
      exits = λ q n x y d e. let c = statement_class r p w.below d in let k = statement_class r p w.below e in cc;
    }

-- a number that stands in a list is counted there
counted : (m : ℕ) (ms : List ℕ) → Among m ms → 1 ≤ times_in m ms
counted m [] c = absurd c
counted m (n ∷ ms) c =
    ⊎_elim
    (λ e. subst (λ (b : Bool). 1 ≤ cond b 1 0 + times_in m ms) (sym (eq-eqb n m (sym e))) (omega arith))
    (λ k. omega (arith, counted m ms k)) c

counted_at : (m n : ℕ) (xs : List Node) → n < length xs → Among m (children (get_or xs n no_node)) → 1 ≤ times_child m xs
counted_at m n [] lt c = absurd (not-suc-le-zero lt)
counted_at m zero (x ∷ xs) lt c = omega (arith, counted m (children x) c)
counted_at m (suc n) (x ∷ xs) lt c = omega (arith, counted_at m n xs (le_of_suc-le-suc lt) c)

counted_twice : (m n o : ℕ) (xs : List Node) → n < o → o < length xs → Among m (children (get_or xs n no_node)) → Among m (children (get_or xs o no_node)) → 2 ≤ times_child m xs
counted_twice m n o [] less lt c d = absurd (not-suc-le-zero lt)
counted_twice m zero zero (x ∷ xs) less lt c d = absurd (not-suc-le-zero less)
counted_twice m zero (suc o) (x ∷ xs) less lt c d = omega (arith, counted m (children x) c, counted_at m o xs (le_of_suc-le-suc lt) d)
counted_twice m (suc n) zero (x ∷ xs) less lt c d = absurd (not-suc-le-zero less)
counted_twice m (suc n) (suc o) (x ∷ xs) less lt c d = omega (arith, counted_twice m n o xs (le_of_suc-le-suc less) (le_of_suc-le-suc lt) c d)

module _ (r : Rules) (p : Program) (w : WellFormed r p) (t : WellTyped r p) where
  -- a body is nobody's child
  child_no_body : (n m : ℕ) (x : Node) → NodeIs p n x → Among m (children x) → IsBody p m → ⊥
  child_no_body n m x h c (q, d, i, e) =
      let lt = at_below no_node p.nodes n x h in
      let b = belongs p w.some_procedures (rises r p w t) (last r p w t) n lt in
      let same = belongs_once p w.some_procedures (rises r p w t) (last r p w t) q (home p n) m (subst (Belongs p q) e (body_belongs p w.some_procedures (rises r p w t) (last r p w t) q d i)) (w.together n m (home p n) x h c b) in
      let j : ProcedureIs p q b.procedure = subst (λ (o : ℕ). ProcedureIs p o b.procedure) (sym same) b.is in
      let k : d ≡ b.procedure = cc in
      omega (arith, w.below n m x h c, b.within, ap (λ (f : Procedure). f.body) k)

  one_parent : (n o m : ℕ) (x y : Node) → NodeIs p n x → NodeIs p o y → Among m (children x) → Among m (children y) → n ≡ o
  one_parent n o m x y h i c d =
      let lt = at_below no_node p.nodes n x h in
      let lt' = at_below no_node p.nodes o y i in
      let once = w.once m (omega (arith, w.below n m x h c)) (child_no_body n m x h c) in
      let at_n = subst (λ (z : Node). Among m (children z)) (sym (at_item no_node p.nodes n x h)) c in
      let at_o = subst (λ (z : Node). Among m (children z)) (sym (at_item no_node p.nodes o y i)) d in
      ⊎_elim (λ e. e)
      (⊎_elim
      (λ less. absurd (omega (arith, counted_twice m n o p.nodes less lt' at_n at_o)))
      (λ less. absurd (omega (arith, counted_twice m o n p.nodes less lt at_o at_n))))
      (cases_order n o)

  pub calls_down : (n q g : ℕ) (f : Option ℕ) → NodeIs p n (Call g f) → Belongs p q n → g < q
  calls_down n q g f h b =
      let lt = at_below no_node p.nodes n _ h in
      let same = belongs_once p w.some_procedures (rises r p w t) (last r p w t) (home p n) q n (belongs p w.some_procedures (rises r p w t) (last r p w t) n lt) b in
      subst (λ (o : ℕ). g < o) same (ltb-true g (home p n) (and_parts (ltb g (home p n)) _ (passes_row r p (checks r p w t) n _ h).called).0)

  levels : Lawful r → {q n l : ℕ} {u : DataType} → Expression r p q n u l → r.is_level l ≡ true
  levels k (constant h) = k.public_level
  levels k (variable {v = v} {x = x} h i s) = (w.variables v x i).level
  levels k (minus h d) = levels k d
  levels k (not h d) = levels k d
  levels k (arithmetic {l = l} {m = m} h s d e) = k.joint_level l m (levels k d) (levels k e)
  levels k (comparison {l = l} {m = m} h s d e) = k.joint_level l m (levels k d) (levels k e)
  levels k (and {l = l} {m = m} h d e) = k.joint_level l m (levels k d) (levels k e)
  levels k (or {l = l} {m = m} h d e) = k.joint_level l m (levels k d) (levels k e)
  levels k (choice {l = l} {m = m} h d e f) = k.joint_level l m (levels k e) (levels k f)
  levels k (assignment {v = v} {x = x} h i s d f) = (w.variables v x i).level
  levels k (call {g = g} {d = d} h lt i u s) = (w.procedures g d i).level
  levels k (release h d) = k.public_level

pub sound_acceptance : (r : Rules) → Lawful r → SoundAcceptance r
sound_acceptance r k bs a =
    let p = a.program in
    let w = a.formed in (
      unique r p w,
      record { below = w.below; one_parent = one_parent r p w a.typed; calls_down = calls_down r p w a.typed; levels = λ q n l u d. levels r p w a.typed k d },
    )
