-- No row refuses a file exactly where its program passes every row.
use Rattle.std.proofs.Common.{◌≡◌, ℕ, zero, suc, ◌+◌, ◌-◌, ◌*◌, ◌<◌, ◌≤◌, Bool, true, false, cond, not, ◌||◌, eqb, ltb, List, [], ◌∷◌, ◌++◌, length, get_or, take, Some, None, Option, sym, refl, ap, ◌∙◌, subst, ap₂, le_refl, arith, take_all, take-suc}
use native.Mathlib.Nat.{le_step}
use Rattle.std.proofs.lemmas.Bool.{and_parts, and_from, ltb-true, lt-ltb, eqb-true, eq-eqb, ne_eqb}
use Rattle.levels.specs.Rules.{Rules}
use Rattle.program.proofs.Files.{counts_of}
use Rattle.program.proofs.Statements.{statement_node, kind_of_statement}
use Rattle.program.specs.Decode.{is_statement_kind}
use Rattle.program.specs.Program.{Program, at, children, times_in, no_node, no_variable, no_procedure}
use Rattle.program.specs.declared.layout.Layout.{Layout}
use Rattle.program.specs.declared.records.Node.{Node}
use Rattle.program.specs.declared.records.Variable.{Variable}
use Rattle.program.specs.declared.records.Procedure.{Procedure}
use Rattle.program.specs.declared.refusal.Refusal.{Refusal}
use Rattle.program.specs.declared.refusal.Refusal.TheVariants.{Naming as BadNaming}
use Rattle.typing.specs.Environment.{procedure_of, body_in}
use Rattle.typing.specs.Faults.{known, variable_record, procedure_record, procedures_in, variable_part, procedure_part, file_variables, file_procedures, environment, typed_node, typed_nodes, variable_fits, variable_fault, result_fits, parameters_fit, rises, body_stands, main_fits, procedure_rows, procedure_fault, record_fault, node_fault, times_named, is_body, name_fault, records_fault}
use Rattle.typing.specs.First.{or_else, unless, first, table}
use Rattle.typing.specs.Formed.{times_child}
use Rattle.typing.specs.Rows.{first_broken, node_rows}
use Rattle.typing.specs.Typing.{VariableIs, ProcedureIs}
use Rattle.typing.specs.declared.classes.TypedNode.{TypedNode}
use Rattle.typing.proofs.Checks.{ProcedureChecks, Sizes, Checks}
use Rattle.typing.proofs.Files.{kind_from_reads}
use Rattle.typing.proofs.Readings.{Reads}
use Rattle.typing.proofs.Rising.{either_none, none_at, all_none, length_table, table_at}
use Rattle.typing.proofs.Tabled.{home, below, next_typed, at_below, at_there, at_item, some_none, false_true}

-- ---- tables that list what stands already

table_same : {X : Type 0} (f g : List X → ℕ → X) (n : ℕ) → ((xs : List X) (k : ℕ) → k < n → f xs k ≡ g xs k) → table f n ≡ table g n
unfolding table
table_same f g zero h = refl
table_same f g (suc n) h =
    let before = table_same f g n (λ xs k lt. h xs k (le_step lt)) in
    ap (λ xs. xs ++ f xs n ∷ []) before ∙ ap (λ x. table g n ++ x ∷ []) (h (table g n) n (le_refl (suc n)))

table_takes : {X : Type 0} (d : X) (f : ℕ → X) (xs : List X) (n : ℕ) → n ≤ length xs → ((k : ℕ) → k < length xs → f k ≡ get_or xs k d) → table (λ _ k. f k) n ≡ take n xs
unfolding table
table_takes d f xs zero few h = refl
table_takes d f xs (suc n) few h =
    ap₂ (λ ys x. ys ++ x ∷ []) (table_takes d f xs n (omega arith) h) (h n few) ∙ sym (take-suc xs n d few)

table_lists : {X : Type 0} (d : X) (f : ℕ → X) (xs : List X) (n : ℕ) → n ≡ length xs → ((k : ℕ) → k < length xs → f k ≡ get_or xs k d) → table (λ _ k. f k) n ≡ xs
table_lists d f xs n e h =
    ap (table (λ _ k. f k)) e ∙ table_takes d f xs (length xs) (le_refl (length xs)) h ∙ take_all (length xs) xs (le_refl (length xs))

-- ---- a file that reads as the program p

module _ (r : Rules) (bs : List ℕ) (p : Program) (l : Layout) (reads : Reads bs p l) where
  pub variables_are : file_variables l bs ≡ p.variables
  variables_are =
      table_lists no_variable (λ i. known no_variable (variable_record (variable_part l bs) i)) p.variables l.variables reads.variables (λ k lt. ap (known no_variable) (reads.variable k lt))

  pub procedures_are : file_procedures l bs ≡ p.procedures
  procedures_are =
      table_lists no_procedure (λ i. known no_procedure (procedure_record (procedure_part l bs) i)) p.procedures l.procedures reads.procedures (λ k lt. ap (known no_procedure) (reads.procedure k lt))

  -- the typed nodes of the file are those of the program
  pub typed_are : (n : ℕ) → n ≤ length p.nodes → typed_nodes r p.variables p.procedures bs n ≡ table (next_typed r p) n
  unfolding next_typed
  typed_are n few =
      table_same _ (next_typed r p) n
      (λ ns k lt. ap (typed_node r (environment p.variables p.procedures ns) (procedure_of p.procedures k)) (ap (known no_node) (reads.node k (omega arith))))

  environment_is : (n : ℕ) → n ≤ length p.nodes → environment p.variables p.procedures (typed_nodes r p.variables p.procedures bs n) ≡ below r p n
  unfolding below
  environment_is n few = ap (environment p.variables p.procedures) (typed_are n few)

  node_fault_is : (n : ℕ) → n < length p.nodes → node_fault r p.variables p.procedures bs n ≡ first_broken r (below r p n) n (home p n) (get_or p.nodes n no_node) node_rows
  node_fault_is n lt =
      ap₂ (λ e o. record_fault r e n (home p n) o) (environment_is n (omega arith)) (reads.node n lt)

-- ---- how often a node is named

named_push : (n : ℕ) (xs : List TypedNode) (y : TypedNode) → times_named n (xs ++ y ∷ []) ≡ times_named n xs + times_in n (children y.node)
named_push n [] y = omega arith
named_push n (x ∷ xs) y = omega (arith, named_push n xs y)

child_push : (n : ℕ) (xs : List Node) (y : Node) → times_child n (xs ++ y ∷ []) ≡ times_child n xs + times_in n (children y)
child_push n [] y = omega arith
child_push n (x ∷ xs) y = omega (arith, child_push n xs y)

module _ (r : Rules) (p : Program) where
  named_taken : (n k : ℕ) → k ≤ length p.nodes → times_named n (table (next_typed r p) k) ≡ times_child n (take k p.nodes)
  unfolding table next_typed
  named_taken n zero few = refl
  named_taken n (suc k) few =
      named_push n (table (next_typed r p) k) (next_typed r p (table (next_typed r p) k) k)
      ∙ ap (λ m. m + times_in n (children (get_or p.nodes k no_node))) (named_taken n k (omega arith))
      ∙ sym (child_push n (take k p.nodes) (get_or p.nodes k no_node))
      ∙ ap (times_child n) (sym (take-suc p.nodes k no_node few))

  named_all : (n : ℕ) → times_named n (table (next_typed r p) (length p.nodes)) ≡ times_child n p.nodes
  named_all n = named_taken n (length p.nodes) (le_refl (length p.nodes)) ∙ ap (times_child n) (take_all (length p.nodes) p.nodes (le_refl (length p.nodes)))

-- ---- single rows

pub passed : {X : Type 0} (b : Bool) (x : X) → unless b x ≡ None → b ≡ true
passed true x h = refl
passed false x h = some_none x h

shown : {X : Type 0} (b : Bool) (x : X) → b ≡ true → unless b x ≡ None
shown true x h = refl
shown false x h = false_true h

neither : {X : Type 0} (a b : Option X) → a ≡ None → b ≡ None → or_else a b ≡ None
neither a b h i = ap (λ o. or_else o b) h ∙ i

module _ (r : Rules) (bs : List ℕ) (p : Program) (reads : Reads bs p (counts_of p)) where
  parts : List ℕ
  parts = procedure_part (counts_of p) bs

  -- the body of the procedure before
  rises_after : (o b : ℕ) → suc o < length p.procedures → rises (procedures_in parts (suc o)) b ≡ ltb (get_or p.procedures o no_procedure).body b
  unfolding parts
  rises_after o b lt =
      let f : List Procedure → ℕ → Procedure = λ _ i. known no_procedure (procedure_record parts i) in
      let long : length (table f (suc o)) ≡ suc o = length_table f (suc o) in
      let there : o < length (table f (suc o)) = omega arith in
      let item : get_or (table f (suc o)) o no_procedure ≡ get_or p.procedures o no_procedure = table_at f no_procedure o (suc o) (le_refl (suc o)) ∙ ap (known no_procedure) (reads.procedure o (omega arith)) in
      let one_less : suc o - 1 ≡ o = omega arith in
      ap (λ k. cond (eqb k 0) true (ltb (body_in (at no_procedure (table f (suc o)) (k - 1))) b)) long
      ∙ ap (λ c. cond c true (ltb (body_in (at no_procedure (table f (suc o)) (suc o - 1))) b)) (ne_eqb (suc o) 0 (omega arith))
      ∙ ap (λ k. ltb (body_in (at no_procedure (table f (suc o)) k)) b) one_less
      ∙ ap (λ d. ltb (body_in d) b) (at_there no_procedure (table f (suc o)) o there ∙ ap Some item)

  rises_first : (b : ℕ) → rises (procedures_in parts 0) b ≡ true
  unfolding table
  rises_first b = refl

  -- the body of procedure q rises above that of the procedure before
  rises_told : (q b : ℕ) → q < length p.procedures → rises (procedures_in parts q) b ≡ true → (o : ℕ) (d : Procedure) → suc o ≡ q → ProcedureIs p o d → d.body < b
  rises_told q b lt h o d e i =
      let up = ltb-true (get_or p.procedures o no_procedure).body b
      (sym (rises_after o b (omega arith)) ∙ ap (λ k. rises (procedures_in parts k) b) e ∙ h) in
      subst (λ (c : Procedure). c.body < b) (at_item no_procedure p.procedures o d i) up

  rises_shown : (q b : ℕ) → q < length p.procedures → ((o : ℕ) (d : Procedure) → suc o ≡ q → ProcedureIs p o d → d.body < b) → rises (procedures_in parts q) b ≡ true
  rises_shown zero b lt h = rises_first b
  rises_shown (suc o) b lt h =
      rises_after o b lt ∙ lt-ltb (get_or p.procedures o no_procedure).body b (h o (get_or p.procedures o no_procedure) refl (at_there no_procedure p.procedures o (omega arith)))

  kind_is : (n : ℕ) → n < length p.nodes → is_statement_kind (get_or bs (12 * n) 0) ≡ statement_node (get_or p.nodes n no_node)
  kind_is n lt = ap is_statement_kind (kind_from_reads bs p (counts_of p) n lt reads) ∙ kind_of_statement (get_or p.nodes n no_node)

  last_shown : (q b : ℕ) → (suc q ≡ length p.procedures → suc b ≡ length p.nodes) → (not (eqb (q + 1) (length p.procedures)) || eqb (b + 1) (length p.nodes)) ≡ true
  last_shown q b h = by (eqb (q + 1) (length p.procedures)) refl
    where
      by : (c : Bool) → eqb (q + 1) (length p.procedures) ≡ c → (not c || eqb (b + 1) (length p.nodes)) ≡ true
      by true e = let last = h (omega (arith, eqb-true (q + 1) (length p.procedures) e)) in eq-eqb (b + 1) (length p.nodes) (omega arith)
      by false e = refl

  last_told : (q b : ℕ) → (not (eqb (q + 1) (length p.procedures)) || eqb (b + 1) (length p.nodes)) ≡ true → suc q ≡ length p.procedures → suc b ≡ length p.nodes
  last_told q b h e =
      let t = ap (λ c. not c || eqb (b + 1) (length p.nodes)) (sym (eq-eqb (q + 1) (length p.procedures) (omega arith))) ∙ h in
      omega (arith, eqb-true (b + 1) (length p.nodes) t)

  Stands : ℕ → ℕ → Bool
  Stands q b = body_stands bs (length p.nodes) (length p.procedures) (procedures_in parts q) q b

  Rows : ℕ → Procedure → Option Refusal
  Rows q d = procedure_rows bs (length p.nodes) (length p.procedures) p.variables (procedures_in parts q) q d

  rows_told : (q : ℕ) (d : Procedure) → ProcedureIs p q d → result_fits r (Some d) ≡ true → Rows q d ≡ None → ProcedureChecks r p q d
  unfolding Rows
  rows_told q d h result rows =
      let lt = at_below no_procedure p.procedures q d h in
      let a = either_none (unless (parameters_fit p.variables q d) _) _ rows in
      let b = either_none _ (unless (main_fits (length p.procedures) q d) _) a.1 in
      let s = passed _ _ b.0 in
      let t = and_parts _ (not (eqb (q + 1) (length p.procedures)) || eqb (d.body + 1) (length p.nodes)) s in
      let u = and_parts _ (is_statement_kind (get_or bs (12 * d.body) 0)) t.0 in
      let v = and_parts (rises (procedures_in parts q) d.body) (ltb d.body (length p.nodes)) u.0 in
      let body = ltb-true d.body (length p.nodes) v.1 in
      record {
        result = result;
        parameters = passed _ _ a.0;
        above = rises_told q d.body lt v.0;
        body = body;
        statement = λ x i. ap statement_node (sym (at_item no_node p.nodes d.body x i)) ∙ sym (kind_is d.body body) ∙ u.1;
        last = last_told q d.body t.1;
        main = passed _ _ b.1;
      }

  rows_shown : (q : ℕ) (d : Procedure) → ProcedureIs p q d → ProcedureChecks r p q d → Rows q d ≡ None
  unfolding Rows
  rows_shown q d h c =
      let lt = at_below no_procedure p.procedures q d h in
      neither _ _ (shown _ _ c.parameters)
      (neither _ _
      (shown _ _
      (and_from _ _
      (and_from _ _ (and_from _ _ (rises_shown q d.body lt c.above) (lt-ltb d.body (length p.nodes) c.body))
      (kind_is d.body c.body ∙ c.statement (get_or p.nodes d.body no_node) (at_there no_node p.nodes d.body c.body)))
      (last_shown q d.body c.last)))
      (shown _ _ c.main))

  -- ---- the faults of the file, with its records in their places

  Variables : ℕ → Option Refusal
  Variables = variable_fault r (length p.procedures) (variable_part (counts_of p) bs)

  Procedures : ℕ → Option Refusal
  Procedures = procedure_fault r bs (length p.nodes) (length p.procedures) p.variables parts

  Nodes : ℕ → Option Refusal
  Nodes = node_fault r p.variables p.procedures bs

  Names : ℕ → Option Refusal
  Names = name_fault p.procedures (table (next_typed r p) (length p.nodes))

  faults_are : records_fault r (counts_of p) bs ≡ or_else (first Variables (length p.variables)) (or_else (first Procedures (length p.procedures)) (or_else (first Nodes (length p.nodes)) (first Names (length p.nodes))))
  unfolding Variables Procedures Nodes Names parts
  faults_are =
      ap₂ (λ (vs : List Variable) (ds : List Procedure).
      or_else (first (variable_fault r (length p.procedures) (variable_part (counts_of p) bs)) (length p.variables))
      (or_else (first (procedure_fault r bs (length p.nodes) (length p.procedures) vs (procedure_part (counts_of p) bs)) (length p.procedures))
      (or_else (first (node_fault r vs ds bs) (length p.nodes)) (first (name_fault ds (typed_nodes r vs ds bs (length p.nodes))) (length p.nodes)))))
      (variables_are r bs p (counts_of p) reads) (procedures_are r bs p (counts_of p) reads)
      ∙ ap (λ (ns : List TypedNode).
      or_else (first (variable_fault r (length p.procedures) (variable_part (counts_of p) bs)) (length p.variables))
      (or_else (first (procedure_fault r bs (length p.nodes) (length p.procedures) p.variables (procedure_part (counts_of p) bs)) (length p.procedures))
      (or_else (first (node_fault r p.variables p.procedures bs) (length p.nodes)) (first (name_fault p.procedures ns) (length p.nodes)))))
      (typed_are r bs p (counts_of p) reads (length p.nodes) (le_refl (length p.nodes)))

  variable_told : (i : ℕ) (v : Variable) → VariableIs p i v → Variables i ≡ None → variable_fits r (length p.procedures) (Some v) ≡ true
  unfolding Variables
  variable_told i v h n =
      let known_here = reads.variable i (at_below no_variable p.variables i v h) ∙ ap Some (at_item no_variable p.variables i v h) in
      sym (ap (variable_fits r (length p.procedures)) known_here) ∙ passed _ _ n

  variable_shown : (i : ℕ) → i < length p.variables → variable_fits r (length p.procedures) (Some (get_or p.variables i no_variable)) ≡ true → Variables i ≡ None
  unfolding Variables
  variable_shown i lt h = shown _ _ (ap (variable_fits r (length p.procedures)) (reads.variable i lt) ∙ h)

  procedure_told : (q : ℕ) (d : Procedure) → ProcedureIs p q d → Procedures q ≡ None → ProcedureChecks r p q d
  unfolding Procedures Rows parts
  procedure_told q d h n =
      let known_here = reads.procedure q (at_below no_procedure p.procedures q d h) ∙ ap Some (at_item no_procedure p.procedures q d h) in
      let a = either_none (unless (result_fits r (procedure_record parts q)) _) _ n in
      rows_told q d h (sym (ap (result_fits r) known_here) ∙ passed _ _ a.0) (sym (ap (λ o. Rows q (known no_procedure o)) known_here) ∙ a.1)

  procedure_shown : (q : ℕ) → q < length p.procedures → ProcedureChecks r p q (get_or p.procedures q no_procedure) → Procedures q ≡ None
  unfolding Procedures Rows parts
  procedure_shown q lt c =
      neither _ _ (shown _ _ (ap (result_fits r) (reads.procedure q lt) ∙ c.result))
      (ap (λ o. Rows q (known no_procedure o)) (reads.procedure q lt) ∙ rows_shown q _ (at_there no_procedure p.procedures q lt) c)

  name_is : (n : ℕ) → Names n ≡ unless (is_body p.procedures n || eqb (times_child n p.nodes) 1) (BadNaming n)
  unfolding Names
  name_is n = ap (λ k. unless (is_body p.procedures n || eqb k 1) (BadNaming n)) (named_all r p n)

  pub checks_from_faults : Sizes p → records_fault r (counts_of p) bs ≡ None → Checks r p
  unfolding Nodes
  checks_from_faults sizes h =
      let a = either_none (first Variables (length p.variables)) _ (sym faults_are ∙ h) in
      let b = either_none (first Procedures (length p.procedures)) _ a.1 in
      let c = either_none (first Nodes (length p.nodes)) (first Names (length p.nodes)) b.1 in
      record {
        sizes = sizes;
        variables = λ i v j. variable_told i v j (none_at Variables i (length p.variables) a.0 (at_below no_variable p.variables i v j));
        procedures = λ q d j. procedure_told q d j (none_at Procedures q (length p.procedures) b.0 (at_below no_procedure p.procedures q d j));
        nodes = λ n x j.
            let lt = at_below no_node p.nodes n x j in
            ap (λ y. first_broken r (below r p n) n (home p n) y node_rows) (sym (at_item no_node p.nodes n x j))
            ∙ sym (node_fault_is r bs p (counts_of p) reads n lt) ∙ none_at Nodes n (length p.nodes) c.0 lt;
        names = λ n lt. passed _ _ (sym (name_is n) ∙ none_at Names n (length p.nodes) c.1 lt);
      }

  pub faults_from_checks : Checks r p → records_fault r (counts_of p) bs ≡ None
  unfolding Nodes
  faults_from_checks k =
      faults_are
      ∙ neither _ _ (all_none Variables (length p.variables) (λ i lt. variable_shown i lt (k.variables i _ (at_there no_variable p.variables i lt))))
      (neither _ _ (all_none Procedures (length p.procedures) (λ q lt. procedure_shown q lt (k.procedures q _ (at_there no_procedure p.procedures q lt))))
      (neither _ _
      (all_none Nodes (length p.nodes) (λ n lt. node_fault_is r bs p (counts_of p) reads n lt ∙ k.nodes n _ (at_there no_node p.nodes n lt)))
      (all_none Names (length p.nodes) (λ n lt. name_is n ∙ shown _ _ (k.names n lt)))))
