-- The tables of a file that no row refuses are those of the program that it encodes, and what a node may begin lies below it.
use Rattle.std.proofs.Common.{◌≡◌, ℕ, ◌<◌, ◌≤◌, true, ltb, List, [], ◌∷◌, length, get_or, Some, None, Ok, Err, Option, Result, sym, refl, ap, ◌∙◌, subst, ap₂, inl, inr, ⊎_elim, le_refl, arith}
use Rattle.std.proofs.lemmas.List.{get_or_past}
use Rattle.std.proofs.lemmas.Bool.{and_from, lt-ltb, cases_lt}
use Rattle.levels.specs.Rules.{Rules}
use Rattle.program.specs.Layout.{layout_of}
use Rattle.program.specs.Program.{Program, children, no_node, no_procedure}
use Rattle.program.specs.declared.layout.Layout.{Layout}
use Rattle.program.specs.declared.records.Node.{Node}
use Rattle.program.specs.declared.records.Node.TheVariants.{Constant, Variable, Minus, Not, Arithmetic, Comparison, And, Or, Choice, Assignment, Call, Argument, Release, Expression, Sequence, If, IfElse, While, DoWhile, Return, ReturnVoid, Break, Continue, Definition, Output}
use Rattle.program.specs.declared.refusal.Refusal.{Refusal}
use Rattle.typing.specs.Environment.{Environment, no_typed_node}
use Rattle.typing.specs.Faults.{environment, file_variables, file_procedures, file_nodes, typed_nodes, records_fault, layout_fault, first_fault, verdict_by, verdict_of}
use Rattle.typing.specs.Formed.{Among, WellFormed}
use Rattle.typing.specs.Typing.{NodeIs, WellTyped}
use Rattle.typing.specs.declared.classes.TypedNode.{TypedNode}
use Rattle.typing.proofs.Acceptance.{variables_are, procedures_are, typed_are}
use Rattle.typing.proofs.Belonging.{belongs}
use Rattle.typing.proofs.Passed.{rises, last}
use Rattle.typing.proofs.Readings.{Reads}
use Rattle.typing.proofs.Rising.{length_table}
use Rattle.typing.proofs.Tabled.{home, at_below, at_there, next_typed}
use Rattle.typing.proofs.Theorems.{file, reads_file, file_formed, file_typed, file_encoded, calls_down}
use Rattle.semantics.specs.Checked.{Checked, all_below, callee, body_below, descends, Descends}
use Rattle.semantics.specs.Fitting.{nodes_of, environment_of}
use Rattle.semantics.specs.State.{node_of, procedure}
use Rattle.semantics.proofs.Described.{described}

-- ---- the tables of a file

-- of a file that reads as the program p
module _ (r : Rules) (bs : List ℕ) (p : Program) (l : Layout) (reads : Reads bs p l) where
  nodes_are : file_nodes r l bs ≡ nodes_of r p
  unfolding next_typed
  nodes_are =
      ap₂ (λ vs ds. typed_nodes r vs ds bs l.nodes) (variables_are r bs p l reads) (procedures_are r bs p l reads)
      ∙ ap (typed_nodes r p.variables p.procedures bs) reads.nodes
      ∙ typed_are r bs p l reads (length p.nodes) (le_refl (length p.nodes))

  tables_are : environment (file_variables l bs) (file_procedures l bs) (file_nodes r l bs) ≡ environment_of r p
  tables_are = λ i. environment (variables_are r bs p l reads i) (procedures_are r bs p l reads i) (nodes_are i)

module _ (r : Rules) (bs : List ℕ) where
  file_tables : Layout → Environment
  file_tables l = environment (file_variables l bs) (file_procedures l bs) (file_nodes r l bs)

  of_layout : (l : Layout) → layout_of bs ≡ Ok l → records_fault r l bs ≡ None → Checked r bs (file_tables l)
  unfolding file_tables
  of_layout l laid none =
      record {
        program = file r bs l laid none;
        encodes = file_encoded r bs l laid none;
        formed = file_formed r bs l laid none;
        typed = file_typed r bs l laid none;
        is = tables_are r bs (file r bs l laid none) l (reads_file r bs l laid none);
      }

  by_faults : (l m : Layout) (o : Option Refusal) → layout_of bs ≡ Ok m → records_fault r m bs ≡ o → verdict_by (Ok m) o ≡ Ok l → Checked r bs (file_tables l)
  by_faults l m None laid e h = let same : m ≡ l = cc in subst (λ (k : Layout). Checked r bs (file_tables k)) same (of_layout m laid e)
  by_faults l m (Some x) laid e h = let z : ◌≡◌ {A = ℕ} 0 1 = cc in absurd (omega arith)

  by_layout : (l : Layout) (o : Result Layout Refusal) → layout_of bs ≡ o → verdict_by o (layout_fault r bs o) ≡ Ok l → Checked r bs (file_tables l)
  by_layout l (Ok m) laid h = by_faults l m (records_fault r m bs) laid refl h
  by_layout l (Err x) laid h = let z : ◌≡◌ {A = ℕ} 0 1 = cc in absurd (omega arith)

pub checked : (r : Rules) (bs : List ℕ) (l : Layout) → verdict_of r bs ≡ Ok l → Checked r bs (environment (file_variables l bs) (file_procedures l bs) (file_nodes r l bs))
unfolding first_fault file_tables
checked r bs l h = by_layout r bs l (layout_of bs) refl h

-- ---- what a node may begin

each_below : (n : ℕ) (ms : List ℕ) → ((m : ℕ) → Among m ms → m < n) → all_below n ms ≡ true
each_below n [] h = refl
each_below n (m ∷ ms) h = and_from (ltb m n) (all_below n ms) (lt-ltb m n (h m (inl refl))) (each_below n ms (λ k c. h k (inr c)))

module _ (r : Rules) (p : Program) (formed : WellFormed r p) (well : WellTyped r p) where
  -- the tables have each node of the program, and past the last one a node that begins nothing
  here : (n : ℕ) → n < length p.nodes → NodeIs p n (node_of (environment_of r p) n)
  here n lt =
      let is = at_there no_node p.nodes n lt in
      subst (NodeIs p n) (sym ((described r p formed well).nodes n (get_or p.nodes n no_node) is)) is

  beyond : (n : ℕ) → length p.nodes ≤ n → node_of (environment_of r p) n ≡ no_node
  beyond n le =
      let long : length (nodes_of r p) ≡ length p.nodes = length_table _ (length p.nodes) in
      ap (λ (x : TypedNode). x.node) (get_or_past (nodes_of r p) n no_typed_node (omega arith))

  -- the body of a procedure that is called stands before the nodes of the one that calls it
  called_below : (n g : ℕ) (f : Option ℕ) → n < length p.nodes → NodeIs p n (Call g f) → (procedure (environment_of r p) g).body < n
  called_below n g f lt h =
      let b = belongs p formed.some_procedures (rises r p formed well) (last r p formed well) n lt in
      let less = calls_down r p formed well n (home p n) g f h b in
      let few = at_below no_procedure p.procedures (home p n) b.procedure b.is in
      b.above g (procedure (environment_of r p) g) less (at_there no_procedure p.procedures g (omega arith))

  callee_below : (n : ℕ) (x : Node) → n < length p.nodes → NodeIs p n x → body_below (environment_of r p) n (callee x) ≡ true
  callee_below n (Constant t w) lt h = refl
  callee_below n (Variable v) lt h = refl
  callee_below n (Minus a) lt h = refl
  callee_below n (Not a) lt h = refl
  callee_below n (Arithmetic o a b) lt h = refl
  callee_below n (Comparison o a b) lt h = refl
  callee_below n (And a b) lt h = refl
  callee_below n (Or a b) lt h = refl
  callee_below n (Choice a b c) lt h = refl
  callee_below n (Assignment v b) lt h = refl
  callee_below n (Call g f) lt h = lt-ltb (procedure (environment_of r p) g).body n (called_below n g f lt h)
  callee_below n (Argument a m) lt h = refl
  callee_below n (Release a) lt h = refl
  callee_below n (Expression a) lt h = refl
  callee_below n (Sequence a b) lt h = refl
  callee_below n (If a b) lt h = refl
  callee_below n (IfElse a b c) lt h = refl
  callee_below n (While a b) lt h = refl
  callee_below n (DoWhile a b) lt h = refl
  callee_below n (Return a) lt h = refl
  callee_below n ReturnVoid lt h = refl
  callee_below n Break lt h = refl
  callee_below n Continue lt h = refl
  callee_below n (Definition v) lt h = refl
  callee_below n (Output a) lt h = refl

  pub descending : Descends (environment_of r p)
  descending n =
      ⊎_elim
      (λ lt.
      let x = node_of (environment_of r p) n in
      and_from (all_below n (children x)) (body_below (environment_of r p) n (callee x))
      (each_below n (children x) (λ m c. formed.below n m x (here n lt) c))
      (callee_below n x lt (here n lt)))
      (λ le. ap (λ (x : Node). descends (environment_of r p) n x) (beyond n le))
      (cases_lt n (length p.nodes))

pub checked_descends : (r : Rules) (bs : List ℕ) (e : Environment) → Checked r bs e → Descends e
checked_descends r bs e c = subst Descends (sym c.is) (descending r c.program c.formed c.typed)
