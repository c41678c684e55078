-- The record at the front of what is left of a part is the part's next, and its fault is the fault at its number.
use Rattle.std.proofs.Common.{◌≡◌, ℕ, ◌*◌, List, drop, Option, sym, ap, ◌∙◌}
use Rattle.levels.specs.Rules.{Rules}
use Rattle.program.specs.Program.{no_node, no_procedure}
use Rattle.program.specs.declared.records.Node.{Node}
use Rattle.program.specs.declared.records.Variable.{Variable}
use Rattle.program.specs.declared.records.Procedure.{Procedure}
use Rattle.program.specs.declared.refusal.Refusal.TheVariants.{Variable as BadVariable, Result as BadResult}
use Rattle.typing.specs.Environment.{Environment, procedure_of}
use Rattle.typing.specs.Faults.{known, variable_record, variable_fits, variable_fault, procedure_record, procedures_in, result_fits, procedure_rows, procedure_fault, environment, node_record, typed_node, typed_nodes, record_fault, node_fault}
use Rattle.typing.specs.First.{or_else, unless}

module _ {F X : Type 0} (fields_of : List ℕ → F) (decoded : F → Option X) (size : ℕ) where
  pub record_taken : (part left : List ℕ) (i : ℕ) (f : F) → f ≡ fields_of left → left ≡ drop (size * i) part → decoded (fields_of (drop (size * i) part)) ≡ decoded f
  record_taken part left i f taken rest = sym (ap decoded (taken ∙ ap fields_of rest))

module _ (part : List ℕ) (i : ℕ) (v : Option Variable) (taken : variable_record part i ≡ v) where
  pub variable_fault_taken : (r : Rules) (m : ℕ) → variable_fault r m part i ≡ unless (variable_fits r m v) (BadVariable i)
  variable_fault_taken r m = ap (λ (o : Option Variable). unless (variable_fits r m o) (BadVariable i)) taken

module _ (part : List ℕ) (i : ℕ) (d : Option Procedure) (taken : procedure_record part i ≡ d) where
  -- ds are the procedures before
  pub procedure_fault_taken : (r : Rules) (bs : List ℕ) (n m : ℕ) (vs : List Variable) (ds : List Procedure) → ds ≡ procedures_in part i → procedure_fault r bs n m vs part i ≡ or_else (unless (result_fits r d) (BadResult i)) (procedure_rows bs n m vs ds i (known no_procedure d))
  procedure_fault_taken r bs n m vs ds before =
      ap (λ (o : Option Procedure). or_else (unless (result_fits r o) (BadResult i)) (procedure_rows bs n m vs (procedures_in part i) i (known no_procedure o))) taken
      ∙ ap (λ (xs : List Procedure). or_else (unless (result_fits r d) (BadResult i)) (procedure_rows bs n m vs xs i (known no_procedure d))) (sym before)

module _ (bs : List ℕ) (k : ℕ) (n : Option Node) (taken : node_record bs k ≡ n) where
  -- e is the environment there, and q the procedure
  module _ (r : Rules) (vs : List Variable) (ds : List Procedure) (e : Environment) (q : ℕ) (below : e ≡ environment vs ds (typed_nodes r vs ds bs k)) (running : q ≡ procedure_of ds k) where
    pub node_fault_taken : node_fault r vs ds bs k ≡ record_fault r e k q n
    node_fault_taken = rw (below, running) (ap (record_fault r (environment vs ds (typed_nodes r vs ds bs k)) k (procedure_of ds k)) taken)

    pub typed_node_taken : typed_node r (environment vs ds (typed_nodes r vs ds bs k)) (procedure_of ds k) (known no_node (node_record bs k)) ≡ typed_node r e q (known no_node n)
    typed_node_taken = rw (below, running) (ap (λ (o : Option Node). typed_node r (environment vs ds (typed_nodes r vs ds bs k)) (procedure_of ds k) (known no_node o)) taken)
