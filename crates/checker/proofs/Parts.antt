-- The first fault of a file, part by part: the answers of the parts make the answer of the file.
use Rattle.std.proofs.Common.{◌≡◌, ℕ, List, length, Some, None, Ok, Err, Option, Result, sym, ap, ◌∙◌}
use Rattle.levels.specs.Rules.{Rules}
use Rattle.program.specs.Layout.{layout_of}
use Rattle.program.specs.Program.{no_node}
use Rattle.program.specs.declared.layout.Layout.{Layout}
use Rattle.program.specs.declared.records.Procedure.{Procedure}
use Rattle.program.specs.declared.refusal.Refusal.{Refusal}
use Rattle.typing.specs.Environment.{procedure_of}
use Rattle.typing.specs.Faults.{known, environment, node_record, typed_node, name_fault, file_variables, file_procedures, file_nodes, records_fault, layout_fault, first_fault, verdict_by, verdict_of}
use Rattle.typing.specs.First.{first}
use Rattle.typing.specs.declared.classes.TypedNode.{TypedNode}
use Rattle.typing.proofs.Rising.{length_table}
use Rattle.checker.specs.Records.{checked}
use Rattle.checker.proofs.Answered.{fault_at_err, none_at_ok}

module _ (r : Rules) (l : Layout) (bs : List ℕ) where
  pub length_nodes : length (file_nodes r l bs) ≡ l.nodes
  length_nodes =
      length_table
      (λ ns k. typed_node r (environment (file_variables l bs) (file_procedures l bs) ns) (procedure_of (file_procedures l bs) k) (known no_node (node_record bs k))) l.nodes

  -- the tables hold the procedures ds and the nodes ns
  pub first_named : (ds : List Procedure) (ns : List TypedNode) → ds ≡ file_procedures l bs → ns ≡ file_nodes r l bs → first (name_fault ds ns) (length ns) ≡ first (name_fault (file_procedures l bs) (file_nodes r l bs)) l.nodes
  first_named ds ns d n = rw (d, n, length_nodes)

-- the answer of a file, from its layout and the answer of its records
pub unread : (r : Rules) (bs : List ℕ) (e : Refusal) → Err e ≡ layout_of bs → Err e ≡ verdict_of r bs
unfolding first_fault
unread r bs e h = ap (λ (o : Result Layout Refusal). verdict_by o (layout_fault r bs o)) h

read : (r : Rules) (bs : List ℕ) (l : Layout) (o : Option Refusal) → Ok l ≡ layout_of bs → records_fault r l bs ≡ o → verdict_by (Ok l) o ≡ verdict_of r bs
unfolding first_fault
read r bs l o h k = ap (verdict_by (Ok l)) (sym k) ∙ ap (λ (x : Result Layout Refusal). verdict_by x (layout_fault r bs x)) h

pub refused : (r : Rules) (bs : List ℕ) (l : Layout) (u : Unit {0}) (e : Refusal) → Ok l ≡ layout_of bs → Err e ≡ checked u (records_fault r l bs) → Err e ≡ verdict_of r bs
refused r bs l u e h k = read r bs l (Some e) h (fault_at_err u _ e k)

pub accepted : (r : Rules) (bs : List ℕ) (l : Layout) (u : Unit {0}) → Ok l ≡ layout_of bs → Ok u ≡ checked u (records_fault r l bs) → Ok l ≡ verdict_of r bs
accepted r bs l u h k = read r bs l None h (none_at_ok u u _ k).0
