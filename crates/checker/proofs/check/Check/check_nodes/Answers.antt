-- One node record further, by its fault.
use Rattle.std.proofs.Common.{◌≡◌, ◌<◌, suc, cond, List, length, drop, sym, refl, ap, ◌∙◌, add-zero, arith}
use Rattle.std.proofs.lemmas.Result.{err_from_is_err_and}
use Rattle.program.specs.Decode.{node_decoded}
use Rattle.program.specs.Fields.{node_fields_of}
use Rattle.program.specs.Program.{no_node}
use Rattle.program.specs.declared.records.Procedure.{Procedure}
use Rattle.typing.specs.Environment.{procedure_of}
use Rattle.typing.specs.Faults.{known, environment, file_variables, file_procedures, node_record, typed_node, typed_nodes, node_fault}
use Rattle.typing.proofs.Rising.{first_none, table_none, length_table, drop_record}
use Rattle.checker.specs.Records.{is_body_of}
use Rattle.checker.proofs.Answered.{stops, goes_on, grows}
use Rattle.checker.proofs.Running.{procedure_none, procedure_more, procedure_below}
use Rattle.checker.proofs.Taken.{record_taken, node_fault_taken, typed_node_taken}
use Rattle.checker.proofs.Views.{viewed}
use Rattle.checker.proofs.check.Check.check_nodes.Goals as goal

pub loop-place-init : goal.loop-place-init
loop-place-init g c =
    let none : c.into_iter-place-iterator.result.count ≡ 0 = cc in
    let left : c.into_iter-place-iterator.result.iter.left.now ≡ c.args.self.now.parts.file.now = cc in
    let all : c.into_iter-place-iterator.result.iter.count ≡ c.args.self.now.parts.layout.nodes = cc in
    rw (none, left, all) (
      refl,
      add-zero _,
      first_none _,
      record { variables = c.requires.variables; procedures = c.requires.procedures; nodes = c.requires.nodes ∙ sym (table_none _); names = c.requires.names },
      procedure_none _,
    )

pub push_reserved-requires : goal.push_reserved-requires
push_reserved-requires g c =
    let r = g.L.Levels.rules in
    let bs = c.args.self.now.parts.file.now in
    let vs = file_variables c.args.self.now.parts.layout bs in
    let ds = file_procedures c.args.self.now.parts.layout bs in
    let tabled = length_table (λ ns k. typed_node r (environment vs ds ns) (procedure_of ds k) (known no_node (node_record bs k))) c.loop-place.place-iterator.count in
    omega
    (arith, c.loop-place.tables.nodes.ok.0, ap length c.loop-place.invariant.3.nodes, c.loop-place.tables.nodes_room, c.in-Some.ensures.steps, c.loop-place.invariant.1, c.args.self.now.parts.covers.few_nodes)

pub next_procedure-procedure-requires : goal.next_procedure-procedure-requires
next_procedure-procedure-requires g c =
    let ds = file_procedures c.args.self.now.parts.layout c.args.self.now.parts.file.now in
    omega
    (arith, c.loop-place.invariant.4, procedure_below ds c.loop-place.place-iterator.count, c.in-Some.ensures.steps, c.loop-place.invariant.1, c.args.self.now.parts.covers.few_nodes)

pub returns-in_err-node : goal.returns-in_err-node
returns-in_err-node g c =
    let p = err_from_is_err_and c.from_residual.result c.from_residual.ensures.1 in
    let step = c.in-Some.ensures.steps in
    let r = g.L.Levels.rules in
    let bs = c.args.self.now.parts.file.now in
    let l = c.args.self.now.parts.layout in
    let vs = file_variables l bs in
    let ds = file_procedures l bs in
    let i = c.loop-place.place-iterator.count in
    let lt : i < l.nodes = omega (arith, step, c.loop-place.invariant.1) in
    let held = c.loop-place.invariant.3 in
    let below = viewed c.loop-place.tables vs ds (typed_nodes r vs ds bs i) held.variables held.procedures held.nodes in
    let taken = record_taken node_fields_of node_decoded 12 bs _ i _ step.0.1 c.loop-place.invariant.0 in
    let here = node_fault_taken bs i _ taken r vs ds _ _ below c.loop-place.invariant.4 in
    let answer = rw step.1 at c.in_err-node.ensures in
    rw (p.1, p.2)
    record { value = stops tt (node_fault r vs ds bs) i l.nodes _ _ _ c.loop-place.invariant.2 lt here answer; filled = tt }

pub loop-place-preserved : goal.loop-place-preserved
loop-place-preserved g c =
    let step = c.in-Some.ensures.steps in
    let r = g.L.Levels.rules in
    let bs = c.args.self.now.parts.file.now in
    let l = c.args.self.now.parts.layout in
    let vs = file_variables l bs in
    let ds = file_procedures l bs in
    let i = c.loop-place.place-iterator.count in
    let held = c.loop-place.invariant.3 in
    let below = viewed c.loop-place.tables vs ds (typed_nodes r vs ds bs i) held.variables held.procedures held.nodes in
    let taken = record_taken node_fields_of node_decoded 12 bs _ i _ step.0.1 c.loop-place.invariant.0 in
    let here = node_fault_taken bs i _ taken r vs ds _ _ below c.loop-place.invariant.4 in
    let it = typed_node_taken bs i _ taken r vs ds _ _ below c.loop-place.invariant.4 in
    let answer = rw step.1 at c.in_ok-node.ensures in
    let next = rw step.1 at c.next_procedure-procedure.ensures in
    rw step.2 (
      step.0.2 ∙ ap (drop 12) c.loop-place.invariant.0 ∙ drop_record 12 i bs,
      omega (arith, step, c.loop-place.invariant.1),
      goes_on (node_fault r vs ds bs) i _ _ _ c.loop-place.invariant.2 here answer,
      record {
        variables = held.variables;
        procedures = held.procedures;
        nodes =
            c.push_reserved.ensures.items
            ∙ grows (λ ns j. typed_node r (environment vs ds ns) (procedure_of ds j) (known no_node (node_record bs j))) i _ _ _ _ held.nodes it answer;
        names = held.names;
      },
      next
          ∙ ap (λ (xs : List Procedure). cond (is_body_of xs c.loop-place.procedure i) (suc c.loop-place.procedure) c.loop-place.procedure) held.procedures
          ∙ procedure_more ds i _ c.loop-place.invariant.4,
    )
