-- One procedure record further, by its fault.
use Rattle.std.proofs.Common.{◌≡◌, ◌<◌, length, drop, sym, refl, ap, ◌∙◌, add-zero, arith}
use Rattle.std.proofs.lemmas.Result.{err_from_is_err_and}
use Rattle.program.specs.Decode.{procedure_decoded}
use Rattle.program.specs.Fields.{procedure_fields_of}
use Rattle.program.specs.Program.{no_procedure}
use Rattle.typing.specs.Faults.{known, file_variables, procedure_part, procedure_record, procedure_fault}
use Rattle.typing.proofs.Rising.{first_none, table_none, length_table, drop_record}
use Rattle.checker.proofs.Answered.{stops, goes_on, grows}
use Rattle.checker.proofs.Taken.{record_taken, procedure_fault_taken}
use Rattle.checker.proofs.check.Check.check_procedures.Goals as goal

pub loop-place-init : goal.loop-place-init
loop-place-init g c =
    let none : c.into_iter-place-iterator.result.count ≡ 0 = cc in
    let left : c.into_iter-place-iterator.result.iter.left.now ≡ procedure_part c.args.self.now.parts.layout c.args.self.now.parts.file.now = cc in
    let all : c.into_iter-place-iterator.result.iter.count ≡ c.args.self.now.parts.layout.procedures = cc in
    rw (none, left, all) (
      refl,
      add-zero _,
      first_none _,
      record { variables = c.requires.variables; procedures = c.requires.procedures ∙ sym (table_none _); nodes = c.requires.nodes; names = c.requires.names },
    )

pub push_reserved-requires : goal.push_reserved-requires
push_reserved-requires g c =
    let part = procedure_part c.args.self.now.parts.layout c.args.self.now.parts.file.now in
    let tabled = length_table (λ _ i. known no_procedure (procedure_record part i)) c.loop-place.place-iterator.count in
    omega
    (arith, c.loop-place.tables.procedures.ok.0, ap length c.loop-place.invariant.3.procedures, c.loop-place.tables.procedures_room, c.in-Some.ensures.steps, c.loop-place.invariant.1, c.args.self.now.parts.covers.few_procedures)

pub returns-in_err-procedure : goal.returns-in_err-procedure
returns-in_err-procedure g c =
    let p = err_from_is_err_and c.from_residual.result c.from_residual.ensures.1 in
    let step = c.in-Some.ensures.steps in
    let r = g.L.Levels.rules in
    let bs = c.args.self.now.parts.file.now in
    let l = c.args.self.now.parts.layout in
    let part = procedure_part l bs in
    let i = c.loop-place.place-iterator.count in
    let lt : i < l.procedures = omega (arith, step, c.loop-place.invariant.1) in
    let it = record_taken procedure_fields_of procedure_decoded 12 part _ i _ step.0.1 c.loop-place.invariant.0 in
    let here = procedure_fault_taken part i _ it r bs l.nodes l.procedures (file_variables l bs) _ c.loop-place.invariant.3.procedures in
    let answer = rw (step.1, c.loop-place.invariant.3.variables) at c.in_err-procedure.ensures in
    rw (p.1, p.2)
    record {
      value =
          stops tt (procedure_fault r bs l.nodes l.procedures (file_variables l bs) part) i l.procedures _ _ _
          c.loop-place.invariant.2 lt here answer;
      filled = tt;
    }

pub loop-place-preserved : goal.loop-place-preserved
loop-place-preserved g c =
    let step = c.in-Some.ensures.steps in
    let r = g.L.Levels.rules in
    let bs = c.args.self.now.parts.file.now in
    let l = c.args.self.now.parts.layout in
    let part = procedure_part l bs in
    let i = c.loop-place.place-iterator.count in
    let it = record_taken procedure_fields_of procedure_decoded 12 part _ i _ step.0.1 c.loop-place.invariant.0 in
    let here = procedure_fault_taken part i _ it r bs l.nodes l.procedures (file_variables l bs) _ c.loop-place.invariant.3.procedures in
    let answer = rw (step.1, c.loop-place.invariant.3.variables) at c.in_ok-procedure.ensures in
    rw step.2 (
      step.0.2 ∙ ap (drop 12) c.loop-place.invariant.0 ∙ drop_record 12 i part,
      omega (arith, step, c.loop-place.invariant.1),
      goes_on (procedure_fault r bs l.nodes l.procedures (file_variables l bs) part) i _ _ _ c.loop-place.invariant.2 here answer,
      record {
        variables = c.loop-place.invariant.3.variables;
        procedures =
            c.push_reserved.ensures.items
            ∙ grows (λ _ k. known no_procedure (procedure_record part k)) i _ _ _ _ c.loop-place.invariant.3.procedures (ap (known no_procedure) it) answer;
        nodes = c.loop-place.invariant.3.nodes;
        names = c.loop-place.invariant.3.names;
      },
    )
