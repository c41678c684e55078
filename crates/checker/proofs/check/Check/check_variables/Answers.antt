-- One variable record further, by its fault.
use Rattle.std.proofs.Common.{◌≡◌, ◌<◌, length, drop, sym, refl, ap, ◌∙◌, add-zero, arith}
use Rattle.std.proofs.lemmas.Result.{err_from_is_err_and}
use Rattle.program.specs.Decode.{variable_decoded}
use Rattle.program.specs.Fields.{variable_fields_of}
use Rattle.program.specs.Program.{no_variable}
use Rattle.typing.specs.Faults.{known, variable_part, variable_record, variable_fault}
use Rattle.typing.proofs.Rising.{first_none, table_none, length_table, drop_record}
use Rattle.checker.proofs.Answered.{stops, goes_on, grows}
use Rattle.checker.proofs.Taken.{record_taken, variable_fault_taken}
use Rattle.checker.proofs.check.Check.check_variables.Goals as goal

pub loop-place-init : goal.loop-place-init
loop-place-init g c =
    let none : c.into_iter-place-iterator.result.count ≡ 0 = cc in
    let left : c.into_iter-place-iterator.result.iter.left.now ≡ variable_part c.args.self.now.parts.layout c.args.self.now.parts.file.now = cc in
    let all : c.into_iter-place-iterator.result.iter.count ≡ c.args.self.now.parts.layout.variables = cc in
    rw (none, left, all) (
      refl,
      add-zero _,
      first_none _,
      record { variables = c.requires.variables ∙ sym (table_none _); procedures = c.requires.procedures; nodes = c.requires.nodes; names = c.requires.names },
    )

pub push_reserved-requires : goal.push_reserved-requires
push_reserved-requires g c =
    let part = variable_part c.args.self.now.parts.layout c.args.self.now.parts.file.now in
    let tabled = length_table (λ _ i. known no_variable (variable_record part i)) c.loop-place.place-iterator.count in
    omega
    (arith, c.loop-place.tables.variables.ok.0, ap length c.loop-place.invariant.3.variables, c.loop-place.tables.variables_room, c.in-Some.ensures.steps, c.loop-place.invariant.1, c.args.self.now.parts.covers.few_variables)

pub returns-in_err-variable : goal.returns-in_err-variable
returns-in_err-variable g c =
    let p = err_from_is_err_and c.from_residual.result c.from_residual.ensures.1 in
    let step = c.in-Some.ensures.steps in
    let part = variable_part c.args.self.now.parts.layout c.args.self.now.parts.file.now in
    let m = c.args.self.now.parts.layout.procedures in
    let n = c.args.self.now.parts.layout.variables in
    let i = c.loop-place.place-iterator.count in
    let lt : i < n = omega (arith, step, c.loop-place.invariant.1) in
    let it = record_taken variable_fields_of variable_decoded 8 part _ i _ step.0.1 c.loop-place.invariant.0 in
    let here = variable_fault_taken part i _ it g.L.Levels.rules m in
    let answer = rw step.1 at c.in_err-variable.ensures in
    rw (p.1, p.2)
    record { value = stops tt (variable_fault g.L.Levels.rules m part) i n _ _ _ c.loop-place.invariant.2 lt here answer; filled = tt }

pub loop-place-preserved : goal.loop-place-preserved
loop-place-preserved g c =
    let step = c.in-Some.ensures.steps in
    let part = variable_part c.args.self.now.parts.layout c.args.self.now.parts.file.now in
    let m = c.args.self.now.parts.layout.procedures in
    let i = c.loop-place.place-iterator.count in
    let it = record_taken variable_fields_of variable_decoded 8 part _ i _ step.0.1 c.loop-place.invariant.0 in
    let here = variable_fault_taken part i _ it g.L.Levels.rules m in
    let answer = rw step.1 at c.in_ok-variable.ensures in
    rw step.2 (
      step.0.2 ∙ ap (drop 8) c.loop-place.invariant.0 ∙ drop_record 8 i part,
      omega (arith, step, c.loop-place.invariant.1),
      goes_on (variable_fault g.L.Levels.rules m part) i _ _ _ c.loop-place.invariant.2 here answer,
      record {
        variables =
            c.push_reserved.ensures.items
            ∙ grows (λ _ k. known no_variable (variable_record part k)) i _ _ _ _ c.loop-place.invariant.3.variables (ap (known no_variable) it) answer;
        procedures = c.loop-place.invariant.3.procedures;
        nodes = c.loop-place.invariant.3.nodes;
        names = c.loop-place.invariant.3.names;
      },
    )
