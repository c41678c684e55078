-- The records before have no fault, and the table holds them.
use Rattle.std.proofs.Common.{◌≡◌, ◌+◌, ◌*◌, drop, [], None}
use Rattle.typing.specs.Faults.{procedures_in, procedure_fault, procedure_part, file_variables}
use Rattle.typing.specs.First.{first}
use Rattle.checker.specs.Records.{Holds}
use Rattle.checker.proofs.check.Check.check_procedures.Given as goal

abbrev pub invariant-loop-place : goal.invariant-loop-place
invariant-loop-place g l =
    let bs = l.self.parts.file.now in
    let layout = l.self.parts.layout in
    let part = procedure_part layout bs in
    let vs = file_variables layout bs in
    let records = l.place-iterator.iter in
    let i = l.place-iterator.count in
    (records.left.now ≡ drop (12 * i) part)
    × (records.count + i ≡ layout.procedures)
    × (first (procedure_fault g.L.Levels.rules bs layout.nodes layout.procedures vs part) i ≡ None)
    × Holds l.tables vs (procedures_in part i) []
