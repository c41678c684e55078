-- The records before have no fault, and the table holds them.
use Rattle.std.proofs.Common.{◌≡◌, ◌+◌, ◌*◌, drop, [], None}
use Rattle.typing.specs.Faults.{variables_in, variable_fault, variable_part}
use Rattle.typing.specs.First.{first}
use Rattle.checker.specs.Records.{Holds}
use Rattle.checker.proofs.check.Check.check_variables.Given as goal

abbrev pub invariant-loop-place : goal.invariant-loop-place
invariant-loop-place g l =
    let part = variable_part l.self.parts.layout l.self.parts.file.now in
    let records = l.place-iterator.iter in
    let i = l.place-iterator.count in
    (records.left.now ≡ drop (8 * i) part)
    × (records.count + i ≡ l.self.parts.layout.variables)
    × (first (variable_fault g.L.Levels.rules l.self.parts.layout.procedures part) i ≡ None)
    × Holds l.tables (variables_in part i) [] []
