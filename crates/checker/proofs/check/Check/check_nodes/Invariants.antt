-- The records before have no fault, the table holds them, and the running number is that of the procedure here.
use Rattle.std.proofs.Common.{◌≡◌, ◌+◌, ◌*◌, drop, None}
use Rattle.typing.specs.Environment.{procedure_of}
use Rattle.typing.specs.Faults.{typed_nodes, node_fault, file_variables, file_procedures}
use Rattle.typing.specs.First.{first}
use Rattle.checker.specs.Records.{Holds}
use Rattle.checker.proofs.check.Check.check_nodes.Given as goal

abbrev pub invariant-loop-place : goal.invariant-loop-place
invariant-loop-place g l =
    let bs = l.self.parts.file.now in
    let layout = l.self.parts.layout in
    let vs = file_variables layout bs in
    let ds = file_procedures layout bs in
    let records = l.place-iterator.iter in
    let i = l.place-iterator.count in
    (records.left.now ≡ drop (12 * i) bs)
    × (records.count + i ≡ layout.nodes)
    × (first (node_fault g.L.Levels.rules vs ds bs) i ≡ None)
    × Holds l.tables vs ds (typed_nodes g.L.Levels.rules vs ds bs i)
    × (l.procedure ≡ procedure_of ds i)
