-- The answers of the parts, in order, make that of the records.
use Rattle.std.proofs.Common.{length, ap, ◌∙◌, arith}
use Rattle.checker.specs.Records.{checked}
use Rattle.checker.proofs.Answered.{none_at_ok}
use Rattle.checker.proofs.Parts.{length_nodes, first_named}
use Rattle.checker.proofs.check.Check.check_records.Goals as goal

pub check_names-requires-clause-room : goal.check_names-requires-clause-room
check_names-requires-clause-room g c =
    omega
    (arith, ap length c.in_ok-check_nodes.ensures.filled.nodes, length_nodes g.L.Levels.rules c.args.self.now.parts.layout c.args.self.now.parts.file.now, c.args.self.now.parts.covers.few_nodes)

pub returns-clause-value : goal.returns-clause-value
returns-clause-value g c =
    let held = c.in_ok-check_nodes.ensures.filled in
    let variables = (none_at_ok tt tt _ c.in_ok-check_variables.ensures.value).0 in
    let procedures = (none_at_ok tt tt _ c.in_ok-check_procedures.ensures.value).0 in
    let nodes = (none_at_ok tt tt _ c.in_ok-check_nodes.ensures.value).0 in
    rw (variables, procedures, nodes)
    (c.check_names.ensures.value
    ∙ ap (checked tt) (first_named g.L.Levels.rules c.args.self.now.parts.layout c.args.self.now.parts.file.now _ _ held.procedures held.nodes))
