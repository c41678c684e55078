-- The layout and the answer of the records make the verdict.
use Rattle.std.proofs.lemmas.Result.{err_from_is_err_and}
use Rattle.checker.proofs.Parts.{unread, refused, accepted}
use Rattle.checker.proofs.fill.fill.Goals as goal

pub returns-in_err-layout-clause-value : goal.returns-in_err-layout-clause-value
returns-in_err-layout-clause-value g c =
    let p = err_from_is_err_and c.from_residual.result c.from_residual.ensures.1 in
    rw (p.1, p.2) (unread g.L.Levels.rules c.args.file.now _ c.in_err-layout.ensures.value)

pub returns-in_err-check_records-clause-value : goal.returns-in_err-check_records-clause-value
returns-in_err-check_records-clause-value g c =
    let p = err_from_is_err_and c.from_residual-in_err-check_records.result c.from_residual-in_err-check_records.ensures.1 in
    rw (p.1, p.2)
    (refused g.L.Levels.rules c.args.file.now c.in_ok-layout.layout tt _ c.in_ok-layout.ensures.value c.in_err-check_records.ensures.value)

pub returns-clause-value : goal.returns-clause-value
returns-clause-value g c =
    accepted g.L.Levels.rules c.args.file.now c.in_ok-layout.layout tt c.in_ok-layout.ensures.value c.in_ok-check_records.ensures.value
