-- What is decoded passes the rows, or is refused by the first that it does not.
use Rattle.std.proofs.Common.{◌≡◌, Some, refl, sym, ◌∙◌}
use Rattle.std.proofs.lemmas.Result.{err_from_is_err_and}
use Rattle.program.specs.Decode.{node_decoded}
use Rattle.checker.proofs.Answered.{fault_of_any, none_at_ok}
use Rattle.checker.proofs.site.Site.check_node.Goals as goal

pub returns-in_err-try_rows : goal.returns-in_err-try_rows
returns-in_err-try_rows g c =
    let p = err_from_is_err_and c.from_residual-in_err-try_rows.result c.from_residual-in_err-try_rows.ensures.1 in
    let decoded : node_decoded c.args.fields ≡ Some c.in_ok-node.node = sym c.decode_node.ensures ∙ c.in_ok-node.ensures.ok_part in
    rw (p.1, p.2, decoded) (fault_of_any tt _ _ _ c.in_err-try_rows.ensures)

pub returns : goal.returns
returns g c =
    let decoded : node_decoded c.args.fields ≡ Some c.in_ok-node.node = sym c.decode_node.ensures ∙ c.in_ok-node.ensures.ok_part in
    rw (decoded, c.class_of.ensures, (none_at_ok tt _ _ c.in_ok-try_rows.ensures).0) refl
