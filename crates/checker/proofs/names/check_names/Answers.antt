-- What the counts say is what row 17 asks.
use Rattle.std.proofs.Common.{◌≡◌, List, length, vec_items, ap, ◌∙◌, arith}
use Rattle.std.proofs.Math.Seq.{take-append_seam}
use Rattle.typing.specs.First.{first}
use Rattle.tables.specs.declared.tables.Naming.{Naming}
use Rattle.checker.specs.Names.{count_fault}
use Rattle.checker.specs.Records.{checked}
use Rattle.checker.proofs.Marks.{names_of, counts_say}
use Rattle.checker.proofs.names.check_names.Goals as goal

pub returns-clause-value : goal.returns-clause-value
returns-clause-value c =
    let ds = vec_items c.args.tables.now.procedures in
    let ns = vec_items c.args.tables.now.nodes in
    let len : c.name_none.new.names.len ≡ length c.mark_names.new.names = omega (arith, c.mark_names.auto.names, c.deref_mut.ensures.len) in
    let named : c.mark_names.new.names ≡ names_of ns = cc in
    c.check_counts.ensures
    ∙ ap (λ (ms : List Naming). checked tt (first (count_fault ds ms) (length ms))) (rw (len) (take-append_seam _ _) ∙ named)
    ∙ ap (checked tt) (counts_say ds ns)
