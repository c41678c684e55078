-- The layout is that by the trailer, where the closing bytes stand.
use Rattle.std.proofs.Common.{rules}
use Rattle.program.proofs.Layouts.{layout_by_trailer}
use Rattle.program.proofs.layout.Layout.read.Goals as goal

pub returns-then-not-is_in_order-clause-value : goal.returns-then-not-is_in_order-clause-value
returns-then-not-is_in_order-clause-value c =
    rw (layout_by_trailer c.args.file.now c.in-Some.records.now c.in-Some.trailer.now (search rules) (search rules) (search rules)) (search rules)

pub returns-then-not-is_in_number-clause-value : goal.returns-then-not-is_in_number-clause-value
returns-then-not-is_in_number-clause-value c =
    rw (layout_by_trailer c.args.file.now c.in-Some.records.now c.in-Some.trailer.now (search rules) (search rules) (search rules)) (search rules)

pub returns-clause-value : goal.returns-clause-value
returns-clause-value c =
    rw (layout_by_trailer c.args.file.now c.in-Some.records.now c.in-Some.trailer.now (search rules) (search rules) (search rules)) (search rules)
