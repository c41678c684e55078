-- The next line is the first piece of what is left.
use Rattle.std.proofs.Common.{ap}
use Rattle.commands.specs.declared.cutting.Mark.TheVariants.{NewLine}
use Rattle.commands.specs.Pieces.{numbered}
use Rattle.commands.proofs.Cuts.{Cut, piece_first}
use Rattle.commands.proofs.lines.LinesIterator.next.Goals as goal
use Rattle.commands.proofs.lines.LinesIterator.next.Goals.{After-cut}

first : (c : After-cut) → Cut NewLine c.args.self.now.rest.now c.cut.result.0.now c.cut.result.1.now
first c = record { some = c.if-is_empty.ensures; front = c.cut.ensures.front; back = c.cut.ensures.back }

pub returns-clause-steps : goal.returns-clause-steps
returns-clause-steps c = ap (numbered c.args.self.now.count) (piece_first (first (goal.at.returns-clause-steps c).After-cut))
