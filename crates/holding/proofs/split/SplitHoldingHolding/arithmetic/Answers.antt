-- Sums and differences, which are made share by share.
use Rattle.std.proofs.Common.{rules}
use Rattle.holding.proofs.ByShare.{sum_stands, difference_stands}
use Rattle.holding.specs.Stands.{ThreeWords}
use Rattle.holding.proofs.split.SplitHoldingHolding.arithmetic.Goals as goal

pub returns-in-Add-clause-stands : goal.returns-in-Add-clause-stands
returns-in-Add-clause-stands c = let e = sum_stands c.args.data_type c.args.x c.args.y in search rules

pub returns-in-Subtract-clause-stands : goal.returns-in-Subtract-clause-stands
returns-in-Subtract-clause-stands c =
    let w : ThreeWords c.args.y = search rules in
    let e = difference_stands c.args.data_type c.args.x c.args.y w in
    search rules
