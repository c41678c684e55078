use Rattle.std.proofs.Common.{length}
use Rattle.engine.specs.Standing.{entries}
use Rattle.engine.proofs.machine.Machine.+bind.Given as goal

abbrev pub decreases-bind : goal.decreases-bind
decreases-bind g l = length (entries l.self.now.control)
