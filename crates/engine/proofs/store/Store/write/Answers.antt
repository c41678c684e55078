use lib.Seq.{map-set}
use Rattle.engine.proofs.store.Store.write.Goals as goal

pub returns-then-variable-lt-CELLS : goal.returns-then-variable-lt-CELLS
returns-then-variable-lt-CELLS g c = rw (← c.self.view_is, map-set)
