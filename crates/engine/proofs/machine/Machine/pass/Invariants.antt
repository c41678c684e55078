use Rattle.std.proofs.Common.{◌≡◌, true, length}
use Rattle.engine.specs.Standing.{entries}
use Rattle.engine.specs.Running.{program, handing, handed_fits, still_to_meet}
use Rattle.engine.proofs.machine.Machine.pass.Given as goal

abbrev pub invariant-loop-handed : goal.invariant-loop-handed
invariant-loop-handed g l =
    let h = g.H.Holding in
    (l.self.control.tables ≡ l.initial.self.control.tables)
    × (handing h.stands l.handed l.self ≡ handing h.stands l.initial.handed l.initial.self)
    × (handed_fits (program l.self) (length (entries l.self.control)) l.handed ≡ true)

abbrev pub decreases-loop-handed : goal.decreases-loop-handed
decreases-loop-handed g l = still_to_meet l.handed (entries l.self.control)
