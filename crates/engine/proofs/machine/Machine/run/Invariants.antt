use Rattle.std.proofs.Common.{◌≡◌, ◌+◌, ◌≤◌}
use Rattle.semantics.specs.Machine as model
use Rattle.engine.specs.Running.{program, standing}
use Rattle.engine.proofs.machine.Machine.run.Given as goal

abbrev pub invariant-loop : goal.invariant-loop
invariant-loop g l =
    let h = g.H.Holding in
    (l.self.control.tables ≡ l.initial.self.control.tables)
    × (standing h.stands l.self ≡ model.run (program l.initial.self) l.counter (standing h.stands l.initial.self))
    × (l.self.sheet.spent ≤ l.initial.self.sheet.spent + l.counter)
