use Rattle.std.proofs.Common.{◌≡◌, drop}
use Rattle.semantics.specs.State.{cleared}
use Rattle.engine.proofs.store.Store.clear.Given as goal

-- what is still to be cleared
abbrev pub invariant-loop-i : goal.invariant-loop-i
invariant-loop-i g l =
    let h = g.H.Holding in
    cleared l.number l.i (drop l.i l.variables) l.self
    ≡ cleared l.number 0 l.variables l.initial.self
