use Rattle.std.proofs.Common.{◌≡◌, drop}
use Rattle.semantics.specs.Opening.{zeroed}
use Rattle.engine.proofs.store.Store.all_zero.Given as goal

-- what is still to be set
abbrev pub invariant-loop-i : goal.invariant-loop-i
invariant-loop-i g l =
    let h = g.H.Holding in
    zeroed l.i (drop l.i l.variables) l.store
    ≡ zeroed 0 l.variables l.initial.store
