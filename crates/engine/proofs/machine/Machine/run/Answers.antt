use Rattle.std.proofs.Common.{◌≡◌, ℕ, ◌+◌, ◌-◌, ◌<◌, ap, ◌∙◌, arith, rules}
use Rattle.semantics.specs.Machine as model
use Rattle.engine.specs.Running.{program, frames, standing}
use Rattle.engine.proofs.Turning.{run_ended}
use Rattle.engine.proofs.machine.Machine.run.Goals as goal

pub returns-in-Ended-clause-stands : goal.returns-in-Ended-clause-stands
returns-in-Ended-clause-stands g c =
    let h = g.H.Holding in
    let m = c.args.self.now in
    let l = c.loop.self in
    let e = program m in
    let at = standing h.stands m in
    let less : c.loop.counter < c.args.steps = search rules in
    let rest : c.loop.counter + (c.args.steps - c.loop.counter) ≡ c.args.steps = omega (arith, less) in
    run_ended e c.loop.counter (c.args.steps - c.loop.counter) at l.control.next _ (frames h.stands l) l.sheet l.store c.loop.invariant.1 c.in-Ended.is
    ∙ ap (λ (n : ℕ). model.run e n at) rest
