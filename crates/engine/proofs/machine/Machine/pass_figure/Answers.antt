use Rattle.std.proofs.Common.{ℕ, Option, sym, ap, ◌∙◌}
use Rattle.semantics.specs.Machine as model
use Rattle.semantics.specs.declared.values.Signal.TheVariants.{Argues}
use Rattle.engine.specs.Standing.{entries}
use Rattle.engine.specs.View.{value_of}
use Rattle.engine.specs.Running.{program, frames}
use Rattle.engine.proofs.Passing.{next_argument}
use Rattle.engine.proofs.machine.Machine.pass_figure.Goals as goal

pub returns-in-Some-clause-stands : goal.returns-in-Some-clause-stands
returns-in-Some-clause-stands g c =
    let h = g.H.Holding in
    let m = c.args.self.now in
    let p = c.push.new.self in
    next_argument h.stands (program m) p.next c.args.figure c.in-Some.argument (entries m.control) (entries p) m.sheet m.store c.requires.call c.push.ensures.next c.push.ensures.entries
    ∙ ap (λ (o : Option ℕ). model.pass (program m) (frames h.stands m) (Argues (value_of h.stands c.args.figure) o) m.sheet m.store) (sym c.in-Some.is)
