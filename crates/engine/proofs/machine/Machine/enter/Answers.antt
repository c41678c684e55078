use Rattle.std.proofs.Common.{[], ◌∷◌, ap, ◌∙◌}
use Rattle.typing.specs.Environment.{Environment}
use Rattle.semantics.specs.State.{Shown, procedure}
use Rattle.tables.specs.View.{view}
use Rattle.engine.specs.Standing.{entries}
use Rattle.engine.specs.View.{frames_of}
use Rattle.engine.specs.Running.{config_of}
use Rattle.engine.specs.declared.frames.Next.TheVariants.{Begin}
use Rattle.engine.specs.declared.frames.Entry.TheVariants.{Frame as Framed}
use Rattle.engine.specs.declared.frames.Frame.TheVariants.{Running}
use Rattle.engine.proofs.Passing.{enters, entered_by}
use Rattle.engine.proofs.machine.Machine.enter.Goals as goal

pub returns-clause-stands : goal.returns-clause-stands
returns-clause-stands g c =
    let h = g.H.Holding in
    let m = c.args.self.now in
    let s = m.control in
    let b = c.bind-call.new.self in
    let p = c.push.new.self in
    let call = c.bind-call.result in
    let e = view s.tables in
    let same = ap view c.bind-call.ensures.tables in
    let body = c.enter-body.ensures.answer ∙ ap (λ (z : Environment). (procedure z call.procedure).body) same in
    let j = c.enter-body.new.self in
    let inside = entered_by h.stands e (view b.control.tables) call.procedure call.parameter c.args.figure (entries s) m.store b.store c.assign.new.self j same c.bind-call.ensures.parameter c.bind-call.ensures.kept c.assign.ensures.kept c.enter-body.ensures.kept in
    ap (λ (x : Shown). config_of p.next (frames_of h.stands [] (entries p)) x j) c.bind-call.ensures.sheet
    ∙ enters h.stands e p.next c.args.figure call.node call.procedure (entries s) (entries p) m.sheet m.store j c.requires c.bind-call.ensures.call (c.push.ensures.next ∙ ap Begin body) (c.push.ensures.entries ∙ ap (λ es. Framed (Running call.node) ∷ es) c.bind-call.ensures.entries) inside
