use Rattle.std.proofs.Common.{◌∙◌}
use Rattle.engine.specs.Running.{program, frames}
use Rattle.engine.proofs.Turning.{turned, turned_spends}
use Rattle.engine.proofs.machine.Machine.turn.Goals as goal

pub returns : goal.returns
returns g c =
    let h = g.H.Holding in
    let m = c.args.self.now in
    let p = c.pass.new.self in
    let e = program m in
    let fs = frames h.stands m in
    let stands =
    c.pass.ensures.stands ∙ c.drive-handed.ensures.stands
    ∙ turned e m.control.next c.args.node fs m.sheet _ m.store _ c.requires.begins c.tick.ensures c.begin-step.ensures.moves in
    record {
      tables = c.pass.ensures.tables ∙ c.drive-handed.ensures.tables;
      stands = stands;
      spent = turned_spends e m.control.next p.control.next c.args.node fs (frames h.stands p) m.sheet p.sheet m.store p.store c.requires.begins stands;
    }
