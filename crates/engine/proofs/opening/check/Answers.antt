use Rattle.tables.specs.View.{view}
use Rattle.semantics.proofs.Described.{levels_kept}
use Rattle.semantics.proofs.Laws.{operator_laws}
use Rattle.engine.proofs.Opened.{checked_by, ready_by}
use Rattle.engine.proofs.opening.check.Goals as goal

pub returns : goal.returns
returns g c =
    let r = g.L.Levels.rules in
    let bs = c.args.file.now in
    let e = view c.fill.new.tables in
    let is = checked_by r bs c.fill.result e c.fill.ensures.value c.fill.ensures.filled in
    record {
      value = c.fill.ensures.value;
      checked = is;
      ready = ready_by r bs c.fill.result e is;
      levels = levels_kept r g.met.L.Levels.lawful;
      operators = operator_laws r g.met.L.Levels.lawful;
    }
