use Rattle.engine.proofs.opening.make.Goals as goal
use Rattle.std.proofs.Common.{List, sym, ap, ◌∙◌, subst}
use Rattle.program.specs.declared.records.Variable.{Variable}
use Rattle.semantics.specs.Fitting.{Fitting}
use Rattle.tables.specs.View.{view}
use Rattle.semantics.specs.Opening.{unset, zeroed}
use Rattle.semantics.proofs.Zeroed.{opened_fits}

pub returns-clause-fits : goal.returns-clause-fits
returns-clause-fits g c r bs is =
    let e = view c.args.workspace.tables in
    let zero = c.all_zero-store.ensures ∙ ap (λ (vs : List Variable). zeroed 0 vs (unset (g.H.Holding.counts c.args.holding))) c.deref.ensures.value in
    subst (Fitting is.program) (sym zero) (opened_fits r bs e is (g.H.Holding.counts c.args.holding))
