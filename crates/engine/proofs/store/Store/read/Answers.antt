use Rattle.std.proofs.Common.{sym}
use Rattle.std.proofs.Math.ListN.{get_or-map}
use Rattle.std.proofs.lemmas.Option.{unwrap_or-slice_get}
use Rattle.semantics.specs.declared.values.Value.TheVariants.{Plain}
use Rattle.engine.specs.View.{value_of}
use Rattle.engine.proofs.store.Store.read.Goals as goal

pub returns : goal.returns
returns g c =
    rw (c.unwrap_or.ensures, c.read.ensures, unwrap_or-slice_get, ← c.self.view_is) (sym (get_or-map (value_of g.H.Holding.stands) c.self.inside.cells.cells c.args.variable (Plain 0)))
