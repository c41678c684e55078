-- The environment that tables hold, from what each of them holds.
use Rattle.std.proofs.Common.{◌≡◌, List, vec_items, ap, ◌∙◌}
use Rattle.program.specs.declared.records.Variable.{Variable}
use Rattle.program.specs.declared.records.Procedure.{Procedure}
use Rattle.typing.specs.Faults.{environment}
use Rattle.typing.specs.declared.classes.TypedNode.{TypedNode}
use Rattle.tables.specs.View.{view}
use Rattle.tables.specs.declared.tables.Tables.{Tables}

pub viewed : (t : Tables) (vs : List Variable) (ds : List Procedure) (ns : List TypedNode) → vec_items t.variables ≡ vs → vec_items t.procedures ≡ ds → vec_items t.nodes ≡ ns → view t ≡ environment vs ds ns
viewed t vs ds ns v d n =
    ap (λ (xs : List Variable). environment xs (vec_items t.procedures) (vec_items t.nodes)) v
    ∙ ap (λ (xs : List Procedure). environment vs xs (vec_items t.nodes)) d
    ∙ ap (environment vs ds) n
