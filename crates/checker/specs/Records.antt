-- What the check of a record, or of a part of a file, answers. Assumes nothing.
use Rattle.std.specs.Prelude.{◌≡◌, ℕ, Bool, List, [], vec_items, Some, None, Ok, Err, Option, Result, ◌==◌}
use Rattle.program.specs.Program.{at, no_procedure}
use Rattle.program.specs.declared.records.Variable.{Variable}
use Rattle.program.specs.declared.records.Procedure.{Procedure}
use Rattle.program.specs.declared.refusal.Refusal.{Refusal}
use Rattle.typing.specs.Environment.{body_in}
use Rattle.typing.specs.declared.classes.TypedNode.{TypedNode}
use Rattle.tables.specs.declared.tables.Tables.{Tables}

-- x, unless there is a fault
abbrev pub checked : {X : Type 0} → X → Option Refusal → Result X Refusal
checked x None = Ok x
checked x (Some e) = Err e

-- tables hold what was read of a file so far, and have counted no names
pub record Holds (t : Tables) (vs : List Variable) (ds : List Procedure) (ns : List TypedNode) : Type 0 where
  pub variables : vec_items t.variables ≡ vs
  pub procedures : vec_items t.procedures ≡ ds
  pub nodes : vec_items t.nodes ≡ ns
  pub names : vec_items t.names ≡ []

-- node k is the body of procedure q, of which ds are all
abbrev pub is_body_of : List Procedure → ℕ → ℕ → Bool
is_body_of ds q k = body_in (at no_procedure ds q) == k
