-- What a machine is made from. Assumes nothing.
use Rattle.std.specs.Prelude.{ℕ, ◌<◌, ◌≤◌, List, length}
use Rattle.levels.specs.Rules.{Rules}
use Rattle.typing.specs.Environment.{Environment}
use Rattle.semantics.specs.Checked.{Checked, Descends}
use Rattle.semantics.specs.Fitting.{Fitting}
use Rattle.semantics.specs.Opening.{main}
use Rattle.semantics.specs.State.{Kept, procedure}

-- tables from which a machine can be made
pub record Ready (e : Environment) : Type 0 where
  pub descends : Descends e
  pub few_nodes : length e.nodes ≤ 1024
  pub some_procedures : 1 ≤ length e.procedures
  pub few_procedures : length e.procedures ≤ 32
  pub main_body : (procedure e (main e)).body < length e.nodes

-- whichever program the tables are that of, its cells fit
abbrev pub CellsFit : Environment → Kept → Type 0
CellsFit e k = (r : Rules) (bs : List ℕ) (c : Checked r bs e) → Fitting c.program k
