-- What the tables hold. Assumes nothing.
use Rattle.std.specs.Prelude.{◌≡◌, [], vec_items}
use Rattle.typing.specs.Environment.{Environment}
use Rattle.tables.specs.declared.tables.Tables.{Tables}

-- the program as far as it is checked
abbrev pub view : Tables → Environment
view t = record { variables = vec_items t.variables; procedures = vec_items t.procedures; nodes = vec_items t.nodes }

pub record Empty (t : Tables) : Type 0 where
  pub variables : vec_items t.variables ≡ []
  pub procedures : vec_items t.procedures ≡ []
  pub nodes : vec_items t.nodes ≡ []
  pub names : vec_items t.names ≡ []
