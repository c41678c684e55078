-- A machine as it is made from checked tables. Assumes nothing.
use Rattle.std.specs.Prelude.{ℕ, suc, ◌-◌, List, [], ◌∷◌, length, replicate}
use Rattle.holding.specs.declared.shares.Counts.{Counts}
use Rattle.program.specs.declared.records.Variable.{Variable}
use Rattle.typing.specs.Environment.{Environment}
use Rattle.semantics.specs.Machine.{Config, at}
use Rattle.semantics.specs.State.{Kept, procedure, stored}
use Rattle.semantics.specs.declared.values.Value.TheVariants.{Plain}

-- no cell is set, and the holding has these counts
abbrev pub unset : Counts → Kept
unset c = record { cells = replicate 128 (Plain 0); counts = c }

-- the variables from number i on become 0, in order
unfoldable pub zeroed : ℕ → List Variable → Kept → Kept
zeroed i [] k = k
zeroed i (v ∷ vs) k = zeroed (suc i) vs (stored i v.level (Plain 0) k)

-- the last procedure
abbrev pub main : Environment → ℕ
main e = length e.procedures - 1

-- main's body is about to begin, every cell is 0, no line is written and no step spent
abbrev pub opened : Environment → Counts → Config
opened e c = at (procedure e (main e)).body [] (record { lines = []; spent = 0 }) (zeroed 0 e.variables (unset c))
