-- The theorems on running: the machine stands where the natural semantics says, and goes on from where it stood. Assumes nothing.
use Rattle.std.specs.Prelude.{◌≡◌, ℕ, ◌+◌, []}
use Rattle.typing.specs.Environment.{Environment}
use Rattle.semantics.specs.State.{Shown, Kept, node_of}
use Rattle.semantics.specs.Machine.{Config, at, shown, kept, outcome, run}
use Rattle.semantics.specs.Natural.{Ending, ends, stops, Runs}
use Rattle.semantics.specs.declared.lines.Outcome.{Outcome}
use Rattle.semantics.specs.declared.lines.Outcome.TheVariants.{Finished}

-- how a run stands whose node came to an ending
abbrev pub outcome_of : Ending → Outcome
outcome_of (ends z s k l) = Finished
outcome_of (stops o s k) = o

abbrev pub shown_of : Ending → Shown
shown_of (ends z s k l) = s
shown_of (stops o s k) = s

abbrev pub kept_of : Ending → Kept
kept_of (ends z s k l) = k
kept_of (stops o s k) = k

pub record Stands (r : Ending) (c : Config) : Type 0 where
  pub outcome_is : outcome c ≡ outcome_of r
  pub shown_is : shown c ≡ shown_of r
  pub kept_is : kept c ≡ kept_of r

-- node n has just one ending from a state with l steps, and l turns stand there
pub record Follows (e : Environment) (n l : ℕ) (s : Shown) (k : Kept) : Type 0 where
  pub ending : Ending
  pub runs : Runs e n (node_of e n) s k l ending
  pub only : (r : Ending) → Runs e n (node_of e n) s k l r → r ≡ ending
  pub stands : Stands ending (run e l (at n [] s k))

abbrev pub MachineFollows : Environment → Type 0
MachineFollows e = (n l : ℕ) (s : Shown) (k : Kept) → Follows e n l s k

-- m turns and then n are m + n
abbrev pub TurnsAdd : Environment → Type 0
TurnsAdd e = (m n : ℕ) (c : Config) → run e (m + n) c ≡ run e n (run e m c)
