-- How often each node is named as a child, counted node by node. Assumes nothing.
use Rattle.std.specs.Prelude.{ℕ, Bool, true, false, cond, ◌||◌, List, [], ◌∷◌, length, Option, nat_lt, slice_index_or, slice_set}
use Rattle.program.specs.Program.{children}
use Rattle.program.specs.declared.records.Procedure.{Procedure}
use Rattle.program.specs.declared.refusal.Refusal.{Refusal}
use Rattle.program.specs.declared.refusal.Refusal.TheVariants.{Naming as BadNaming}
use Rattle.typing.specs.Faults.{is_body}
use Rattle.typing.specs.First.{unless}
use Rattle.typing.specs.declared.classes.TypedNode.{TypedNode}
use Rattle.tables.specs.declared.tables.Naming.{Naming}
use Rattle.tables.specs.declared.tables.Naming.TheVariants.{Never, Once, Often}

abbrev pub more : Naming → Naming
more Never = Once
more Once = Often
more Often = Often

abbrev pub is_once : Naming → Bool
is_once Never = false
is_once Once = true
is_once Often = false

-- node k is named once more
unfoldable pub marked : List Naming → ℕ → List Naming
marked ms k = cond (nat_lt k (length ms)) (slice_set ms k (more (slice_index_or ms k Never))) ms

abbrev pub marked_all : List Naming → List ℕ → List Naming
marked_all ms [] = ms
marked_all ms (k ∷ ks) = marked_all (marked ms k) ks

abbrev pub marked_by : List Naming → TypedNode → List Naming
marked_by ms n = marked_all ms (children n.node)

-- row 17 at node k, by what was counted
abbrev pub count_fault : List Procedure → List Naming → ℕ → Option Refusal
count_fault ds ms k = unless (is_body ds k || is_once (slice_index_or ms k Never)) (BadNaming k)
