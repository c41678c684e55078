-- The nodes before are well named, and the running number is that of the procedure here.
use Rattle.std.proofs.Common.{◌≡◌, None, vec_items}
use Rattle.typing.specs.Environment.{procedure_of}
use Rattle.typing.specs.First.{first}
use Rattle.checker.specs.Names.{count_fault}
use Rattle.checker.proofs.names.check_counts.Given as goal

abbrev pub invariant-loop-place : goal.invariant-loop-place
invariant-loop-place l =
    (first (count_fault (vec_items l.tables.procedures) (vec_items l.tables.names)) l.place ≡ None)
    × (l.procedure ≡ procedure_of (vec_items l.tables.procedures) l.place)
