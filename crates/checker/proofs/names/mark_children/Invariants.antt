-- The children so far are counted.
use Rattle.std.proofs.Common.{◌≡◌, take, fold}
use Rattle.checker.proofs.Marks.{marked_if}
use Rattle.checker.proofs.names.mark_children.Given as goal

abbrev pub invariant-loop-child : goal.invariant-loop-child
invariant-loop-child l = l.names ≡ fold marked_if l.initial.names (take l.child-index l.child-items)
