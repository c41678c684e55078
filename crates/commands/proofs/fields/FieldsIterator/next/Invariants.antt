-- The loop over empty pieces.
use Rattle.std.proofs.Common.{◌≡◌, ◌≤◌, length}
use Rattle.commands.specs.Pieces.{fields}
use Rattle.commands.proofs.fields.FieldsIterator.next.Given as goal

-- only empty pieces are gone
abbrev pub invariant-loop-piece : goal.invariant-loop-piece
invariant-loop-piece l =
    (fields l.self.rest.now ≡ fields l.initial.self.rest.now) × (length l.self.rest.now ≤ length l.initial.self.rest.now)

abbrev pub decreases-loop-piece : goal.decreases-loop-piece
decreases-loop-piece l = length l.self.rest.now
