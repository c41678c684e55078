-- What the nodes before name is counted.
use Rattle.std.proofs.Common.{◌≡◌, take, fold}
use Rattle.checker.specs.Names.{marked_by}
use Rattle.checker.proofs.names.mark_names.Given as goal

abbrev pub invariant-loop-node : goal.invariant-loop-node
invariant-loop-node l = l.names ≡ fold marked_by l.initial.names (take l.node-index l.nodes)
