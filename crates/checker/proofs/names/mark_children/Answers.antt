-- One child further, if there is one.
use Rattle.std.proofs.Common.{ap, ◌∙◌, take_all, fold, arith}
use Rattle.checker.proofs.Marks.{marked_if, present_marked}
use Rattle.checker.specs.Names.{marked_all}
use Rattle.checker.proofs.names.mark_children.Goals as goal

pub returns : goal.returns
returns c =
    let os = c.children-child-items.result in
    c.loop-child.invariant
    ∙ ap (fold marked_if c.args.names.now) (take_all c.loop-child.child-index os (omega arith))
    ∙ present_marked os c.args.names.now
    ∙ ap (marked_all c.args.names.now) c.children-child-items.ensures
