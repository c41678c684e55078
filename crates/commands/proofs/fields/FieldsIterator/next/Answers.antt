-- An empty piece is passed, and any other is the next field.
use Rattle.std.proofs.Common.{sym, ◌∙◌, rules}
use Rattle.commands.specs.declared.cutting.Mark.TheVariants.{Blank}
use Rattle.commands.proofs.Cuts.{Cut, field_none, field_first}
use Rattle.commands.proofs.fields.FieldsIterator.next.Goals as goal
use Rattle.commands.proofs.fields.FieldsIterator.next.Goals.{After-cut}

first : (c : After-cut) → Cut Blank c.loop-piece.self.rest.now c.cut.result.0.now c.cut.result.1.now
first c = record { some = c.loop-piece-test.ensures; front = c.cut.ensures.front; back = c.cut.ensures.back }

pub loop-piece-preserved : goal.loop-piece-preserved
loop-piece-preserved c =
    let cut = first (goal.at.loop-piece-preserved c).After-cut in
    (field_none cut c.if-not-is_empty.ensures ∙ c.loop-piece.invariant.0, search rules)

pub returns-then-not-is_empty-clause-steps : goal.returns-then-not-is_empty-clause-steps
returns-then-not-is_empty-clause-steps c =
    let cut = first (goal.at.returns-then-not-is_empty-clause-steps c).After-cut in
    sym c.loop-piece.invariant.0 ∙ field_first cut c.if-not-is_empty.ensures
