-- A child within the table is counted, and any other passed over.
use Rattle.std.proofs.Common.{rules}
use borrow.Author.Rules.{get_or_read}
use Rattle.checker.specs.Names.{marked}
use Rattle.checker.proofs.names.mark.Goals as goal

pub returns-then-child-names : goal.returns-then-child-names
unfolding marked
returns-then-child-names c = search (rules, get_or_read)

pub returns-else-child-names : goal.returns-else-child-names
unfolding marked
returns-else-child-names c = search rules
