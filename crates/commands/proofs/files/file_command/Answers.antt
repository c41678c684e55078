-- An answer of an arm gives the name that the arm reads: search doesn't find which text the bytes are, and the name decides the
-- command. The last return, where each name has failed, is left open at half the limits.
use Rattle.std.proofs.Common.{codes, rules, arith}
use Rattle.std.proofs.lemmas.Slice.Eq.{text_from_reads}
use Rattle.commands.proofs.files.file_command.Goals as goal

pub returns-in-check : goal.returns-in-check
returns-in-check c = rw (text_from_reads c.args.name.now (codes "check") (omega arith) (search rules)) (search rules)

pub returns-in-99 : goal.returns-in-99
returns-in-99 c = rw (text_from_reads c.args.name.now (codes "check-file") (omega arith) (search rules)) (search rules)

pub returns-in_default : goal.returns-in_default
returns-in_default c = search rules
