-- Each answer gives the name that its arm reads: search doesn't find which text the bytes are, and the name decides the command.
use Rattle.std.proofs.Common.{codes, rules, arith}
use Rattle.std.proofs.lemmas.Slice.Eq.{text_from_reads}
use Rattle.commands.proofs.reading.command.Goals as goal

pub returns-in-levels : goal.returns-in-levels
returns-in-levels c = rw (text_from_reads c.args.name.now (codes "levels") (omega arith) (search rules)) (search rules)

pub returns-in-holding : goal.returns-in-holding
returns-in-holding c = rw (text_from_reads c.args.name.now (codes "holding") (omega arith) (search rules)) (search rules)

pub returns-in-flows : goal.returns-in-flows
returns-in-flows c = rw (text_from_reads c.args.name.now (codes "flows") (omega arith) (search rules)) (search rules)

pub returns-in-joint : goal.returns-in-joint
returns-in-joint c = rw (text_from_reads c.args.name.now (codes "joint") (omega arith) (search rules)) (search rules)

pub returns-in-amend : goal.returns-in-amend
returns-in-amend c = rw (text_from_reads c.args.name.now (codes "amend") (omega arith) (search rules)) (search rules)
