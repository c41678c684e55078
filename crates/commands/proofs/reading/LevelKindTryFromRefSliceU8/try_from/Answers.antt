-- The name that an arm reads decides which kind it is.
use Rattle.std.proofs.Common.{codes, refl, rules, arith}
use Rattle.std.proofs.lemmas.Slice.Eq.{text_from_reads}
use Rattle.commands.proofs.reading.LevelKindTryFromRefSliceU8.try_from.Goals as goal

pub returns-in-members : goal.returns-in-members
returns-in-members c = rw (text_from_reads c.args.name.now (codes "members") (omega arith) (search rules)) refl
