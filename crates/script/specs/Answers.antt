-- What a command is answered, and what it leaves chosen. Assumes nothing.
use Rattle.std.specs.Prelude.{ℕ, List, ◌+ℤ◌, Ok, Err, Result}
use Rattle.holding.specs.Counts.{none_yet, one_put, one_op}
use Rattle.holding.specs.declared.shares.Counts.{Counts}
use Rattle.levels.specs.Kinds.{two_level_rules, member_set_rules}
use Rattle.levels.specs.Rules.{Rules}
use Rattle.program.specs.declared.layout.Layout.{Layout}
use Rattle.program.specs.declared.refusal.Refusal.{Refusal}
use Rattle.typing.specs.Faults.{verdict_of}
use Rattle.words.specs.Ints.{int_of, word_of}
use Rattle.script.specs.declared.answers.Answer.{Answer}
use Rattle.script.specs.declared.answers.Answer.TheVariants.{Levels as ChosenLevels, Holding as ChosenHolding, Flows as Flow, Joint as JointLevel, Amend as Amended, Accepted, Refused}
use Rattle.commands.specs.declared.types.Command.{Command}
use Rattle.commands.specs.declared.types.Command.TheVariants.{Levels, Holding, Flows, Joint, Amend}
use Rattle.commands.specs.declared.types.HoldingKind.TheVariants.{Open}
use Rattle.commands.specs.declared.types.LevelKind.{LevelKind}
use Rattle.commands.specs.declared.types.LevelKind.TheVariants.{Two, Members}
use Rattle.script.specs.declared.desk.Desk.{Desk}

-- before anything is chosen
abbrev pub new_desk : Desk
new_desk = record { levels = Two; holding = Open }

-- what a command leaves chosen
abbrev pub desk_after : Desk → Command → Desk
desk_after desk (Levels kind) = record { levels = kind; holding = desk.holding }
desk_after desk (Holding kind) = record { levels = desk.levels; holding = kind }
desk_after desk (Flows from into) = desk
desk_after desk (Joint one other) = desk
desk_after desk (Amend weight correction) = desk

abbrev pub level_rules : LevelKind → Rules
level_rules Two = two_level_rules
level_rules Members = member_set_rules

-- the word of the sum of two ints
abbrev pub amended : ℕ → ℕ → ℕ
amended weight correction = word_of (int_of weight +ℤ int_of correction)

-- two words were put in, and one operator was done
abbrev pub amended_counts : Counts → Counts
amended_counts counts = one_op (one_put (one_put counts))

abbrev pub amend_answer : ℕ → ℕ → Counts → Answer
amend_answer weight correction counts = Amended (int_of (amended weight correction)) (amended_counts counts)

-- each amendment is made in a fresh holding, whatever its kind
abbrev pub answer_to : Desk → Command → Answer
answer_to desk (Levels kind) = ChosenLevels kind
answer_to desk (Holding kind) = ChosenHolding kind
answer_to desk (Flows from into) = Flow ((level_rules desk.levels).flows from into)
answer_to desk (Joint one other) = JointLevel ((level_rules desk.levels).joint one other)
answer_to desk (Amend weight correction) = amend_answer weight correction none_yet

-- a verdict on a program file: the counts of its records, or its first fault
abbrev pub verdict_answer : Result Layout Refusal → Answer
verdict_answer (Ok l) = Accepted l
verdict_answer (Err e) = Refused e

abbrev pub check_answer : Desk → List ℕ → Answer
check_answer desk file = verdict_answer (verdict_of (level_rules desk.levels) file)
