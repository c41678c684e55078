-- What a line of a script is replied, and what it leaves chosen. Assumes nothing.
use Rattle.std.specs.Prelude.{ℕ, List, Some, None, Ok, Err, Option, Result}
use Rattle.script.specs.declared.answers.Answer.{Answer}
use Rattle.script.specs.declared.answers.LineError.{LineError}
use Rattle.commands.specs.declared.types.Command.{Command}
use Rattle.commands.specs.declared.types.Problem.{Problem}
use Rattle.script.specs.declared.desk.Desk.{Desk}
use Rattle.script.specs.Answers.{desk_after, answer_to}
use Rattle.commands.specs.Commands.{command_of}

abbrev pub reply_to_read : Desk → ℕ → Result (Option Command) Problem → Result (Option Answer) LineError
reply_to_read desk number (Ok None) = Ok None
reply_to_read desk number (Ok (Some command)) = Ok (Some (answer_to desk command))
reply_to_read desk number (Err problem) = Err (record { line = number; problem = problem })

-- the reply to the line of a number
abbrev pub reply_to : Desk → ℕ → List ℕ → Result (Option Answer) LineError
reply_to desk number line = reply_to_read desk number (command_of line)

abbrev pub desk_after_read : Desk → Result (Option Command) Problem → Desk
desk_after_read desk (Ok None) = desk
desk_after_read desk (Ok (Some command)) = desk_after desk command
desk_after_read desk (Err problem) = desk

-- only a command changes what is chosen
abbrev pub desk_after_line : Desk → List ℕ → Desk
desk_after_line desk line = desk_after_read desk (command_of line)
