-- How answers are written. Assumes nothing.
use Rattle.std.specs.Prelude.{ℕ, cond, List, ◌++◌, codes, decimal}
use Rattle.std.specs.Fmt.{signed_decimal}
use Rattle.commands.specs.Texts.{level_kind_text, holding_kind_text, problem_text}
use Rattle.program.specs.Refusals.{row_number, place_number}
use Rattle.script.specs.declared.answers.Answer.{Answer}
use Rattle.script.specs.declared.answers.Answer.TheVariants.{Levels, Holding, Flows, Joint, Amend, Accepted, Refused}
use Rattle.script.specs.declared.answers.LineError.{LineError}

abbrev pub answer_text : Answer → List ℕ
answer_text (Levels kind) = codes "levels " ++ level_kind_text kind
answer_text (Holding kind) = codes "holding " ++ holding_kind_text kind
answer_text (Flows flows) = cond flows (codes "flows yes") (codes "flows no")
answer_text (Joint level) = codes "joint " ++ decimal level
answer_text (Amend sum counts) = codes "amend " ++ (signed_decimal sum ++ (codes " " ++ (decimal counts.puts ++ (codes " " ++ decimal counts.ops))))
answer_text (Accepted l) = codes "accepted " ++ (decimal l.nodes ++ (codes " " ++ (decimal l.variables ++ (codes " " ++ decimal l.procedures))))
answer_text (Refused e) = codes "refused " ++ (decimal (row_number e) ++ (codes " " ++ decimal (place_number e)))

abbrev pub line_error_text : LineError → List ℕ
line_error_text error = codes "error " ++ (decimal error.line ++ (codes ": " ++ problem_text error.problem))
