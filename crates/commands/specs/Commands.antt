-- The command that a line holds. Assumes nothing.
use Rattle.std.specs.Prelude.{ℕ, cond, List, [], ◌∷◌, Some, None, Ok, Err, codes, Option, Result}
use Rattle.std.specs.Str.{bytes_eq}
use Rattle.commands.specs.declared.types.LevelKind.{LevelKind}
use Rattle.commands.specs.declared.types.LevelKind.TheVariants.{Two, Members}
use Rattle.commands.specs.declared.types.HoldingKind.{HoldingKind}
use Rattle.commands.specs.declared.types.HoldingKind.TheVariants.{Open, Split}
use Rattle.commands.specs.declared.types.Command.{Command}
use Rattle.commands.specs.declared.types.Command.TheVariants.{Levels, Holding, Flows, Joint, Amend}
use Rattle.commands.specs.declared.types.Problem.{Problem}
use Rattle.commands.specs.declared.types.Problem.TheVariants.{UnknownCommand, ArgumentCount, UnknownLevels, UnknownHolding}
use Rattle.commands.specs.Arguments.{and_then, no_argument, one_argument, word_argument, two_words, two_ints}
use Rattle.commands.specs.Pieces.{uncommented, fields}

abbrev pub level_kind_named : List ℕ → Result LevelKind Problem
level_kind_named name =
    cond (bytes_eq name (codes "two")) (Ok Two)
    (cond (bytes_eq name (codes "members")) (Ok Members)
    (Err UnknownLevels))

abbrev pub level_kind : List (List ℕ) → Result LevelKind Problem
level_kind = one_argument 1 level_kind_named

abbrev pub open_kind : List (List ℕ) → Result HoldingKind Problem
open_kind = no_argument 1 (Ok Open)

abbrev pub split_kind : List (List ℕ) → Result HoldingKind Problem
split_kind = one_argument 2 (λ field. and_then (word_argument 2 field) (λ mask. Ok (Split mask)))

abbrev pub holding_kind : List (List ℕ) → Result HoldingKind Problem
holding_kind [] = Err (ArgumentCount 1)
holding_kind (name ∷ arguments) =
    cond (bytes_eq name (codes "open")) (open_kind arguments)
    (cond (bytes_eq name (codes "split")) (split_kind arguments)
    (Err UnknownHolding))

abbrev pub command_named : List ℕ → List (List ℕ) → Result Command Problem
command_named name arguments =
    cond (bytes_eq name (codes "levels")) (and_then (level_kind arguments) (λ kind. Ok (Levels kind)))
    (cond (bytes_eq name (codes "holding")) (and_then (holding_kind arguments) (λ kind. Ok (Holding kind)))
    (cond (bytes_eq name (codes "flows")) (and_then (two_words arguments) (λ p. Ok (Flows p.0 p.1)))
    (cond (bytes_eq name (codes "joint")) (and_then (two_words arguments) (λ p. Ok (Joint p.0 p.1)))
    (cond (bytes_eq name (codes "amend")) (and_then (two_ints arguments) (λ p. Ok (Amend p.0 p.1)))
    (Err UnknownCommand)))))

-- a line of no field holds no command; else the first field is the command's name, and the others are its arguments
abbrev pub command_in : List (List ℕ) → Result (Option Command) Problem
command_in [] = Ok None
command_in (name ∷ arguments) = and_then (command_named name arguments) (λ command. Ok (Some command))

abbrev pub command_of : List ℕ → Result (Option Command) Problem
command_of line = command_in (fields (uncommented line))
