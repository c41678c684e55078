-- How kinds and problems are written. Assumes nothing.
use Rattle.std.specs.Prelude.{ℕ, List, ◌++◌, codes, decimal}
use Rattle.commands.specs.declared.types.HoldingKind.{HoldingKind}
use Rattle.commands.specs.declared.types.HoldingKind.TheVariants.{Open, Split}
use Rattle.commands.specs.declared.types.LevelKind.{LevelKind}
use Rattle.commands.specs.declared.types.LevelKind.TheVariants.{Two, Members}
use Rattle.commands.specs.declared.types.Problem.{Problem}
use Rattle.commands.specs.declared.types.Problem.TheVariants.{UnknownCommand, ArgumentCount, NoWord, NoInt, UnknownLevels, UnknownHolding, NoDigits, Unreadable}

abbrev pub level_kind_text : LevelKind → List ℕ
level_kind_text Two = codes "two"
level_kind_text Members = codes "members"

abbrev pub holding_kind_text : HoldingKind → List ℕ
holding_kind_text Open = codes "open"
holding_kind_text (Split mask) = codes "split " ++ decimal mask

abbrev pub problem_text : Problem → List ℕ
problem_text UnknownCommand = codes "unknown command: see docs/SCRIPTS.md"
problem_text (ArgumentCount wanted) = codes "wrong number of arguments: " ++ (decimal wanted ++ codes " wanted")
problem_text (NoWord number) = codes "argument " ++ (decimal number ++ codes " is no word: 0 to 4294967295 wanted")
problem_text (NoInt number) = codes "argument " ++ (decimal number ++ codes " is no int: 0 to 4294967295 or -1 to -2147483648 wanted")
problem_text UnknownLevels = codes "unknown kind of levels: two or members wanted"
problem_text UnknownHolding = codes "unknown kind of holding: open or split wanted"
problem_text NoDigits = codes "argument 1 is no file: an even number of hexadecimal digits wanted"
problem_text Unreadable = codes "the file cannot be read"
