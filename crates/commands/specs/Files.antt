-- The commands that check a program file, and the bytes that hexadecimal digits write. Assumes nothing.
use Rattle.std.specs.Prelude.{ℕ, ◌+◌, ◌-◌, ◌*◌, cond, ◌&&◌, List, [], ◌∷◌, Some, None, Ok, Err, codes, Option, Result, nat_le}
use Rattle.std.specs.Str.{bytes_eq}
use Rattle.commands.specs.declared.types.FileCommand.{FileCommand}
use Rattle.commands.specs.declared.types.FileCommand.TheVariants.{Digits, Path}
use Rattle.commands.specs.declared.types.Problem.{Problem}
use Rattle.commands.specs.Arguments.{one_argument}
use Rattle.commands.specs.Pieces.{uncommented, fields}

-- where the bytes of a program file stand
pub data Source : Type 0 where
  digits : Source
  path : Source

abbrev pub source_named : List ℕ → Option Source
source_named name = cond (bytes_eq name (codes "check")) (Some digits) (cond (bytes_eq name (codes "check-file")) (Some path) None)

abbrev pub file_command_by : Option Source → List (List ℕ) → Result (Option (Source × List ℕ)) Problem
file_command_by None arguments = Ok None
file_command_by (Some source) arguments = one_argument 1 (λ text. Ok (Some (source, text))) arguments

abbrev pub file_command_in : List (List ℕ) → Result (Option (Source × List ℕ)) Problem
file_command_in [] = Ok None
file_command_in (name ∷ arguments) = file_command_by (source_named name) arguments

-- the source and the text of the command that checks a file, where the line holds one
abbrev pub file_command_of : List ℕ → Result (Option (Source × List ℕ)) Problem
file_command_of line = file_command_in (fields (uncommented line))

-- a command as its source and its text
abbrev pub shown_command : Result (Option FileCommand) Problem → Result (Option (Source × List ℕ)) Problem
shown_command (Ok None) = Ok None
shown_command (Ok (Some (Digits text))) = Ok (Some (digits, text.now))
shown_command (Ok (Some (Path text))) = Ok (Some (path, text.now))
shown_command (Err e) = Err e

-- the number of a hexadecimal digit: 0 to 9, a to f, A to F
abbrev pub digit_in : ℕ → Option ℕ
digit_in b =
    cond (nat_le 48 b && nat_le b 57) (Some (b - 48))
    (cond (nat_le 97 b && nat_le b 102) (Some (b - 87))
    (cond (nat_le 65 b && nat_le b 70) (Some (b - 55))
    None))

-- the byte of two digits
abbrev pub byte_by : Option ℕ → Option ℕ → Option ℕ
byte_by None low = None
byte_by (Some high) None = None
byte_by (Some high) (Some low) = Some (high * 16 + low)

abbrev pub byte_of : ℕ → ℕ → Option ℕ
byte_of high low = byte_by (digit_in high) (digit_in low)

abbrev pub joined : Option ℕ → Option (List ℕ) → Option (List ℕ)
joined None bytes = None
joined (Some b) None = None
joined (Some b) (Some bytes) = Some (b ∷ bytes)

-- the bytes that digits write, two for each
unfoldable pub bytes_of : List ℕ → Option (List ℕ)
bytes_of [] = Some []
bytes_of (x ∷ []) = None
bytes_of (x ∷ y ∷ rest) = joined (byte_of x y) (bytes_of rest)
