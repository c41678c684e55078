-- The numbers of data types and operators in program files. Assumes nothing.
use Rattle.std.specs.Prelude.{ℕ, cond, Some, None, Option, Result, ◌==◌}
use Rattle.std.specs.Option.{ok_or}
use Rattle.words.specs.declared.numbers.UnknownNumber.{UnknownNumber}
use Rattle.words.specs.declared.types.DataType.{DataType}
use Rattle.words.specs.declared.types.DataType.TheVariants.{Bool, Int, Unsigned}
use Rattle.words.specs.declared.types.Arithmetic.{Arithmetic}
use Rattle.words.specs.declared.types.Arithmetic.TheVariants.{Add, Subtract, Multiply, Divide, Remainder}
use Rattle.words.specs.declared.types.Comparison.{Comparison}
use Rattle.words.specs.declared.types.Comparison.TheVariants.{Equal, NotEqual, Less, LessOrEqual, Greater, GreaterOrEqual}

abbrev pub type_number : DataType → ℕ
type_number Bool = 0
type_number Int = 1
type_number Unsigned = 2

-- the data type of a number, where it has one
abbrev pub type_numbered : ℕ → Option DataType
type_numbered n = cond (n == 0) (Some Bool) (cond (n == 1) (Some Int) (cond (n == 2) (Some Unsigned) None))

abbrev pub arithmetic_number : Arithmetic → ℕ
arithmetic_number Add = 0
arithmetic_number Subtract = 1
arithmetic_number Multiply = 2
arithmetic_number Divide = 3
arithmetic_number Remainder = 4

abbrev pub arithmetic_numbered : ℕ → Option Arithmetic
arithmetic_numbered n =
    cond (n == 0) (Some Add) (cond (n == 1) (Some Subtract) (cond (n == 2) (Some Multiply) (cond (n == 3) (Some Divide) (cond (n == 4) (Some Remainder) None))))

abbrev pub comparison_number : Comparison → ℕ
comparison_number Equal = 0
comparison_number NotEqual = 1
comparison_number Less = 2
comparison_number LessOrEqual = 3
comparison_number Greater = 4
comparison_number GreaterOrEqual = 5

abbrev pub comparison_numbered : ℕ → Option Comparison
comparison_numbered n =
    cond (n == 0) (Some Equal) (cond (n == 1) (Some NotEqual) (cond (n == 2) (Some Less) (cond (n == 3) (Some LessOrEqual) (cond (n == 4) (Some Greater) (cond (n == 5) (Some GreaterOrEqual) None)))))

-- what a number stands for, where it does for something, or else the number
abbrev pub found : {X : Type 0} → ℕ → Option X → Result X UnknownNumber
found n x = ok_or x (record { 0 = n })
