-- Worked cases of the operators. Assumes nothing.
use Rattle.std.specs.Prelude.{◌≡◌, ℕ, ◌^◌, pos, neg_ℤ, Some}
use Rattle.words.specs.Ints.{word_of}
use Rattle.words.specs.Operators.{arithmetic_word, comparison_word}
use Rattle.words.specs.declared.types.DataType.TheVariants.{Int, Unsigned}
use Rattle.words.specs.declared.types.Arithmetic.TheVariants.{Add, Subtract, Divide, Remainder}
use Rattle.words.specs.declared.types.Comparison.TheVariants.{Less}

-- the words of an int and of its opposite
abbrev plus : ℕ → ℕ
plus n = word_of (pos n)

abbrev minus : ℕ → ℕ
minus n = word_of (neg_ℤ (pos n))

pub record ArithmeticCases : Type 0 where
  pub corrected : arithmetic_word Add Int (plus 1200) (minus 1) ≡ Some (plus 1199)
  pub below_zero : arithmetic_word Subtract Unsigned 0 1 ≡ Some 4294967295
  pub towards_zero : arithmetic_word Divide Int (minus 7) (plus 2) ≡ Some (minus 3)
  pub dividend_sign : arithmetic_word Remainder Int (minus 7) (plus 2) ≡ Some (minus 1)
  pub least_quotient : arithmetic_word Divide Int (minus (2 ^ 31)) (minus 1) ≡ Some (minus (2 ^ 31))
  pub least_remainder : arithmetic_word Remainder Int (minus (2 ^ 31)) (minus 1) ≡ Some 0

pub record ComparisonCases : Type 0 where
  pub signed : comparison_word Less Int (minus 1) (plus 1) ≡ 1
  pub unsigned : comparison_word Less Unsigned (minus 1) (plus 1) ≡ 0
