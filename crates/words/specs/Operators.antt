-- What each operator gives on words. Assumes nothing.
use Rattle.std.specs.Prelude.{ℕ, Bool, false, cond, not, ◌&&◌, ◌||◌, ℤ, pos, ◌+ℤ◌, ◌-ℤ◌, ◌*ℤ◌, neg_ℤ, Some, None, Option, ◌==◌, int_div, int_le, int_lt, int_rem}
use Rattle.std.specs.Option.{unwrap_or}
use Rattle.words.specs.Ints.{int_of, word_of}
use Rattle.words.specs.declared.types.DataType.{DataType}
use Rattle.words.specs.declared.types.DataType.TheVariants.{Bool as Boolean, Int, Unsigned}
use Rattle.words.specs.declared.types.Arithmetic.{Arithmetic}
use Rattle.words.specs.declared.types.Arithmetic.TheVariants.{Add, Subtract, Multiply, Divide, Remainder}
use Rattle.words.specs.declared.types.Comparison.{Comparison}
use Rattle.words.specs.declared.types.Comparison.TheVariants.{Equal, NotEqual, Less, LessOrEqual, Greater, GreaterOrEqual}

-- the integer that a word stands for at a data type
abbrev pub value_at : DataType → ℕ → ℤ
value_at Boolean w = pos w
value_at Int w = int_of w
value_at Unsigned w = pos w

-- a word is true where it is not 0
abbrev pub truth : ℕ → Bool
truth w = not (w == 0)

abbrev pub bit : Bool → ℕ
bit b = cond b 1 0

abbrev pub minus_word : ℕ → ℕ
minus_word a = word_of (neg_ℤ (int_of a))

abbrev pub not_word : ℕ → ℕ
not_word a = bit (not (truth a))

abbrev pub and_word : ℕ → ℕ → ℕ
and_word a b = bit (truth a && truth b)

abbrev pub or_word : ℕ → ℕ → ℕ
or_word a b = bit (truth a || truth b)

-- the operator on integers: a quotient is rounded towards zero, and a remainder has the dividend's sign
abbrev pub exact : Arithmetic → ℤ → ℤ → ℤ
exact Add x y = x +ℤ y
exact Subtract x y = x -ℤ y
exact Multiply x y = x *ℤ y
exact Divide x y = int_div x y
exact Remainder x y = int_rem x y

-- a quotient or a remainder by zero
abbrev pub by_zero : Arithmetic → ℕ → Bool
by_zero Add b = false
by_zero Subtract b = false
by_zero Multiply b = false
by_zero Divide b = b == 0
by_zero Remainder b = b == 0

-- the word of the result on integers, modulo 2 ^ 32; there is none by zero
abbrev pub arithmetic_word : Arithmetic → DataType → ℕ → ℕ → Option ℕ
arithmetic_word o t a b = cond (by_zero o b) None (Some (word_of (exact o (value_at t a) (value_at t b))))

-- the word of a held quotient or remainder by zero, from its dividend
abbrev pub held_by_zero : Arithmetic → ℕ → ℕ
held_by_zero o a = 0

-- the same among held figures, where none may be wanting
abbrev pub held_arithmetic_word : Arithmetic → DataType → ℕ → ℕ → ℕ
held_arithmetic_word o t a b = unwrap_or (arithmetic_word o t a b) (held_by_zero o a)

-- int compares as signed, unsigned and bool as words
abbrev pub compares : Comparison → DataType → ℕ → ℕ → Bool
compares Equal t a b = a == b
compares NotEqual t a b = not (a == b)
compares Less t a b = int_lt (value_at t a) (value_at t b)
compares LessOrEqual t a b = int_le (value_at t a) (value_at t b)
compares Greater t a b = int_lt (value_at t b) (value_at t a)
compares GreaterOrEqual t a b = int_le (value_at t b) (value_at t a)

abbrev pub comparison_word : Comparison → DataType → ℕ → ℕ → ℕ
comparison_word o t a b = bit (compares o t a b)
