-- A sum or a difference made share by share stands for that of the words, at every data type.
use Rattle.std.proofs.Common.{◌≡◌, ℕ, ◌+◌, ◌-◌, ◌%◌, ◌^◌, rules}
use Rattle.words.specs.Operators.{held_arithmetic_word}
use Rattle.words.specs.declared.types.DataType.{DataType}
use Rattle.words.specs.declared.types.DataType.TheVariants.{Bool, Int, Unsigned}
use Rattle.words.specs.declared.types.Arithmetic.TheVariants.{Add, Subtract}
use Rattle.holding.specs.declared.shares.Shares.{Shares}
use Rattle.holding.specs.Stands.{ThreeWords, sum_of}

-- the sum and the difference, share by share
abbrev shares_sum : Shares → Shares → Shares
shares_sum x y =
    let plus : ℕ → ℕ → ℕ = λ a b. (a + b) % 2 ^ 32 in
    record { first = plus x.first y.first; second = plus x.second y.second; third = plus x.third y.third }

abbrev shares_difference : Shares → Shares → Shares
shares_difference x y =
    let less : ℕ → ℕ → ℕ = λ a b. (a + (2 ^ 32 - b)) % 2 ^ 32 in
    record { first = less x.first y.first; second = less x.second y.second; third = less x.third y.third }

pub sum_stands : (t : DataType) (x y : Shares) → sum_of (shares_sum x y) ≡ held_arithmetic_word Add t (sum_of x) (sum_of y)
sum_stands Bool x y = search rules
sum_stands Int x y = search rules
sum_stands Unsigned x y = search rules

pub difference_stands : (t : DataType) (x y : Shares) → ThreeWords y → sum_of (shares_difference x y) ≡ held_arithmetic_word Subtract t (sum_of x) (sum_of y)
difference_stands Bool x y h = search rules
difference_stands Int x y h = search rules
difference_stands Unsigned x y h = search rules
