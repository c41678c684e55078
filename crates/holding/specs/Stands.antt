-- What three words stand for, in each holding. Assumes nothing.
use Rattle.std.specs.Prelude.{ℕ, ◌+◌, ◌%◌, ◌^◌, ◌<◌}
use Rattle.holding.specs.declared.shares.Shares.{Shares}

-- each of the three is a word
pub record ThreeWords (s : Shares) : Type 0 where
  pub first : s.first < 2 ^ 32
  pub second : s.second < 2 ^ 32
  pub third : s.third < 2 ^ 32

-- in the open holding they stand for the first
abbrev pub first_of : Shares → ℕ
first_of s = s.first

-- in the split holding they stand for their sum
abbrev pub sum_of : Shares → ℕ
sum_of s = (s.first + s.second + s.third) % 2 ^ 32

-- a word, and two zeros beside it
abbrev pub alone : ℕ → Shares
alone w = record { first = w; second = 0; third = 0 }
