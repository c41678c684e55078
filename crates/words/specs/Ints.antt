-- Words of 32 bits and integers, in two's complement. Assumes nothing.
use Rattle.std.specs.Prelude.{ℕ, ◌-◌, ◌%◌, ◌^◌, cond, ℤ, pos, negsuc, ◌-ℤ◌, nat_lt}

-- the integer of a word: from 2 ^ 31 on it is the word less 2 ^ 32
abbrev pub int_of : ℕ → ℤ
int_of w = cond (nat_lt w (2 ^ 31)) (pos w) (pos w -ℤ pos (2 ^ 32))

-- the word of an integer: what it leaves modulo 2 ^ 32 (negsuc n is −(n + 1))
abbrev pub word_of : ℤ → ℕ
word_of (pos n) = n % 2 ^ 32
word_of (negsuc n) = 2 ^ 32 - 1 - n % 2 ^ 32
