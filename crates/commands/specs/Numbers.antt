-- The numbers that fields write. Assumes nothing.
use Rattle.std.specs.Prelude.{ℕ, ◌+◌, ◌-◌, ◌*◌, ◌^◌, cond, ◌&&◌, List, [], ◌∷◌, length, drop, pos, neg_ℤ, Some, None, Option, ◌==◌, nat_le, nat_lt, slice_index}
use Rattle.std.specs.Str.{all_ascii_digits}
use Rattle.words.specs.Ints.{word_of}

-- a digit more after those of n
abbrev pub appended : ℕ → ℕ → ℕ
appended n b = n * 10 + (b - 48)

-- the number that decimal digits write after those of n
abbrev pub number_after : ℕ → List ℕ → ℕ
number_after n [] = n
number_after n (b ∷ bs) = number_after (appended n b) bs

-- that number, where the bytes are digits and it is a word
abbrev pub word_after : ℕ → List ℕ → Option ℕ
word_after n bs = cond (all_ascii_digits bs && nat_lt (number_after n bs) (2 ^ 32)) (Some (number_after n bs)) None

-- the word that a field writes: its digits, of which there is at least one
unfoldable pub word_in : List ℕ → Option ℕ
word_in field = cond (length field == 0) None (word_after 0 field)

-- the word of the int −n, where that is an int below 0
abbrev pub negative : ℕ → Option ℕ
negative n = cond (nat_lt 0 n && nat_le n (2 ^ 31)) (Some (word_of (neg_ℤ (pos n)))) None

abbrev pub negative_in : Option ℕ → Option ℕ
negative_in None = None
negative_in (Some n) = negative n

-- the word of the int that a field writes: a word, or a `-` and the digits of a negative int
abbrev pub int_in : List ℕ → Option ℕ
int_in field = cond (slice_index field 0 == 45) (negative_in (word_in (drop 1 field))) (word_in field)
