-- Which operators take which data types: the operators + - * / % == != < <= > >= and the data types bool, int and unsigned by their numbers, from 0 on. Assumes nothing.
use Rattle.std.specs.Prelude.{ℕ, Bool, ◌&&◌, ◌||◌, nat_le, nat_lt}

-- == and != take all data types, the others numbers
abbrev pub allowed : ℕ → ℕ → Bool
allowed o t = (nat_le 5 o && nat_lt o 7) || nat_le 1 t
