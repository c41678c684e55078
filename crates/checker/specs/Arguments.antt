-- What a test of arguments computes. Assumes nothing.
use Rattle.std.specs.Prelude.{◌≡◌, ℕ, ◌^◌, ◌<◌, Bool}

-- any answer at a parameter's number v and an argument's expression a is that of the test
abbrev pub Computes : (ℕ → ℕ → Bool → Type 0) → (ℕ → ℕ → Bool) → Type 0
Computes post test = (v a : ℕ) (b : Bool) → v < 2 ^ 64 → a < 2 ^ 16 → post v a b → b ≡ test v a
