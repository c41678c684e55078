-- Searches and tables over the records of a file, in rising order. Assumes nothing.
use Rattle.std.specs.Prelude.{ℕ, zero, suc, Bool, true, false, List, [], ◌∷◌, ◌++◌, Some, None, Option}

abbrev pub or_else : {X : Type 0} → Option X → Option X → Option X
or_else None y = y
or_else (Some x) y = Some x

-- the fault x, unless the test holds
abbrev pub unless : {X : Type 0} → Bool → X → Option X
unless true x = None
unless false x = Some x

-- what f finds first, at 0 and on, below n
unfoldable pub first : {X : Type 0} → (ℕ → Option X) → ℕ → Option X
first f zero = None
first f (suc n) = or_else (first f n) (f n)

-- n entries, each from those before it and its number
unfoldable pub table : {X : Type 0} → (List X → ℕ → X) → ℕ → List X
table f zero = []
table f (suc n) = table f n ++ f (table f n) n ∷ []
