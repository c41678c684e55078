-- The arguments of a command: the fields after its name. Assumes nothing.
use Rattle.std.specs.Prelude.{◌≡◌, ℕ, ◌^◌, ◌<◌, cond, List, [], ◌∷◌, length, Ok, Err, Result, MatchResult, ◌==◌, ◌≢◌, slice_index_or}
use Rattle.std.specs.Borrow.{Bor}
use Rattle.std.specs.Option.{ok_or}
use Rattle.commands.specs.declared.types.Problem.{Problem}
use Rattle.commands.specs.declared.types.Problem.TheVariants.{ArgumentCount, NoWord, NoInt}
use Rattle.commands.specs.Numbers.{word_in, int_in}

-- what is made of a value, where there is one
abbrev pub and_then : {X Y : Type 0} → Result X Problem → (X → Result Y Problem) → Result Y Problem
and_then (Ok x) f = f x
and_then (Err e) f = Err e

-- the n-th argument, as a word or as the word of an int
abbrev pub word_argument : ℕ → List ℕ → Result ℕ Problem
word_argument n field = ok_or (word_in field) (NoWord n)

abbrev pub int_argument : ℕ → List ℕ → Result ℕ Problem
int_argument n field = ok_or (int_in field) (NoInt n)

-- what a call gave: the arguments, which are just n, or else that the command takes `wanted`
abbrev pub Gave : {X : Type 0} → ℕ → ℕ → (X → List (List ℕ)) → List (List ℕ) → Result X Problem → Type 0
Gave wanted n shown arguments r = MatchResult r (λ x. arguments ≡ shown x) (λ e. (e ≡ ArgumentCount wanted) × (length arguments ≢ n))

-- what a call took of all: the first argument, and the rest is left, or else that the command takes `wanted`
abbrev pub Taken : ℕ → List (List ℕ) → Result (Bor (List ℕ)) Problem → List (List ℕ) → Type 0
Taken wanted all r rest = MatchResult r (λ x. all ≡ x.now ∷ rest) (λ e. (e ≡ ArgumentCount wanted) × (all ≡ []))

-- a function reads just what `number` says of each argument and its number
abbrev pub Reads : (ℕ → Bor (List ℕ) → Result ℕ Problem → Type 0) → (ℕ → List ℕ → Result ℕ Problem) → Type 0
Reads gives number = (n : ℕ) (argument : Bor (List ℕ)) (r : Result ℕ Problem) → n < 2 ^ 8 → gives n argument r → r ≡ number n argument.now

-- what is made of what is left of the arguments, where it is just so many; the command takes `wanted` in all
abbrev pub no_argument : {X : Type 0} → ℕ → Result X Problem → List (List ℕ) → Result X Problem
no_argument wanted made arguments = cond (length arguments == 0) made (Err (ArgumentCount wanted))

abbrev pub one_argument : {X : Type 0} → ℕ → (List ℕ → Result X Problem) → List (List ℕ) → Result X Problem
one_argument wanted make arguments = cond (length arguments == 1) (make (slice_index_or arguments 0 [])) (Err (ArgumentCount wanted))

abbrev pub two_arguments : {X : Type 0} → (List ℕ → List ℕ → Result X Problem) → List (List ℕ) → Result X Problem
two_arguments make arguments = cond (length arguments == 2) (make (slice_index_or arguments 0 []) (slice_index_or arguments 1 [])) (Err (ArgumentCount 2))

-- two numbers, each read of its argument and the argument's number
abbrev pub two_numbers : (ℕ → List ℕ → Result ℕ Problem) → List (List ℕ) → Result (ℕ × ℕ) Problem
two_numbers number = two_arguments (λ a b. and_then (number 1 a) (λ x. and_then (number 2 b) (λ y. Ok (x, y))))

abbrev pub two_words : List (List ℕ) → Result (ℕ × ℕ) Problem
two_words = two_numbers word_argument

abbrev pub two_ints : List (List ℕ) → Result (ℕ × ℕ) Problem
two_ints = two_numbers int_argument
