-- The laws of operators and of put-ins: a plain word is put in once where a held one is due, ints are signed, only a public operand skips the next, and a zero divisor
-- stops a run only at level 0. Assumes nothing.
use Rattle.std.specs.Prelude.{◌≡◌, ℕ, zero, suc, ◌+◌, Bool, true, false, cond, not, Some, ◌==◌, int_div, int_le, int_lt, int_rem}
use Rattle.words.specs.Ints.{int_of, word_of}
use Rattle.words.specs.Operators.{truth, bit, by_zero, held_arithmetic_word}
use Rattle.words.specs.declared.types.Arithmetic.{Arithmetic as Calculation}
use Rattle.words.specs.declared.types.Arithmetic.TheVariants.{Divide, Remainder}
use Rattle.words.specs.declared.types.Comparison.TheVariants.{Less, LessOrEqual, Greater, GreaterOrEqual}
use Rattle.words.specs.declared.types.DataType.{DataType}
use Rattle.words.specs.declared.types.DataType.TheVariants.{Int}
use Rattle.levels.specs.Rules.{Rules}
use Rattle.holding.specs.Counts.{one_put, one_op}
use Rattle.holding.specs.declared.shares.Counts.{Counts}
use Rattle.program.specs.Program.{Program}
use Rattle.program.specs.declared.records.Node.TheVariants.{Arithmetic}
use Rattle.typing.specs.Formed.{WellFormed}
use Rattle.typing.specs.Typing.{NodeIs, Expression, WellTyped}
use Rattle.semantics.specs.State.{Shown, Kept, word_in, plain_word, settling, stored, working, working_both, decides, plain_result, held_result, node_of, figure_type}
use Rattle.semantics.specs.Natural.{ends, stops, combined, Runs}
use Rattle.semantics.specs.Fitting.{Fitting, environment_of}
use Rattle.semantics.specs.declared.lines.Outcome.TheVariants.{ZeroDivisor}
use Rattle.semantics.specs.declared.values.Operator.{Operator}
use Rattle.semantics.specs.declared.values.Operator.TheVariants.{Arithmetic as Calculates, Comparison as Compares, And, Or}
use Rattle.semantics.specs.declared.values.Value.{Value}
use Rattle.semantics.specs.declared.values.Value.TheVariants.{Plain, Held}
use Rattle.semantics.specs.declared.values.Signal.TheVariants.{Gives}

-- the word of a first operand settles the operator, whatever the second is
abbrev pub decisive : Operator → ℕ → Bool
decisive (Calculates o t) w = false
decisive (Compares o t) w = false
decisive And w = not (truth w)
decisive Or w = truth w

-- how many words are put in for a figure where level l is due: one for a plain word, unless l is public, and none for a held one
abbrev pub due : ℕ → Value ℕ → ℕ
due l (Plain w) = cond (l == 0) 0 1
due l (Held w) = 0

-- n words more were put in
abbrev pub put_times : ℕ → Counts → Counts
put_times zero c = c
put_times (suc n) c = put_times n (one_put c)

-- just what is due is put in: where a figure settles, in the cell of a variable, and for the operands of an operator, which is itself done once; a public operator counts nothing
pub record PutInOnce : Type 0 where
  pub settled : (l : ℕ) (x : Value ℕ) (k : Kept) → (settling l x k).counts ≡ put_times (due l x) k.counts
  pub stored : (v l : ℕ) (x : Value ℕ) (k : Kept) → (stored v l x k).counts ≡ put_times (due l x) k.counts
  pub one_operand : (l : ℕ) (x : Value ℕ) (k : Kept) → (working l x k).counts ≡ cond (l == 0) k.counts (one_op (put_times (due l x) k.counts))
  pub two_operands : (l : ℕ) (x y : Value ℕ) (k : Kept) → (working_both l x y k).counts ≡ cond (l == 0) k.counts (one_op (put_times (due l x + due l y) k.counts))

-- ints are divided and compared as signed; and the holding's operator gives the word of the plain one, wherever that has one
pub record Signed : Type 0 where
  pub quotients : (a b : ℕ) → (b == 0) ≡ false → plain_result (Calculates Divide Int) a b ≡ Some (word_of (int_div (int_of a) (int_of b)))
  pub remainders : (a b : ℕ) → (b == 0) ≡ false → plain_result (Calculates Remainder Int) a b ≡ Some (word_of (int_rem (int_of a) (int_of b)))
  pub less : (a b : ℕ) → plain_result (Compares Less Int) a b ≡ Some (bit (int_lt (int_of a) (int_of b)))
  pub less_or_equal : (a b : ℕ) → plain_result (Compares LessOrEqual Int) a b ≡ Some (bit (int_le (int_of a) (int_of b)))
  pub greater : (a b : ℕ) → plain_result (Compares Greater Int) a b ≡ Some (bit (int_lt (int_of b) (int_of a)))
  pub greater_or_equal : (a b : ℕ) → plain_result (Compares GreaterOrEqual Int) a b ≡ Some (bit (int_le (int_of b) (int_of a)))
  pub held_alike : (o : Operator) (a b w : ℕ) → plain_result o a b ≡ Some w → held_result o a b ≡ w

-- what operators keep to in a well-typed program, whose operands run from cells that fit
pub record OperatorsKeep (r : Rules) (p : Program) : Type 0 where
  -- an operator works at the data type of its operands
  pub operands_typed : (q a l : ℕ) (t : DataType) → Expression r p q a t l → figure_type (environment_of r p) a ≡ t
  -- a first operand by which the second is skipped is public
  pub skips_only_public : (q a l i m : ℕ) (t : DataType) (o : Operator) (x : Value ℕ) (s u : Shown) (k j : Kept) → Expression r p q a t l → Fitting p k → Runs (environment_of r p) a (node_of (environment_of r p) a) s k i (ends (Gives x) u j m) → decides o x ≡ true → l ≡ 0
  -- and a public one skips the second wherever its word settles the operator
  pub skips_where_decisive : (q a l i m : ℕ) (t : DataType) (o : Operator) (x : Value ℕ) (s u : Shown) (k j : Kept) → Expression r p q a t l → Fitting p k → Runs (environment_of r p) a (node_of (environment_of r p) a) s k i (ends (Gives x) u j m) → l ≡ 0 → decides o x ≡ decisive o (word_in x)
  -- a zero divisor stops the run at level 0
  pub zero_divisor_ends : (q n a b l m : ℕ) (t u : DataType) (o : Calculation) (x y : Value ℕ) (s : Shown) (k : Kept) → NodeIs p n (Arithmetic o a b) → Expression r p q n t l → l ≡ 0 → by_zero o (plain_word y) ≡ true → combined (environment_of r p) n (Calculates o u) x y s k m ≡ stops ZeroDivisor s k
  -- and at any other level no divisor does
  pub held_divisor_goes_on : (q n a b l m : ℕ) (t u : DataType) (o : Calculation) (x y : Value ℕ) (s : Shown) (k : Kept) → NodeIs p n (Arithmetic o a b) → Expression r p q n t l → (l == 0) ≡ false → combined (environment_of r p) n (Calculates o u) x y s k m ≡ ends (Gives (Held (held_arithmetic_word o u (word_in x) (word_in y)))) s (working_both l x y k) m

abbrev pub OperatorLaws : Rules → Type 0
OperatorLaws r = PutInOnce × Signed × ((p : Program) → WellFormed r p → WellTyped r p → OperatorsKeep r p)
