-- The laws of the operators and of what is put in.
use Rattle.std.proofs.Math.Nat.{zero-add, suc-add}
use Rattle.std.proofs.Common.{◌≡◌, ℕ, zero, suc, ◌+◌, Bool, true, false, cond, eqb, length, Some, None, unwrap_or, sym, refl, ap, ◌∙◌, true≢false}
use lib.Signed.{quot_z, rem_z}
use Rattle.std.proofs.lemmas.Bool.{eq-eqb}
use Rattle.words.specs.Ints.{int_of, word_of}
use Rattle.words.specs.Operators.{value_at, exact, by_zero, arithmetic_word, held_arithmetic_word}
use Rattle.words.specs.declared.types.Arithmetic.{Arithmetic as Calculation}
use Rattle.words.specs.declared.types.DataType.{DataType}
use Rattle.levels.specs.Rules.{Rules, Lawful}
use Rattle.holding.specs.Counts.{one_put, one_op}
use Rattle.holding.specs.declared.shares.Counts.{Counts}
use Rattle.program.specs.Program.{Program}
use Rattle.typing.specs.Formed.{WellFormed}
use Rattle.typing.specs.Typing.{Expression, WellTyped}
use Rattle.typing.proofs.Determined.{type_known, expression_class}
use Rattle.typing.proofs.Tabled.{below, next_typed}
use Rattle.semantics.specs.State.{Shown, Kept, put, operated, word_in, plain_word, settling, working_both, decides, plain_result, held_result, known_type, figure_type}
use Rattle.semantics.specs.Natural.{Ending, ends, stops, plainly, combined}
use Rattle.semantics.specs.Fitting.{Fits, environment_of}
use Rattle.semantics.specs.Laws.{decisive, due, put_times, PutInOnce, Signed, OperatorsKeep, OperatorLaws}
use Rattle.semantics.specs.declared.lines.Outcome.TheVariants.{ZeroDivisor}
use Rattle.semantics.specs.declared.values.Operator.{Operator}
use Rattle.semantics.specs.declared.values.Operator.TheVariants.{Arithmetic as Calculates, Comparison as Compares, And, Or}
use Rattle.semantics.specs.declared.values.Value.{Value}
use Rattle.semantics.specs.declared.values.Value.TheVariants.{Plain, Held}
use Rattle.semantics.specs.declared.values.Signal.TheVariants.{Gives}
use Rattle.semantics.proofs.Described.{there, described, levels_kept}

-- ---- what is put in

settling_puts : (l : ℕ) (x : Value ℕ) (k : Kept) → (settling l x k).counts ≡ put_times (due l x) k.counts
settling_puts l (Plain w) k = by (eqb l 0)
  where
    by : (t : Bool) → (cond t k (put k)).counts ≡ put_times (cond t 0 1) k.counts
    by true = refl
    by false = refl
settling_puts l (Held w) k = refl

put_more : (m n : ℕ) (c : Counts) → put_times n (put_times m c) ≡ put_times (m + n) c
put_more zero n c = ap (λ k. put_times k c) (sym (zero-add n))
put_more (suc m) n c = put_more m n (one_put c) ∙ ap (λ k. put_times k c) (sym (suc-add m n))

-- an operator at level l, done once its operands are in, unless l is public
done_once : (t : Bool) (k j : Kept) (c : Counts) → j.counts ≡ c → (cond t k (operated j)).counts ≡ cond t k.counts (one_op c)
done_once true k j c h = refl
done_once false k j c h = ap one_op h

put_in_once : PutInOnce
put_in_once =
    record {
      settled = settling_puts;
      stored = λ v l x k. settling_puts l x k;
      one_operand = λ l x k. done_once (eqb l 0) k (settling l x k) _ (settling_puts l x k);
      two_operands = λ l x y k. done_once (eqb l 0) k (settling l y (settling l x k)) _ (settling_puts l y (settling l x k) ∙ ap (put_times (due l y)) (settling_puts l x k) ∙ put_more (due l x) (due l y) k.counts);
    }

-- ---- signed operators

alike : (o : Operator) (a b w : ℕ) → plain_result o a b ≡ Some w → held_result o a b ≡ w
alike (Calculates o t) a b w h = ap (λ n. unwrap_or n 0) h
alike (Compares o t) a b w h = ap (λ n. unwrap_or n 0) h
alike And a b w h = ap (λ n. unwrap_or n 0) h
alike Or a b w h = ap (λ n. unwrap_or n 0) h

signed : Signed
signed =
    record {
      quotients = λ a b h. ap (λ t. cond t None (Some (word_of (quot_z (int_of a) (int_of b))))) h;
      remainders = λ a b h. ap (λ t. cond t None (Some (word_of (rem_z (int_of a) (int_of b))))) h;
      less = λ a b. refl;
      less_or_equal = λ a b. refl;
      greater = λ a b. refl;
      greater_or_equal = λ a b. refl;
      held_alike = alike;
    }

-- ---- operands that are skipped

-- a first operand that decides is plain
decided_public : (o : Operator) (x : Value ℕ) (l : ℕ) → decides o x ≡ true → Fits l x → l ≡ 0
decided_public (Calculates o t) x l h f = absurd (true≢false (sym h))
decided_public (Compares o t) x l h f = absurd (true≢false (sym h))
decided_public And (Plain w) l h f = f
decided_public And (Held w) l h f = absurd (true≢false (sym h))
decided_public Or (Plain w) l h f = f
decided_public Or (Held w) l h f = absurd (true≢false (sym h))

public_decides : (o : Operator) (x : Value ℕ) (l : ℕ) → Fits l x → l ≡ 0 → decides o x ≡ decisive o (word_in x)
public_decides (Calculates o t) x l f z = refl
public_decides (Compares o t) x l f z = refl
public_decides And (Plain w) l f z = refl
public_decides And (Held w) l f z = absurd (true≢false (sym (eq-eqb l 0 z) ∙ f))
public_decides Or (Plain w) l f z = refl
public_decides Or (Held w) l f z = absurd (true≢false (sym (eq-eqb l 0 z) ∙ f))

-- ---- divisors

stopped : (o : Calculation) (u : DataType) (a b m : ℕ) (s : Shown) (k : Kept) → by_zero o b ≡ true → plainly (arithmetic_word o u a b) s k m ≡ stops ZeroDivisor s k
stopped o u a b m s k z = ap (λ t. plainly (cond t None (Some (word_of (exact o (value_at u a) (value_at u b))))) s k m) z

-- the operator at level l on two operands, where t says whether l is public
abbrev calculated : Bool → ℕ → Calculation → DataType → Value ℕ → Value ℕ → Shown → Kept → ℕ → Ending
calculated t l o u x y s k m =
    cond t (plainly (arithmetic_word o u (plain_word x) (plain_word y)) s k m) (ends (Gives (Held (held_arithmetic_word o u (word_in x) (word_in y)))) s (working_both l x y k) m)

module _ (r : Rules) (p : Program) (formed : WellFormed r p) (well : WellTyped r p) where
  at_level : {q n l : ℕ} {t : DataType} {c : Bool} (m : ℕ) (u : DataType) (o : Calculation) (x y : Value ℕ) (s : Shown) (k : Kept) → Expression r p q n t l → eqb l 0 ≡ c → combined (environment_of r p) n (Calculates o u) x y s k m ≡ calculated c l o u x y s k m
  at_level {q = q} {n = n} {l = l} {t = t} m u o x y s k d h =
      ap (λ i. calculated (eqb i 0) i o u x y s k m) ((described r p formed well).levels q n l t d) ∙ ap (λ c. calculated c l o u x y s k m) h

  typed : (q a l : ℕ) (t : DataType) → Expression r p q a t l → figure_type (environment_of r p) a ≡ t
  unfolding below next_typed
  typed q a l t d = ap known_type (type_known r p formed.below (length p.nodes) a l (Some t) (there r p formed well d) (expression_class r p formed.below d))

  operators_keep : Lawful r → OperatorsKeep r p
  operators_keep law =
      let fit = levels_kept r law p formed well in
      record {
        operands_typed = typed;
        skips_only_public = λ q a l i m t o x s u k j d f h e. decided_public o x l e (fit.expressions q a l i t s k _ d f h).0;
        skips_where_decisive = λ q a l i m t o x s u k j d f h z. public_decides o x l (fit.expressions q a l i t s k _ d f h).0 z;
        zero_divisor_ends = λ q n a b l m t u o x y s k i d z h. at_level m u o x y s k d (eq-eqb l 0 z) ∙ stopped o u (plain_word x) (plain_word y) m s k h;
        held_divisor_goes_on = λ q n a b l m t u o x y s k i d h. at_level m u o x y s k d h;
      }

pub operator_laws : (r : Rules) → Lawful r → OperatorLaws r
operator_laws r law = (put_in_once, signed, λ p formed well. operators_keep r p formed well law)
