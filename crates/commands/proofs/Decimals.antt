-- The word that a field writes, by what `parse` makes of it. Assumes nothing.
use Rattle.std.proofs.Common.{◌≡◌, ◌≢◌, ℕ, ◌^◌, ◌<◌, true, List, length, get_or, None, Ok, Err, Result, IsUtf8, refl, arith, rules}
use Rattle.std.proofs.lemmas.Bool.Decides.{nat_tests}
use Rattle.std.proofs.lemmas.Fmt.{IsAscii-from_digits}
use Rattle.std.proofs.lemmas.Str.{IsUtf8-from_ascii}
use Rattle.std.proofs.lemmas.Str.Parse.{IsNumeralModel, numerals_by_fold, tells_all_ascii_digits, not_in_digits, parse_plain}
use Rattle.std.specs.Int.{IsInRange}
use Rattle.std.specs.Result.{OkIff, result_ok}
use Rattle.std.specs.Str.{all_ascii_digits}
use Rattle.std.specs.Str.Parse.{ParsesUnsigned}
use Rattle.commands.specs.Numbers.{number_after, word_in}

own : IsNumeralModel (λ ds. all_ascii_digits ds ≡ true) (number_after 0)
own = numerals_by_fold _ tells_all_ascii_digits number_after (search rules)

by_digits : {E : Type 0} (bs : List ℕ) (r : Result ℕ E) → OkIff r ((all_ascii_digits bs ≡ true) × (0 < length bs) × (number_after 0 bs < 2 ^ 32)) (number_after 0 bs) → result_ok r ≡ word_in bs
unfolding word_in
by_digits bs (Ok x) h = grind (arith, nat_tests)
by_digits bs (Err e) h = grind (arith, nat_tests)

pub word_parsed : {E : Type 0} (bs : List ℕ) (r : Result ℕ E) → ParsesUnsigned 32 10 bs r → get_or bs 0 0 ≢ 43 → result_ok r ≡ word_in bs
word_parsed bs r h plain = by_digits bs r (parse_plain own 32 bs r h plain)

no_digits : (bs : List ℕ) → (all_ascii_digits bs ≡ true → 0 < length bs → ⊥) → None ≡ word_in bs
unfolding word_in
no_digits bs h = grind (arith, nat_tests)

pub no_text : (bs : List ℕ) → (IsUtf8 bs → ⊥) → None ≡ word_in bs
no_text bs never = no_digits bs (λ e l. never (IsUtf8-from_ascii bs (IsAscii-from_digits bs (own.to bs e))))

pub no_digit : (bs : List ℕ) → (IsInRange 48 57 (get_or bs 0 0) → ⊥) → None ≡ word_in bs
no_digit bs h = no_digits bs (λ e l. not_in_digits own bs (get_or bs 0 0) e h 0 l refl)
