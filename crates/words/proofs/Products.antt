-- The product of two words, wrapped, is the word of the product of the integers that they stand for.
use Rattle.std.proofs.Common.{◌≡◌, ℕ, ◌*◌, ◌%◌, ◌^◌, ◌<◌, ℤ, pos, negsuc, ◌*ℤ◌, nat_abs, sym, refl, ap, ◌∙◌, ap₂, arith, w32, to_z, of_z, rules}
use Rattle.std.specs.Int.{int_rem_euclid, int_wrap}
use Rattle.std.proofs.lemmas.Int.{of_z-to_z, wrapping_mul-bits}
use Rattle.words.specs.Ints.{int_of, word_of}
use Rattle.words.specs.Operators.{value_at}
use Rattle.words.specs.declared.types.DataType.{DataType}
use Rattle.words.specs.declared.types.DataType.TheVariants.{Bool, Int, Unsigned}

int_is : (w : ℕ) → w < 2 ^ 32 → int_of w ≡ to_z w32 w
int_is w h = search rules

word_is : (z : ℤ) → nat_abs (int_rem_euclid z (pos (2 ^ 32))) ≡ word_of z
word_is (pos n) = refl
word_is (negsuc n) = refl

word_lt : (z : ℤ) → word_of z < 2 ^ 32
word_lt (pos n) = omega arith
word_lt (negsuc n) = omega arith

signed : (a b : ℕ) → a < 2 ^ 32 → b < 2 ^ 32 → (a * b) % 2 ^ 32 ≡ word_of (to_z w32 a *ℤ to_z w32 b)
unfolding int_wrap
signed a b p q =
    let z = to_z w32 a *ℤ to_z w32 b in
    let wraps : to_z w32 ((a * b) % 2 ^ 32) ≡ to_z w32 (word_of z) = wrapping_mul-bits w32 a b p q ∙ ap (to_z w32) (word_is z) in
    sym (of_z-to_z w32 ((a * b) % 2 ^ 32) (omega arith)) ∙ ap (of_z w32) wraps ∙ of_z-to_z w32 (word_of z) (word_lt z)

pub product_word : (t : DataType) (a b : ℕ) → a < 2 ^ 32 → b < 2 ^ 32 → (a * b) % 2 ^ 32 ≡ word_of (value_at t a *ℤ value_at t b)
product_word Bool a b p q = refl
product_word Int a b p q = signed a b p q ∙ ap₂ (λ x y. word_of (x *ℤ y)) (sym (int_is a p)) (sym (int_is b q))
product_word Unsigned a b p q = refl
