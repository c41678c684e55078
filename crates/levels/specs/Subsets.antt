-- Words as sets of bits: x is a subset of y where their common bits are x. The laws go by halving both words.
use Rattle.std.specs.Prelude.{◌≡◌, ℕ, ◌/◌, ◌%◌, ◌≤◌, max}
use Rattle.std.proofs.Common.{sym, ap, ◌∙◌, arith}
use Rattle.std.proofs.Math.Arith.{bin_ind}
use Rattle.std.specs.Int.Bits.{bit_and, bit_or, and_step, or_step, and_zero_l}

abbrev pub Subset : ℕ → ℕ → Type 0
Subset x y = bit_and x y ≡ x

-- a subset, bit by bit: in the higher bits, and in the lowest
down : (x y : ℕ) → Subset x y → Subset (x / 2) (y / 2) × (x % 2 ≤ y % 2)
down x y h = let s = and_step x y in (omega arith, omega arith)

up : (x y : ℕ) → Subset (x / 2) (y / 2) → x % 2 ≤ y % 2 → Subset x y
up x y h l = let s = and_step x y in omega arith

-- the union, bit by bit
union_down : (x y : ℕ) → (bit_or x y / 2 ≡ bit_or (x / 2) (y / 2)) × (bit_or x y % 2 ≡ max (x % 2) (y % 2))
union_down x y = let s = or_step x y in (omega arith, omega arith)

pub subset_transitive : (x y z : ℕ) → Subset x y → Subset y z → Subset x z
subset_transitive =
    bin_ind (λ (x : ℕ). (y z : ℕ) → Subset x y → Subset y z → Subset x z) (λ y z p q. and_zero_l z)
    (λ x ih y z p q. let a = down x y p in let b = down y z q in up x z (ih (y / 2) (z / 2) a.0 b.0) (omega arith))

pub subset_union : (x y : ℕ) → Subset x (bit_or x y)
subset_union =
    bin_ind (λ (x : ℕ). (y : ℕ) → Subset x (bit_or x y)) (λ y. and_zero_l (bit_or 0 y))
    (λ x ih y. let u = union_down x y in up x (bit_or x y) (ap (bit_and (x / 2)) u.0 ∙ ih (y / 2)) (omega arith))

pub union_least : (x y z : ℕ) → Subset x z → Subset y z → Subset (bit_or x y) z
union_least =
    bin_ind (λ (x : ℕ). (y z : ℕ) → Subset x z → Subset y z → Subset (bit_or x y) z) (λ y z p q. q)
    (λ x ih y z p q.
    let a = down x z p in
    let b = down y z q in
    let u = union_down x y in
    up (bit_or x y) z (ap (λ m. bit_and m (z / 2)) u.0 ∙ ih (y / 2) (z / 2) a.0 b.0 ∙ sym u.0) (omega arith))
