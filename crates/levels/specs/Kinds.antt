-- The kinds of levels, as functions of words. Assumes nothing.
use Rattle.std.specs.Prelude.{Bool, cond, ◌&&◌, ℕ, ◌^◌, max, ◌==◌, nat_le, nat_lt}
use Rattle.std.specs.Int.Bits.{bit_and, bit_or}
use Rattle.levels.specs.Rules.{Rules}

-- 0 public, 1 private
abbrev pub two_level_rules : Rules
two_level_rules =
    record { is_level = λ x. nat_lt x 2; flows = λ x y. nat_le x y && nat_lt y 2; joint = λ x y. cond (nat_lt x 2 && nat_lt y 2) (max x y) 0 }

-- both words are sets of members below w
abbrev pub both_sets : ℕ → ℕ → ℕ → Bool
both_sets w x y = nat_lt x (2 ^ w) && nat_lt y (2 ^ w)

-- sets of w members, bit i for member i: flow is being a subset, and the joint is the union
abbrev pub set_rules : ℕ → Rules
set_rules w =
    record { is_level = λ x. nat_lt x (2 ^ w); flows = λ x y. both_sets w x y && bit_and x y == x; joint = λ x y. cond (both_sets w x y) (bit_or x y) 0 }

abbrev pub member_set_rules : Rules
member_set_rules = set_rules 16
