-- The meaning of a kind of levels, and the laws that it is held to. Assumes nothing.
use Rattle.std.specs.Prelude.{Bool, true, false, ◌≡◌, ℕ}

-- which words are levels, which flows into which, and the joint of two
pub record Rules : Type 0 where
  pub is_level : ℕ → Bool
  pub flows : ℕ → ℕ → Bool
  pub joint : ℕ → ℕ → ℕ

-- the levels are a join-semilattice under flow, with 0, the public level, at the bottom and nothing else below it
pub record Lawful (r : Rules) : Type 0 where
  pub reflexive : (x : ℕ) → r.is_level x ≡ true → r.flows x x ≡ true
  pub transitive : (x y z : ℕ) → r.flows x y ≡ true → r.flows y z ≡ true → r.flows x z ≡ true
  pub public_level : r.is_level 0 ≡ true
  pub public_below : (x : ℕ) → r.is_level x ≡ true → r.flows 0 x ≡ true
  pub public_alone : (x : ℕ) → r.flows x 0 ≡ true → x ≡ 0
  pub joint_level : (x y : ℕ) → r.is_level x ≡ true → r.is_level y ≡ true → r.is_level (r.joint x y) ≡ true
  pub joint_left : (x y : ℕ) → r.is_level x ≡ true → r.is_level y ≡ true → r.flows x (r.joint x y) ≡ true
  pub joint_right : (x y : ℕ) → r.is_level x ≡ true → r.is_level y ≡ true → r.flows y (r.joint x y) ≡ true
  pub joint_least : (x y z : ℕ) → r.flows x z ≡ true → r.flows y z ≡ true → r.flows (r.joint x y) z ≡ true
  -- for a word that is no level, flow is denied and the joint is 0
  pub denied_from : (x y : ℕ) → r.is_level x ≡ false → r.flows x y ≡ false
  pub denied_into : (x y : ℕ) → r.is_level y ≡ false → r.flows x y ≡ false
  pub joint_none_left : (x y : ℕ) → r.is_level x ≡ false → r.joint x y ≡ 0
  pub joint_none_right : (x y : ℕ) → r.is_level y ≡ false → r.joint x y ≡ 0
