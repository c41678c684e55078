-- The arguments of a call, one further.
use Rattle.std.proofs.Common.{◌≡◌, ℕ, suc, ◌+◌, ◌-◌, ◌<◌, ◌≤◌, true, false, Some, None, Option, add-one, arith}
use Rattle.levels.specs.Rules.{Rules}
use Rattle.typing.specs.Environment.{Environment}
use Rattle.typing.specs.Rows.{argument_at, argument_fits, arguments_fit, is_absent, ArgumentTest}

-- n is one past the last parameter, and v the next
module _ (r : Rules) (e : Environment) (t : ArgumentTest) (n v : ℕ) (k : Option ℕ) where
  pub arguments_end : n ≤ v → arguments_fit r e t (n - v) v k ≡ is_absent k
  unfolding arguments_fit
  arguments_end h = let none : n - v ≡ 0 = omega arith in rw none

  pub argument_missing : v < n → None ≡ argument_at e k → arguments_fit r e t (n - v) v k ≡ false
  unfolding arguments_fit
  argument_missing h o = let some : n - v ≡ suc (n - (v + 1)) = omega arith in rw (some, ← o)

  pub argument_broken : v < n → (a : ℕ) (m : Option ℕ) → Some (a, m) ≡ argument_at e k → argument_fits r e t v a ≡ false → arguments_fit r e t (n - v) v k ≡ false
  unfolding arguments_fit
  argument_broken h a m o b = let some : n - v ≡ suc (n - (v + 1)) = omega arith in rw (some, ← o, b)

  pub argument_fitting : v < n → (a : ℕ) (m : Option ℕ) → Some (a, m) ≡ argument_at e k → argument_fits r e t v a ≡ true → arguments_fit r e t (n - v) v k ≡ arguments_fit r e t (n - (v + 1)) (v + 1) m
  unfolding arguments_fit
  argument_fitting h a m o b = let some : n - v ≡ suc (n - (v + 1)) = omega arith in rw (some, ← o, b, add-one v)
