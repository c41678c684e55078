-- Sets of members keep the laws of a kind of levels, at every width.
use Rattle.std.specs.Prelude.{◌≡◌, Bool, true, false, cond, ◌&&◌, ℕ, ◌^◌, ◌<◌, ltb, eqb}
use Rattle.std.proofs.Common.{sym, ap, ◌∙◌, pow_pos, ltb-true, lt-ltb, eqb-true, eq-eqb}
use Rattle.std.specs.Int.Bits.{bit_and, bit_or, and_self, and_zero_l, and_zero_r}
use Rattle.std.proofs.lemmas.Nat.{or_comm, or_lt}
use Rattle.std.proofs.lemmas.Bool.{and_parts}
use Rattle.std.proofs.Math.Bool.{and-false}
use Rattle.levels.specs.Rules.{Lawful}
use Rattle.levels.specs.Kinds.{set_rules, both_sets}
use Rattle.levels.specs.Subsets.{Subset, subset_transitive, subset_union, union_least}

denied : (a b : Bool) → b ≡ false → (a && b) ≡ false
denied a b h = ap (λ c. a && c) h ∙ and-false a

module _ (w : ℕ) where
  -- what flow says: both words are sets, and the first is a subset
  record Flows (x y : ℕ) : Type 0 where
    from : x < 2 ^ w
    into : y < 2 ^ w
    subset : Subset x y

  sets : (x y : ℕ) → x < 2 ^ w → y < 2 ^ w → both_sets w x y ≡ true
  sets x y p q = ap (λ b. b && ltb y (2 ^ w)) (lt-ltb x (2 ^ w) p) ∙ lt-ltb y (2 ^ w) q

  flowing : (x y : ℕ) → Flows x y → (set_rules w).flows x y ≡ true
  flowing x y f = ap (λ b. b && eqb (bit_and x y) x) (sets x y f.from f.into) ∙ eq-eqb (bit_and x y) x f.subset

  flowed : (x y : ℕ) → (set_rules w).flows x y ≡ true → Flows x y
  flowed x y h =
      let a = and_parts (both_sets w x y) (eqb (bit_and x y) x) h in
      let b = and_parts (ltb x (2 ^ w)) (ltb y (2 ^ w)) a.0 in
      record { from = ltb-true x (2 ^ w) b.0; into = ltb-true y (2 ^ w) b.1; subset = eqb-true (bit_and x y) x a.1 }

  union : (x y : ℕ) → x < 2 ^ w → y < 2 ^ w → (set_rules w).joint x y ≡ bit_or x y
  union x y p q = ap (λ b. cond b (bit_or x y) 0) (sets x y p q)

  pub set_lawful : Lawful (set_rules w)
  set_lawful =
      record {
        reflexive = λ x h. let p = ltb-true x (2 ^ w) h in flowing x x (record { from = p; into = p; subset = and_self x });
        transitive = λ x y z h k.
            let f = flowed x y h in
            let g = flowed y z k in
            flowing x z (record { from = f.from; into = g.into; subset = subset_transitive x y z f.subset g.subset });
        public_level = lt-ltb 0 (2 ^ w) (pow_pos w);
        public_below = λ x h. flowing 0 x (record { from = pow_pos w; into = ltb-true x (2 ^ w) h; subset = and_zero_l x });
        public_alone = λ x h. sym (flowed x 0 h).subset ∙ and_zero_r x;
        joint_level = λ x y h k.
            let p = ltb-true x (2 ^ w) h in
            let q = ltb-true y (2 ^ w) k in
            ap (λ m. ltb m (2 ^ w)) (union x y p q) ∙ lt-ltb (bit_or x y) (2 ^ w) (or_lt w x y p q);
        joint_left = λ x y h k.
            let p = ltb-true x (2 ^ w) h in
            let q = ltb-true y (2 ^ w) k in
            ap ((set_rules w).flows x) (union x y p q)
            ∙ flowing x (bit_or x y) (record { from = p; into = or_lt w x y p q; subset = subset_union x y });
        joint_right = λ x y h k.
            let p = ltb-true x (2 ^ w) h in
            let q = ltb-true y (2 ^ w) k in
            ap ((set_rules w).flows y) (union x y p q)
            ∙ flowing y (bit_or x y) (record { from = q; into = or_lt w x y p q; subset = ap (bit_and y) (or_comm x y) ∙ subset_union y x });
        joint_least = λ x y z h k.
            let f = flowed x z h in
            let g = flowed y z k in
            ap (λ m. (set_rules w).flows m z) (union x y f.from g.from)
            ∙ flowing (bit_or x y) z (record { from = or_lt w x y f.from g.from; into = f.into; subset = union_least x y z f.subset g.subset });
        denied_from = λ x y h. ap (λ b. (b && ltb y (2 ^ w)) && eqb (bit_and x y) x) h;
        denied_into = λ x y h. ap (λ b. b && eqb (bit_and x y) x) (denied (ltb x (2 ^ w)) (ltb y (2 ^ w)) h);
        joint_none_left = λ x y h. ap (λ b. cond (b && ltb y (2 ^ w)) (bit_or x y) 0) h;
        joint_none_right = λ x y h. ap (λ b. cond b (bit_or x y) 0) (denied (ltb x (2 ^ w)) (ltb y (2 ^ w)) h);
      }
