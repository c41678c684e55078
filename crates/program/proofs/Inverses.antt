-- A decoding that fails or gives what encodes to its fields, case by case.
use Rattle.std.proofs.Common.{◌≡◌, ℕ, Bool, true, false, cond, eqb, Some, None, Option, sym, refl, ◌∙◌}
use Rattle.std.proofs.lemmas.Bool.{eqb-true}
use Rattle.program.specs.Decode.{only_if}

-- what o holds, if anything, encodes to y
pub record Inverts {X Y : Type 0} (encode : X → Y) (y : Y) (o : Option X) : Type 0 where
  pub back : (x : X) → o ≡ Some x → encode x ≡ y

module _ {X Y : Type 0} {encode : X → Y} {y : Y} where
  pub inverts_nothing : Inverts encode y None
  inverts_nothing = record { back = λ x e. cc }

  pub inverts_some : (x : X) → encode x ≡ y → Inverts encode y (Some x)
  inverts_some x e = record { back = λ z s. cc }

  pub inverts_if : (t : Bool) (x : X) → (t ≡ true → encode x ≡ y) → Inverts encode y (only_if t (Some x))
  inverts_if true x e = inverts_some x (e refl)
  inverts_if false x e = inverts_nothing

  pub inverts_cond : (t : Bool) {o p : Option X} → (t ≡ true → Inverts encode y o) → Inverts encode y p → Inverts encode y (cond t o p)
  inverts_cond true h k = h refl
  inverts_cond false h k = k

-- a number that is told by equality with k
pub inverts_number : {X : Type 0} {number : X → ℕ} (n k : ℕ) (x : X) {o : Option X} → number x ≡ k → Inverts number n o → Inverts number n (cond (eqb n k) (Some x) o)
inverts_number n k x e h = inverts_cond (eqb n k) (λ t. inverts_some x (e ∙ sym (eqb-true n k t))) h
