-- Records checked one after another: what the answer at a record says of the faults, and of the table that is filled.
use Rattle.std.proofs.Common.{◌≡◌, ℕ, ◌+◌, ◌<◌, List, [], ◌∷◌, ◌++◌, Some, None, Ok, Err, Option, sym, refl, ap, ◌∙◌, arith}
use Rattle.program.specs.declared.refusal.Refusal.{Refusal}
use Rattle.typing.specs.First.{first, table}
use Rattle.typing.proofs.Rising.{first_more, first_found, table_more}
use Rattle.checker.specs.Records.{checked}

pub fault_at_err : {X : Type 0} (x : X) (o : Option Refusal) (e : Refusal) → Err e ≡ checked x o → o ≡ Some e
fault_at_err x None e h = let z : ◌≡◌ {A = ℕ} 0 1 = cc in absurd (omega arith)
fault_at_err x (Some f) e h = cc

pub none_at_ok : {X : Type 0} (x y : X) (o : Option Refusal) → Ok y ≡ checked x o → (o ≡ None) × (y ≡ x)
none_at_ok x y None h = (refl, cc)
none_at_ok x y (Some f) h = let z : ◌≡◌ {A = ℕ} 0 1 = cc in absurd (omega arith)

-- the first record with a fault ends the check of its part
pub stops : {X Y : Type 0} (y : Y) (f : ℕ → Option Refusal) (i n : ℕ) (x : X) (o : Option Refusal) (e : Refusal) → first f i ≡ None → i < n → f i ≡ o → Err e ≡ checked x o → Err e ≡ checked y (first f n)
stops y f i n x o e before lt here h =
    sym (ap (checked y) (first_found f e i n before (here ∙ fault_at_err x o e h) lt))

-- after any other there is still no fault, and the table has it
pub goes_on : {X : Type 0} (f : ℕ → Option Refusal) (i : ℕ) (x y : X) (o : Option Refusal) → first f i ≡ None → f i ≡ o → Ok y ≡ checked x o → first f (i + 1) ≡ None
goes_on f i x y o before here h = first_more f i before (here ∙ (none_at_ok x y o h).0)

pub grows : {X : Type 0} (t : List X → ℕ → X) (i : ℕ) (xs : List X) (x y : X) (o : Option Refusal) → xs ≡ table t i → t (table t i) i ≡ x → Ok y ≡ checked x o → xs ++ y ∷ [] ≡ table t (i + 1)
grows t i xs x y o before here h =
    ap (λ (ys : List _). ys ++ y ∷ []) before ∙ ap (λ (z : _). table t i ++ z ∷ []) ((none_at_ok x y o h).1 ∙ sym here) ∙ sym (table_more t i)

-- a fault is the same whatever is wanted
pub fault_of_any : {X Y : Type 0} (x : X) (y : Y) (o : Option Refusal) (e : Refusal) → Err e ≡ checked x o → Err e ≡ checked y o
fault_of_any x y None e h = let z : ◌≡◌ {A = ℕ} 0 1 = cc in absurd (omega arith)
fault_of_any x y (Some f) e h = cc
