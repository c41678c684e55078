-- The running number of the procedure that a node belongs to.
use Rattle.std.proofs.Common.{◌≡◌, ℕ, zero, suc, ◌+◌, ◌≤◌, cond, List, refl, le_refl, add-one, arith}
use Rattle.std.proofs.lemmas.Bool.{cond_both}
use Rattle.program.specs.declared.records.Procedure.{Procedure}
use Rattle.typing.specs.Environment.{procedure_of}
use Rattle.checker.specs.Records.{is_body_of}

pub procedure_none : (ds : List Procedure) → 0 ≡ procedure_of ds 0
unfolding procedure_of
procedure_none ds = refl

pub procedure_more : (ds : List Procedure) (k q : ℕ) → q ≡ procedure_of ds k → cond (is_body_of ds q k) (suc q) q ≡ procedure_of ds (k + 1)
unfolding procedure_of
procedure_more ds k q e = rw (e, add-one k)

pub procedure_below : (ds : List Procedure) (n : ℕ) → procedure_of ds n ≤ n
unfolding procedure_of
procedure_below ds zero = le_refl 0
procedure_below ds (suc n) =
    let before = procedure_below ds n in
    cond_both (is_body_of ds (procedure_of ds n) n) _ _ (λ m. m ≤ suc n) (λ _. omega arith) (λ _. omega arith)
