-- Which procedure a node belongs to: the running count of bodies is the procedure whose nodes have it.
use Rattle.std.proofs.Common.{◌≡◌, ℕ, zero, suc, ◌<◌, ◌≤◌, Bool, true, false, cond, eqb, length, get_or, sym, refl, ap, ◌∙◌, subst, ⊎_elim, zero-le, le_refl, le_of_suc-le-suc, eq-or-lt_of_le, arith}
use Rattle.std.proofs.lemmas.Bool.{eqb-true, eqb-false, eq-eqb, cases_order}
use Rattle.program.specs.Program.{Program, at, no_procedure}
use Rattle.program.specs.declared.records.Procedure.{Procedure}
use Rattle.typing.specs.Environment.{procedure_of, body_in}
use Rattle.typing.specs.Faults.{is_body}
use Rattle.typing.specs.Formed.{Belongs, IsBody}
use Rattle.typing.specs.Typing.{ProcedureIs}
use Rattle.typing.proofs.Tabled.{home, at_there, at_item}

module _
    (p : Program)
    (some : 1 ≤ length p.procedures)
    (rises : (o q : ℕ) (b d : Procedure) → o < q → ProcedureIs p o b → ProcedureIs p q d → b.body < d.body)
    (last : (q : ℕ) (d : Procedure) → ProcedureIs p q d → suc q ≡ length p.procedures → suc d.body ≡ length p.nodes)
  where
    pick : ℕ → Procedure
    pick q = get_or p.procedures q no_procedure

    picked : (q : ℕ) → q < length p.procedures → ProcedureIs p q (pick q)
    unfolding pick
    picked q lt = at_there no_procedure p.procedures q lt

    -- n is among the nodes of procedure q
    record In (q n : ℕ) : Type 0 where
      there : q < length p.procedures
      within : n ≤ (pick q).body
      above : (o : ℕ) → o < q → (pick o).body < n

    body_at : (q : ℕ) → q < length p.procedures → body_in (at no_procedure p.procedures q) ≡ (pick q).body
    body_at q lt = ap body_in (picked q lt)

    onward : (q n : ℕ) → suc n < length p.nodes → In q n → (b : Bool) → eqb (body_in (at no_procedure p.procedures q)) n ≡ b → In (cond b (suc q) q) (suc n)
    onward q n few i true e =
        let here : (pick q).body ≡ n = sym (body_at q i.there) ∙ eqb-true (body_in (at no_procedure p.procedures q)) n e in
        let more : suc q < length p.procedures =
        ⊎_elim (λ eq. absurd (omega (arith, last q (pick q) (picked q i.there) eq))) (λ lt. lt) (eq-or-lt_of_le i.there) in
        let up = rises q (suc q) (pick q) (pick (suc q)) (le_refl (suc q)) (picked q i.there) (picked (suc q) more) in
        record {
          there = more;
          within = omega arith;
          above = λ o lt. ⊎_elim (λ eq. subst (λ (k : ℕ). (pick k).body < suc n) (sym eq) (omega arith)) (λ less. omega (arith, i.above o less)) (eq-or-lt_of_le (le_of_suc-le-suc lt));
        }
    onward q n few i false e =
        let differs = eqb-false (body_in (at no_procedure p.procedures q)) n e in
        let less : n < (pick q).body = ⊎_elim (λ eq. absurd (differs (body_at q i.there ∙ sym eq))) (λ lt. lt) (eq-or-lt_of_le i.within) in
        record { there = i.there; within = less; above = λ o lt. omega (arith, i.above o lt) }

    inside : (n : ℕ) → n < length p.nodes → In (home p n) n
    unfolding procedure_of
    inside zero lt = record { there = some; within = zero-le; above = λ o less. absurd (omega arith) }
    inside (suc n) lt = onward (home p n) n lt (inside n (omega arith)) (eqb (body_in (at no_procedure p.procedures (home p n))) n) refl

    pub belongs : (n : ℕ) → n < length p.nodes → Belongs p (home p n) n
    unfolding pick
    belongs n lt =
        let i = inside n lt in
        record {
          procedure = pick (home p n);
          is = picked (home p n) i.there;
          within = i.within;
          above = λ o b less h. subst (λ (d : Procedure). d.body < n) (at_item no_procedure p.procedures o b h) (i.above o less);
        }

    -- a node belongs to one procedure
    pub belongs_once : (q o n : ℕ) → Belongs p q n → Belongs p o n → q ≡ o
    belongs_once q o n i j =
        ⊎_elim (λ e. e)
        (⊎_elim
        (λ lt. absurd (omega (arith, j.above q i.procedure lt i.is, i.within)))
        (λ lt. absurd (omega (arith, i.above o j.procedure lt j.is, j.within))))
        (cases_order q o)

    pub body_belongs : (q : ℕ) (d : Procedure) → ProcedureIs p q d → Belongs p q d.body
    body_belongs q d h = record { procedure = d; is = h; within = le_refl d.body; above = λ o b lt i. rises o q b d lt i h }

    -- the test for a body
    pub body_told : (n : ℕ) → n < length p.nodes → is_body p.procedures n ≡ true → (d : Procedure) × ProcedureIs p (home p n) d × (d.body ≡ n)
    body_told n lt h =
        let i = inside n lt in
        (pick (home p n), picked (home p n) i.there, sym (body_at (home p n) i.there) ∙ eqb-true (body_in (at no_procedure p.procedures (home p n))) n h)

    pub body_shown : (n : ℕ) → n < length p.nodes → IsBody p n → is_body p.procedures n ≡ true
    body_shown n lt (q, d, h, e) =
        let same : q ≡ home p n = belongs_once q (home p n) n (subst (Belongs p q) e (body_belongs q d h)) (belongs n lt) in
        eq-eqb (body_in (at no_procedure p.procedures (home p n))) n (ap (λ (o : ℕ). body_in (at no_procedure p.procedures o)) (sym same) ∙ ap body_in h ∙ e)
