-- Once every variable is set to 0, all cells fit their levels.
use Rattle.std.proofs.Common.{◌≡◌, ℕ, suc, ◌+◌, ◌<◌, ◌≤◌, Bool, true, false, eqb, List, [], ◌∷◌, length, get_or, drop, set, sym, refl, ap, ◌∙◌, subst, true≢false, not-suc-le-zero, arith, length-set, get_or-set_other, get_or-set_same}
use lib.ListN.{length-replicate}
use Rattle.std.proofs.lemmas.Bool.{eqb-true, eq-eqb}
use Rattle.holding.specs.declared.shares.Counts.{Counts}
use Rattle.levels.specs.Rules.{Rules}
use Rattle.program.specs.Program.{Program, no_variable}
use Rattle.program.specs.declared.records.Variable.{Variable}
use Rattle.typing.specs.Environment.{Environment}
use Rattle.typing.specs.Typing.{VariableIs}
use Rattle.typing.proofs.Tabled.{at_below, at_item}
use Rattle.semantics.specs.Checked.{Checked}
use Rattle.semantics.specs.Fitting.{Fits, Fitting}
use Rattle.semantics.specs.State.{Kept, settled, settling, cell, stored}
use Rattle.semantics.specs.declared.values.Value.{Value}
use Rattle.semantics.specs.declared.values.Value.TheVariants.{Plain}
use Rattle.semantics.proofs.Cells.{plain_takes, settling_cells, drop_next}
use Rattle.semantics.specs.Opening.{unset, zeroed}

module _ (p : Program) where
  -- the cells below i fit
  record Below (i : ℕ) (k : Kept) : Type 0 where
    there : length p.variables ≤ length k.cells
    fits : (v : ℕ) (x : Variable) → VariableIs p v x → v < i → Fits x.level (cell v k)

  stored_below : (i : ℕ) (y : Variable) (k : Kept) → ((x : Variable) → VariableIs p i x → y ≡ x) → Below i k → Below (suc i) (stored i y.level (Plain 0) k)
  stored_below i y k same b =
      record {
        there = omega (arith, b.there, length-set (settling y.level (Plain 0) k).cells i (settled y.level (Plain 0)), ap length (settling_cells y.level (Plain 0) k));
        fits = λ v x h lt. by v x h lt (eqb v i) refl;
      }
    where
      by : (v : ℕ) (x : Variable) → VariableIs p v x → v < suc i → (t : Bool) → eqb v i ≡ t → Fits x.level (get_or (set (settling y.level (Plain 0) k).cells i (settled y.level (Plain 0))) v (Plain 0))
      by v x h lt true e =
          let here : v ≡ i = eqb-true v i e in
          let is : y ≡ x = same x (subst (λ (n : ℕ). VariableIs p n x) here h) in
          let few : i < length (settling y.level (Plain 0) k).cells = omega (arith, here, at_below no_variable p.variables v x h, b.there, ap length (settling_cells y.level (Plain 0) k)) in
          let got = ap (λ (n : ℕ). get_or (set (settling y.level (Plain 0) k).cells i (settled y.level (Plain 0))) n (Plain 0)) here ∙ get_or-set_same (settling y.level (Plain 0) k).cells i (settled y.level (Plain 0)) (Plain 0) few in
          subst (Fits x.level) (sym got) (subst (λ (w : Variable). Fits w.level (settled y.level (Plain 0))) is (plain_takes y.level 0))
      by v x h lt false e =
          let apart : v ≡ i → ⊥ = λ q. true≢false (sym (eq-eqb v i q) ∙ e) in
          let less : v < i = omega (arith, lt, apart) in
          let got = get_or-set_other (settling y.level (Plain 0) k).cells i v (settled y.level (Plain 0)) (Plain 0) apart ∙ ap (λ (xs : List (Value ℕ)). get_or xs v (Plain 0)) (settling_cells y.level (Plain 0) k) in
          subst (Fits x.level) (sym got) (b.fits v x h less)

  zeroed_below : (i : ℕ) (vs : List Variable) (k : Kept) → drop i p.variables ≡ vs → Below i k → Below (i + length vs) (zeroed i vs k)
  unfolding zeroed
  zeroed_below i [] k h b = record { there = b.there; fits = λ v x q lt. b.fits v x q (omega (arith, lt)) }
  zeroed_below i (y ∷ vs) k h b =
      let next = drop_next no_variable i p.variables h in
      let same : (x : Variable) → VariableIs p i x → y ≡ x = λ x q. sym next.0 ∙ at_item no_variable p.variables i x q in
      let r = zeroed_below (suc i) vs (stored i y.level (Plain 0) k) next.1 (stored_below i y k same b) in
      record { there = r.there; fits = λ v x q lt. r.fits v x q (omega (arith, lt)) }

  pub zeroed_fits : length p.variables ≤ 128 → (c : Counts) → Fitting p (zeroed 0 p.variables (unset c))
  zeroed_fits few c =
      let nought : Value ℕ = Plain 0 in
      let none : Below 0 (unset c) = record { there = omega (arith, few, length-replicate 128 nought); fits = λ v x q lt. absurd (not-suc-le-zero lt) } in
      let all = zeroed_below 0 p.variables (unset c) refl none in
      record { there = all.there; fits = λ v x q. all.fits v x q (omega (arith, at_below no_variable p.variables v x q)) }

pub opened_fits : (r : Rules) (bs : List ℕ) (e : Environment) (c : Checked r bs e) (k : Counts) → Fitting c.program (zeroed 0 e.variables (unset k))
opened_fits r bs e c k =
    subst (λ (vs : List Variable). Fitting c.program (zeroed 0 vs (unset k))) (sym (ap (λ (i : Environment). i.variables) c.is)) (zeroed_fits c.program c.formed.few_variables k)
