-- The machine stands where the natural semantics says, and goes on from where it stood.
use Rattle.std.proofs.Common.{◌≡◌, ℕ, zero, suc, [], refl, ap, ◌∙◌, suc-add, zero-add}
use Rattle.typing.specs.Environment.{Environment}
use Rattle.semantics.specs.State.{Shown, Kept}
use Rattle.semantics.specs.Machine.{Config, shown, kept, outcome, pass, turn, run}
use Rattle.semantics.specs.Natural.{Ending, stops}
use Rattle.semantics.specs.Following.{Stands, MachineFollows, TurnsAdd}
use Rattle.semantics.specs.declared.lines.Outcome.{Outcome}
use Rattle.semantics.proofs.Agreement.{Halts, before_node, at_end, Reaches, reach, halt, over_stays, agrees}
use Rattle.semantics.proofs.Endings.{ending}
use Rattle.semantics.proofs.Unique.{one_ending}

module _ (e : Environment) where
  pub turns_add : TurnsAdd e
  unfolding run
  turns_add zero n c = ap (λ l. run e l c) (zero-add n)
  turns_add (suc m) n c = ap (λ l. run e l c) (suc-add m n) ∙ turns_add m n (turn e c)

  halted : {o : Outcome} {s : Shown} {k : Kept} {d : Config} → Halts o s k d → Stands (stops o s k) d
  halted before_node = record { outcome_is = refl; shown_is = refl; kept_is = refl }
  halted at_end = record { outcome_is = refl; shown_is = refl; kept_is = refl }

  moved : {r : Ending} {c d : Config} → c ≡ d → Stands r d → Stands r c
  moved p x = record { outcome_is = ap outcome p ∙ x.outcome_is; shown_is = ap shown p ∙ x.shown_is; kept_is = ap kept p ∙ x.kept_is }

  reached : {l : ℕ} {c : Config} {r : Ending} → Reaches e l c [] r → Stands r (run e l c)
  unfolding run pass
  reached (reach {m = m} f) = moved (f.same ∙ (over_stays e m).same) (record { outcome_is = refl; shown_is = refl; kept_is = refl })
  reached (halt f h) = moved f.same (halted h)

  pub machine_follows : MachineFollows e
  machine_follows n l s k =
      let x = ending e n l s k in
      record {
        ending = x.0;
        runs = x.1;
        only = λ r y. one_ending e y x.1;
        stands = reached (agrees e x.1 refl []);
      }
