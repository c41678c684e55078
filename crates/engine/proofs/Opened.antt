-- What a machine is made of: tables that are ready.
use Rattle.std.proofs.Common.{◌≡◌, ℕ, List, length, get_or, IfOk, Ok, Err, Result, sym, subst, arith}
use Rattle.levels.specs.Rules.{Rules}
use Rattle.program.specs.Program.{no_node, no_procedure}
use Rattle.program.specs.declared.layout.Layout.{Layout}
use Rattle.program.specs.declared.refusal.Refusal.{Refusal}
use Rattle.typing.specs.Environment.{Environment, procedure_of}
use Rattle.typing.specs.Faults.{environment, typed_node, file_variables, file_procedures, file_nodes, verdict_of}
use Rattle.typing.proofs.Rising.{length_table}
use Rattle.typing.proofs.Tabled.{at_there}
use Rattle.semantics.specs.Checked.{Checked, Descends}
use Rattle.semantics.specs.Fitting.{environment_of}
use Rattle.semantics.specs.State.{procedure}
use Rattle.semantics.proofs.Checked.{checked, checked_descends}
use Rattle.semantics.specs.Opening.{main}
use Rattle.engine.specs.Opening.{Ready}

pub checked_by : (r : Rules) (bs : List ℕ) (o : Result Layout Refusal) (e : Environment) → o ≡ verdict_of r bs → IfOk o (λ l. e ≡ environment (file_variables l bs) (file_procedures l bs) (file_nodes r l bs)) → IfOk o (λ _. Checked r bs e)
checked_by r bs (Ok l) e h m = subst (Checked r bs) (sym m) (checked r bs l (sym h))
checked_by r bs (Err x) e h m = tt

ready_program : (r : Rules) (bs : List ℕ) (e : Environment) (c : Checked r bs e) → Ready (environment_of r c.program)
ready_program r bs e c =
    let p = c.program in
    let i = environment_of r p in
    let nodes : length i.nodes ≡ length p.nodes = length_table (λ ns n. typed_node r (environment p.variables p.procedures ns) (procedure_of p.procedures n) (get_or p.nodes n no_node)) (length p.nodes) in
    let there = at_there no_procedure p.procedures (main i) (omega (arith, c.formed.some_procedures)) in
    record {
      descends = subst Descends c.is (checked_descends r bs e c);
      few_nodes = omega (arith, nodes, c.formed.few_nodes);
      some_procedures = c.formed.some_procedures;
      few_procedures = c.formed.few_procedures;
      main_body = omega (arith, nodes, (c.formed.procedures (main i) (procedure i (main i)) there).body);
    }

pub ready : (r : Rules) (bs : List ℕ) (e : Environment) → Checked r bs e → Ready e
ready r bs e c = subst Ready (sym c.is) (ready_program r bs e c)

pub ready_by : (r : Rules) (bs : List ℕ) (o : Result Layout Refusal) (e : Environment) → IfOk o (λ _. Checked r bs e) → IfOk o (λ _. Ready e)
ready_by r bs (Ok l) e m = ready r bs e m
ready_by r bs (Err x) e m = tt
