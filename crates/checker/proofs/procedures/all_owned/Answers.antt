-- All variables are owned as they should be, tested one by one.
use Rattle.std.proofs.Common.{ℕ, ◌+◌, ◌&&◌, nat_le, nat_lt, refl, ◌∙◌, zero-add, rules}
use Rattle.std.proofs.lemmas.Iterator.{YieldsList-from_slice}
use Rattle.std.proofs.lemmas.Iterator.Consumers.{YieldsList-from_enumerate}
use Rattle.std.proofs.lemmas.Iterator.Search.{all_from_yields_List}
use borrow.Author.Tests.{tests}
use Rattle.program.specs.Program.{no_variable}
use Rattle.program.specs.declared.records.Variable.{Variable}
use Rattle.typing.specs.Faults.{same_truth, is_parameter_of}
use Rattle.typing.proofs.Rising.{all_enumerated}
use Rattle.checker.proofs.procedures.all_owned.Goals as goal

pub returns : goal.returns
returns c =
    let vs = c.args.variables.now in
    let q = c.args.number in
    let f = c.args.procedure.first_parameter in
    let n = c.args.procedure.parameters in
    let test = λ (p : ℕ × Variable). same_truth (is_parameter_of q p.1.role) (nat_le f p.0 && nat_lt p.0 (f + n)) in
    let each = YieldsList-from_enumerate (YieldsList-from_slice vs cc) cc in
    all_from_yields_List test _ _ c.all.result c.all.ensures.ran each (λ x b q k. search (rules, tests))
    ∙ all_enumerated test no_variable vs 0 _ (λ k. rw zero-add refl)
