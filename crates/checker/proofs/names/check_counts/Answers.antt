-- One node further, by whether it is well named.
use Rattle.std.proofs.Common.{ℕ, Bool, ◌||◌, List, length, get_or, vec_items, sym, ap, ◌∙◌, arith}
use Rattle.std.proofs.lemmas.Result.{err_from_is_err_and}
use Rattle.program.specs.declared.refusal.Refusal.TheVariants.{Naming as BadNaming}
use Rattle.typing.specs.First.{unless}
use Rattle.typing.proofs.Rising.{first_none}
use Rattle.tables.specs.declared.tables.Naming.{Naming}
use Rattle.tables.specs.declared.tables.Naming.TheVariants.{Never}
use Rattle.checker.specs.Names.{count_fault, is_once}
use Rattle.checker.specs.Records.{is_body_of}
use Rattle.checker.proofs.Answered.{stops, goes_on}
use Rattle.checker.proofs.Running.{procedure_none, procedure_more, procedure_below}
use Rattle.checker.proofs.names.check_counts.Goals as goal

pub loop-place-init : goal.loop-place-init
loop-place-init c = (first_none _, procedure_none _)

pub next_procedure-procedure-requires : goal.next_procedure-procedure-requires
next_procedure-procedure-requires c =
    omega (arith, c.loop-place.invariant.1, procedure_below (vec_items c.args.tables.now.procedures) c.loop-place.place)

pub returns-in_err-require : goal.returns-in_err-require
returns-in_err-require c =
    let p = err_from_is_err_and c.from_residual.result c.from_residual.ensures.1 in
    let ds = vec_items c.args.tables.now.procedures in
    let ms = vec_items c.args.tables.now.names in
    let k = c.loop-place.place in
    let here =
    ap (λ (q : ℕ). unless (is_body_of ds q k || is_once (get_or ms k Never)) (BadNaming k)) (sym c.loop-place.invariant.1)
    ∙ ap (λ (n : Naming). unless (is_body_of ds c.loop-place.procedure k || is_once n) (BadNaming k)) (ap (λ (ns : List Naming). get_or ns k Never) (sym c.deref-naming-items.ensures.value))
    ∙ ap (λ (b : Bool). unless b (BadNaming k)) (sym c.is_well_named.ensures) in
    rw (p.1, p.2)
    (stops tt (count_fault ds ms) k (length ms) _ _ _ c.loop-place.invariant.0 (omega arith) here c.in_err-require.ensures)

pub loop-place-preserved : goal.loop-place-preserved
loop-place-preserved c =
    let ds = vec_items c.args.tables.now.procedures in
    let ms = vec_items c.args.tables.now.names in
    let k = c.loop-place.place in
    let here =
    ap (λ (q : ℕ). unless (is_body_of ds q k || is_once (get_or ms k Never)) (BadNaming k)) (sym c.loop-place.invariant.1)
    ∙ ap (λ (n : Naming). unless (is_body_of ds c.loop-place.procedure k || is_once n) (BadNaming k)) (ap (λ (ns : List Naming). get_or ns k Never) (sym c.deref-naming-items.ensures.value))
    ∙ ap (λ (b : Bool). unless b (BadNaming k)) (sym c.is_well_named.ensures) in (
      goes_on (count_fault ds ms) k _ _ _ c.loop-place.invariant.0 here c.in_ok-require.ensures,
      c.next_procedure-procedure.ensures ∙ procedure_more ds k _ c.loop-place.invariant.1,
    )
