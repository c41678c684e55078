-- One argument further, by what was found of it.
use Rattle.std.proofs.Common.{sym, ◌∙◌, rules, arith}
use Rattle.checker.proofs.Further.{arguments_end, argument_missing, argument_broken, argument_fitting}
use Rattle.checker.proofs.site.Site.arguments_fit.Goals as goal

pub returns-in_default : goal.returns-in_default
returns-in_default g c = λ t h.
    sym (c.loop-parameter.invariant t h ∙ argument_missing _ _ _ _ _ _ c.loop-parameter-test.true c.in_default.ensures)

pub returns-then-not-fits : goal.returns-then-not-fits
returns-then-not-fits g c = λ t h.
    let here = sym (h _ _ _ (omega arith) (search rules) c.if-not-fits.ensures) in
    sym (c.loop-parameter.invariant t h ∙ argument_broken _ _ _ _ _ _ c.loop-parameter-test.true _ _ c.in-Some.ensures here)

pub loop-parameter-preserved : goal.loop-parameter-preserved
loop-parameter-preserved g c = λ t h.
    let here = sym (h _ _ _ (omega arith) (search rules) c.if-not-fits.ensures) in
    c.loop-parameter.invariant t h ∙ argument_fitting _ _ _ _ _ _ c.loop-parameter-test.true _ _ c.in-Some.ensures here

pub returns : goal.returns
returns g c = λ t h. sym (c.loop-parameter.invariant t h ∙ arguments_end _ _ _ _ _ _ c.loop-parameter-test.false ∙ search rules)
