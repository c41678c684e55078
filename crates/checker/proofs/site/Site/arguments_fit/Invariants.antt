-- By any test that the closure computes, the arguments that are left fit exactly if all do.
use Rattle.std.proofs.Common.{◌≡◌, ◌+◌, ◌-◌}
use Rattle.typing.specs.Rows.{argument_fits, arguments_fit, ArgumentTest}
use Rattle.tables.specs.View.{view}
use Rattle.checker.specs.Arguments.{Computes}
use Rattle.checker.proofs.site.Site.arguments_fit.Given as goal

abbrev pub invariant-loop-parameter : goal.invariant-loop-parameter
invariant-loop-parameter g l =
    (t : ArgumentTest) → Computes (goal.F-post g l.fits) (argument_fits g.L.Levels.rules (view l.self.tables.now) t)
    → arguments_fit g.L.Levels.rules (view l.self.tables.now) t l.fn.called.parameters l.fn.called.first_parameter l.initial.next
    ≡ arguments_fit g.L.Levels.rules (view l.self.tables.now) t (l.first_parameter + l.fn.called.parameters - l.parameter) l.parameter l.next
