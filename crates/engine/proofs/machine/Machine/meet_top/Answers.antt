use Rattle.std.proofs.Common.{◌≡◌, suc, true, List, length, sym, ap, subst}
use Rattle.tables.specs.View.{view}
use Rattle.tables.specs.declared.tables.Tables.{Tables}
use Rattle.engine.specs.Shape.{number, is_argument, in_call, depth_fits, signal_fits}
use Rattle.engine.specs.Standing.{entries}
use Rattle.engine.specs.declared.frames.Entry.{Entry}
use Rattle.engine.proofs.Meeting.{framed_fits, passed_fits, no_argument, past_figure}
use Rattle.engine.proofs.machine.Machine.meet_top.Goals as goal

pub drive-requires : goal.drive-requires
drive-requires g c =
    let s = c.args.self.now.control in
    let p = c.pop.new.self in
    let f = c.in-Some-Frame.frame in
    let top = rw c.in-Some-Frame.field-0-is at c.in-Some-Frame.ensures.entries in
    let fits = framed_fits (view s.tables) f (entries s) (entries p) top s.fits in
    let deep : signal_fits (view s.tables) (suc (length (entries p))) c.args.signal ≡ true = subst (λ (es : List Entry). signal_fits (view s.tables) (length es) c.args.signal ≡ true) top c.requires.fits in
    c.meet-step.ensures.fits (length (entries p)) (subst (λ (t : Tables). depth_fits (view t) (number f) (length (entries p)) ≡ true) (sym c.pop.ensures.tables) fits.1) (subst (λ (t : Tables). signal_fits (view t) (suc (length (entries p))) c.args.signal ≡ true) (sym c.pop.ensures.tables) deep)

pub returns-in-Some-Passed-clause-stands : goal.returns-in-Some-Passed-clause-stands
returns-in-Some-Passed-clause-stands g c =
    let m = c.args.self.now in
    let s = m.control in
    let p = c.pop.new.self in
    let z = c.args.signal in
    let top = rw c.in-Some-Passed.field-0-is at c.in-Some-Passed.ensures.entries in
    let none = no_argument (is_argument z) (in_call (entries s)) (passed_fits (view s.tables) _ (entries s) (entries p) top s.fits) c.requires.apart in
    past_figure g.H.Holding.stands (view s.tables) (view p.tables) _ (entries s) (entries p) z m.sheet m.store (ap view c.pop.ensures.tables) top none
