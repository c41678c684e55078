-- The text is cut at the first place of a mark, if there is one.
use Rattle.std.proofs.Common.{◌≡◌, ◌+◌, ◌≤◌, length, sym, ◌∙◌, rules}
use Rattle.std.proofs.Math.ListN.{drop_of_length-le}
use Rattle.std.proofs.lemmas.List.{take_rest, take_all}
use Rattle.std.specs.List.{position_or_len}
use Rattle.commands.specs.Pieces.{is_mark}
use Rattle.commands.proofs.Cuts.{front_at, back_at}
use Rattle.commands.proofs.cutting.cut.Goals as goal

pub returns-in-Some-clause-front : goal.returns-in-Some-clause-front
returns-in-Some-clause-front c =
    let at : c.in-Some.i ≡ position_or_len (is_mark c.args.mark) c.args.bytes.now = search rules in
    rw at (front_at c.args.mark c.args.bytes.now)

pub returns-in-Some-clause-back : goal.returns-in-Some-clause-back
returns-in-Some-clause-back c =
    let at : c.in-Some.i ≡ position_or_len (is_mark c.args.mark) c.args.bytes.now = search rules in
    take_rest c.args.bytes.now (c.in-Some.i + 1) ∙ rw at (back_at c.args.mark c.args.bytes.now)

pub returns-in-None-clause-front : goal.returns-in-None-clause-front
returns-in-None-clause-front c =
    let end : length c.args.bytes.now ≤ position_or_len (is_mark c.args.mark) c.args.bytes.now = search rules in
    sym (take_all _ c.args.bytes.now end) ∙ front_at c.args.mark c.args.bytes.now

pub returns-in-None-clause-back : goal.returns-in-None-clause-back
returns-in-None-clause-back c =
    let end : length c.args.bytes.now ≤ position_or_len (is_mark c.args.mark) c.args.bytes.now + 1 = search rules in
    sym (drop_of_length-le c.args.bytes.now end) ∙ back_at c.args.mark c.args.bytes.now
