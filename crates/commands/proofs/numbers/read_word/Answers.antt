-- No byte or no digit at the front, bytes that are no text, and what `parse` gives.
use Rattle.std.proofs.Common.{◌≡◌, ◌≢◌, IsUtf8, get_or, ◌∙◌, rules}
use Rattle.commands.proofs.Decimals.{word_parsed, no_digit, no_text}
use Rattle.commands.proofs.numbers.read_word.Goals as goal

pub returns-in_err-first : goal.returns-in_err-first
returns-in_err-first c =
    c.from_residual.ensures ∙ no_digit c.args.field.now (search rules)

pub returns-then-not-is_ascii_digit : goal.returns-then-not-is_ascii_digit
returns-then-not-is_ascii_digit c = no_digit c.args.field.now (search rules)

pub returns-in_err-ok : goal.returns-in_err-ok
returns-in_err-ok c =
    let never : IsUtf8 c.args.field.now → ⊥ = search rules in
    c.from_residual-in_err-ok.ensures ∙ no_text c.args.field.now never

pub returns : goal.returns
returns c =
    let same : c.in_ok-ok.field-0.now ≡ c.args.field.now = search rules in
    let plain : get_or c.args.field.now 0 0 ≢ 43 = search rules in
    let parsed = c.parse.ensures.value.0 in
    c.ok-2.ensures.value ∙ word_parsed c.args.field.now _ (rw same at parsed) plain
