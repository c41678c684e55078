-- An odd digit, a pair that writes no byte, a pair more, and the end of the pairs.
use Rattle.std.proofs.Common.{◌%◌, ◌<◌, length, vec_items, sym, ◌∙◌, arith}
use Rattle.commands.proofs.Digits.{bytes_in, whole, odd, onto_nil, onto_more, onto_broken, onto_all}
use Rattle.commands.proofs.files.decode_digits.Goals as goal

pub returns-in_default : goal.returns-in_default
returns-in_default c = odd c.args.text.now (omega (arith, c.as_chunks.ensures.back_len))

pub loop-high-init : goal.loop-high-init
loop-high-init c = rw c.new-bytes.ensures.items (onto_nil (bytes_in c.as_chunks.result.0.now))

pub returns-in_default-byte : goal.returns-in_default-byte
returns-in_default-byte c =
    let even : length c.args.text.now % 2 < 1 = omega (arith, c.as_chunks.ensures.back_len) in
    sym (onto_broken (vec_items c.loop-high.bytes) c.as_chunks.result.0.now c.loop-high.high-index c.loop-high-test.true c.in_default-byte.ensures)
    ∙ c.loop-high.invariant ∙ whole c.args.text.now _ c.as_chunks.ensures.front even

pub loop-high-preserved : goal.loop-high-preserved
loop-high-preserved c =
    let more = onto_more (vec_items c.loop-high.bytes) c.as_chunks.result.0.now c.loop-high.high-index c.in-Some.byte c.loop-high-test.true c.in-Some.ensures in
    rw c.in_ok-push.ensures.items (sym more ∙ c.loop-high.invariant)

pub returns : goal.returns
returns c =
    let even : length c.args.text.now % 2 < 1 = omega (arith, c.as_chunks.ensures.back_len) in
    sym (onto_all (vec_items c.loop-high.bytes) c.as_chunks.result.0.now c.loop-high.high-index c.loop-high-test.false)
    ∙ c.loop-high.invariant ∙ whole c.args.text.now _ c.as_chunks.ensures.front even
