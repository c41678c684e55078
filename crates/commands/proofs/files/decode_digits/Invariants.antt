use Rattle.std.proofs.Common.{◌≡◌, drop, vec_items}
use Rattle.commands.proofs.Digits.{bytes_in, onto}
use Rattle.commands.proofs.files.decode_digits.Given as goal

-- what was decoded and the pairs that are left give what all the pairs give
abbrev pub invariant-loop-high : goal.invariant-loop-high
invariant-loop-high l = onto (vec_items l.bytes) (bytes_in (drop l.high-index l.pairs)) ≡ bytes_in l.pairs
