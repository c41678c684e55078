-- The masks of a split holding, and the words that it shares under them. Assumes nothing.
use Rattle.std.specs.Prelude.{ℕ, ◌+◌, ◌-◌, ◌*◌, ◌%◌, ◌^◌}
use Rattle.holding.specs.Counts.{one_put, one_op}
use Rattle.holding.specs.declared.shares.Shares.{Shares}
use Rattle.holding.specs.declared.split.SplitHolding.{SplitHolding}

-- the difference of two words, wrapped
abbrev less : ℕ → ℕ → ℕ
less a b = (a + (2 ^ 32 - b)) % 2 ^ 32

-- the mask drawn from a mask word, which is the mask word after it
abbrev pub next_mask : ℕ → ℕ
next_mask m = (m * 1664525 + 1013904223) % 2 ^ 32

-- the mask word after two draws
abbrev pub two_draws : ℕ → ℕ
two_draws m = next_mask (next_mask m)

-- a word under the next two masks: the third share makes up the sum
abbrev pub shared : ℕ → ℕ → Shares
shared m w = record { first = next_mask m; second = two_draws m; third = less (less w (next_mask m)) (two_draws m) }

-- the holding after a word was put in
abbrev pub after_put : SplitHolding → SplitHolding
after_put h = record { mask = two_draws h.mask; counts = one_put h.counts }

-- the holding after an operator was done
abbrev pub after_op : SplitHolding → SplitHolding
after_op h = record { mask = two_draws h.mask; counts = one_op h.counts }
