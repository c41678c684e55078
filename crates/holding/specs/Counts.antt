-- The counts of a holding. Assumes nothing.
use Rattle.std.specs.Prelude.{◌+◌, ◌%◌, ◌^◌}
use Rattle.holding.specs.declared.shares.Counts.{Counts}

-- nothing was put in or done yet
abbrev pub none_yet : Counts
none_yet = record { puts = 0; ops = 0 }

-- one word more was put in
abbrev pub one_put : Counts → Counts
one_put c = record { puts = (c.puts + 1) % 2 ^ 32; ops = c.ops }

-- one operator more was done
abbrev pub one_op : Counts → Counts
one_op c = record { puts = c.puts; ops = (c.ops + 1) % 2 ^ 32 }
