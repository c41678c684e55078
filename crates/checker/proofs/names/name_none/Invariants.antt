-- The entries so far say never.
use Rattle.std.proofs.Common.{◌≡◌, replicate, vec_items, vec_capacity}
use Rattle.tables.specs.declared.tables.Naming.TheVariants.{Never}
use Rattle.checker.proofs.names.name_none.Given as goal

abbrev pub invariant-loop : goal.invariant-loop
invariant-loop l = (vec_items l.names ≡ replicate l.index Never) × (vec_capacity l.names ≡ vec_capacity l.initial.names)
