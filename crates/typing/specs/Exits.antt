-- Sets of ways in which a statement may end. Assumes nothing.
use Rattle.std.specs.Prelude.{true, false, ◌||◌}
use Rattle.typing.specs.declared.classes.Exits.{Exits}

abbrev pub falling : Exits
falling = record { falls = true; returns = false; breaks = false; continues = false }

abbrev pub returning : Exits
returning = record { falls = false; returns = true; breaks = false; continues = false }

abbrev pub breaking : Exits
breaking = record { falls = false; returns = false; breaks = true; continues = false }

abbrev pub continuing : Exits
continuing = record { falls = false; returns = false; breaks = false; continues = true }

abbrev pub union : Exits → Exits → Exits
union x y =
    record { falls = x.falls || y.falls; returns = x.returns || y.returns; breaks = x.breaks || y.breaks; continues = x.continues || y.continues }

-- of the first part of a sequence, all but falling through
abbrev pub without_falls : Exits → Exits
without_falls x = record { falls = false; returns = x.returns; breaks = x.breaks; continues = x.continues }

-- of a loop's body, what leaves the loop's statement
abbrev pub without_jumps : Exits → Exits
without_jumps x = record { falls = x.falls; returns = x.returns; breaks = false; continues = false }

abbrev pub sequence_exits : Exits → Exits → Exits
sequence_exits x y = union (without_falls x) y

abbrev pub loop_exits : Exits → Exits
loop_exits x = union (without_jumps x) falling
