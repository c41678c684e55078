-- The number and the place of each refusal. Assumes nothing.
use Rattle.std.specs.Prelude.{ℕ}
use Rattle.program.specs.declared.refusal.Refusal.{Refusal}
use Rattle.program.specs.declared.refusal.Refusal.TheVariants.{Closing, Places, Counts, Variable, Result, Parameters, Body, Main, Record, Child, Scope, Call, DataType, Level, Exits, Naming}

abbrev pub row_number : Refusal → ℕ
row_number Closing = 1
row_number Places = 2
row_number Counts = 3
row_number (Variable i) = 4
row_number (Result i) = 5
row_number (Parameters i) = 6
row_number (Body i) = 7
row_number (Main i) = 8
row_number (Record i) = 10
row_number (Child i) = 11
row_number (Scope i) = 12
row_number (Call i) = 13
row_number (DataType i) = 14
row_number (Level i) = 15
row_number (Exits i) = 16
row_number (Naming i) = 17

abbrev pub place_number : Refusal → ℕ
place_number Closing = 0
place_number Places = 0
place_number Counts = 0
place_number (Variable i) = i
place_number (Result i) = i
place_number (Parameters i) = i
place_number (Body i) = i
place_number (Main i) = i
place_number (Record i) = i
place_number (Child i) = i
place_number (Scope i) = i
place_number (Call i) = i
place_number (DataType i) = i
place_number (Level i) = i
place_number (Exits i) = i
place_number (Naming i) = i
