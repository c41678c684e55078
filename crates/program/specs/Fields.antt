-- The fields of the records at the front of a list of bytes. Numbers have their highest byte first. Assumes nothing.
use Rattle.std.specs.Prelude.{ℕ, ◌+◌, ◌*◌, List, slice_index}
use Rattle.program.specs.declared.fields.NodeFields.{NodeFields}
use Rattle.program.specs.declared.fields.VariableFields.{VariableFields}
use Rattle.program.specs.declared.fields.ProcedureFields.{ProcedureFields}

-- the number of two bytes and of four, from byte i on
abbrev pub half_at : List ℕ → ℕ → ℕ
half_at bs i = slice_index bs i * 256 + slice_index bs (i + 1)

abbrev pub word_at : List ℕ → ℕ → ℕ
word_at bs i = slice_index bs i * 16777216 + slice_index bs (i + 1) * 65536 + slice_index bs (i + 2) * 256 + slice_index bs (i + 3)

abbrev pub node_fields_of : List ℕ → NodeFields
node_fields_of bs =
    record { kind = slice_index bs 0; sort = slice_index bs 1; a = half_at bs 2; b = half_at bs 4; c = half_at bs 6; word = word_at bs 8 }

abbrev pub variable_fields_of : List ℕ → VariableFields
variable_fields_of bs =
    record { role = slice_index bs 0; data_type = slice_index bs 1; owner = half_at bs 2; level = word_at bs 4 }

abbrev pub procedure_fields_of : List ℕ → ProcedureFields
procedure_fields_of bs =
    record { result = slice_index bs 0; parameters = slice_index bs 1; first_parameter = half_at bs 2; body = half_at bs 4; spare = half_at bs 6; level = word_at bs 8 }
