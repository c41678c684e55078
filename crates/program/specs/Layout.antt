-- The parts of a program file, and the first three rows of the check. Assumes nothing.
use Rattle.std.specs.Prelude.{◌≡◌, ℕ, ◌+◌, ◌-◌, ◌*◌, ◌/◌, ◌%◌, ◌≤◌, Bool, cond, ◌&&◌, List, length, drop, Ok, Err, Result, ◌==◌, nat_le, slice_index}
use Rattle.program.specs.Fields.{word_at}
use Rattle.program.specs.declared.layout.Layout.{Layout}
use Rattle.program.specs.declared.refusal.Refusal.{Refusal}
use Rattle.program.specs.declared.refusal.Refusal.TheVariants.{Closing, Places, Counts}

-- the closing bytes, 53 43 50 54 in hexadecimal
abbrev pub is_closing : List ℕ → Bool
is_closing bs = length bs == 4 && slice_index bs 0 == 0x53 && slice_index bs 1 == 0x43 && slice_index bs 2 == 0x50 && slice_index bs 3 == 0x54

-- row 1: room for a trailer, and the closing bytes
abbrev pub closes : List ℕ → Bool
closes bs = nat_le 12 (length bs) && is_closing (drop (length bs - 4) bs)

-- row 2: the places rise up to the trailer, and cut whole records of 12, 8 and 12 bytes
abbrev pub in_order : ℕ → ℕ → ℕ → Bool
in_order v p e = nat_le v p && nat_le p e && v % 12 == 0 && (p - v) % 8 == 0 && (e - p) % 12 == 0

-- row 3
abbrev pub in_number : Layout → Bool
in_number l = nat_le 1 l.nodes && nat_le l.nodes 1024 && nat_le l.variables 128 && nat_le 1 l.procedures && nat_le l.procedures 32

-- the layout by the places of variables, procedures and trailer
abbrev pub laid : ℕ → ℕ → ℕ → Layout
laid v p e = record { nodes = v / 12; variables = (p - v) / 8; procedures = (e - p) / 12 }

abbrev pub counted : Layout → Result Layout Refusal
counted l = cond (in_number l) (Ok l) (Err Counts)

abbrev pub placed : ℕ → ℕ → ℕ → Result Layout Refusal
placed v p e = cond (in_order v p e) (counted (laid v p e)) (Err Places)

abbrev pub layout_of : List ℕ → Result Layout Refusal
layout_of bs =
    cond (closes bs) (placed (word_at bs (length bs - 12)) (word_at bs (length bs - 12 + 4)) (length bs - 12)) (Err Closing)

-- the records and the trailer are all of a file of this length, and row 3 holds
pub record Covers (size : ℕ) (l : Layout) : Type 0 where
  pub all : 12 * l.nodes + 8 * l.variables + 12 * l.procedures + 12 ≡ size
  pub some_node : 1 ≤ l.nodes
  pub few_nodes : l.nodes ≤ 1024
  pub few_variables : l.variables ≤ 128
  pub some_procedure : 1 ≤ l.procedures
  pub few_procedures : l.procedures ≤ 32
