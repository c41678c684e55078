-- A file has a layout exactly where its trailer is that of the layout.
use Rattle.std.proofs.Common.{◌≡◌, ℕ, ◌+◌, ◌-◌, ◌*◌, ◌/◌, ◌%◌, ◌≤◌, Bool, true, false, cond, leb, List, [], ◌∷◌, length, drop, Ok, Err, Result, sym, refl, ap, ◌∙◌, arith}
use Rattle.std.proofs.lemmas.List.{drop_all}
use Rattle.std.proofs.lemmas.Bool.{and_parts, and_from, cond-true, leb-true, le-leb}
use Rattle.std.proofs.lemmas.Bool.Decides.{nat_tests}
use Rattle.program.specs.Fields.{word_at}
use Rattle.program.specs.Layout.{is_closing, closes, in_order, in_number, laid, counted, placed, layout_of, Covers}
use Rattle.program.specs.declared.layout.Layout.{Layout}
use Rattle.program.specs.declared.refusal.Refusal.{Refusal}
use Rattle.program.specs.declared.refusal.Refusal.TheVariants.{Closing, Places, Counts}
use Rattle.program.proofs.Bytes.{byte_cut, word_dropped}

-- the closing bytes stand, the places are where the records of the counts end, and these are all of the file
pub record Laid (bs : List ℕ) (l : Layout) : Type 0 where
  pub closing : drop (length bs - 4) bs ≡ 0x53 ∷ 0x43 ∷ 0x50 ∷ 0x54 ∷ []
  pub variable_place : word_at bs (length bs - 12) ≡ 12 * l.nodes
  pub procedure_place : word_at bs (length bs - 12 + 4) ≡ 12 * l.nodes + 8 * l.variables
  pub covers : Covers (length bs) l

closing_is : (cs : List ℕ) → is_closing cs ≡ true → cs ≡ 0x53 ∷ 0x43 ∷ 0x50 ∷ 0x54 ∷ []
closing_is cs h =
    let s : length cs ≡ 4 = grind (arith, nat_tests) in
    cc (
      byte_cut cs 0 1 0x53 (grind (arith, nat_tests)) refl (omega arith),
      byte_cut cs 1 2 0x43 (grind (arith, nat_tests)) refl (omega arith),
      byte_cut cs 2 3 0x50 (grind (arith, nat_tests)) refl (omega arith),
      byte_cut cs 3 4 0x54 (grind (arith, nat_tests)) refl (omega arith),
      drop_all 4 cs (omega arith),
    )

cond_ok : (t : Bool) (x : Result Layout Refusal) (e : Refusal) (l : Layout) → cond t x (Err e) ≡ Ok l → (t ≡ true) × (x ≡ Ok l)
cond_ok true x e l h = (refl, h)
cond_ok false x e l h = (cc, cc)

-- the counts of a layout, by the places of variables, procedures and trailer
counts_from_places : (v p e : ℕ) (l : Layout) → in_order v p e ≡ true → in_number l ≡ true → laid v p e ≡ l → (v ≡ 12 * l.nodes) × (p ≡ 12 * l.nodes + 8 * l.variables) × Covers (e + 12) l
counts_from_places v p e l h k i =
    let n : l.nodes ≡ v / 12 = cc in
    let m : l.variables ≡ (p - v) / 8 = cc in
    let q : l.procedures ≡ (e - p) / 12 = cc in
    let o : (v ≤ p) × (p ≤ e) × (v % 12 ≡ 0) × ((p - v) % 8 ≡ 0) × ((e - p) % 12 ≡ 0) = grind (arith, nat_tests) in
    let c : (1 ≤ l.nodes) × (l.nodes ≤ 1024) × (l.variables ≤ 128) × (1 ≤ l.procedures) × (l.procedures ≤ 32) = grind (arith, nat_tests) in
    omega arith

places_from_counts : (v p e : ℕ) (l : Layout) → v ≡ 12 * l.nodes → p ≡ 12 * l.nodes + 8 * l.variables → Covers (e + 12) l → (in_order v p e ≡ true) × (in_number l ≡ true) × (laid v p e ≡ l)
places_from_counts v p e l h k c =
    let o : (v ≤ p) × (p ≤ e) × (v % 12 ≡ 0) × ((p - v) % 8 ≡ 0) × ((e - p) % 12 ≡ 0) = omega arith in
    let n : v / 12 ≡ l.nodes = omega arith in
    let m : (p - v) / 8 ≡ l.variables = omega arith in
    let q : (e - p) / 12 ≡ l.procedures = omega arith in
    (grind (arith, nat_tests), grind (arith, nat_tests), grind arith)

pub laid_from_layout : (bs : List ℕ) (l : Layout) → layout_of bs ≡ Ok l → Laid bs l
laid_from_layout bs l h =
    let v = word_at bs (length bs - 12) in
    let p = word_at bs (length bs - 12 + 4) in
    let e = length bs - 12 in
    let a = cond_ok (closes bs) (placed v p e) Closing l h in
    let b = cond_ok (in_order v p e) (counted (laid v p e)) Places l a.1 in
    let c = cond_ok (in_number (laid v p e)) (Ok (laid v p e)) Counts l b.1 in
    let i : laid v p e ≡ l = cc in
    let d = counts_from_places v p e l b.0 (sym (ap in_number i) ∙ c.0) i in
    let s = and_parts (leb 12 (length bs)) (is_closing (drop (length bs - 4) bs)) a.0 in
    let w = leb-true 12 (length bs) s.0 in
    record { closing = closing_is (drop (length bs - 4) bs) s.1; variable_place = d.0; procedure_place = d.1; covers = omega arith }

pub layout_from_laid : (bs : List ℕ) (l : Layout) → Laid bs l → layout_of bs ≡ Ok l
layout_from_laid bs l h =
    let v = word_at bs (length bs - 12) in
    let p = word_at bs (length bs - 12 + 4) in
    let e = length bs - 12 in
    let d = places_from_counts v p e l h.variable_place h.procedure_place (omega arith) in
    let k : closes bs ≡ true = rw h.closing (and_from (leb 12 (length bs)) true (le-leb 12 (length bs) (omega arith)) refl) in
    cond-true (closes bs) (placed v p e) (Err Closing) k
    ∙ cond-true (in_order v p e) (counted (laid v p e)) (Err Places) d.0
    ∙ cond-true (in_number (laid v p e)) (Ok (laid v p e)) (Err Counts) (ap in_number d.2 ∙ d.1)
    ∙ ap Ok d.2

-- the layout by the trailer, which is what stands after the records
pub layout_by_trailer : (bs rs ts : List ℕ) → ts ≡ drop (length bs - 12) bs → length rs + 12 ≡ length bs → is_closing (drop (length bs - 4) bs) ≡ true → layout_of bs ≡ placed (word_at ts 0) (word_at ts 4) (length rs)
layout_by_trailer bs rs ts t n k =
    let e = length bs - 12 in
    let l : length rs ≡ e = omega arith in
    let p : closes bs ≡ true = and_from (leb 12 (length bs)) (is_closing (drop (length bs - 4) bs)) (le-leb 12 (length bs) (omega arith)) k in
    let v : word_at ts 0 ≡ word_at bs e = rw t (word_dropped bs e 0 e (omega arith)) in
    let q : word_at ts 4 ≡ word_at bs (e + 4) = rw t (word_dropped bs e 4 (e + 4) refl) in
    cond-true (closes bs) (placed (word_at bs e) (word_at bs (e + 4)) e) (Err Closing) p ∙ rw (l, v, q) refl
