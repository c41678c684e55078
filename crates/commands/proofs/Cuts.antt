-- Where a text is cut. Assumes nothing.
use Rattle.std.proofs.Common.{◌≡◌, ℕ, suc, ◌+◌, ◌<◌, true, false, cond, not, eqb, List, [], ◌∷◌, length, take, drop, sym, refl, ap, ◌∙◌, arith, true-eqb, false-eqb}
use Rattle.std.proofs.lemmas.List.{nil_from_length}
use Rattle.std.specs.List.{position_or_len}
use Rattle.commands.specs.declared.cutting.Mark.{Mark}
use Rattle.commands.specs.declared.cutting.Mark.TheVariants.{Blank}
use Rattle.commands.specs.Pieces.{is_mark, before, after, longer, pieces, with_filled, filled, fields}

-- a text is cut at the first place of a mark
pub front_at : (m : Mark) (bs : List ℕ) → take (position_or_len (is_mark m) bs) bs ≡ before m bs
front_at m [] = refl
front_at m (b ∷ bs) =
    let next : 1 + position_or_len (is_mark m) bs ≡ suc (position_or_len (is_mark m) bs) = omega arith in
    elim (is_mark m b)
    as (λ t. take (cond (not t) (1 + position_or_len (is_mark m) bs) 0) (b ∷ bs) ≡ cond t [] (b ∷ before m bs))
    [ true ↦ refl | false ↦ rw next (ap (λ x. b ∷ x) (front_at m bs)) ]

pub back_at : (m : Mark) (bs : List ℕ) → drop (position_or_len (is_mark m) bs + 1) bs ≡ after m bs
back_at m [] = refl
back_at m (b ∷ bs) =
    let next : 1 + position_or_len (is_mark m) bs + 1 ≡ suc (position_or_len (is_mark m) bs + 1) = omega arith in
    elim (is_mark m b)
    as (λ t. drop (cond (not t) (1 + position_or_len (is_mark m) bs) 0 + 1) (b ∷ bs) ≡ cond t bs (after m bs))
    [ true ↦ refl | false ↦ rw next (back_at m bs) ]

with_some : (p : List ℕ) (ps : List (List ℕ)) → 0 < length p → with_filled p ps ≡ p ∷ ps
with_some [] ps l = absurd (omega arith)
with_some (b ∷ bs) ps l = refl

-- the first piece, and those of what is left
pieces_first : (m : Mark) (bs : List ℕ) → 0 < length bs → pieces m bs ≡ before m bs ∷ pieces m (after m bs)
pieces_first m [] l = absurd (omega arith)
pieces_first m (b ∷ []) l =
    elim (is_mark m b)
    as (λ t. cond t ([] ∷ []) ((b ∷ []) ∷ []) ≡ cond t [] (b ∷ []) ∷ pieces m (cond t [] []))
    [ true ↦ refl | false ↦ refl ]
pieces_first m (b ∷ x ∷ bs) l =
    elim (is_mark m b)
    as (λ t. cond t ([] ∷ pieces m (x ∷ bs)) (longer b (pieces m (x ∷ bs))) ≡ cond t [] (b ∷ before m (x ∷ bs)) ∷ pieces m (cond t (x ∷ bs) (after m (x ∷ bs))))
    [ true ↦ refl | false ↦ ap (longer b) (pieces_first m (x ∷ bs) (omega arith)) ]

-- a text that is not empty, cut at its first mark
pub record Cut (m : Mark) (bs piece rest : List ℕ) : Type 0 where
  pub some : false ≡ eqb (length bs) 0
  pub front : piece ≡ before m bs
  pub back : rest ≡ after m bs

module _ {m : Mark} {bs piece rest : List ℕ} (cut : Cut m bs piece rest) where
  long : 0 < length bs
  long = omega (arith, false-eqb (length bs) 0 cut.some)

  pub piece_first : pieces m bs ≡ piece ∷ pieces m rest
  piece_first = let first = pieces_first m bs long in let front = cut.front in let back = cut.back in cc

module _ {bs piece rest : List ℕ} (cut : Cut Blank bs piece rest) where
  pub field_none : true ≡ eqb (length piece) 0 → fields rest ≡ fields bs
  field_none e =
      sym (ap filled (piece_first cut) ∙ ap (λ p. with_filled p (fields rest)) (nil_from_length piece (true-eqb (length piece) 0 e)))

  pub field_first : false ≡ eqb (length piece) 0 → fields bs ≡ piece ∷ fields rest
  field_first e =
      ap filled (piece_first cut) ∙ with_some piece (fields rest) (omega (arith, false-eqb (length piece) 0 e))
