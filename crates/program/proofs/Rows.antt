-- The bytes of a list of records that are all of one size: their length, each record in them, and a list of bytes that begins with them.
use Rattle.std.proofs.Common.{◌≡◌, ℕ, zero, suc, ◌*◌, ◌<◌, List, [], ◌∷◌, ◌++◌, length, get_or, drop, sym, ap, ◌∙◌, append_assoc, suc-le-suc, le_of_suc-le-suc, not-suc-le-zero, add_comm, mul-zero, mul-suc, arith, length-append}
use Rattle.std.proofs.lemmas.List.{drop-drop, drop_at}
use Rattle.program.specs.Encode.{each}

drop_next : (size i : ℕ) (bs : List ℕ) → drop (size * suc i) bs ≡ drop (size * i) (drop size bs)
drop_next size i bs = ap (λ k. drop k bs) (mul-suc size i ∙ add_comm (size * i) size) ∙ sym (drop-drop (size * i) size bs)

module _ {X : Type 0} (bytes : X → List ℕ) (size : ℕ) (d : X) where
  pub each_cut : (xs : List X) (bs : List ℕ) → ((i : ℕ) → i < length xs → drop (size * i) bs ≡ bytes (get_or xs i d) ++ drop size (drop (size * i) bs)) → bs ≡ each bytes xs ++ drop (size * length xs) bs
  each_cut [] bs h = rw mul-zero
  each_cut (x ∷ xs) bs h =
      let first : bs ≡ bytes x ++ drop size bs = rw mul-zero at (h 0 (omega arith)) in
      let rest = each_cut xs (drop size bs) (λ i l. rw (drop_next size i bs) at (h (suc i) (suc-le-suc l))) in
      first
      ∙ ap (λ r. bytes x ++ r) (rest ∙ ap (λ r. each bytes xs ++ r) (sym (drop_next size (length xs) bs)))
      ∙ sym (append_assoc (bytes x) (each bytes xs) (drop (size * suc (length xs)) bs))

  module _ (sized : (x : X) → length (bytes x) ≡ size) where
    pub length_each : (xs : List X) → length (each bytes xs) ≡ size * length xs
    length_each [] = sym (mul-zero size)
    length_each (x ∷ xs) = omega (arith, length-append (bytes x) (each bytes xs), sized x, length_each xs, mul-suc size (length xs))

    pub drop_each : (xs : List X) (i : ℕ) (rest : List ℕ) → i < length xs → drop (size * i) (each bytes xs ++ rest) ≡ bytes (get_or xs i d) ++ (each bytes (drop (suc i) xs) ++ rest)
    drop_each [] i rest h = absurd (not-suc-le-zero h)
    drop_each (x ∷ xs) zero rest h = rw (mul-zero, append_assoc)
    drop_each (x ∷ xs) (suc i) rest h =
        drop_next size i (bytes x ++ each bytes xs ++ rest)
        ∙ ap (λ bs. drop (size * i) bs) (rw append_assoc (drop_at (bytes x) (each bytes xs ++ rest) size (sized x)))
        ∙ drop_each xs i rest (le_of_suc-le-suc h)
