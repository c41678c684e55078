-- The bytes that hexadecimal digits write, pair by pair.
use Rattle.std.proofs.Common.{◌≡◌, ℕ, zero, suc, ◌+◌, ◌*◌, ◌/◌, ◌%◌, ◌<◌, ◌≤◌, List, [], ◌∷◌, ◌++◌, length, get_or, drop, Some, None, Option, sym, refl, ap, ◌∙◌, append_assoc, append-nil, arith}
use Rattle.std.proofs.lemmas.List.{at_drop_more, at_drop_all}
use Rattle.std.specs.Simd.{first_chunks}
use Rattle.commands.specs.Files.{byte_of, joined, bytes_of}

-- the bytes that pairs of digits write
abbrev pub bytes_in : List (List ℕ) → Option (List ℕ)
bytes_in [] = Some []
bytes_in (p ∷ ps) = joined (byte_of (get_or p 0 0) (get_or p 1 0)) (bytes_in ps)

paired : (k : ℕ) (bs : List ℕ) → length bs ≡ k * 2 → bytes_of bs ≡ bytes_in (first_chunks 2 k bs)
unfolding bytes_of
paired zero [] h = refl
paired zero (x ∷ bs) h = absurd (omega arith)
paired (suc k) [] h = absurd (omega arith)
paired (suc k) (x ∷ []) h = absurd (omega arith)
paired (suc k) (x ∷ y ∷ bs) h = ap (joined (byte_of x y)) (paired k bs (omega arith))

pub whole : (bs : List ℕ) (ps : List (List ℕ)) → ps ≡ first_chunks 2 (length bs / 2) bs → length bs % 2 < 1 → bytes_in ps ≡ bytes_of bs
whole bs ps e h = ap bytes_in e ∙ sym (paired (length bs / 2) bs (omega arith))

joined_none : (o : Option ℕ) → joined o None ≡ None
joined_none None = refl
joined_none (Some b) = refl

pub odd : (bs : List ℕ) → 0 < length bs % 2 → None ≡ bytes_of bs
unfolding bytes_of
odd [] h = absurd (omega arith)
odd (x ∷ []) h = refl
odd (x ∷ y ∷ bs) h = sym (joined_none (byte_of x y)) ∙ ap (joined (byte_of x y)) (odd bs (omega arith))

-- bytes that were decoded, before those to come
abbrev pub onto : List ℕ → Option (List ℕ) → Option (List ℕ)
onto xs None = None
onto xs (Some ys) = Some (xs ++ ys)

pub onto_nil : (o : Option (List ℕ)) → onto [] o ≡ o
onto_nil None = refl
onto_nil (Some ys) = refl

onto_joined : (xs : List ℕ) (b : ℕ) (o : Option (List ℕ)) → onto xs (joined (Some b) o) ≡ onto (xs ++ b ∷ []) o
onto_joined xs b None = refl
onto_joined xs b (Some ys) = ap Some (sym (append_assoc xs (b ∷ []) ys))

module _ (xs : List ℕ) (ps : List (List ℕ)) (i : ℕ) where
  next : (o : Option ℕ) → i < length ps → o ≡ byte_of (get_or (get_or ps i []) 0 0) (get_or (get_or ps i []) 1 0) → onto xs (bytes_in (drop i ps)) ≡ onto xs (joined o (bytes_in (drop (i + 1) ps)))
  next o l e = ap (onto xs) (at_drop_more bytes_in ps i [] l ∙ ap (λ p. joined p (bytes_in (drop (i + 1) ps))) (sym e))

  pub onto_more : (b : ℕ) → i < length ps → Some b ≡ byte_of (get_or (get_or ps i []) 0 0) (get_or (get_or ps i []) 1 0) → onto xs (bytes_in (drop i ps)) ≡ onto (xs ++ b ∷ []) (bytes_in (drop (i + 1) ps))
  onto_more b l e = next (Some b) l e ∙ onto_joined xs b (bytes_in (drop (i + 1) ps))

  pub onto_broken : i < length ps → None ≡ byte_of (get_or (get_or ps i []) 0 0) (get_or (get_or ps i []) 1 0) → onto xs (bytes_in (drop i ps)) ≡ None
  onto_broken l e = next None l e

  pub onto_all : length ps ≤ i → onto xs (bytes_in (drop i ps)) ≡ Some xs
  onto_all l = ap (onto xs) (at_drop_all bytes_in ps i l) ∙ ap Some (append-nil xs)
