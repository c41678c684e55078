-- The pieces of a text: a script's lines, and a line's fields. Assumes nothing.
use Rattle.std.specs.Prelude.{◌≡◌, ℕ, ◌+◌, Bool, cond, ◌||◌, List, [], ◌∷◌, Option, MatchOption, ◌==◌}
use Rattle.commands.specs.declared.cutting.Mark.{Mark}
use Rattle.commands.specs.declared.cutting.Mark.TheVariants.{NewLine, Hash, Blank}

-- the bytes that are a mark: a newline; `#`; a space, a tab or a carriage return
abbrev pub is_mark : Mark → ℕ → Bool
is_mark NewLine b = b == 10
is_mark Hash b = b == 35
is_mark Blank b = b == 32 || (b == 9 || b == 13)

-- what stands before the first mark
abbrev pub before : Mark → List ℕ → List ℕ
before m [] = []
before m (b ∷ bs) = cond (is_mark m b) [] (b ∷ before m bs)

-- what stands after the first mark
abbrev pub after : Mark → List ℕ → List ℕ
after m [] = []
after m (b ∷ bs) = cond (is_mark m b) bs (after m bs)

-- a byte more at the front of the first piece
abbrev pub longer : ℕ → List (List ℕ) → List (List ℕ)
longer b [] = (b ∷ []) ∷ []
longer b (p ∷ ps) = (b ∷ p) ∷ ps

-- the pieces that end at a mark, and what is left after the last mark, if anything is
abbrev pub pieces : Mark → List ℕ → List (List ℕ)
pieces m [] = []
pieces m (b ∷ bs) = cond (is_mark m b) ([] ∷ pieces m bs) (longer b (pieces m bs))

-- a piece before others, unless it is empty
abbrev pub with_filled : List ℕ → List (List ℕ) → List (List ℕ)
with_filled [] ps = ps
with_filled (b ∷ bs) ps = (b ∷ bs) ∷ ps

-- the pieces that are not empty
abbrev pub filled : List (List ℕ) → List (List ℕ)
filled [] = []
filled (p ∷ ps) = with_filled p (filled ps)

abbrev pub lines : List ℕ → List (List ℕ)
lines script = pieces NewLine script

abbrev pub uncommented : List ℕ → List ℕ
uncommented line = before Hash line

abbrev pub fields : List ℕ → List (List ℕ)
fields line = filled (pieces Blank line)

-- lines with their numbers, the first after n
abbrev pub numbered : ℕ → List (List ℕ) → List (ℕ × List ℕ)
numbered n [] = []
numbered n (line ∷ more) = (n + 1, line) ∷ numbered (n + 1) more

-- what a call gave of all: the first, where there is one, and the rest is still to come
abbrev pub Gives : {X Y : Type 0} → (X → Y) → List Y → Option X → List Y → Type 0
Gives shown all r rest = MatchOption r (all ≡ []) (λ x. all ≡ shown x ∷ rest)
