-- Where the lines of two runs part. Assumes nothing.
use Rattle.std.specs.Prelude.{ℕ, zero, suc, List, ◌∷◌, ◌≢◌}
use Rattle.words.specs.declared.types.DataType.{DataType}
use Rattle.semantics.specs.declared.lines.Line.{Line}
use Rattle.semantics.specs.declared.lines.LineKind.TheVariants.{Release}

-- the line of a release: its node, the steps spent, the data type and the word
abbrev pub release_line : ℕ → ℕ → DataType → ℕ → Line
release_line n s t w = record { kind = Release; node = n; steps = s; data_type = t; word = w }

-- two lists of lines part first at number i, where both have a release of one node at one step, of two words
pub data Parts : ℕ → List Line → List Line → Type 0 where
  here : {n s w v : ℕ} {t : DataType} {xs ys : List Line} → (w ≢ v) → Parts zero (release_line n s t w ∷ xs) (release_line n s t v ∷ ys)
  there : {l : Line} {i : ℕ} {xs ys : List Line} → Parts i xs ys → Parts (suc i) (l ∷ xs) (l ∷ ys)
