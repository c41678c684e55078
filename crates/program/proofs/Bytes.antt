-- The fields of a record and its bytes determine each other.
use Rattle.std.proofs.Common.{◌≡◌, ℕ, ◌+◌, ◌*◌, ◌/◌, ◌%◌, ◌<◌, ◌≤◌, List, ◌∷◌, ◌++◌, length, get_or, drop, refl, ap, ◌∙◌, arith}
use Rattle.std.proofs.lemmas.List.{drop_more, get_or-drop}
use Rattle.program.specs.Encode.{node_encoded, variable_encoded, procedure_encoded, half_bytes, word_bytes, node_bytes, variable_bytes, procedure_bytes}
use Rattle.program.specs.Fields.{half_at, word_at, node_fields_of, variable_fields_of, procedure_fields_of}
use Rattle.program.specs.declared.records.Node.{Node}
use Rattle.program.specs.declared.records.Variable.{Variable as VariableRecord}
use Rattle.program.specs.declared.records.Procedure.{Procedure}

half_again : (n : ℕ) → n / 256 * 256 + n % 256 ≡ n
half_again n = omega arith

pub word_again : (n : ℕ) → n / 16777216 * 16777216 + n / 65536 % 256 * 65536 + n / 256 % 256 * 256 + n % 256 ≡ n
word_again n = omega arith

pub fields_of_node_bytes : (n : Node) (rest : List ℕ) → node_fields_of (node_bytes n ++ rest) ≡ node_encoded n
fields_of_node_bytes n rest = simp (half_again, word_again)

pub fields_of_variable_bytes : (v : VariableRecord) (rest : List ℕ) → variable_fields_of (variable_bytes v ++ rest) ≡ variable_encoded v
fields_of_variable_bytes v rest = simp (half_again, word_again)

pub fields_of_procedure_bytes : (d : Procedure) (rest : List ℕ) → procedure_fields_of (procedure_bytes d ++ rest) ≡ procedure_encoded d
fields_of_procedure_bytes d rest = simp (half_again, word_again)

-- the number at j is that at i of what is left after e bytes
pub word_dropped : (bs : List ℕ) (e i j : ℕ) → e + i ≡ j → word_at (drop e bs) i ≡ word_at bs j
word_dropped bs e i j h =
    let at : (k : ℕ) → get_or (drop e bs) (i + k) 0 ≡ get_or bs (j + k) 0 = λ k. get_or-drop e bs (i + k) 0 ∙ ap (λ m. get_or bs m 0) (omega arith) in
    cc (get_or-drop e bs i 0, at 1, at 2, at 3)

-- ---- and back

pub byte_cut : (bs : List ℕ) (i j n : ℕ) → get_or bs i 0 ≡ n → i + 1 ≡ j → i < length bs → drop i bs ≡ n ∷ drop j bs
byte_cut bs i j n e k h = cc (drop_more bs i 0 h)

module _ (bs : List ℕ) (bytes : (i : ℕ) → get_or bs i 0 < 256) where
  half_cut : (i n : ℕ) → half_at bs i ≡ n → i + 1 < length bs → drop i bs ≡ half_bytes n ++ drop (i + 2) bs
  half_cut i n e h =
      byte_cut bs i (i + 1) (n / 256) (omega (arith, bytes (i + 1))) refl (omega arith)
      ∙ ap (λ r. n / 256 ∷ r) (byte_cut bs (i + 1) (i + 2) (n % 256) (omega (arith, bytes (i + 1))) (omega arith) h)

  pub word_cut : (i n : ℕ) → word_at bs i ≡ n → i + 3 < length bs → drop i bs ≡ word_bytes n ++ drop (i + 4) bs
  word_cut i n e h =
      let b = bytes (i + 1) in
      let c = bytes (i + 2) in
      let d = bytes (i + 3) in
      byte_cut bs i (i + 1) (n / 16777216) (omega arith) refl (omega arith)
      ∙ ap (λ r. n / 16777216 ∷ r) (byte_cut bs (i + 1) (i + 2) (n / 65536 % 256) (omega arith) (omega arith) (omega arith)
      ∙ ap (λ r. n / 65536 % 256 ∷ r) (byte_cut bs (i + 2) (i + 3) (n / 256 % 256) (omega arith) (omega arith) (omega arith)
      ∙ ap (λ r. n / 256 % 256 ∷ r) (byte_cut bs (i + 3) (i + 4) (n % 256) (omega arith) (omega arith) h)))

  pub bytes_of_node_fields : (n : Node) → 12 ≤ length bs → node_fields_of bs ≡ node_encoded n → bs ≡ node_bytes n ++ drop 12 bs
  bytes_of_node_fields n h e =
      let f = node_encoded n in
      cc (
        byte_cut bs 0 1 f.kind (ap (λ g. g.kind) e) refl (omega arith),
        byte_cut bs 1 2 f.sort (ap (λ g. g.sort) e) refl (omega arith),
        half_cut 2 f.a (ap (λ g. g.a) e) (omega arith),
        half_cut 4 f.b (ap (λ g. g.b) e) (omega arith),
        half_cut 6 f.c (ap (λ g. g.c) e) (omega arith),
        word_cut 8 f.word (ap (λ g. g.word) e) (omega arith),
      )

  pub bytes_of_variable_fields : (v : VariableRecord) → 8 ≤ length bs → variable_fields_of bs ≡ variable_encoded v → bs ≡ variable_bytes v ++ drop 8 bs
  bytes_of_variable_fields v h e =
      let f = variable_encoded v in
      cc (
        byte_cut bs 0 1 f.role (ap (λ g. g.role) e) refl (omega arith),
        byte_cut bs 1 2 f.data_type (ap (λ g. g.data_type) e) refl (omega arith),
        half_cut 2 f.owner (ap (λ g. g.owner) e) (omega arith),
        word_cut 4 f.level (ap (λ g. g.level) e) (omega arith),
      )

  pub bytes_of_procedure_fields : (d : Procedure) → 12 ≤ length bs → procedure_fields_of bs ≡ procedure_encoded d → bs ≡ procedure_bytes d ++ drop 12 bs
  bytes_of_procedure_fields d h e =
      let f = procedure_encoded d in
      cc (
        byte_cut bs 0 1 f.result (ap (λ g. g.result) e) refl (omega arith),
        byte_cut bs 1 2 f.parameters (ap (λ g. g.parameters) e) refl (omega arith),
        half_cut 2 f.first_parameter (ap (λ g. g.first_parameter) e) (omega arith),
        half_cut 4 f.body (ap (λ g. g.body) e) (omega arith),
        half_cut 6 f.spare (ap (λ g. g.spare) e) (omega arith),
        word_cut 8 f.level (ap (λ g. g.level) e) (omega arith),
      )
