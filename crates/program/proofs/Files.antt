-- The parts of a program's file, and a file's trailer by its layout.
use Rattle.std.proofs.Common.{◌≡◌, ℕ, ◌+◌, ◌-◌, ◌*◌, ◌<◌, ◌≤◌, List, [], ◌∷◌, ◌++◌, length, get_or, drop, sym, refl, ap, ◌∙◌, append_assoc, arith, length-append}
use Rattle.std.proofs.lemmas.List.{drop_at, drop-drop}
use Rattle.program.specs.Encode.{encoded, each, node_bytes, variable_bytes, procedure_bytes, trailer_bytes, word_bytes}
use Rattle.program.specs.Fields.{word_at}
use Rattle.program.specs.Program.{Program, no_node, no_variable, no_procedure}
use Rattle.program.specs.declared.layout.Layout.{Layout}
use Rattle.program.proofs.Bytes.{word_again, word_cut, word_dropped}
use Rattle.program.proofs.Layouts.{Laid}
use Rattle.program.proofs.Rows.{length_each}

-- ---- the trailer of a file

pub trailer_cut : (bs : List ℕ) (l : Layout) → ((i : ℕ) → get_or bs i 0 < 256) → Laid bs l
    → drop (length bs - 12) bs ≡ word_bytes (12 * l.nodes) ++ word_bytes (12 * l.nodes + 8 * l.variables) ++ 0x53 ∷ 0x43 ∷ 0x50 ∷ 0x54 ∷ []
trailer_cut bs l bytes h =
    let e = length bs - 12 in
    let i : e + 4 + 4 ≡ length bs - 4 = omega arith in
    cc (
      word_cut bs bytes e (12 * l.nodes) h.variable_place (omega arith),
      word_cut bs bytes (e + 4) (12 * l.nodes + 8 * l.variables) h.procedure_place (omega arith),
      ap (λ k. drop k bs) i,
      h.closing,
    )

-- ---- the parts of a program's file

abbrev pub counts_of : Program → Layout
counts_of p = record { nodes = length p.nodes; variables = length p.variables; procedures = length p.procedures }

abbrev pub after_variables : Program → List ℕ
after_variables p = each procedure_bytes p.procedures ++ trailer_bytes p

abbrev pub after_nodes : Program → List ℕ
after_nodes p = each variable_bytes p.variables ++ after_variables p

module _ (p : Program) where
  pub encoded_from_nodes : encoded p ≡ each node_bytes p.nodes ++ after_nodes p
  encoded_from_nodes =
      append_assoc (each node_bytes p.nodes ++ each variable_bytes p.variables) (each procedure_bytes p.procedures) (trailer_bytes p)
      ∙ append_assoc (each node_bytes p.nodes) (each variable_bytes p.variables) (after_variables p)

  length_nodes : length (each node_bytes p.nodes) ≡ 12 * length p.nodes
  length_nodes = length_each node_bytes 12 no_node (λ x. refl) p.nodes

  length_variables : length (each variable_bytes p.variables) ≡ 8 * length p.variables
  length_variables = length_each variable_bytes 8 no_variable (λ x. refl) p.variables

  length_procedures : length (each procedure_bytes p.procedures) ≡ 12 * length p.procedures
  length_procedures = length_each procedure_bytes 12 no_procedure (λ x. refl) p.procedures

  pub encoded_from_variables : drop (12 * length p.nodes) (encoded p) ≡ after_nodes p
  encoded_from_variables = rw encoded_from_nodes (drop_at (each node_bytes p.nodes) (after_nodes p) (12 * length p.nodes) length_nodes)

  pub encoded_from_procedures : drop (12 * length p.nodes + 8 * length p.variables) (encoded p) ≡ after_variables p
  encoded_from_procedures =
      sym (drop-drop (8 * length p.variables) (12 * length p.nodes) (encoded p))
      ∙ ap (λ bs. drop (8 * length p.variables) bs) encoded_from_variables
      ∙ drop_at (each variable_bytes p.variables) (after_variables p) (8 * length p.variables) length_variables

  body : List ℕ
  body = each node_bytes p.nodes ++ each variable_bytes p.variables ++ each procedure_bytes p.procedures

  length_body : length body ≡ 12 * length p.nodes + 8 * length p.variables + 12 * length p.procedures
  unfolding body
  length_body = simp length-append (omega (arith, length_nodes, length_variables, length_procedures))

  pub laid_encoded : 1 ≤ length p.nodes → length p.nodes ≤ 1024 → length p.variables ≤ 128 → 1 ≤ length p.procedures → length p.procedures ≤ 32 → Laid (encoded p) (counts_of p)
  unfolding body
  laid_encoded some_nodes few_nodes few_variables some_procedures few_procedures =
      let bs = encoded p in
      let e = length bs - 12 in
      let m = length-append body (trailer_bytes p) in
      let t = drop_at body (trailer_bytes p) e (omega arith) in
      record {
        closing = ap (λ k. drop k bs) (omega arith) ∙ sym (drop-drop 8 e bs) ∙ ap (λ cs. drop 8 cs) t;
        variable_place = sym (word_dropped bs e 0 e (omega arith)) ∙ ap (λ cs. word_at cs 0) t ∙ word_again (12 * length p.nodes);
        procedure_place = sym (word_dropped bs e 4 (e + 4) refl) ∙ ap (λ cs. word_at cs 4) t ∙ word_again (12 * length p.nodes + 8 * length p.variables);
        covers = omega (arith, length_body);
      }
