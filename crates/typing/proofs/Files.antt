-- A file of bytes reads as a program exactly where it is the program's file.
use Rattle.std.proofs.Common.{◌≡◌, ℕ, suc, ◌+◌, ◌-◌, ◌*◌, ◌<◌, ◌≤◌, List, ◌++◌, length, get_or, drop, Some, sym, refl, ap, ◌∙◌, arith, length-drop}
use mathlib.Core.Path.{subst⁻¹}
use Rattle.std.proofs.lemmas.List.{drop-drop, get_or-drop}
use Rattle.program.specs.Decode.{node_decoded, variable_decoded, procedure_decoded}
use Rattle.program.specs.Encode.{encoded, each, node_encoded, node_bytes, variable_bytes, procedure_bytes, trailer_bytes}
use Rattle.program.specs.Fields.{node_fields_of, variable_fields_of, procedure_fields_of}
use Rattle.program.specs.Program.{Program, no_node, no_variable, no_procedure}
use Rattle.program.specs.declared.layout.Layout.{Layout}
use Rattle.program.specs.declared.records.Node.{Node}
use Rattle.program.specs.declared.records.Variable.{Variable}
use Rattle.program.specs.declared.records.Procedure.{Procedure}
use Rattle.program.proofs.Bytes.{fields_of_node_bytes, fields_of_variable_bytes, fields_of_procedure_bytes, bytes_of_node_fields, bytes_of_variable_fields, bytes_of_procedure_fields}
use Rattle.program.proofs.Files.{trailer_cut, counts_of, after_nodes, after_variables, encoded_from_nodes, encoded_from_variables, encoded_from_procedures, laid_encoded}
use Rattle.program.proofs.Layouts.{laid_from_layout, layout_from_laid}
use Rattle.program.proofs.Recoded.{PlainNode, decodes_encoded_node, decodes_encoded_variable, decodes_encoded_procedure, encodes_decoded_node, encodes_decoded_variable, encodes_decoded_procedure}
use Rattle.program.proofs.Rows.{each_cut, drop_each}
use Rattle.typing.specs.Faults.{node_record, variable_record, procedure_record, variable_part, procedure_part}
use Rattle.typing.specs.Acceptance.{Bytes}
use Rattle.typing.proofs.Readings.{Reads}

-- ---- a file that reads as a program is the program's

bytes_dropped : (bs : List ℕ) (k : ℕ) → Bytes bs → Bytes (drop k bs)
bytes_dropped bs k h i = rw get_or-drop (h (k + i))

module _ (bs : List ℕ) (bytes : Bytes bs) where
  node_there : (n : ℕ) (x : Node) → 12 * n + 12 ≤ length bs → node_record bs n ≡ Some x → drop (12 * n) bs ≡ node_bytes x ++ drop 12 (drop (12 * n) bs)
  node_there n x h e =
      let cs = drop (12 * n) bs in
      bytes_of_node_fields cs (bytes_dropped bs (12 * n) bytes) x (simp length-drop (omega arith)) (sym (encodes_decoded_node (node_fields_of cs) x e))

  variable_there : (v : ℕ) (x : Variable) → 8 * v + 8 ≤ length bs → variable_record bs v ≡ Some x → drop (8 * v) bs ≡ variable_bytes x ++ drop 8 (drop (8 * v) bs)
  variable_there v x h e =
      let cs = drop (8 * v) bs in
      bytes_of_variable_fields cs (bytes_dropped bs (8 * v) bytes) x (simp length-drop (omega arith)) (sym (encodes_decoded_variable (variable_fields_of cs) x e))

  procedure_there : (q : ℕ) (x : Procedure) → 12 * q + 12 ≤ length bs → procedure_record bs q ≡ Some x → drop (12 * q) bs ≡ procedure_bytes x ++ drop 12 (drop (12 * q) bs)
  procedure_there q x h e =
      let cs = drop (12 * q) bs in
      bytes_of_procedure_fields cs (bytes_dropped bs (12 * q) bytes) x (simp length-drop (omega arith)) (sym (encodes_decoded_procedure (procedure_fields_of cs) x e))

pub encodes_from_reads : (bs : List ℕ) (p : Program) (l : Layout) → Bytes bs → Reads bs p l → bs ≡ encoded p
encodes_from_reads bs p l bytes r =
    let w = laid_from_layout bs l r.layout in
    let vs = variable_part l bs in
    let ds = procedure_part l bs in
    let nodes = each_cut node_bytes 12 no_node p.nodes bs (λ n h. node_there bs bytes n (get_or p.nodes n no_node) (omega arith) (r.node n h)) in
    let variables =
    each_cut variable_bytes 8 no_variable p.variables vs
    (λ v h. variable_there vs (bytes_dropped bs (12 * l.nodes) bytes) v (get_or p.variables v no_variable) (simp length-drop (omega arith)) (r.variable v h)) in
    let procedures =
    each_cut procedure_bytes 12 no_procedure p.procedures ds
    (λ q h. procedure_there ds (bytes_dropped bs (12 * l.nodes + 8 * l.variables) bytes) q (get_or p.procedures q no_procedure) (simp length-drop (omega arith)) (r.procedure q h)) in
    let e : 12 * l.nodes + 8 * l.variables + 12 * length p.procedures ≡ length bs - 12 = omega arith in
    cc (nodes, variables, procedures, drop-drop (8 * length p.variables) (12 * l.nodes) bs, drop-drop (12 * length p.procedures) (12 * l.nodes + 8 * l.variables) bs, trailer_cut bs l bytes w, encoded_from_nodes p)

-- ---- a program's file reads as the program

module _ (p : Program) where
  reads_node : (n : ℕ) → n < length p.nodes → PlainNode (get_or p.nodes n no_node) → node_record (encoded p) n ≡ Some (get_or p.nodes n no_node)
  reads_node n h plain =
      let x = get_or p.nodes n no_node in
      ap node_decoded (ap (λ bs. node_fields_of (drop (12 * n) bs)) (encoded_from_nodes p)
      ∙ ap node_fields_of (drop_each node_bytes 12 no_node (λ y. refl) p.nodes n (after_nodes p) h)
      ∙ fields_of_node_bytes x (each node_bytes (drop (suc n) p.nodes) ++ after_nodes p))
      ∙ decodes_encoded_node x plain

  reads_variable : (v : ℕ) → v < length p.variables → variable_record (variable_part (counts_of p) (encoded p)) v ≡ Some (get_or p.variables v no_variable)
  reads_variable v h =
      let x = get_or p.variables v no_variable in
      ap variable_decoded (ap (λ bs. variable_fields_of (drop (8 * v) bs)) (encoded_from_variables p)
      ∙ ap variable_fields_of (drop_each variable_bytes 8 no_variable (λ y. refl) p.variables v (after_variables p) h)
      ∙ fields_of_variable_bytes x (each variable_bytes (drop (suc v) p.variables) ++ after_variables p))
      ∙ decodes_encoded_variable x

  reads_procedure : (q : ℕ) → q < length p.procedures → procedure_record (procedure_part (counts_of p) (encoded p)) q ≡ Some (get_or p.procedures q no_procedure)
  reads_procedure q h =
      let x = get_or p.procedures q no_procedure in
      ap procedure_decoded (ap (λ bs. procedure_fields_of (drop (12 * q) bs)) (encoded_from_procedures p)
      ∙ ap procedure_fields_of (drop_each procedure_bytes 12 no_procedure (λ y. refl) p.procedures q (trailer_bytes p) h)
      ∙ fields_of_procedure_bytes x (each procedure_bytes (drop (suc q) p.procedures) ++ trailer_bytes p))
      ∙ decodes_encoded_procedure x

pub reads_from_encodes : (bs : List ℕ) (p : Program) → bs ≡ encoded p
    → 1 ≤ length p.nodes → length p.nodes ≤ 1024 → length p.variables ≤ 128 → 1 ≤ length p.procedures → length p.procedures ≤ 32
    → ((n : ℕ) → n < length p.nodes → PlainNode (get_or p.nodes n no_node)) → Reads bs p (counts_of p)
reads_from_encodes bs p e some_nodes few_nodes few_variables some_procedures few_procedures plain =
    subst⁻¹ (λ cs. Reads cs p (counts_of p)) e
    (record {
      layout = layout_from_laid (encoded p) (counts_of p) (laid_encoded p some_nodes few_nodes few_variables some_procedures few_procedures);
      nodes = refl;
      variables = refl;
      procedures = refl;
      node = λ n h. reads_node p n h (plain n h);
      variable = reads_variable p;
      procedure = reads_procedure p;
    })

-- ---- the kind of a node is its record's first byte

pub kind_from_reads : (bs : List ℕ) (p : Program) (l : Layout) (n : ℕ) → n < length p.nodes → Reads bs p l → get_or bs (12 * n) 0 ≡ (node_encoded (get_or p.nodes n no_node)).kind
kind_from_reads bs p l n h r =
    let first : get_or (drop (12 * n) bs) 0 0 ≡ get_or bs (12 * n) 0 = get_or-drop (12 * n) bs 0 0 ∙ ap (λ k. get_or bs k 0) (omega arith) in
    sym first ∙ ap (λ f. f.kind) (sym (encodes_decoded_node (node_fields_of (drop (12 * n) bs)) (get_or p.nodes n no_node) (r.node n h)))
