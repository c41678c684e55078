-- The first fault of a file: the rows, tried record by record. Assumes nothing.
use Rattle.std.specs.Prelude.{ℕ, zero, suc, ◌+◌, ◌-◌, ◌*◌, Bool, true, false, cond, not, ◌&&◌, ◌||◌, List, [], ◌∷◌, length, drop, Some, None, Ok, Err, Option, Result, ◌==◌, nat_le, nat_lt, slice_index, slice_index_or}
use Rattle.words.specs.declared.types.DataType.{DataType}
use Rattle.levels.specs.Rules.{Rules}
use Rattle.program.specs.Decode.{node_decoded, variable_decoded, procedure_decoded, is_statement_kind}
use Rattle.program.specs.Fields.{node_fields_of, variable_fields_of, procedure_fields_of}
use Rattle.program.specs.Layout.{layout_of}
use Rattle.program.specs.Program.{at, children, times_in, no_node, no_variable, no_procedure}
use Rattle.program.specs.declared.layout.Layout.{Layout}
use Rattle.program.specs.declared.records.Node.{Node}
use Rattle.program.specs.declared.records.Role.{Role}
use Rattle.program.specs.declared.records.Role.TheVariants.{Global, Input, Local, Parameter}
use Rattle.program.specs.declared.records.Variable.{Variable}
use Rattle.program.specs.declared.records.Procedure.{Procedure}
use Rattle.program.specs.declared.refusal.Refusal.{Refusal}
use Rattle.program.specs.declared.refusal.Refusal.TheVariants.{Variable as BadVariable, Result as BadResult, Parameters as BadParameters, Body as BadBody, Main as BadMain, Record as BadRecord, Naming as BadNaming}
use Rattle.typing.specs.Environment.{Environment, procedure_of, body_in}
use Rattle.typing.specs.Classes.{class_of}
use Rattle.typing.specs.Rows.{is_absent, node_rows, first_broken}
use Rattle.typing.specs.First.{or_else, unless, first, table}
use Rattle.typing.specs.declared.classes.TypedNode.{TypedNode}

-- ---- the records of the three parts, by number

abbrev pub variable_record : List ℕ → ℕ → Option Variable
variable_record part i = variable_decoded (variable_fields_of (drop (8 * i) part))

abbrev pub procedure_record : List ℕ → ℕ → Option Procedure
procedure_record part i = procedure_decoded (procedure_fields_of (drop (12 * i) part))

abbrev pub node_record : List ℕ → ℕ → Option Node
node_record part i = node_decoded (node_fields_of (drop (12 * i) part))

-- a record that does not decode is refused, so that what stands for it is never used
abbrev pub known : {X : Type 0} → X → Option X → X
known d None = d
known d (Some x) = x

abbrev pub variables_in : List ℕ → ℕ → List Variable
variables_in part n = table (λ _ i. known no_variable (variable_record part i)) n

abbrev pub procedures_in : List ℕ → ℕ → List Procedure
procedures_in part n = table (λ _ i. known no_procedure (procedure_record part i)) n

-- ---- row 4, at variable i of a file with m procedures

abbrev pub owner_fits : ℕ → Role → Bool
owner_fits m Global = true
owner_fits m Input = true
owner_fits m (Local q) = nat_lt q m
owner_fits m (Parameter q) = nat_lt q m

abbrev pub variable_fits : Rules → ℕ → Option Variable → Bool
variable_fits r m None = false
variable_fits r m (Some v) = owner_fits m v.role && r.is_level v.level

abbrev pub variable_fault : Rules → ℕ → List ℕ → ℕ → Option Refusal
variable_fault r m part i = unless (variable_fits r m (variable_record part i)) (BadVariable i)

-- ---- rows 5 to 8, at procedure q of m, among the variables vs and n nodes

-- a result has a level, and a void one level 0
abbrev pub void_fits : Option DataType → ℕ → Bool
void_fits None l = l == 0
void_fits (Some t) l = true

abbrev pub result_fits : Rules → Option Procedure → Bool
result_fits r None = false
result_fits r (Some d) = r.is_level d.level && void_fits d.result d.level

abbrev pub is_parameter_of : ℕ → Role → Bool
is_parameter_of q Global = false
is_parameter_of q Input = false
is_parameter_of q (Local o) = false
is_parameter_of q (Parameter o) = o == q

abbrev pub same_truth : Bool → Bool → Bool
same_truth a b = cond a b (not b)

-- variable i is a parameter of procedure q exactly where the c numbers from f on have it
abbrev pub owned_at : List Variable → ℕ → ℕ → ℕ → ℕ → Bool
owned_at vs q f c i = same_truth (is_parameter_of q (slice_index_or vs i no_variable).role) (nat_le f i && nat_lt i (f + c))

-- a test of all numbers below n
unfoldable pub all_below : (ℕ → Bool) → ℕ → Bool
all_below t zero = true
all_below t (suc n) = all_below t n && t n

abbrev pub parameters_fit : List Variable → ℕ → Procedure → Bool
parameters_fit vs q d =
    let c = d.parameters in
    let f = d.first_parameter in
    nat_le c 8 && nat_le (f + c) (length vs) && (not (c == 0) || f == 0) && all_below (owned_at vs q f c) (length vs)

-- the body is above that of the procedure before, of which ds are all
abbrev pub rises : List Procedure → ℕ → Bool
rises ds b = cond (length ds == 0) true (nat_lt (body_in (at no_procedure ds (length ds - 1))) b)

abbrev pub body_stands : List ℕ → ℕ → ℕ → List Procedure → ℕ → ℕ → Bool
body_stands bs n m ds q b =
    rises ds b && nat_lt b n && is_statement_kind (slice_index bs (12 * b)) && (not (q + 1 == m) || b + 1 == n)

-- the last procedure is main
abbrev pub main_fits : ℕ → ℕ → Procedure → Bool
main_fits m q d = not (q + 1 == m) || (is_absent d.result && d.parameters == 0)

abbrev pub procedure_rows : List ℕ → ℕ → ℕ → List Variable → List Procedure → ℕ → Procedure → Option Refusal
procedure_rows bs n m vs ds q d =
    or_else (unless (parameters_fit vs q d) (BadParameters q))
    (or_else (unless (body_stands bs n m ds q d.body) (BadBody q))
    (unless (main_fits m q d) (BadMain q)))

abbrev pub procedure_fault : Rules → List ℕ → ℕ → ℕ → List Variable → List ℕ → ℕ → Option Refusal
procedure_fault r bs n m vs part q =
    or_else (unless (result_fits r (procedure_record part q)) (BadResult q))
    (procedure_rows bs n m vs (procedures_in part q) q (known no_procedure (procedure_record part q)))

-- ---- rows 10 to 16, at node k

abbrev pub environment : List Variable → List Procedure → List TypedNode → Environment
environment vs ds ns = record { variables = vs; procedures = ds; nodes = ns }

abbrev pub typed_node : Rules → Environment → ℕ → Node → TypedNode
typed_node r e q n = record { node = n; procedure = q; class = class_of r e n }

abbrev pub typed_nodes : Rules → List Variable → List Procedure → List ℕ → ℕ → List TypedNode
typed_nodes r vs ds bs n =
    table (λ ns k. typed_node r (environment vs ds ns) (procedure_of ds k) (known no_node (node_record bs k))) n

abbrev pub record_fault : Rules → Environment → ℕ → ℕ → Option Node → Option Refusal
record_fault r e k q None = Some (BadRecord k)
record_fault r e k q (Some n) = first_broken r e k q n node_rows

abbrev pub node_fault : Rules → List Variable → List Procedure → List ℕ → ℕ → Option Refusal
node_fault r vs ds bs k =
    record_fault r (environment vs ds (typed_nodes r vs ds bs k)) k (procedure_of ds k) (node_record bs k)

-- ---- row 17, at node k

-- how often node k is named as a child
abbrev pub times_named : ℕ → List TypedNode → ℕ
times_named k [] = 0
times_named k (n ∷ ns) = times_in k (children n.node) + times_named k ns

abbrev pub is_body : List Procedure → ℕ → Bool
is_body ds k = body_in (at no_procedure ds (procedure_of ds k)) == k

abbrev pub name_fault : List Procedure → List TypedNode → ℕ → Option Refusal
name_fault ds ns k = unless (is_body ds k || times_named k ns == 1) (BadNaming k)

-- ---- the file

abbrev pub variable_part : Layout → List ℕ → List ℕ
variable_part l bs = drop (12 * l.nodes) bs

abbrev pub procedure_part : Layout → List ℕ → List ℕ
procedure_part l bs = drop (12 * l.nodes + 8 * l.variables) bs

abbrev pub file_variables : Layout → List ℕ → List Variable
file_variables l bs = variables_in (variable_part l bs) l.variables

abbrev pub file_procedures : Layout → List ℕ → List Procedure
file_procedures l bs = procedures_in (procedure_part l bs) l.procedures

abbrev pub file_nodes : Rules → Layout → List ℕ → List TypedNode
file_nodes r l bs = typed_nodes r (file_variables l bs) (file_procedures l bs) bs l.nodes

abbrev pub records_fault : Rules → Layout → List ℕ → Option Refusal
records_fault r l bs =
    or_else (first (variable_fault r l.procedures (variable_part l bs)) l.variables)
    (or_else (first (procedure_fault r bs l.nodes l.procedures (file_variables l bs) (procedure_part l bs)) l.procedures)
    (or_else (first (node_fault r (file_variables l bs) (file_procedures l bs) bs) l.nodes)
    (first (name_fault (file_procedures l bs) (file_nodes r l bs)) l.nodes)))

abbrev pub layout_fault : Rules → List ℕ → Result Layout Refusal → Option Refusal
layout_fault r bs (Err e) = Some e
layout_fault r bs (Ok l) = records_fault r l bs

unfoldable pub first_fault : Rules → List ℕ → Option Refusal
first_fault r bs = layout_fault r bs (layout_of bs)

abbrev pub verdict_by : Result Layout Refusal → Option Refusal → Result Layout Refusal
verdict_by l None = l
verdict_by l (Some e) = Err e

-- the counts of the records of a file that no row refuses, or its first fault
abbrev pub verdict_of : Rules → List ℕ → Result Layout Refusal
verdict_of r bs = verdict_by (layout_of bs) (first_fault r bs)
