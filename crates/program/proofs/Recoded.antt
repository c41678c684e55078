-- A record decodes to what was encoded, and encodes to what was decoded.
use Rattle.std.proofs.Common.{◌≡◌, ℕ, ◌<◌, Bool, true, false, cond, ◌&&◌, eqb, ltb, Some, None, Option, sym, refl, ap, ◌∙◌, arith}
use Rattle.std.proofs.lemmas.Bool.{eqb-true, ltb-true, lt-ltb, ne_eqb, cond_both}
use Rattle.std.proofs.lemmas.Bool.Decides.{nat_tests}
use Rattle.words.specs.Numbers.{type_number, type_numbered, arithmetic_number, arithmetic_numbered, comparison_number, comparison_numbered}
use Rattle.words.specs.declared.types.DataType.{DataType}
use Rattle.words.specs.declared.types.DataType.TheVariants.{Bool as Boolean, Int, Unsigned}
use Rattle.words.specs.declared.types.Arithmetic.{Arithmetic as Operator}
use Rattle.words.specs.declared.types.Arithmetic.TheVariants.{Add, Subtract, Multiply, Divide, Remainder}
use Rattle.words.specs.declared.types.Comparison.{Comparison as Order}
use Rattle.words.specs.declared.types.Comparison.TheVariants.{Equal, NotEqual, Less, LessOrEqual, Greater, GreaterOrEqual}
use Rattle.program.specs.Decode.{node_decoded, lone, pair, triple, bare, only_if, word_fits, constant_of, arithmetic_of, comparison_of, absent_or, role_decoded, variable_of, variable_decoded, typed_result, result_decoded, procedure_of, procedure_decoded}
use Rattle.program.specs.Encode.{node_encoded, fields, field_of, role_number, owner_number, variable_encoded, result_number, procedure_encoded}
use Rattle.program.specs.declared.fields.NodeFields.{NodeFields}
use Rattle.program.specs.declared.fields.VariableFields.{VariableFields}
use Rattle.program.specs.declared.fields.ProcedureFields.{ProcedureFields}
use Rattle.program.specs.declared.records.Node.{Node}
use Rattle.program.specs.declared.records.Node.TheVariants.{Constant, Variable, Minus, Not, Arithmetic, Comparison, And, Or, Choice, Assignment, Call, Argument, Release, Expression, Sequence, If, IfElse, While, DoWhile, Return, ReturnVoid, Break, Continue, Definition, Output}
use Rattle.program.specs.declared.records.Role.{Role}
use Rattle.program.specs.declared.records.Role.TheVariants.{Global, Input, Local, Parameter}
use Rattle.program.specs.declared.records.Variable.{Variable as VariableRecord}
use Rattle.program.specs.declared.records.Procedure.{Procedure}
use Rattle.program.proofs.Inverses.{Inverts, inverts_nothing, inverts_some, inverts_if, inverts_cond, inverts_number}

-- ---- data types and operators

inverts_type : (n : ℕ) → Inverts type_number n (type_numbered n)
inverts_type n = inverts_number n 0 Boolean refl (inverts_number n 1 Int refl (inverts_number n 2 Unsigned refl inverts_nothing))

inverts_arithmetic : (n : ℕ) → Inverts arithmetic_number n (arithmetic_numbered n)
inverts_arithmetic n =
    inverts_number n 0 Add refl (inverts_number n 1 Subtract refl (inverts_number n 2 Multiply refl (inverts_number n 3 Divide refl (inverts_number n 4 Remainder refl inverts_nothing))))

inverts_comparison : (n : ℕ) → Inverts comparison_number n (comparison_numbered n)
inverts_comparison n =
    inverts_number n 0 Equal refl (inverts_number n 1 NotEqual refl (inverts_number n 2 Less refl (inverts_number n 3 LessOrEqual refl (inverts_number n 4 Greater refl (inverts_number n 5 GreaterOrEqual refl inverts_nothing)))))

-- ---- a record encodes to what was decoded

-- a row of the kinds: the records of one kind
row : (f : NodeFields) (k : ℕ) {o p : Option Node} → (f.kind ≡ k → Inverts node_encoded f o) → Inverts node_encoded f p → Inverts node_encoded f (cond (eqb f.kind k) o p)
row f k h = inverts_cond (eqb f.kind k) (λ t. h (eqb-true f.kind k t))

lone_row : (f : NodeFields) (k : ℕ) (n : Node) → node_encoded n ≡ fields k 0 f.a 0 0 0 → f.kind ≡ k → Inverts node_encoded f (only_if (lone f) (Some n))
lone_row f k n e h = inverts_if (lone f) n (λ t. e ∙ grind (arith, nat_tests))

pair_row : (f : NodeFields) (k : ℕ) (n : Node) → node_encoded n ≡ fields k 0 f.a f.b 0 0 → f.kind ≡ k → Inverts node_encoded f (only_if (pair f) (Some n))
pair_row f k n e h = inverts_if (pair f) n (λ t. e ∙ grind (arith, nat_tests))

triple_row : (f : NodeFields) (k : ℕ) (n : Node) → node_encoded n ≡ fields k 0 f.a f.b f.c 0 → f.kind ≡ k → Inverts node_encoded f (only_if (triple f) (Some n))
triple_row f k n e h = inverts_if (triple f) n (λ t. e ∙ grind (arith, nat_tests))

bare_row : (f : NodeFields) (k : ℕ) (n : Node) → node_encoded n ≡ fields k 0 0 0 0 0 → f.kind ≡ k → Inverts node_encoded f (only_if (bare f) (Some n))
bare_row f k n e h = inverts_if (bare f) n (λ t. e ∙ grind (arith, nat_tests))

constant_row : (f : NodeFields) (o : Option DataType) → Inverts type_number f.sort o → f.kind ≡ 1 → Inverts node_encoded f (constant_of f o)
constant_row f None i h = inverts_nothing
constant_row f (Some t) i h =
    let e = i.back t refl in
    inverts_if (word_fits t f.word && eqb f.a 0 && eqb f.b 0 && eqb f.c 0) (Constant t f.word) (λ u. grind (arith, nat_tests))

arithmetic_row : (f : NodeFields) (o : Option Operator) → Inverts arithmetic_number f.sort o → f.kind ≡ 5 → Inverts node_encoded f (arithmetic_of f o)
arithmetic_row f None i h = inverts_nothing
arithmetic_row f (Some t) i h =
    let e = i.back t refl in
    inverts_if (eqb f.c 0 && eqb f.word 0) (Arithmetic t f.a f.b) (λ u. grind (arith, nat_tests))

comparison_row : (f : NodeFields) (o : Option Order) → Inverts comparison_number f.sort o → f.kind ≡ 6 → Inverts node_encoded f (comparison_of f o)
comparison_row f None i h = inverts_nothing
comparison_row f (Some t) i h =
    let e = i.back t refl in
    inverts_if (eqb f.c 0 && eqb f.word 0) (Comparison t f.a f.b) (λ u. grind (arith, nat_tests))

absent_is : (b : ℕ) → field_of (absent_or b) ≡ b
absent_is b = cond_both (eqb b 65535) None (Some b) (λ o. field_of o ≡ b) (λ t. sym (eqb-true b 65535 t)) (λ t. refl)

inverts_node : (f : NodeFields) → Inverts node_encoded f (node_decoded f)
inverts_node f =
    row f 1 (constant_row f (type_numbered f.sort) (inverts_type f.sort))
    (row f 2 (lone_row f 2 (Variable f.a) refl)
    (row f 3 (lone_row f 3 (Minus f.a) refl)
    (row f 4 (lone_row f 4 (Not f.a) refl)
    (row f 5 (arithmetic_row f (arithmetic_numbered f.sort) (inverts_arithmetic f.sort))
    (row f 6 (comparison_row f (comparison_numbered f.sort) (inverts_comparison f.sort))
    (row f 7 (pair_row f 7 (And f.a f.b) refl)
    (row f 8 (pair_row f 8 (Or f.a f.b) refl)
    (row f 9 (triple_row f 9 (Choice f.a f.b f.c) refl)
    (row f 10 (pair_row f 10 (Assignment f.a f.b) refl)
    (row f 11 (pair_row f 11 (Call f.a (absent_or f.b)) (ap (λ b. fields 11 0 f.a b 0 0) (absent_is f.b)))
    (row f 12 (pair_row f 12 (Argument f.a (absent_or f.b)) (ap (λ b. fields 12 0 f.a b 0 0) (absent_is f.b)))
    (row f 13 (lone_row f 13 (Release f.a) refl)
    (row f 20 (lone_row f 20 (Expression f.a) refl)
    (row f 21 (pair_row f 21 (Sequence f.a f.b) refl)
    (row f 22 (pair_row f 22 (If f.a f.b) refl)
    (row f 23 (triple_row f 23 (IfElse f.a f.b f.c) refl)
    (row f 24 (pair_row f 24 (While f.a f.b) refl)
    (row f 25 (pair_row f 25 (DoWhile f.a f.b) refl)
    (row f 27 (lone_row f 27 (Return f.a) refl)
    (row f 28 (bare_row f 28 ReturnVoid refl)
    (row f 29 (bare_row f 29 Break refl)
    (row f 30 (bare_row f 30 Continue refl)
    (row f 31 (lone_row f 31 (Definition f.a) refl)
    (row f 32 (lone_row f 32 (Output f.a) refl)
    inverts_nothing))))))))))))))))))))))))

pub encodes_decoded_node : (f : NodeFields) (n : Node) → node_decoded f ≡ Some n → node_encoded n ≡ f
encodes_decoded_node f = (inverts_node f).back

-- ---- a record decodes to what was encoded

-- what a node's record cannot hold is not there: a bool beyond 1, and the number that stands for an absent one
pub record PlainNode (n : Node) : Type 0 where
  pub bool : (w : ℕ) → n ≡ Constant Boolean w → w < 2
  pub first : (g k : ℕ) → n ≡ Call g (Some k) → k ≡ 65535 → ⊥
  pub next : (a k : ℕ) → n ≡ Argument a (Some k) → k ≡ 65535 → ⊥

pub decodes_encoded_node : (n : Node) → PlainNode n → node_decoded (node_encoded n) ≡ Some n
decodes_encoded_node (Constant Boolean w) h = rw (lt-ltb w 2 (h.bool w refl))
decodes_encoded_node (Constant Int w) h = refl
decodes_encoded_node (Constant Unsigned w) h = refl
decodes_encoded_node (Variable v) h = refl
decodes_encoded_node (Minus a) h = refl
decodes_encoded_node (Not a) h = refl
decodes_encoded_node (Arithmetic Add a b) h = refl
decodes_encoded_node (Arithmetic Subtract a b) h = refl
decodes_encoded_node (Arithmetic Multiply a b) h = refl
decodes_encoded_node (Arithmetic Divide a b) h = refl
decodes_encoded_node (Arithmetic Remainder a b) h = refl
decodes_encoded_node (Comparison Equal a b) h = refl
decodes_encoded_node (Comparison NotEqual a b) h = refl
decodes_encoded_node (Comparison Less a b) h = refl
decodes_encoded_node (Comparison LessOrEqual a b) h = refl
decodes_encoded_node (Comparison Greater a b) h = refl
decodes_encoded_node (Comparison GreaterOrEqual a b) h = refl
decodes_encoded_node (And a b) h = refl
decodes_encoded_node (Or a b) h = refl
decodes_encoded_node (Choice a b c) h = refl
decodes_encoded_node (Assignment v b) h = refl
decodes_encoded_node (Call g None) h = refl
decodes_encoded_node (Call g (Some k)) h = rw (ne_eqb k 65535 (h.first g k refl))
decodes_encoded_node (Argument a None) h = refl
decodes_encoded_node (Argument a (Some k)) h = rw (ne_eqb k 65535 (h.next a k refl))
decodes_encoded_node (Release a) h = refl
decodes_encoded_node (Expression a) h = refl
decodes_encoded_node (Sequence a b) h = refl
decodes_encoded_node (If a b) h = refl
decodes_encoded_node (IfElse a b c) h = refl
decodes_encoded_node (While a b) h = refl
decodes_encoded_node (DoWhile a b) h = refl
decodes_encoded_node (Return a) h = refl
decodes_encoded_node ReturnVoid h = refl
decodes_encoded_node Break h = refl
decodes_encoded_node Continue h = refl
decodes_encoded_node (Definition v) h = refl
decodes_encoded_node (Output a) h = refl

-- a bool that was decoded is 0 or 1
bool_told : (w : ℕ) (b : Bool) → ltb w 2 ≡ b → only_if b (Some (Constant Boolean w)) ≡ Some (Constant Boolean w) → w < 2
bool_told w true e h = ltb-true w 2 e
bool_told w false e h = let z : ◌≡◌ {A = ℕ} 0 1 = cc in absurd (omega arith)

pub decoded_bool : (f : NodeFields) (w : ℕ) → node_decoded f ≡ Some (Constant Boolean w) → w < 2
decoded_bool f w h = bool_told w (ltb w 2) refl (by (ltb w 2) (ap node_decoded (encodes_decoded_node f (Constant Boolean w) h) ∙ h))
  where
    by : (b : Bool) → only_if (b && true && true && true) (Some (Constant Boolean w)) ≡ Some (Constant Boolean w) → only_if b (Some (Constant Boolean w)) ≡ Some (Constant Boolean w)
    by true e = e
    by false e = e

-- ---- variables

abbrev role_fields : Role → ℕ × ℕ
role_fields u = (role_number u, owner_number u)

inverts_role : (u o : ℕ) → Inverts role_fields (u, o) (role_decoded u o)
inverts_role u o =
    inverts_cond (eqb u 0) (λ t. inverts_if (eqb o 65535) Global (λ s. grind (arith, nat_tests)))
    (inverts_cond (eqb u 1) (λ t. inverts_if (eqb o 65535) Input (λ s. grind (arith, nat_tests)))
    (inverts_cond (eqb u 2) (λ t. inverts_some (Local o) (grind (arith, nat_tests)))
    (inverts_cond (eqb u 3) (λ t. inverts_some (Parameter o) (grind (arith, nat_tests)))
    inverts_nothing)))

inverts_variable : (f : VariableFields) (u : Option Role) (t : Option DataType) → Inverts role_fields (f.role, f.owner) u → Inverts type_number f.data_type t → Inverts variable_encoded f (variable_of f u t)
inverts_variable f None t i j = inverts_nothing
inverts_variable f (Some u) None i j = inverts_nothing
inverts_variable f (Some u) (Some t) i j =
    let r = ap (λ p. p.0) (i.back u refl) in
    let o = ap (λ p. p.1) (i.back u refl) in
    let d = j.back t refl in
    inverts_some (record { role = u; data_type = t; level = f.level }) (grind arith)

pub encodes_decoded_variable : (f : VariableFields) (v : VariableRecord) → variable_decoded f ≡ Some v → variable_encoded v ≡ f
encodes_decoded_variable f =
    (inverts_variable f (role_decoded f.role f.owner) (type_numbered f.data_type) (inverts_role f.role f.owner) (inverts_type f.data_type)).back

decodes_type : (t : DataType) → type_numbered (type_number t) ≡ Some t
decodes_type Boolean = refl
decodes_type Int = refl
decodes_type Unsigned = refl

decodes_role : (u : Role) → role_decoded (role_number u) (owner_number u) ≡ Some u
decodes_role Global = refl
decodes_role Input = refl
decodes_role (Local q) = refl
decodes_role (Parameter q) = refl

pub decodes_encoded_variable : (v : VariableRecord) → variable_decoded (variable_encoded v) ≡ Some v
decodes_encoded_variable v = rw (decodes_role v.role, decodes_type v.data_type)

-- ---- procedures

inverts_result : (n : ℕ) → Inverts result_number n (result_decoded n)
inverts_result n = inverts_cond (eqb n 255) (λ t. inverts_some None (sym (eqb-true n 255 t))) (typed (type_numbered n) (inverts_type n))
  where
    typed : (t : Option DataType) → Inverts type_number n t → Inverts result_number n (typed_result t)
    typed None i = inverts_nothing
    typed (Some t) i = inverts_some (Some t) (i.back t refl)

inverts_procedure : (f : ProcedureFields) (t : Option (Option DataType)) → Inverts result_number f.result t → Inverts procedure_encoded f (procedure_of f t)
inverts_procedure f None i = inverts_nothing
inverts_procedure f (Some t) i =
    let e = i.back t refl in
    inverts_if (eqb f.spare 0) (record { result = t; parameters = f.parameters; first_parameter = f.first_parameter; body = f.body; level = f.level }) (λ s. grind (arith, nat_tests))

pub encodes_decoded_procedure : (f : ProcedureFields) (d : Procedure) → procedure_decoded f ≡ Some d → procedure_encoded d ≡ f
encodes_decoded_procedure f = (inverts_procedure f (result_decoded f.result) (inverts_result f.result)).back

decodes_result : (t : Option DataType) → result_decoded (result_number t) ≡ Some t
decodes_result None = refl
decodes_result (Some Boolean) = refl
decodes_result (Some Int) = refl
decodes_result (Some Unsigned) = refl

pub decodes_encoded_procedure : (d : Procedure) → procedure_decoded (procedure_encoded d) ≡ Some d
decodes_encoded_procedure d = rw (decodes_result d.result)
