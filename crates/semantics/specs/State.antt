-- What a run alters, and the small steps in which it does. Assumes nothing.
use Rattle.std.specs.Prelude.{ℕ, suc, Bool, false, cond, not, List, [], ◌∷◌, ◌++◌, length, get_or, Some, None, Option, ◌==◌, nat_le, slice_index_or, slice_set}
use Rattle.words.specs.Operators.{truth, and_word, or_word, arithmetic_word, held_arithmetic_word, comparison_word}
use Rattle.words.specs.declared.types.DataType.{DataType}
use Rattle.words.specs.declared.types.DataType.TheVariants.{Bool as Boolean}
use Rattle.holding.specs.Counts.{one_put, one_op}
use Rattle.holding.specs.declared.shares.Counts.{Counts}
use Rattle.program.specs.Program.{no_procedure}
use Rattle.program.specs.declared.records.Node.{Node}
use Rattle.program.specs.declared.records.Role.{Role}
use Rattle.program.specs.declared.records.Role.TheVariants.{Global, Input, Local, Parameter}
use Rattle.program.specs.declared.records.Variable.{Variable}
use Rattle.program.specs.declared.records.Procedure.{Procedure}
use Rattle.typing.specs.Environment.{Environment, no_typed_node, variable_at, type_of}
use Rattle.typing.specs.Rows.{variable_level}
use Rattle.semantics.specs.declared.lines.Line.{Line}
use Rattle.semantics.specs.declared.lines.LineKind.{LineKind}
use Rattle.semantics.specs.declared.values.Operator.{Operator}
use Rattle.semantics.specs.declared.values.Operator.TheVariants.{Arithmetic as Calculates, Comparison as Compares, And, Or}
use Rattle.semantics.specs.declared.values.Value.{Value}
use Rattle.semantics.specs.declared.values.Value.TheVariants.{Plain, Held}

-- what everyone may know: the lines and the steps spent
pub record Shown : Type 0 where
  pub lines : List Line
  pub spent : ℕ

-- what levels guard: the cells, and the counts of the holding
pub record Kept : Type 0 where
  pub cells : List (Value ℕ)
  pub counts : Counts

-- ---- steps and lines

abbrev pub tick : Shown → Shown
tick s = record { lines = s.lines; spent = suc s.spent }

-- no more than 256 lines stand
abbrev pub full : Shown → Bool
full s = nat_le 256 (length s.lines)

abbrev pub written : LineKind → ℕ → DataType → ℕ → Shown → Shown
written kind n t w s =
    record { lines = s.lines ++ record { kind = kind; node = n; steps = s.spent; data_type = t; word = w } ∷ []; spent = s.spent }

-- ---- figures

-- the word of a figure, plain or held
abbrev pub word_in : Value ℕ → ℕ
word_in (Plain w) = w
word_in (Held w) = w

-- the word where a plain one is due; a held one is never met there
abbrev pub plain_word : Value ℕ → ℕ
plain_word (Plain w) = w
plain_word (Held w) = 0

-- a figure where level l is due: a plain word is put in, unless l is public
abbrev pub settled : ℕ → Value ℕ → Value ℕ
settled l (Plain w) = cond (l == 0) (Plain w) (Held w)
settled l (Held w) = Held w

abbrev pub put : Kept → Kept
put k = record { cells = k.cells; counts = one_put k.counts }

abbrev pub operated : Kept → Kept
operated k = record { cells = k.cells; counts = one_op k.counts }

-- a figure where a held one is due
abbrev pub putting : Value ℕ → Kept → Kept
putting (Plain w) k = put k
putting (Held w) k = k

abbrev pub settling : ℕ → Value ℕ → Kept → Kept
settling l (Plain w) k = cond (l == 0) k (put k)
settling l (Held w) k = k

-- the result of an operator at level l: a plain word, or a held one by the holding's operator
abbrev pub result : ℕ → ℕ → ℕ → Value ℕ
result l plain held = cond (l == 0) (Plain plain) (Held held)

-- the work of an operator at level l on one operand and on two
abbrev pub working : ℕ → Value ℕ → Kept → Kept
working l x k = cond (l == 0) k (operated (settling l x k))

abbrev pub working_both : ℕ → Value ℕ → Value ℕ → Kept → Kept
working_both l x y k = cond (l == 0) k (operated (settling l y (settling l x k)))

-- a first operand decides where it is plain, and 0 for and, or 1 for or
abbrev pub decides : Operator → Value ℕ → Bool
decides (Calculates o t) x = false
decides (Compares o t) x = false
decides And (Plain w) = not (truth w)
decides And (Held w) = false
decides Or (Plain w) = truth w
decides Or (Held w) = false

-- the word of an operator on plain words, which a quotient by zero has not, and on held ones
abbrev pub plain_result : Operator → ℕ → ℕ → Option ℕ
plain_result (Calculates o t) a b = arithmetic_word o t a b
plain_result (Compares o t) a b = Some (comparison_word o t a b)
plain_result And a b = Some (and_word a b)
plain_result Or a b = Some (or_word a b)

abbrev pub held_result : Operator → ℕ → ℕ → ℕ
held_result (Calculates o t) a b = held_arithmetic_word o t a b
held_result (Compares o t) a b = comparison_word o t a b
held_result And a b = and_word a b
held_result Or a b = or_word a b

abbrev pub holds : Value ℕ → Bool
holds x = truth (plain_word x)

-- ---- cells

abbrev pub cell : ℕ → Kept → Value ℕ
cell v k = slice_index_or k.cells v (Plain 0)

-- the cell of a variable of level l becomes x, put in if that is due
abbrev pub stored : ℕ → ℕ → Value ℕ → Kept → Kept
stored v l x k = let j = settling l x k in record { cells = slice_set j.cells v (settled l x); counts = j.counts }

abbrev pub level_at : Environment → ℕ → ℕ
level_at e v = variable_level (variable_at e v)

-- the parameters from number v on become the values, in order
unfoldable pub bound : Environment → ℕ → List (Value ℕ) → Kept → Kept
bound e v [] k = k
bound e v (x ∷ xs) k = bound e (suc v) xs (stored v (level_at e v) x k)

abbrev pub is_local_of : ℕ → Role → Bool
is_local_of q Global = false
is_local_of q Input = false
is_local_of q (Local o) = o == q
is_local_of q (Parameter o) = false

-- the locals of procedure q among the variables from number i on become 0, in order
unfoldable pub cleared : ℕ → ℕ → List Variable → Kept → Kept
cleared q i [] k = k
cleared q i (v ∷ vs) k = cleared q (suc i) vs (cond (is_local_of q v.role) (stored i v.level (Plain 0) k) k)

-- ---- the program

abbrev pub node_of : Environment → ℕ → Node
node_of e n = (get_or e.nodes n no_typed_node).node

abbrev pub procedure_of_node : Environment → ℕ → ℕ
procedure_of_node e n = (get_or e.nodes n no_typed_node).procedure

abbrev pub procedure : Environment → ℕ → Procedure
procedure e q = slice_index_or e.procedures q no_procedure

-- the data type of a figure that is shown
abbrev pub known_type : Option DataType → DataType
known_type None = Boolean
known_type (Some t) = t

abbrev pub figure_type : Environment → ℕ → DataType
figure_type e n = known_type (type_of e n)

-- a call of procedure g with its arguments: the parameters are set, and then the locals become 0
abbrev pub entered : Environment → ℕ → List (Value ℕ) → Kept → Kept
entered e g xs k = cleared g 0 e.variables (bound e (procedure e g).first_parameter xs k)

-- the level of the result of the procedure that node n belongs to
abbrev pub result_level : Environment → ℕ → ℕ
result_level e n = (procedure e (procedure_of_node e n)).level
