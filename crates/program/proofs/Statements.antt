-- The kinds of statements are the kinds of the nodes that are statements.
use Rattle.std.proofs.Common.{◌≡◌, Bool, true, false, refl}
use Rattle.program.specs.Decode.{is_statement_kind}
use Rattle.program.specs.Encode.{node_encoded}
use Rattle.program.specs.declared.records.Node.{Node}
use Rattle.program.specs.declared.records.Node.TheVariants.{Constant, Variable, Minus, Not, Arithmetic, Comparison, And, Or, Choice, Assignment, Call, Argument, Release, Expression, Sequence, If, IfElse, While, DoWhile, Return, ReturnVoid, Break, Continue, Definition, Output}

abbrev pub statement_node : Node → Bool
statement_node (Constant t w) = false
statement_node (Variable v) = false
statement_node (Minus a) = false
statement_node (Not a) = false
statement_node (Arithmetic o a b) = false
statement_node (Comparison o a b) = false
statement_node (And a b) = false
statement_node (Or a b) = false
statement_node (Choice a b c) = false
statement_node (Assignment v b) = false
statement_node (Call g f) = false
statement_node (Argument a n) = false
statement_node (Release a) = false
statement_node (Expression a) = true
statement_node (Sequence a b) = true
statement_node (If a b) = true
statement_node (IfElse a b c) = true
statement_node (While a b) = true
statement_node (DoWhile a b) = true
statement_node (Return a) = true
statement_node ReturnVoid = true
statement_node Break = true
statement_node Continue = true
statement_node (Definition v) = true
statement_node (Output a) = true

pub kind_of_statement : (x : Node) → is_statement_kind (node_encoded x).kind ≡ statement_node x
kind_of_statement (Constant t w) = refl
kind_of_statement (Variable v) = refl
kind_of_statement (Minus a) = refl
kind_of_statement (Not a) = refl
kind_of_statement (Arithmetic o a b) = refl
kind_of_statement (Comparison o a b) = refl
kind_of_statement (And a b) = refl
kind_of_statement (Or a b) = refl
kind_of_statement (Choice a b c) = refl
kind_of_statement (Assignment v b) = refl
kind_of_statement (Call g f) = refl
kind_of_statement (Argument a n) = refl
kind_of_statement (Release a) = refl
kind_of_statement (Expression a) = refl
kind_of_statement (Sequence a b) = refl
kind_of_statement (If a b) = refl
kind_of_statement (IfElse a b c) = refl
kind_of_statement (While a b) = refl
kind_of_statement (DoWhile a b) = refl
kind_of_statement (Return a) = refl
kind_of_statement ReturnVoid = refl
kind_of_statement Break = refl
kind_of_statement Continue = refl
kind_of_statement (Definition v) = refl
kind_of_statement (Output a) = refl
