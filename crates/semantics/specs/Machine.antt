-- The machine. It stands where a node is about to begin, or is over; one turn begins one node and goes on until the next would begin. Assumes nothing.
use Rattle.std.specs.Prelude.{ℕ, zero, suc, cond, List, [], ◌∷◌, ◌++◌, Some, None, Option, ◌==◌}
use Rattle.words.specs.Operators.{minus_word, not_word}
use Rattle.words.specs.declared.types.DataType.{DataType}
use Rattle.program.specs.declared.records.Node.{Node}
use Rattle.program.specs.declared.records.Node.TheVariants.{Constant, Variable, Minus, Not, Arithmetic, Comparison, And as AndNode, Or as OrNode, Choice, Assignment, Call, Argument, Release, Expression, Sequence, If, IfElse, While, DoWhile, Return, ReturnVoid, Break, Continue, Definition, Output}
use Rattle.typing.specs.Environment.{Environment, level_of}
use Rattle.semantics.specs.State.{Shown, Kept, tick, full, written, word_in, plain_word, settled, settling, result, working, working_both, decides, plain_result, held_result, holds, cell, stored, level_at, node_of, procedure, figure_type, result_level, entered}
use Rattle.semantics.specs.declared.lines.LineKind.{LineKind}
use Rattle.semantics.specs.declared.lines.LineKind.TheVariants.{Release as ReleaseLine, Output as OutputLine}
use Rattle.semantics.specs.declared.lines.Outcome.{Outcome}
use Rattle.semantics.specs.declared.lines.Outcome.TheVariants.{More, Finished, ZeroDivisor, LinesFull}
use Rattle.semantics.specs.declared.values.Operator.{Operator}
use Rattle.semantics.specs.declared.values.Operator.TheVariants.{Arithmetic as Calculates, Comparison as Compares, And, Or}
use Rattle.semantics.specs.declared.values.Value.{Value}
use Rattle.semantics.specs.declared.values.Value.TheVariants.{Plain, Held}
use Rattle.semantics.specs.declared.values.Signal.{Signal}
use Rattle.semantics.specs.declared.values.Signal.TheVariants.{Gives, Argues, Falls, Returns, Breaks, Continues}

-- what a node does with the value that it waits for
pub data Want : Type 0 where
  negating : Want
  inverting : Want
  first : Operator → ℕ → Want
  second : Operator → Value ℕ → Want
  choosing : ℕ → ℕ → Want
  chosen : Want
  assigning : ℕ → Want
  arguing : Option ℕ → Want
  releasing : DataType → Want
  outputting : DataType → Want
  discarding : Want
  branching : ℕ → Want
  branching_else : ℕ → ℕ → Want
  guarding : ℕ → ℕ → Want
  returning : Want

-- what stands above a node, each with its own number: a node that waits for a value; a sequence, with its second part; a loop whose body runs,
-- with guard and body; a call whose arguments run, with its procedure and the values so far; and a call whose procedure runs
pub data Frame : Type 0 where
  wait : ℕ → Want → Frame
  then : ℕ → ℕ → Frame
  loop : ℕ → ℕ → ℕ → Frame
  calling : ℕ → ℕ → List (Value ℕ) → Frame
  running : ℕ → Frame

-- what is done next: begin another node, begin one under a new frame, end, write a line and end, or end the run
pub data Move : Type 0 where
  begin : ℕ → Kept → Move
  under : Frame → ℕ → Kept → Move
  over : Signal ℕ → Kept → Move
  line : LineKind → ℕ → DataType → ℕ → Signal ℕ → Kept → Move
  stop : Outcome → Kept → Move

-- a node is about to begin below its frames, the innermost first; or the run is over
pub data Config : Type 0 where
  at : ℕ → List Frame → Shown → Kept → Config
  done : Outcome → Shown → Kept → Config

abbrev pub shown : Config → Shown
shown (at n fs s k) = s
shown (done o s k) = s

abbrev pub kept : Config → Kept
kept (at n fs s k) = k
kept (done o s k) = k

abbrev pub outcome : Config → Outcome
outcome (at n fs s k) = More
outcome (done o s k) = o

-- an operator on plain words that has no word ends the run
abbrev pub plainly : Option ℕ → Kept → Move
plainly None k = stop ZeroDivisor k
plainly (Some w) k = over (Gives (Plain w)) k

module _ (e : Environment) where
  -- the procedure of call n begins
  abbrev pub enter : ℕ → ℕ → List (Value ℕ) → Kept → Move
  enter n g xs k = under (running n) (procedure e g).body (entered e g xs k)

  -- call n goes on with its next argument, or with its procedure
  abbrev pub argued : ℕ → ℕ → List (Value ℕ) → Option ℕ → Kept → Move
  argued n g xs None k = enter n g xs k
  argued n g xs (Some m) k = under (calling n g xs) m k

  -- node n begins
  unfoldable pub begins : ℕ → Node → Kept → Move
  begins n (Constant t w) k = over (Gives (Plain w)) k
  begins n (Variable v) k = over (Gives (cell v k)) k
  begins n (Minus a) k = under (wait n negating) a k
  begins n (Not a) k = under (wait n inverting) a k
  begins n (Arithmetic o a b) k = under (wait n (first (Calculates o (figure_type e a)) b)) a k
  begins n (Comparison o a b) k = under (wait n (first (Compares o (figure_type e a)) b)) a k
  begins n (AndNode a b) k = under (wait n (first And b)) a k
  begins n (OrNode a b) k = under (wait n (first Or b)) a k
  begins n (Choice a b c) k = under (wait n (choosing b c)) a k
  begins n (Assignment v b) k = under (wait n (assigning v)) b k
  begins n (Call g f) k = argued n g [] f k
  begins n (Argument a next) k = under (wait n (arguing next)) a k
  begins n (Release a) k = under (wait n (releasing (figure_type e a))) a k
  begins n (Expression a) k = under (wait n discarding) a k
  begins n (Sequence a b) k = under (then n b) a k
  begins n (If a b) k = under (wait n (branching b)) a k
  begins n (IfElse a b c) k = under (wait n (branching_else b c)) a k
  begins n (While a b) k = under (wait n (guarding a b)) a k
  begins n (DoWhile a b) k = under (loop n a b) b k
  begins n (Return a) k = under (wait n returning) a k
  begins n ReturnVoid k = over (Returns None) k
  begins n Break k = over Breaks k
  begins n Continue k = over Continues k
  begins n (Definition v) k = over Falls (stored v (level_at e v) (Plain 0) k)
  begins n (Output a) k = under (wait n (outputting (figure_type e a))) a k

  -- both operands of node n have run
  abbrev pub got_both : ℕ → Operator → Value ℕ → Value ℕ → Kept → Move
  got_both n o x y k =
      cond (level_of e n == 0) (plainly (plain_result o (plain_word x) (plain_word y)) k)
      (over (Gives (Held (held_result o (word_in x) (word_in y)))) (working_both (level_of e n) x y k))

  -- node n gets the value that it waits for
  unfoldable pub got : ℕ → Want → Value ℕ → Kept → Move
  got n negating x k = over (Gives (result (level_of e n) (minus_word (plain_word x)) (minus_word (word_in x)))) (working (level_of e n) x k)
  got n inverting x k = over (Gives (result (level_of e n) (not_word (plain_word x)) (not_word (word_in x)))) (working (level_of e n) x k)
  got n (first o b) x k =
      cond (decides o x) (over (Gives (settled (level_of e n) x)) (settling (level_of e n) x k)) (under (wait n (second o x)) b k)
  got n (second o x) y k = got_both n o x y k
  got n (choosing b c) x k = under (wait n chosen) (cond (holds x) b c) k
  got n chosen x k = over (Gives (settled (level_of e n) x)) (settling (level_of e n) x k)
  got n (assigning v) x k = over (Gives (settled (level_at e v) x)) (stored v (level_at e v) x k)
  got n (arguing next) x k = over (Argues x next) k
  got n (releasing t) x k = line ReleaseLine n t (word_in x) (Gives (Plain (word_in x))) k
  got n (outputting t) x k = line OutputLine n t (plain_word x) Falls k
  got n discarding x k = over Falls k
  got n (branching b) x k = cond (holds x) (begin b k) (over Falls k)
  got n (branching_else b c) x k = begin (cond (holds x) b c) k
  got n (guarding a b) x k = cond (holds x) (under (loop n a b) b k) (over Falls k)
  got n returning x k = over (Returns (Some (settled (result_level e n) x))) (settling (result_level e n) x k)

  -- a frame meets the end of what it stands above
  unfoldable pub meets : Frame → Signal ℕ → Kept → Move
  meets (wait n w) (Gives x) k = got n w x k
  meets (wait n w) (Argues x next) k = over (Argues x next) k
  meets (wait n w) Falls k = over Falls k
  meets (wait n w) (Returns x) k = over (Returns x) k
  meets (wait n w) Breaks k = over Breaks k
  meets (wait n w) Continues k = over Continues k
  meets (then n b) (Gives x) k = over (Gives x) k
  meets (then n b) (Argues x next) k = over (Argues x next) k
  meets (then n b) Falls k = begin b k
  meets (then n b) (Returns x) k = over (Returns x) k
  meets (then n b) Breaks k = over Breaks k
  meets (then n b) Continues k = over Continues k
  meets (loop n a b) (Gives x) k = over (Gives x) k
  meets (loop n a b) (Argues x next) k = over (Argues x next) k
  meets (loop n a b) Falls k = under (wait n (guarding a b)) a k
  meets (loop n a b) (Returns x) k = over (Returns x) k
  meets (loop n a b) Breaks k = over Falls k
  meets (loop n a b) Continues k = under (wait n (guarding a b)) a k
  meets (calling n g xs) (Gives x) k = over (Gives x) k
  meets (calling n g xs) (Argues x next) k = argued n g (xs ++ x ∷ []) next k
  meets (calling n g xs) Falls k = over Falls k
  meets (calling n g xs) (Returns x) k = over (Returns x) k
  meets (calling n g xs) Breaks k = over Breaks k
  meets (calling n g xs) Continues k = over Continues k
  meets (running n) (Gives x) k = over (Gives x) k
  meets (running n) (Argues x next) k = over (Argues x next) k
  meets (running n) Falls k = over Falls k
  meets (running n) (Returns None) k = over Falls k
  meets (running n) (Returns (Some x)) k = over (Gives x) k
  meets (running n) Breaks k = over Breaks k
  meets (running n) Continues k = over Continues k

  -- the driver does a move, and alone writes lines
  abbrev pub drive : List Frame → (Signal ℕ → Shown → Kept → Config) → Shown → Move → Config
  drive fs up s (begin n k) = at n fs s k
  drive fs up s (under f n k) = at n (f ∷ fs) s k
  drive fs up s (over z k) = up z s k
  drive fs up s (line kind n t w z k) = let c = up z (written kind n t w s) k in cond (full s) (done LinesFull s k) c
  drive fs up s (stop o k) = done o s k

  -- the end of a node goes up to the frames
  unfoldable pub pass : List Frame → Signal ℕ → Shown → Kept → Config
  pass [] z s k = done Finished s k
  pass (f ∷ fs) z s k = drive fs (pass fs) s (meets f z k)

  -- a node begins, which spends a step
  unfoldable pub turn : Config → Config
  turn (at n fs s k) = drive fs (pass fs) (tick s) (begins n (node_of e n) k)
  turn (done o s k) = done o s k

  unfoldable pub run : ℕ → Config → Config
  run zero c = c
  run (suc n) c = run n (turn c)
