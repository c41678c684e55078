-- The natural semantics of the language: how a node ends, rule by rule, from a state and with steps left to spend. Assumes nothing.
-- An ending is how a node is over, with the steps that are left then; or that the run stops in it: out of steps, at a zero divisor or at its last line.
use Rattle.std.specs.Prelude.{◌≡◌, ℕ, zero, suc, Bool, true, false, cond, List, [], ◌∷◌, ◌++◌, Some, None, Option, ◌==◌}
use Rattle.words.specs.Operators.{minus_word, not_word}
use Rattle.words.specs.declared.types.Arithmetic.{Arithmetic as Calculation}
use Rattle.words.specs.declared.types.Comparison.{Comparison as Order}
use Rattle.words.specs.declared.types.DataType.{DataType}
use Rattle.program.specs.declared.records.Node.{Node}
use Rattle.program.specs.declared.records.Node.TheVariants.{Constant, Variable, Minus, Not, Arithmetic, Comparison, And as AndNode, Or as OrNode, Choice, Assignment, Call, Argument, Release, Expression, Sequence, If, IfElse, While, DoWhile, Return, ReturnVoid, Break, Continue, Definition, Output}
use Rattle.typing.specs.Environment.{Environment, level_of}
use Rattle.semantics.specs.State.{Shown, Kept, tick, full, written, word_in, plain_word, settled, settling, result, working, working_both, decides, plain_result, held_result, holds, cell, stored, level_at, node_of, procedure, figure_type, result_level, entered}
use Rattle.semantics.specs.declared.lines.LineKind.{LineKind}
use Rattle.semantics.specs.declared.lines.LineKind.TheVariants.{Release as ReleaseLine, Output as OutputLine}
use Rattle.semantics.specs.declared.lines.Outcome.{Outcome}
use Rattle.semantics.specs.declared.lines.Outcome.TheVariants.{More, ZeroDivisor, LinesFull}
use Rattle.semantics.specs.declared.values.Operator.{Operator}
use Rattle.semantics.specs.declared.values.Operator.TheVariants.{Arithmetic as Calculates, Comparison as Compares, And, Or}
use Rattle.semantics.specs.declared.values.Value.{Value}
use Rattle.semantics.specs.declared.values.Value.TheVariants.{Plain, Held}
use Rattle.semantics.specs.declared.values.Signal.{Signal}
use Rattle.semantics.specs.declared.values.Signal.TheVariants.{Gives, Argues, Falls, Returns, Breaks, Continues}

pub data Ending : Type 0 where
  ends : Signal ℕ → Shown → Kept → ℕ → Ending
  stops : Outcome → Shown → Kept → Ending

-- what follows a value; any other ending stands
abbrev pub on_value : Ending → (Value ℕ → Shown → Kept → ℕ → Ending) → Ending
on_value (ends (Gives x) s k l) f = f x s k l
on_value (ends (Argues x next) s k l) f = ends (Argues x next) s k l
on_value (ends Falls s k l) f = ends Falls s k l
on_value (ends (Returns x) s k l) f = ends (Returns x) s k l
on_value (ends Breaks s k l) f = ends Breaks s k l
on_value (ends Continues s k l) f = ends Continues s k l
on_value (stops o s k) f = stops o s k

-- whether a node gave a value, fell through, or ended as an argument
abbrev pub gives : Ending → Bool
gives (ends (Gives x) s k l) = true
gives (ends (Argues x next) s k l) = false
gives (ends Falls s k l) = false
gives (ends (Returns x) s k l) = false
gives (ends Breaks s k l) = false
gives (ends Continues s k l) = false
gives (stops o s k) = false

abbrev pub falls : Ending → Bool
falls (ends (Gives x) s k l) = false
falls (ends (Argues x next) s k l) = false
falls (ends Falls s k l) = true
falls (ends (Returns x) s k l) = false
falls (ends Breaks s k l) = false
falls (ends Continues s k l) = false
falls (stops o s k) = false

abbrev pub argues : Ending → Bool
argues (ends (Gives x) s k l) = false
argues (ends (Argues x next) s k l) = true
argues (ends Falls s k l) = false
argues (ends (Returns x) s k l) = false
argues (ends Breaks s k l) = false
argues (ends Continues s k l) = false
argues (stops o s k) = false

-- the end of a procedure, as the end of its call
abbrev pub called : Ending → Ending
called (ends (Gives x) s k l) = ends (Gives x) s k l
called (ends (Argues x next) s k l) = ends (Argues x next) s k l
called (ends Falls s k l) = ends Falls s k l
called (ends (Returns None) s k l) = ends Falls s k l
called (ends (Returns (Some x)) s k l) = ends (Gives x) s k l
called (ends Breaks s k l) = ends Breaks s k l
called (ends Continues s k l) = ends Continues s k l
called (stops o s k) = stops o s k

-- whether a loop goes on after its body, and how it ends where it does not
abbrev pub goes_on : Ending → Bool
goes_on (ends (Gives x) s k l) = false
goes_on (ends (Argues x next) s k l) = false
goes_on (ends Falls s k l) = true
goes_on (ends (Returns x) s k l) = false
goes_on (ends Breaks s k l) = false
goes_on (ends Continues s k l) = true
goes_on (stops o s k) = false

abbrev pub left : Ending → Ending
left (ends (Gives x) s k l) = ends (Gives x) s k l
left (ends (Argues x next) s k l) = ends (Argues x next) s k l
left (ends Falls s k l) = ends Falls s k l
left (ends (Returns x) s k l) = ends (Returns x) s k l
left (ends Breaks s k l) = ends Falls s k l
left (ends Continues s k l) = ends Continues s k l
left (stops o s k) = stops o s k

-- a line is written, unless 256 stand
abbrev pub lined : LineKind → ℕ → DataType → ℕ → Signal ℕ → Shown → Kept → ℕ → Ending
lined kind n t w z s k l = cond (full s) (stops LinesFull s k) (ends z (written kind n t w s) k l)

-- the word of an operator at level 0, or a zero divisor
abbrev pub plainly : Option ℕ → Shown → Kept → ℕ → Ending
plainly None s k l = stops ZeroDivisor s k
plainly (Some w) s k l = ends (Gives (Plain w)) s k l

module _ (e : Environment) where
  -- the operator of node n on two operands that have run
  abbrev pub combined : ℕ → Operator → Value ℕ → Value ℕ → Shown → Kept → ℕ → Ending
  combined n o x y s k l =
      cond (level_of e n == 0) (plainly (plain_result o (plain_word x) (plain_word y)) s k l)
      (ends (Gives (Held (held_result o (word_in x) (word_in y)))) s (working_both (level_of e n) x y k) l)

  mutual
    -- node n, which is the third argument's, from a state and with steps left
    pub data Runs : ℕ → Node → Shown → Kept → ℕ → Ending → Type 0 where
      -- no node begins without a step
      cut : {n : ℕ} {x : Node} {s : Shown} {k : Kept} → Runs n x s k zero (stops More s k)
      constant : {n w l : ℕ} {t : DataType} {s : Shown} {k : Kept} → Runs n (Constant t w) s k (suc l) (ends (Gives (Plain w)) (tick s) k l)
      variable : {n v l : ℕ} {s : Shown} {k : Kept} → Runs n (Variable v) s k (suc l) (ends (Gives (cell v k)) (tick s) k l)
      minus : {n a l : ℕ} {s : Shown} {k : Kept} {r : Ending} → Runs a (node_of e a) (tick s) k l r → Runs n (Minus a) s k (suc l) (on_value r (λ x s k l. ends (Gives (result (level_of e n) (minus_word (plain_word x)) (minus_word (word_in x)))) s (working (level_of e n) x k) l))
      not : {n a l : ℕ} {s : Shown} {k : Kept} {r : Ending} → Runs a (node_of e a) (tick s) k l r → Runs n (Not a) s k (suc l) (on_value r (λ x s k l. ends (Gives (result (level_of e n) (not_word (plain_word x)) (not_word (word_in x)))) s (working (level_of e n) x k) l))
      arithmetic : {n a b l : ℕ} {o : Calculation} {s : Shown} {k : Kept} {r : Ending} → Operates n (Calculates o (figure_type e a)) a b (tick s) k l r → Runs n (Arithmetic o a b) s k (suc l) r
      comparison : {n a b l : ℕ} {o : Order} {s : Shown} {k : Kept} {r : Ending} → Operates n (Compares o (figure_type e a)) a b (tick s) k l r → Runs n (Comparison o a b) s k (suc l) r
      and : {n a b l : ℕ} {s : Shown} {k : Kept} {r : Ending} → Operates n And a b (tick s) k l r → Runs n (AndNode a b) s k (suc l) r
      or : {n a b l : ℕ} {s : Shown} {k : Kept} {r : Ending} → Operates n Or a b (tick s) k l r → Runs n (OrNode a b) s k (suc l) r
      -- a choice runs its condition, and then one arm
      choice : {n a b c l m : ℕ} {x : Value ℕ} {s t : Shown} {k j : Kept} {r : Ending} → Runs a (node_of e a) (tick s) k l (ends (Gives x) t j m) → Runs (cond (holds x) b c) (node_of e (cond (holds x) b c)) t j m r → Runs n (Choice a b c) s k (suc l) (on_value r (λ y s k l. ends (Gives (settled (level_of e n) y)) s (settling (level_of e n) y k) l))
      choice_stays : {n a b c l : ℕ} {s : Shown} {k : Kept} {r : Ending} → Runs a (node_of e a) (tick s) k l r → gives r ≡ false → Runs n (Choice a b c) s k (suc l) r
      assignment : {n v b l : ℕ} {s : Shown} {k : Kept} {r : Ending} → Runs b (node_of e b) (tick s) k l r → Runs n (Assignment v b) s k (suc l) (on_value r (λ x s k l. ends (Gives (settled (level_at e v) x)) s (stored v (level_at e v) x k) l))
      call : {n g l : ℕ} {f : Option ℕ} {s : Shown} {k : Kept} {r : Ending} → Passes g f [] (tick s) k l r → Runs n (Call g f) s k (suc l) r
      argument : {n a l : ℕ} {next : Option ℕ} {s : Shown} {k : Kept} {r : Ending} → Runs a (node_of e a) (tick s) k l r → Runs n (Argument a next) s k (suc l) (on_value r (λ x s k l. ends (Argues x next) s k l))
      -- a release shows the word that it releases
      release : {n a l : ℕ} {s : Shown} {k : Kept} {r : Ending} → Runs a (node_of e a) (tick s) k l r → Runs n (Release a) s k (suc l) (on_value r (λ x s k l. lined ReleaseLine n (figure_type e a) (word_in x) (Gives (Plain (word_in x))) s k l))
      -- a value that an expression statement has is dropped; a void call falls through
      expression : {n a l : ℕ} {s : Shown} {k : Kept} {r : Ending} → Runs a (node_of e a) (tick s) k l r → Runs n (Expression a) s k (suc l) (on_value r (λ x s k l. ends Falls s k l))
      sequence : {n a b l m : ℕ} {s t : Shown} {k j : Kept} {r : Ending} → Runs a (node_of e a) (tick s) k l (ends Falls t j m) → Runs b (node_of e b) t j m r → Runs n (Sequence a b) s k (suc l) r
      sequence_leaves : {n a b l : ℕ} {s : Shown} {k : Kept} {r : Ending} → Runs a (node_of e a) (tick s) k l r → falls r ≡ false → Runs n (Sequence a b) s k (suc l) r
      if : {n a b l m : ℕ} {x : Value ℕ} {s t : Shown} {k j : Kept} {r : Ending} → Runs a (node_of e a) (tick s) k l (ends (Gives x) t j m) → holds x ≡ true → Runs b (node_of e b) t j m r → Runs n (If a b) s k (suc l) r
      if_not : {n a b l m : ℕ} {x : Value ℕ} {s t : Shown} {k j : Kept} → Runs a (node_of e a) (tick s) k l (ends (Gives x) t j m) → holds x ≡ false → Runs n (If a b) s k (suc l) (ends Falls t j m)
      if_stays : {n a b l : ℕ} {s : Shown} {k : Kept} {r : Ending} → Runs a (node_of e a) (tick s) k l r → gives r ≡ false → Runs n (If a b) s k (suc l) r
      if_else : {n a b c l m : ℕ} {x : Value ℕ} {s t : Shown} {k j : Kept} {r : Ending} → Runs a (node_of e a) (tick s) k l (ends (Gives x) t j m) → Runs (cond (holds x) b c) (node_of e (cond (holds x) b c)) t j m r → Runs n (IfElse a b c) s k (suc l) r
      if_else_stays : {n a b c l : ℕ} {s : Shown} {k : Kept} {r : Ending} → Runs a (node_of e a) (tick s) k l r → gives r ≡ false → Runs n (IfElse a b c) s k (suc l) r
      -- a loop begins once, its guard and its body every round
      while : {n a b l : ℕ} {s : Shown} {k : Kept} {r : Ending} → Rounds a b (tick s) k l r → Runs n (While a b) s k (suc l) r
      do_while : {n a b l : ℕ} {s : Shown} {k : Kept} {r : Ending} → Bodies a b (tick s) k l r → Runs n (DoWhile a b) s k (suc l) r
      return : {n a l : ℕ} {s : Shown} {k : Kept} {r : Ending} → Runs a (node_of e a) (tick s) k l r → Runs n (Return a) s k (suc l) (on_value r (λ x s k l. ends (Returns (Some (settled (result_level e n) x))) s (settling (result_level e n) x k) l))
      return_void : {n l : ℕ} {s : Shown} {k : Kept} → Runs n ReturnVoid s k (suc l) (ends (Returns None) (tick s) k l)
      break : {n l : ℕ} {s : Shown} {k : Kept} → Runs n Break s k (suc l) (ends Breaks (tick s) k l)
      continue : {n l : ℕ} {s : Shown} {k : Kept} → Runs n Continue s k (suc l) (ends Continues (tick s) k l)
      definition : {n v l : ℕ} {s : Shown} {k : Kept} → Runs n (Definition v) s k (suc l) (ends Falls (tick s) (stored v (level_at e v) (Plain 0) k) l)
      output : {n a l : ℕ} {s : Shown} {k : Kept} {r : Ending} → Runs a (node_of e a) (tick s) k l r → Runs n (Output a) s k (suc l) (on_value r (λ x s k l. lined OutputLine n (figure_type e a) (plain_word x) Falls s k l))

    -- the operator of node n on the operands a and b, left to right; the second is skipped where the first decides
    pub data Operates : ℕ → Operator → ℕ → ℕ → Shown → Kept → ℕ → Ending → Type 0 where
      both : {n a b l m : ℕ} {o : Operator} {x : Value ℕ} {s t : Shown} {k j : Kept} {r : Ending} → Runs a (node_of e a) s k l (ends (Gives x) t j m) → decides o x ≡ false → Runs b (node_of e b) t j m r → Operates n o a b s k l (on_value r (λ y s k l. combined n o x y s k l))
      skips : {n a b l m : ℕ} {o : Operator} {x : Value ℕ} {s t : Shown} {k j : Kept} → Runs a (node_of e a) s k l (ends (Gives x) t j m) → decides o x ≡ true → Operates n o a b s k l (ends (Gives (settled (level_of e n) x)) t (settling (level_of e n) x j) m)
      stays : {n a b l : ℕ} {o : Operator} {s : Shown} {k : Kept} {r : Ending} → Runs a (node_of e a) s k l r → gives r ≡ false → Operates n o a b s k l r

    -- the rounds of a loop, from its guard a on, and from its body b on
    pub data Rounds : ℕ → ℕ → Shown → Kept → ℕ → Ending → Type 0 where
      holds_on : {a b l m : ℕ} {x : Value ℕ} {s t : Shown} {k j : Kept} {r : Ending} → Runs a (node_of e a) s k l (ends (Gives x) t j m) → holds x ≡ true → Bodies a b t j m r → Rounds a b s k l r
      fails : {a b l m : ℕ} {x : Value ℕ} {s t : Shown} {k j : Kept} → Runs a (node_of e a) s k l (ends (Gives x) t j m) → holds x ≡ false → Rounds a b s k l (ends Falls t j m)
      guard_stays : {a b l : ℕ} {s : Shown} {k : Kept} {r : Ending} → Runs a (node_of e a) s k l r → gives r ≡ false → Rounds a b s k l r

    pub data Bodies : ℕ → ℕ → Shown → Kept → ℕ → Ending → Type 0 where
      again : {a b l m : ℕ} {z : Signal ℕ} {s t : Shown} {k j : Kept} {r : Ending} → Runs b (node_of e b) s k l (ends z t j m) → goes_on (ends z t j m) ≡ true → Rounds a b t j m r → Bodies a b s k l r
      leaves : {a b l : ℕ} {s : Shown} {k : Kept} {r : Ending} → Runs b (node_of e b) s k l r → goes_on r ≡ false → Bodies a b s k l (left r)

    -- the arguments of a call of procedure g from the first on, after the values so far, and then its body
    pub data Passes : ℕ → Option ℕ → List (Value ℕ) → Shown → Kept → ℕ → Ending → Type 0 where
      passes : {g n l m : ℕ} {next : Option ℕ} {x : Value ℕ} {xs : List (Value ℕ)} {s t : Shown} {k j : Kept} {r : Ending} → Runs n (node_of e n) s k l (ends (Argues x next) t j m) → Passes g next (xs ++ x ∷ []) t j m r → Passes g (Some n) xs s k l r
      argument_stays : {g n l : ℕ} {xs : List (Value ℕ)} {s : Shown} {k : Kept} {r : Ending} → Runs n (node_of e n) s k l r → argues r ≡ false → Passes g (Some n) xs s k l r
      enters : {g l : ℕ} {xs : List (Value ℕ)} {s : Shown} {k : Kept} {r : Ending} → Runs (procedure e g).body (node_of e (procedure e g).body) s (entered e g xs k) l r → Passes g None xs s k l (called r)
