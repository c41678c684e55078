-- Sessions: what each call answers, and where it leaves the session. Assumes nothing.
use Rattle.std.specs.Prelude.{ℕ, ◌+◌, ◌-◌, Bool, true, false, cond, ◌&&◌, List, [], ◌∷◌, length, replicate, Some, None, Ok, Err, Option, Result, nat_lt, slice_index_or, slice_set}
use Rattle.words.specs.Operators.{truth, bit}
use Rattle.words.specs.declared.types.DataType.{DataType}
use Rattle.words.specs.declared.types.DataType.TheVariants.{Bool as Boolean, Int, Unsigned}
use Rattle.levels.specs.Rules.{Rules}
use Rattle.holding.specs.declared.shares.Counts.{Counts}
use Rattle.program.specs.declared.records.Role.{Role}
use Rattle.program.specs.declared.records.Role.TheVariants.{Global, Input, Local, Parameter}
use Rattle.program.specs.declared.records.Variable.{Variable}
use Rattle.typing.specs.Environment.{Environment, variable_at}
use Rattle.semantics.specs.Machine.{Config, at, shown, kept, outcome, run}
use Rattle.semantics.specs.Opening.{unset, zeroed, main}
use Rattle.semantics.specs.State.{Kept, word_in, cell, stored, level_at, cleared, procedure}
use Rattle.semantics.specs.declared.calls.Answer.{Answer}
use Rattle.semantics.specs.declared.calls.Answer.TheVariants.{Ran as RanAnswer, Line as LineAnswer, Word, Refused}
use Rattle.semantics.specs.declared.calls.KeyRefusal.{KeyRefusal}
use Rattle.semantics.specs.declared.calls.KeyRefusal.TheVariants.{NotAnInput, KeyedAlready}
use Rattle.semantics.specs.declared.calls.Keying.{Keying}
use Rattle.semantics.specs.declared.calls.Request.{Request}
use Rattle.semantics.specs.declared.calls.Request.TheVariants.{Run, Line as LineRequest, Look}
use Rattle.semantics.specs.declared.calls.RequestRefusal.TheVariants.{TooManySteps, NoLevel, NoVariable, NotAllowed, NoLine}
use Rattle.semantics.specs.declared.lines.Line.{Line}
use Rattle.semantics.specs.declared.lines.LineKind.TheVariants.{Output}
use Rattle.semantics.specs.declared.lines.Outcome.{Outcome}
use Rattle.semantics.specs.declared.lines.Outcome.TheVariants.{More, Finished, ZeroDivisor, LinesFull}
use Rattle.semantics.specs.declared.values.Value.TheVariants.{Plain}

-- ---- before the start

-- which variables are keyed, and what is kept
pub record Unstarted : Type 0 where
  pub keyed : List Bool
  pub kept : Kept

-- no variable is keyed, and every cell is 0
abbrev pub unstarted : Environment → Counts → Unstarted
unstarted e c = record { keyed = replicate 128 false; kept = zeroed 0 e.variables (unset c) }

abbrev pub is_input : Role → Bool
is_input Global = false
is_input Input = true
is_input (Local q) = false
is_input (Parameter q) = false

abbrev pub input_at : Option Variable → Bool
input_at None = false
input_at (Some x) = is_input x.role

-- the word that is keyed: of a bool 1 for any but 0
abbrev pub typed_word : DataType → ℕ → ℕ
typed_word Boolean w = bit (truth w)
typed_word Int w = w
typed_word Unsigned w = w

abbrev pub keyed_word : Option Variable → ℕ → ℕ
keyed_word None w = w
keyed_word (Some x) w = typed_word x.data_type w

module _ (e : Environment) where
  abbrev pub key_answer : Unstarted → Keying → Result Unit KeyRefusal
  key_answer u x =
      cond (input_at (variable_at e x.variable)) (cond (slice_index_or u.keyed x.variable false) (Err KeyedAlready) (Ok tt)) (Err NotAnInput)

  -- the cell of an input is set, put in if it is held
  abbrev pub with_key : Unstarted → Keying → Unstarted
  with_key u x =
      let v = x.variable in
      record { keyed = slice_set u.keyed v true; kept = stored v (level_at e v) (Plain (keyed_word (variable_at e v) x.word)) u.kept }

  abbrev pub key_after : Unstarted → Keying → Unstarted
  key_after u x = cond (input_at (variable_at e x.variable)) (cond (slice_index_or u.keyed x.variable false) u (with_key u x)) u

  unfoldable pub key_answers : Unstarted → List Keying → List (Result Unit KeyRefusal)
  key_answers u [] = []
  key_answers u (x ∷ xs) = key_answer u x ∷ key_answers (key_after u x) xs

  unfoldable pub keyed_all : Unstarted → List Keying → Unstarted
  keyed_all u [] = u
  keyed_all u (x ∷ xs) = keyed_all (key_after u x) xs

  -- main is called: its locals become 0, and no step is spent
  abbrev pub started : Unstarted → Config
  started u = at (procedure e (main e)).body [] (record { lines = []; spent = 0 }) (cleared (main e) 0 e.variables u.kept)

-- ---- after the start

abbrev pub goes_on : Outcome → Bool
goes_on More = true
goes_on Finished = false
goes_on ZeroDivisor = false
goes_on LinesFull = false

-- the steps of a session stay below 2^32
abbrev pub too_many : ℕ → Config → Bool
too_many n c = goes_on (outcome c) && nat_lt 4294967295 ((shown c).spent + n)

abbrev pub ran : Config → Config → Answer
ran c d = RanAnswer (record { spent = (shown d).spent - (shown c).spent; outcome = outcome d; lines = length (shown d).lines })

abbrev pub no_line : Line
no_line = record { kind = Output; node = 0; steps = 0; data_type = Boolean; word = 0 }

module _ (r : Rules) (e : Environment) where
  -- the level l looks at a variable
  abbrev pub looked : ℕ → Option Variable → ℕ → Answer
  looked l None w = Refused NoVariable
  looked l (Some x) w = cond (r.flows x.level l) (Word x.data_type w) (Refused NotAllowed)

  abbrev pub answer : Config → Request → Answer
  answer c (Run n) = cond (too_many n c) (Refused TooManySteps) (ran c (run e n c))
  answer c (LineRequest i) = cond (nat_lt i (length (shown c).lines)) (LineAnswer (slice_index_or (shown c).lines i no_line)) (Refused NoLine)
  answer c (Look l v) = cond (r.is_level l) (looked l (variable_at e v) (word_in (cell v (kept c)))) (Refused NoLevel)

  abbrev pub after : Config → Request → Config
  after c (Run n) = cond (too_many n c) c (run e n c)
  after c (LineRequest i) = c
  after c (Look l v) = c

  unfoldable pub answers : Config → List Request → List Answer
  answers c [] = []
  answers c (x ∷ xs) = answer c x ∷ answers (after c x) xs

  unfoldable pub finally : Config → List Request → Config
  finally c [] = c
  finally c (x ∷ xs) = finally (after c x) xs
