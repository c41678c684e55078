-- Two runs of a well-typed program that an observer cannot tell apart: they stand at the same node, and differ only in figures whose level does not flow into the observer's.
use Rattle.std.proofs.Common.{◌≡◌, ℕ, true, List, [], ◌∷◌, ◌++◌, Some, None, Option}
use Rattle.words.specs.declared.types.DataType.{DataType}
use Rattle.words.specs.declared.types.DataType.TheVariants.{Bool as Boolean}
use Rattle.levels.specs.Rules.{Rules}
use Rattle.program.specs.Program.{Program}
use Rattle.program.specs.declared.records.Node.TheVariants.{Argument}
use Rattle.program.specs.declared.records.Variable.{Variable}
use Rattle.typing.specs.Environment.{level_of}
use Rattle.typing.specs.Formed.{Belongs}
use Rattle.typing.specs.Typing.{NodeIs, VariableIs, ProcedureIs, parameters_of, Expression, Arguments, VoidCall, Statement}
use Rattle.typing.specs.declared.classes.Exits.{Exits}
use Rattle.semantics.specs.State.{Shown, Kept, result_level, procedure}
use Rattle.semantics.specs.Fitting.{environment_of}
use Rattle.semantics.specs.Machine.{Frame, wait, then, loop, calling, running, Move, begin, under, over, line, stop, Config, at, done, shown, Want, negating, inverting, first, second, choosing, chosen, assigning, arguing, releasing, outputting, discarding, branching, branching_else, guarding, returning}
use Rattle.semantics.specs.Parting.{Parts}
use Rattle.semantics.specs.declared.lines.LineKind.TheVariants.{Release as ReleaseLine, Output as OutputLine}
use Rattle.semantics.specs.declared.lines.Outcome.{Outcome}
use Rattle.semantics.specs.declared.values.Operator.{Operator}
use Rattle.semantics.specs.declared.values.Signal.{Signal}
use Rattle.semantics.specs.declared.values.Signal.TheVariants.{Gives, Argues, Falls, Returns, Breaks, Continues}
use Rattle.semantics.specs.declared.values.Value.{Value}
use Rattle.semantics.specs.declared.values.Value.TheVariants.{Plain}
use Rattle.semantics.proofs.Agreeing.{Agree, Alike, Taken}

-- what a frame stands above: an expression of a level, a call of a void procedure, an argument with its level and the one after it, or a statement of a procedure
pub data Part : Type 0 where
  figure : ℕ → Part
  nothing : Part
  passing : ℕ → Option ℕ → Part
  statement : ℕ → Part

-- an end without a figure
abbrev pub Bare : Signal ℕ → Type 0
Bare (Gives x) = ⊥
Bare (Argues x next) = ⊥
Bare Falls = Unit {0}
Bare (Returns None) = Unit {0}
Bare (Returns (Some x)) = ⊥
Bare Breaks = Unit {0}
Bare Continues = Unit {0}

module _ (r : Rules) (o : ℕ) (p : Program) where
  -- two ends of one part
  pub data Ends : Part → Signal ℕ → Signal ℕ → Type 0 where
    e_gives : {l : ℕ} {x y : Value ℕ} → Agree r o l x y → Ends (figure l) (Gives x) (Gives y)
    e_argues : {l : ℕ} {next : Option ℕ} {x y : Value ℕ} → Agree r o l x y → Ends (passing l next) (Argues x next) (Argues y next)
    e_returns : {q : ℕ} {t : DataType} {x y : Value ℕ} → (procedure (environment_of r p) q).result ≡ Some t → Agree r o (procedure (environment_of r p) q).level x y → Ends (statement q) (Returns (Some x)) (Returns (Some y))
    e_bare : {a : Part} (z : Signal ℕ) → Bare z → Ends a z z

  -- node n begins a part
  pub data Begins : Part → ℕ → Type 0 where
    b_figure : {q n l : ℕ} {t : DataType} → Expression r p q n t l → Begins (figure l) n
    b_void : {q n : ℕ} → VoidCall r p q n → Begins nothing n
    b_argument : {q n a l : ℕ} {next : Option ℕ} {t : DataType} → NodeIs p n (Argument a next) → Expression r p q a t l → Begins (passing l next) n
    b_statement : {q n : ℕ} {x : Exits} → Statement r p q n x → Belongs p q n → Begins (statement q) n

  -- a call of procedure g, as a part
  pub data Called : ℕ → Part → Type 0 where
    c_result : {g : ℕ} {t : DataType} → (procedure (environment_of r p) g).result ≡ Some t → Called g (figure (procedure (environment_of r p) g).level)
    c_void : {g : ℕ} → (procedure (environment_of r p) g).result ≡ None → Called g nothing

  -- node n, which is the second part, waits for a value of the first
  pub data Waits : Part → Part → ℕ → Want → Want → Type 0 where
    w_minus : {n l : ℕ} → level_of (environment_of r p) n ≡ l → Waits (figure l) (figure l) n negating negating
    w_not : {n l : ℕ} → level_of (environment_of r p) n ≡ l → Waits (figure l) (figure l) n inverting inverting
    w_first : {n q b l m : ℕ} {f : Operator} {t : DataType} → level_of (environment_of r p) n ≡ r.joint l m → r.is_level l ≡ true → r.is_level m ≡ true → Expression r p q b t m → Waits (figure l) (figure (r.joint l m)) n (first f b) (first f b)
    w_second : {n l m : ℕ} {f : Operator} {x y : Value ℕ} → level_of (environment_of r p) n ≡ r.joint l m → r.is_level l ≡ true → r.is_level m ≡ true → Agree r o l x y → Waits (figure m) (figure (r.joint l m)) n (second f x) (second f y)
    w_choosing : {n q b c l m : ℕ} {t : DataType} → level_of (environment_of r p) n ≡ r.joint l m → r.is_level l ≡ true → r.is_level m ≡ true → Expression r p q b t l → Expression r p q c t m → Waits (figure 0) (figure (r.joint l m)) n (choosing b c) (choosing b c)
    w_chosen : {n l m : ℕ} → level_of (environment_of r p) n ≡ m → r.flows l m ≡ true → Waits (figure l) (figure m) n chosen chosen
    w_assigning : {n v l : ℕ} {x : Variable} → VariableIs p v x → r.flows l x.level ≡ true → Waits (figure l) (figure x.level) n (assigning v) (assigning v)
    w_arguing : {n l : ℕ} {next : Option ℕ} → Waits (figure l) (passing l next) n (arguing next) (arguing next)
    w_releasing : {n l : ℕ} {t : DataType} → Waits (figure l) (figure 0) n (releasing t) (releasing t)
    w_outputting : {n q : ℕ} {t : DataType} → Waits (figure 0) (statement q) n (outputting t) (outputting t)
    w_discarding : {n q l : ℕ} → Waits (figure l) (statement q) n discarding discarding
    w_void : {n q : ℕ} → Waits nothing (statement q) n discarding discarding
    w_branching : {n q b : ℕ} {x : Exits} → Statement r p q b x → Belongs p q b → Waits (figure 0) (statement q) n (branching b) (branching b)
    w_branching_else : {n q b c : ℕ} {x y : Exits} → Statement r p q b x → Belongs p q b → Statement r p q c y → Belongs p q c → Waits (figure 0) (statement q) n (branching_else b c) (branching_else b c)
    w_guarding : {n q a b : ℕ} {x : Exits} → Expression r p q a Boolean 0 → Statement r p q b x → Belongs p q b → Waits (figure 0) (statement q) n (guarding a b) (guarding a b)
    w_returning : {n q l : ℕ} {t : DataType} → (procedure (environment_of r p) q).result ≡ Some t → result_level (environment_of r p) n ≡ (procedure (environment_of r p) q).level → r.flows l (procedure (environment_of r p) q).level ≡ true → Waits (figure l) (statement q) n returning returning

  -- a frame above the first part is of the second
  pub data Above : Part → Part → Frame → Frame → Type 0 where
    a_wait : {a b : Part} {n : ℕ} {w v : Want} → Waits a b n w v → Above a b (wait n w) (wait n v)
    a_then : {n q b : ℕ} {x : Exits} → Statement r p q b x → Belongs p q b → Above (statement q) (statement q) (then n b) (then n b)
    a_loop : {n q a b : ℕ} {x : Exits} → Expression r p q a Boolean 0 → Statement r p q b x → Belongs p q b → Above (statement q) (statement q) (loop n a b) (loop n a b)
    a_calling : {n g q l : ℕ} {c : Part} {next : Option ℕ} {xs ys : List (Value ℕ)} (d : Variable) (ds rest : List Variable) → Called g c → ProcedureIs p g (procedure (environment_of r p) g) → parameters_of p (procedure (environment_of r p) g) ≡ ds ++ d ∷ rest → Taken r o ds xs ys → r.flows l d.level ≡ true → Arguments r p q next rest → Above (passing l next) c (calling n g xs) (calling n g ys)
    a_running : {n g : ℕ} {c : Part} → Called g c → Above (statement g) c (running n) (running n)

  pub data Stack : Part → List Frame → List Frame → Type 0 where
    bottom : {a : Part} → Stack a [] []
    on : {a b : Part} {f g : Frame} {fs gs : List Frame} → Above a b f g → Stack b fs gs → Stack a (f ∷ fs) (g ∷ gs)

  -- two moves of one part
  pub data Moves : Part → Move → Move → Type 0 where
    m_begin : {a : Part} {n : ℕ} {k j : Kept} → Begins a n → Alike r o p k j → Moves a (begin n k) (begin n j)
    m_under : {a b : Part} {n : ℕ} {f g : Frame} {k j : Kept} → Above a b f g → Begins a n → Alike r o p k j → Moves b (under f n k) (under g n j)
    m_over : {a : Part} {z y : Signal ℕ} {k j : Kept} → Ends a z y → Alike r o p k j → Moves a (over z k) (over y j)
    m_output : {q n w : ℕ} {t : DataType} {k j : Kept} → Alike r o p k j → Moves (statement q) (line OutputLine n t w Falls k) (line OutputLine n t w Falls j)
    m_release : {n w v : ℕ} {t : DataType} {k j : Kept} → Alike r o p k j → Moves (figure 0) (line ReleaseLine n t w (Gives (Plain w)) k) (line ReleaseLine n t v (Gives (Plain v)) j)
    m_stop : {a : Part} {u : Outcome} {k j : Kept} → Alike r o p k j → Moves a (stop u k) (stop u j)

  -- the observer sees the same of two runs
  pub data Low : Config → Config → Type 0 where
    low_at : {a : Part} {n : ℕ} {fs gs : List Frame} {s : Shown} {k j : Kept} → Begins a n → Stack a fs gs → Alike r o p k j → Low (at n fs s k) (at n gs s j)
    low_done : {u : Outcome} {s : Shown} {k j : Kept} → Alike r o p k j → Low (done u s k) (done u s j)

  -- and goes on to, or their lines part at a release
  pub data Seen (c d : Config) : Type 0 where
    same : Low c d → Seen c d
    parted : (i : ℕ) → Parts i (shown c).lines (shown d).lines → Seen c d
