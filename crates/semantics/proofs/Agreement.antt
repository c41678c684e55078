-- The machine comes where the natural semantics says.
use Rattle.std.proofs.Common.{◌≡◌, ℕ, zero, suc, Bool, true, false, cond, eqb, List, ◌∷◌, Some, None, Option, sym, refl, ap, ◌∙◌, true≢false}
use Rattle.words.specs.declared.types.DataType.{DataType}
use Rattle.program.specs.declared.records.Node.{Node}
use Rattle.typing.specs.Environment.{Environment, level_of}
use Rattle.semantics.specs.State.{Shown, Kept, tick, full, written, word_in, plain_word, plain_result, held_result, working_both, node_of, figure_type}
use Rattle.semantics.specs.Machine.{Frame, wait, then, loop, calling, running, Move, begin, over, line, Config, at, done, argued, begins, got, got_both, meets, drive, pass, turn, run, Want, negating, inverting, first, second, choosing, chosen, assigning, arguing, releasing, outputting, discarding, branching, branching_else, guarding, returning}
use Rattle.semantics.specs.Machine as machine
use Rattle.semantics.specs.Natural.{Ending, ends, stops, on_value, gives, falls, argues, called, goes_on, left, lined, plainly, combined, Runs, cut, constant, variable, minus, not, arithmetic, comparison, and, or, choice, choice_stays, assignment, call, argument, release, expression, sequence, sequence_leaves, if, if_not, if_stays, if_else, if_else_stays, while, do_while, return, return_void, break, continue, definition, output, Operates, both, skips, stays, Rounds, holds_on, fails, guard_stays, Bodies, again, leaves, Passes, passes, argument_stays, enters}
use Rattle.semantics.specs.declared.lines.LineKind.{LineKind}
use Rattle.semantics.specs.declared.lines.Outcome.{Outcome}
use Rattle.semantics.specs.declared.lines.Outcome.TheVariants.{More, LinesFull}
use Rattle.semantics.specs.declared.values.Operator.{Operator}
use Rattle.semantics.specs.declared.values.Value.{Value}
use Rattle.semantics.specs.declared.values.Value.TheVariants.{Plain, Held}
use Rattle.semantics.specs.declared.values.Signal.{Signal}
use Rattle.semantics.specs.declared.values.Signal.TheVariants.{Gives, Argues, Falls, Returns, Breaks, Continues}

-- where a run stands that has stopped: a node is about to begin, or it is over
pub data Halts : Outcome → Shown → Kept → Config → Type 0 where
  before_node : {n : ℕ} {fs : List Frame} {s : Shown} {k : Kept} → Halts More s k (at n fs s k)
  at_end : {o : Outcome} {s : Shown} {k : Kept} → Halts o s k (done o s k)

module _ (e : Environment) where
  -- l turns from c come where m turns from d come
  pub record To (l : ℕ) (c : Config) (m : ℕ) (d : Config) : Type 0 where
    pub same : run e l c ≡ run e m d

  infixr 5 ◌onward◌
  ◌onward◌ : {l m n : ℕ} {c d f : Config} → To l c m d → To m d n f → To l c n f
  ◌onward◌ g h = record { same = g.same ∙ h.same }

  here : {l : ℕ} {c : Config} → To l c l c
  here = record { same = refl }

  abbrev pub act : List Frame → Shown → Move → Config
  act fs s m = drive e fs (pass e fs) s m

  -- l turns from c, below the frames fs, come to an ending
  pub data Reaches (l : ℕ) (c : Config) (fs : List Frame) : Ending → Type 0 where
    reach : {z : Signal ℕ} {m : ℕ} {s : Shown} {k : Kept} → To l c m (pass e fs z s k) → Reaches l c fs (ends z s k m)
    halt : {o : Outcome} {s : Shown} {k : Kept} {d : Config} → To l c zero d → Halts o s k d → Reaches l c fs (stops o s k)

  to : {l m : ℕ} {z : Signal ℕ} {c : Config} {fs : List Frame} {s : Shown} {k : Kept} → Reaches l c fs (ends z s k m) → To l c m (pass e fs z s k)
  to (reach f) = f

  from : {l m : ℕ} {c d : Config} {fs : List Frame} {r : Ending} → To l c m d → Reaches m d fs r → Reaches l c fs r
  from f (reach g) = reach (f onward g)
  from f (halt g h) = halt (f onward g) h

  pub over_stays : (l : ℕ) {o : Outcome} {s : Shown} {k : Kept} → To l (done o s k) zero (done o s k)
  unfolding run turn
  over_stays zero = here
  over_stays (suc l) = record { same = (over_stays l).same }

  begun : {n l : ℕ} {fs : List Frame} {s : Shown} {k : Kept} (x : Node) → node_of e n ≡ x → To (suc l) (at n fs s k) l (act fs (tick s) (begins e n x k))
  unfolding run turn
  begun {n} {l} {fs} {s} {k} x i = record { same = ap (λ (y : Node). run e l (act fs (tick s) (begins e n y k))) i }

  -- a test that came out so
  taken : {l : ℕ} (fs : List Frame) (s : Shown) (b : Bool) (m m' : Move) → b ≡ true → To l (act fs s (cond b m m')) l (act fs s m)
  taken {l} fs s b m m' i = record { same = ap (λ (c : Bool). run e l (act fs s (cond c m m'))) i }

  skipped : {l : ℕ} (fs : List Frame) (s : Shown) (b : Bool) (m m' : Move) → b ≡ false → To l (act fs s (cond b m m')) l (act fs s m')
  skipped {l} fs s b m m' i = record { same = ap (λ (c : Bool). run e l (act fs s (cond c m m'))) i }

  -- a node that waits for a value lets any other ending pass
  waited : {l n : ℕ} {c : Config} {w : Want} {fs : List Frame} {r : Ending} (g : Value ℕ → Shown → Kept → ℕ → Ending) → Reaches l c (wait n w ∷ fs) r → ((x : Value ℕ) (s : Shown) (k : Kept) (m : ℕ) → Reaches m (act fs s (got e n w x k)) fs (g x s k m)) → Reaches l c fs (on_value r g)
  unfolding pass meets
  waited g (reach {z = Gives x} {m} {s} {k} f) h = from f (h x s k m)
  waited g (reach {z = Argues x next} f) h = reach f
  waited g (reach {z = Falls} f) h = reach f
  waited g (reach {z = Returns x} f) h = reach f
  waited g (reach {z = Breaks} f) h = reach f
  waited g (reach {z = Continues} f) h = reach f
  waited g (halt f i) h = halt f i

  unmet : {l n : ℕ} {c : Config} {w : Want} {fs : List Frame} {r : Ending} → Reaches l c (wait n w ∷ fs) r → gives r ≡ false → Reaches l c fs r
  unfolding pass meets
  unmet (reach {z = Gives x} f) i = absurd (true≢false i)
  unmet (reach {z = Argues x next} f) i = reach f
  unmet (reach {z = Falls} f) i = reach f
  unmet (reach {z = Returns x} f) i = reach f
  unmet (reach {z = Breaks} f) i = reach f
  unmet (reach {z = Continues} f) i = reach f
  unmet (halt f j) i = halt f j

  unfallen : {l n b : ℕ} {c : Config} {fs : List Frame} {r : Ending} → Reaches l c (then n b ∷ fs) r → falls r ≡ false → Reaches l c fs r
  unfolding pass meets
  unfallen (reach {z = Gives x} f) i = reach f
  unfallen (reach {z = Argues x next} f) i = reach f
  unfallen (reach {z = Falls} f) i = absurd (true≢false i)
  unfallen (reach {z = Returns x} f) i = reach f
  unfallen (reach {z = Breaks} f) i = reach f
  unfallen (reach {z = Continues} f) i = reach f
  unfallen (halt f j) i = halt f j

  unargued : {l n g : ℕ} {xs : List (Value ℕ)} {c : Config} {fs : List Frame} {r : Ending} → Reaches l c (calling n g xs ∷ fs) r → argues r ≡ false → Reaches l c fs r
  unfolding pass meets
  unargued (reach {z = Gives x} f) i = reach f
  unargued (reach {z = Argues x next} f) i = absurd (true≢false i)
  unargued (reach {z = Falls} f) i = reach f
  unargued (reach {z = Returns x} f) i = reach f
  unargued (reach {z = Breaks} f) i = reach f
  unargued (reach {z = Continues} f) i = reach f
  unargued (halt f j) i = halt f j

  loop_left : {l n a b : ℕ} {c : Config} {fs : List Frame} {r : Ending} → Reaches l c (loop n a b ∷ fs) r → goes_on r ≡ false → Reaches l c fs (left r)
  unfolding pass meets
  loop_left (reach {z = Gives x} f) i = reach f
  loop_left (reach {z = Argues x next} f) i = reach f
  loop_left (reach {z = Falls} f) i = absurd (true≢false i)
  loop_left (reach {z = Returns x} f) i = reach f
  loop_left (reach {z = Breaks} f) i = reach f
  loop_left (reach {z = Continues} f) i = absurd (true≢false i)
  loop_left (halt f j) i = halt f j

  looped : {l n a b m : ℕ} {c : Config} {fs : List Frame} {z : Signal ℕ} {s : Shown} {k : Kept} → Reaches l c (loop n a b ∷ fs) (ends z s k m) → goes_on (ends z s k m) ≡ true → To l c m (at a (wait n (guarding a b) ∷ fs) s k)
  unfolding pass meets
  looped (reach {z = Gives x} f) i = absurd (true≢false (sym i))
  looped (reach {z = Argues x next} f) i = absurd (true≢false (sym i))
  looped (reach {z = Falls} f) i = f
  looped (reach {z = Returns x} f) i = absurd (true≢false (sym i))
  looped (reach {z = Breaks} f) i = absurd (true≢false (sym i))
  looped (reach {z = Continues} f) i = f

  returned : {l n : ℕ} {c : Config} {fs : List Frame} {r : Ending} → Reaches l c (running n ∷ fs) r → Reaches l c fs (called r)
  unfolding pass meets
  returned (reach {z = Gives x} f) = reach f
  returned (reach {z = Argues x next} f) = reach f
  returned (reach {z = Falls} f) = reach f
  returned (reach {z = Returns None} f) = reach f
  returned (reach {z = Returns (Some x)} f) = reach f
  returned (reach {z = Breaks} f) = reach f
  returned (reach {z = Continues} f) = reach f
  returned (halt f j) = halt f j

  line_reaches : {l : ℕ} (fs : List Frame) (kind : LineKind) (n : ℕ) (t : DataType) (w : ℕ) (z : Signal ℕ) (s : Shown) (k : Kept) → Reaches l (act fs s (line kind n t w z k)) fs (lined kind n t w z s k l)
  line_reaches {l} fs kind n t w z s k = by (full s)
    where
      by : (b : Bool) → Reaches l (cond b (done LinesFull s k) (pass e fs z (written kind n t w s) k)) fs (cond b (stops LinesFull s k) (ends z (written kind n t w s) k l))
      by true = halt (over_stays l) at_end
      by false = reach here

  combined_reaches : {l : ℕ} (fs : List Frame) (n : ℕ) (o : Operator) (x y : Value ℕ) (s : Shown) (k : Kept) → Reaches l (act fs s (got_both e n o x y k)) fs (combined e n o x y s k l)
  combined_reaches {l} fs n o x y s k = by (eqb (level_of e n) 0) (plain_result o (plain_word x) (plain_word y))
    where
      by : (b : Bool) (u : Option ℕ) → Reaches l (act fs s (cond b (machine.plainly u k) (over (Gives (Held (held_result o (word_in x) (word_in y)))) (working_both (level_of e n) x y k)))) fs (cond b (plainly u s k l) (ends (Gives (Held (held_result o (word_in x) (word_in y)))) s (working_both (level_of e n) x y k) l))
      by true None = halt (over_stays l) at_end
      by true (Some w) = reach here
      by false u = reach here

  mutual
    unfolding begins got pass meets

    pub agrees : {n l : ℕ} {x : Node} {s : Shown} {k : Kept} {r : Ending} → Runs e n x s k l r → node_of e n ≡ x → (fs : List Frame) → Reaches l (at n fs s k) fs r
    agrees cut i fs = halt here before_node
    agrees constant i fs = reach (begun _ i)
    agrees variable i fs = reach (begun _ i)
    agrees {n = n} (minus h) i fs = from (begun _ i) (waited _ (agrees h refl (wait n negating ∷ fs)) (λ x s k m. reach here))
    agrees {n = n} (not h) i fs = from (begun _ i) (waited _ (agrees h refl (wait n inverting ∷ fs)) (λ x s k m. reach here))
    agrees (arithmetic h) i fs = from (begun _ i) (operates_agrees h fs)
    agrees (comparison h) i fs = from (begun _ i) (operates_agrees h fs)
    agrees (and h) i fs = from (begun _ i) (operates_agrees h fs)
    agrees (or h) i fs = from (begun _ i) (operates_agrees h fs)
    agrees {n = n} (choice {b = b} {c = c} h j) i fs =
        from (begun _ i onward to (agrees h refl (wait n (choosing b c) ∷ fs))) (waited _ (agrees j refl (wait n chosen ∷ fs)) (λ x s k m. reach here))
    agrees {n = n} (choice_stays {b = b} {c = c} h j) i fs = from (begun _ i) (unmet (agrees h refl (wait n (choosing b c) ∷ fs)) j)
    agrees {n = n} (assignment {v = v} h) i fs = from (begun _ i) (waited _ (agrees h refl (wait n (assigning v) ∷ fs)) (λ x s k m. reach here))
    agrees {n = n} (call h) i fs = from (begun _ i) (passes_agrees h n fs)
    agrees {n = n} (argument {next = next} h) i fs = from (begun _ i) (waited _ (agrees h refl (wait n (arguing next) ∷ fs)) (λ x s k m. reach here))
    agrees {n = n} (release {a = a} h) i fs =
        from (begun _ i) (waited _ (agrees h refl (wait n (releasing (figure_type e a)) ∷ fs)) (λ x s k m. line_reaches fs _ n (figure_type e a) (word_in x) (Gives (Plain (word_in x))) s k))
    agrees {n = n} (expression h) i fs = from (begun _ i) (waited _ (agrees h refl (wait n discarding ∷ fs)) (λ x s k m. reach here))
    agrees {n = n} (sequence {b = b} h j) i fs = from (begun _ i onward to (agrees h refl (then n b ∷ fs))) (agrees j refl fs)
    agrees {n = n} (sequence_leaves {b = b} h j) i fs = from (begun _ i) (unfallen (agrees h refl (then n b ∷ fs)) j)
    agrees {n = n} (if {b = b} h t j) i fs = from (begun _ i onward to (agrees h refl (wait n (branching b) ∷ fs)) onward taken fs _ _ _ _ t) (agrees j refl fs)
    agrees {n = n} (if_not {b = b} h t) i fs = reach (begun _ i onward to (agrees h refl (wait n (branching b) ∷ fs)) onward skipped fs _ _ _ _ t)
    agrees {n = n} (if_stays {b = b} h j) i fs = from (begun _ i) (unmet (agrees h refl (wait n (branching b) ∷ fs)) j)
    agrees {n = n} (if_else {b = b} {c = c} h j) i fs = from (begun _ i onward to (agrees h refl (wait n (branching_else b c) ∷ fs))) (agrees j refl fs)
    agrees {n = n} (if_else_stays {b = b} {c = c} h j) i fs = from (begun _ i) (unmet (agrees h refl (wait n (branching_else b c) ∷ fs)) j)
    agrees {n = n} (while h) i fs = from (begun _ i) (rounds_agree h n fs)
    agrees {n = n} (do_while h) i fs = from (begun _ i) (bodies_agree h n fs)
    agrees {n = n} (return h) i fs = from (begun _ i) (waited _ (agrees h refl (wait n returning ∷ fs)) (λ x s k m. reach here))
    agrees return_void i fs = reach (begun _ i)
    agrees break i fs = reach (begun _ i)
    agrees continue i fs = reach (begun _ i)
    agrees definition i fs = reach (begun _ i)
    agrees {n = n} (output {a = a} h) i fs =
        from (begun _ i) (waited _ (agrees h refl (wait n (outputting (figure_type e a)) ∷ fs)) (λ x s k m. line_reaches fs _ n (figure_type e a) (plain_word x) Falls s k))

    operates_agrees : {n a b l : ℕ} {o : Operator} {s : Shown} {k : Kept} {r : Ending} → Operates e n o a b s k l r → (fs : List Frame) → Reaches l (at a (wait n (first o b) ∷ fs) s k) fs r
    operates_agrees (both {n = n} {b = b} {o = o} {x = x} h d j) fs =
        from (to (agrees h refl (wait n (first o b) ∷ fs)) onward skipped fs _ _ _ _ d) (waited _ (agrees j refl (wait n (second o x) ∷ fs)) (λ y s k m. combined_reaches fs n o x y s k))
    operates_agrees (skips {n = n} {b = b} {o = o} h d) fs = reach (to (agrees h refl (wait n (first o b) ∷ fs)) onward taken fs _ _ _ _ d)
    operates_agrees (stays {n = n} {b = b} {o = o} h j) fs = unmet (agrees h refl (wait n (first o b) ∷ fs)) j

    rounds_agree : {a b l : ℕ} {s : Shown} {k : Kept} {r : Ending} → Rounds e a b s k l r → (n : ℕ) (fs : List Frame) → Reaches l (at a (wait n (guarding a b) ∷ fs) s k) fs r
    rounds_agree (holds_on {a = a} {b = b} h t j) n fs = from (to (agrees h refl (wait n (guarding a b) ∷ fs)) onward taken fs _ _ _ _ t) (bodies_agree j n fs)
    rounds_agree (fails {a = a} {b = b} h t) n fs = reach (to (agrees h refl (wait n (guarding a b) ∷ fs)) onward skipped fs _ _ _ _ t)
    rounds_agree (guard_stays {a = a} {b = b} h j) n fs = unmet (agrees h refl (wait n (guarding a b) ∷ fs)) j

    bodies_agree : {a b l : ℕ} {s : Shown} {k : Kept} {r : Ending} → Bodies e a b s k l r → (n : ℕ) (fs : List Frame) → Reaches l (at b (loop n a b ∷ fs) s k) fs r
    bodies_agree (again {a = a} {b = b} h t j) n fs = from (looped (agrees h refl (loop n a b ∷ fs)) t) (rounds_agree j n fs)
    bodies_agree (leaves {a = a} {b = b} h j) n fs = loop_left (agrees h refl (loop n a b ∷ fs)) j

    passes_agrees : {g l : ℕ} {f : Option ℕ} {xs : List (Value ℕ)} {s : Shown} {k : Kept} {r : Ending} → Passes e g f xs s k l r → (n : ℕ) (fs : List Frame) → Reaches l (act fs s (argued e n g xs f k)) fs r
    passes_agrees (passes {g = g} {xs = xs} h j) n fs = from (to (agrees h refl (calling n g xs ∷ fs))) (passes_agrees j n fs)
    passes_agrees (argument_stays {g = g} {xs = xs} h j) n fs = unargued (agrees h refl (calling n g xs ∷ fs)) j
    passes_agrees (enters h) n fs = returned (agrees h refl (running n ∷ fs))
