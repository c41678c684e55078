-- Every node, from every state and with any steps left, comes to an ending, with fewer steps left.
use Rattle.std.proofs.Common.{◌≡◌, ℕ, zero, suc, ◌<◌, ◌≤◌, Bool, true, false, cond, eqb, List, [], ◌∷◌, ◌++◌, Some, None, Option, refl, le_refl, not-suc-le-zero, arith as sums}
use Rattle.words.specs.declared.types.DataType.{DataType}
use Rattle.program.specs.declared.records.Node.{Node}
use Rattle.program.specs.declared.records.Node.TheVariants.{Constant, Variable, Minus, Not, Arithmetic, Comparison, And as AndNode, Or as OrNode, Choice, Assignment, Call, Argument, Release, Expression, Sequence, If, IfElse, While, DoWhile, Return, ReturnVoid, Break, Continue, Definition, Output}
use Rattle.typing.specs.Environment.{Environment, level_of}
use Rattle.semantics.specs.State.{Shown, Kept, tick, full, written, word_in, plain_word, working_both, decides, plain_result, held_result, holds, node_of, procedure, figure_type, entered}
use Rattle.semantics.specs.Natural.{Ending, ends, stops, on_value, gives, falls, argues, called, goes_on, left, lined, plainly, combined, Runs, cut, constant, variable, minus, not, arithmetic, comparison, and, or, choice, choice_stays, assignment, call, argument, release, expression, sequence, sequence_leaves, if, if_not, if_stays, if_else, if_else_stays, while, do_while, return, return_void, break, continue, definition, output, Operates, both, skips, stays, Rounds, holds_on, fails, guard_stays, Bodies, again, leaves, Passes, passes, argument_stays, enters}
use Rattle.semantics.specs.declared.lines.LineKind.{LineKind}
use Rattle.semantics.specs.declared.lines.Outcome.{Outcome}
use Rattle.semantics.specs.declared.lines.Outcome.TheVariants.{LinesFull}
use Rattle.semantics.specs.declared.values.Operator.{Operator}
use Rattle.semantics.specs.declared.values.Operator.TheVariants.{Arithmetic as Calculates, Comparison as Compares, And, Or}
use Rattle.semantics.specs.declared.values.Value.{Value}
use Rattle.semantics.specs.declared.values.Value.TheVariants.{Held}
use Rattle.semantics.specs.declared.values.Signal.{Signal}
use Rattle.semantics.specs.declared.values.Signal.TheVariants.{Gives, Argues, Falls, Returns, Breaks, Continues}

-- an ending that leaves fewer than l steps
data Within (l : ℕ) : Ending → Type 0 where
  in_ends : {z : Signal ℕ} {s : Shown} {k : Kept} {m : ℕ} → m < l → Within l (ends z s k m)
  in_stops : {o : Outcome} {s : Shown} {k : Kept} → Within l (stops o s k)

more : {l m : ℕ} {r : Ending} → l ≤ m → Within l r → Within m r
more h (in_ends i) = in_ends (omega sums)
more h in_stops = in_stops

after_value : {l m : ℕ} {r : Ending} (g : Value ℕ → Shown → Kept → ℕ → Ending) → l ≤ m → Within l r → ((x : Value ℕ) (s : Shown) (k : Kept) (o : ℕ) → o < l → Within m (g x s k o)) → Within m (on_value r g)
after_value g h (in_ends {z = Gives x} i) f = f x _ _ _ i
after_value g h (in_ends {z = Argues x next} i) f = in_ends (omega sums)
after_value g h (in_ends {z = Falls} i) f = in_ends (omega sums)
after_value g h (in_ends {z = Returns x} i) f = in_ends (omega sums)
after_value g h (in_ends {z = Breaks} i) f = in_ends (omega sums)
after_value g h (in_ends {z = Continues} i) f = in_ends (omega sums)
after_value g h in_stops f = in_stops

after_call : {l : ℕ} {r : Ending} → Within l r → Within l (called r)
after_call (in_ends {z = Gives x} i) = in_ends i
after_call (in_ends {z = Argues x next} i) = in_ends i
after_call (in_ends {z = Falls} i) = in_ends i
after_call (in_ends {z = Returns None} i) = in_ends i
after_call (in_ends {z = Returns (Some x)} i) = in_ends i
after_call (in_ends {z = Breaks} i) = in_ends i
after_call (in_ends {z = Continues} i) = in_ends i
after_call in_stops = in_stops

after_loop : {l : ℕ} {r : Ending} → Within l r → Within l (left r)
after_loop (in_ends {z = Gives x} i) = in_ends i
after_loop (in_ends {z = Argues x next} i) = in_ends i
after_loop (in_ends {z = Falls} i) = in_ends i
after_loop (in_ends {z = Returns x} i) = in_ends i
after_loop (in_ends {z = Breaks} i) = in_ends i
after_loop (in_ends {z = Continues} i) = in_ends i
after_loop in_stops = in_stops

lined_within : {l m : ℕ} (kind : LineKind) (n : ℕ) (t : DataType) (w : ℕ) (z : Signal ℕ) (s : Shown) (k : Kept) → m < l → Within l (lined kind n t w z s k m)
lined_within {l} {m} kind n t w z s k i = by (full s)
  where
    by : (b : Bool) → Within l (cond b (stops LinesFull s k) (ends z (written kind n t w s) k m))
    by true = in_stops
    by false = in_ends i

module _ (e : Environment) where
  combined_within : {l m : ℕ} (n : ℕ) (o : Operator) (x y : Value ℕ) (s : Shown) (k : Kept) → m < l → Within l (combined e n o x y s k m)
  combined_within {l} {m} n o x y s k i = by (eqb (level_of e n) 0) (plain_result o (plain_word x) (plain_word y))
    where
      by : (b : Bool) (u : Option ℕ) → Within l (cond b (plainly u s k m) (ends (Gives (Held (held_result o (word_in x) (word_in y)))) s (working_both (level_of e n) x y k) m))
      by true None = in_stops
      by true (Some w) = in_ends i
      by false u = in_ends i

  data Ends (n : ℕ) (x : Node) (s : Shown) (k : Kept) (l : ℕ) : Type 0 where
    some : {r : Ending} → Runs e n x s k l r → Within l r → Ends n x s k l

  -- by what an ending is: a value, falling through, an argument, or a body after which the loop goes on
  by_value : {a l : ℕ} {y : Node} {s : Shown} {k : Kept} {B : Type 0} → Ends a y s k l → ((x : Value ℕ) (t : Shown) (j : Kept) (m : ℕ) → m < l → Runs e a y s k l (ends (Gives x) t j m) → B) → ((r : Ending) → Runs e a y s k l r → gives r ≡ false → Within l r → B) → B
  by_value (some {r = ends (Gives x) t j m} h (in_ends i)) f g = f x t j m i h
  by_value (some {r = ends (Argues x next) t j m} h i) f g = g _ h refl i
  by_value (some {r = ends Falls t j m} h i) f g = g _ h refl i
  by_value (some {r = ends (Returns x) t j m} h i) f g = g _ h refl i
  by_value (some {r = ends Breaks t j m} h i) f g = g _ h refl i
  by_value (some {r = ends Continues t j m} h i) f g = g _ h refl i
  by_value (some {r = stops o t j} h i) f g = g _ h refl i

  by_fall : {a l : ℕ} {y : Node} {s : Shown} {k : Kept} {B : Type 0} → Ends a y s k l → ((t : Shown) (j : Kept) (m : ℕ) → m < l → Runs e a y s k l (ends Falls t j m) → B) → ((r : Ending) → Runs e a y s k l r → falls r ≡ false → Within l r → B) → B
  by_fall (some {r = ends (Gives x) t j m} h i) f g = g _ h refl i
  by_fall (some {r = ends (Argues x next) t j m} h i) f g = g _ h refl i
  by_fall (some {r = ends Falls t j m} h (in_ends i)) f g = f t j m i h
  by_fall (some {r = ends (Returns x) t j m} h i) f g = g _ h refl i
  by_fall (some {r = ends Breaks t j m} h i) f g = g _ h refl i
  by_fall (some {r = ends Continues t j m} h i) f g = g _ h refl i
  by_fall (some {r = stops o t j} h i) f g = g _ h refl i

  by_argument : {a l : ℕ} {y : Node} {s : Shown} {k : Kept} {B : Type 0} → Ends a y s k l → ((x : Value ℕ) (next : Option ℕ) (t : Shown) (j : Kept) (m : ℕ) → m < l → Runs e a y s k l (ends (Argues x next) t j m) → B) → ((r : Ending) → Runs e a y s k l r → argues r ≡ false → Within l r → B) → B
  by_argument (some {r = ends (Gives x) t j m} h i) f g = g _ h refl i
  by_argument (some {r = ends (Argues x next) t j m} h (in_ends i)) f g = f x next t j m i h
  by_argument (some {r = ends Falls t j m} h i) f g = g _ h refl i
  by_argument (some {r = ends (Returns x) t j m} h i) f g = g _ h refl i
  by_argument (some {r = ends Breaks t j m} h i) f g = g _ h refl i
  by_argument (some {r = ends Continues t j m} h i) f g = g _ h refl i
  by_argument (some {r = stops o t j} h i) f g = g _ h refl i

  by_body : {a l : ℕ} {y : Node} {s : Shown} {k : Kept} {B : Type 0} → Ends a y s k l → ((z : Signal ℕ) (t : Shown) (j : Kept) (m : ℕ) → m < l → Runs e a y s k l (ends z t j m) → goes_on (ends z t j m) ≡ true → B) → ((r : Ending) → Runs e a y s k l r → goes_on r ≡ false → Within l r → B) → B
  by_body (some {r = ends (Gives x) t j m} h i) f g = g _ h refl i
  by_body (some {r = ends (Argues x next) t j m} h i) f g = g _ h refl i
  by_body (some {r = ends Falls t j m} h (in_ends i)) f g = f _ t j m i h refl
  by_body (some {r = ends (Returns x) t j m} h i) f g = g _ h refl i
  by_body (some {r = ends Breaks t j m} h i) f g = g _ h refl i
  by_body (some {r = ends Continues t j m} h (in_ends i)) f g = f _ t j m i h refl
  by_body (some {r = stops o t j} h i) f g = g _ h refl i

  by_test : {B : Type 0} (b : Bool) → (b ≡ true → B) → (b ≡ false → B) → B
  by_test true f g = f refl
  by_test false f g = g refl

  by_end : {a l : ℕ} {y : Node} {s : Shown} {k : Kept} {B : Type 0} → Ends a y s k l → ((r : Ending) → Runs e a y s k l r → Within l r → B) → B
  by_end (some h i) f = f _ h i

  -- the same of operators, loops and calls
  data Comes {X : Type 0} (Rel : X → ℕ → Ending → Type 0) (x : X) (l : ℕ) : Type 0 where
    comes : {r : Ending} → Rel x l r → Within l r → Comes Rel x l

  by_coming : {X : Type 0} {Rel : X → ℕ → Ending → Type 0} {x : X} {l : ℕ} {B : Type 0} → Comes Rel x l → ((r : Ending) → Rel x l r → Within l r → B) → B
  by_coming (comes h i) f = f _ h i

  abbrev Operators : ℕ × Operator × ℕ × ℕ × Shown × Kept → ℕ → Ending → Type 0
  Operators q l r = Operates e q.0 q.1 q.2 q.3 q.4 q.5 l r

  abbrev Loops : ℕ × ℕ × Shown × Kept → ℕ → Ending → Type 0
  Loops q l r = Rounds e q.0 q.1 q.2 q.3 l r

  abbrev LoopBodies : ℕ × ℕ × Shown × Kept → ℕ → Ending → Type 0
  LoopBodies q l r = Bodies e q.0 q.1 q.2 q.3 l r

  abbrev Calls : ℕ × Option ℕ × List (Value ℕ) × Shown × Kept → ℕ → Ending → Type 0
  Calls q l r = Passes e q.0 q.1 q.2 q.3 q.4 l r

  -- every node with at most l steps comes to an ending
  abbrev All : ℕ → Type 0
  All l = (m : ℕ) → m ≤ l → (n : ℕ) (s : Shown) (k : Kept) → Ends n (node_of e n) s k m

  module _ (l : ℕ) (all : All l) where
    operators : (n a b : ℕ) (o : Operator) (s : Shown) (k : Kept) → Comes Operators (n, o, a, b, s, k) l
    operators n a b o s k =
        by_value (all l (le_refl l) a s k)
        (λ x t j m i h.
        by_test (decides o x) (λ d. comes (skips h d) (in_ends i))
        (λ d. by_end (all m (omega sums) b t j) (λ r g w. comes (both h d g) (after_value _ (omega sums) w (λ y s k o' lt. combined_within n o x y s k (omega sums))))))
        (λ r h q w. comes (stays h q) w)

    -- d bounds the steps left
    loops : (d a b m : ℕ) (s : Shown) (k : Kept) → m ≤ l → m < d → Comes Loops (a, b, s, k) m
    loops zero a b m s k few lt = absurd (not-suc-le-zero lt)
    loops (suc d) a b m s k few lt =
        by_value (all m few a s k)
        (λ x t j o i h.
        by_test (holds x)
        (λ y.
        by_body (all o (omega sums) b t j)
        (λ z t' j' o' i' h' g. by_coming (loops d a b o' t' j' (omega sums) (omega sums)) (λ r f w. comes (holds_on h y (again h' g f)) (more (omega sums) w)))
        (λ r h' g w. comes (holds_on h y (leaves h' g)) (more (omega sums) (after_loop w))))
        (λ y. comes (fails h y) (in_ends i)))
        (λ r h g w. comes (guard_stays h g) w)

    loop_bodies : (a b : ℕ) (s : Shown) (k : Kept) → Comes LoopBodies (a, b, s, k) l
    loop_bodies a b s k =
        by_body (all l (le_refl l) b s k)
        (λ z t j m i h g. by_coming (loops l a b m t j (omega sums) (omega sums)) (λ r f w. comes (again h g f) (more (omega sums) w)))
        (λ r h g w. comes (leaves h g) (after_loop w))

    calls : (d g m : ℕ) (f : Option ℕ) (xs : List (Value ℕ)) (s : Shown) (k : Kept) → m ≤ l → m < d → Comes Calls (g, f, xs, s, k) m
    calls zero g m f xs s k few lt = absurd (not-suc-le-zero lt)
    calls (suc d) g m None xs s k few lt = by_end (all m few (procedure e g).body s (entered e g xs k)) (λ r h w. comes (enters h) (after_call w))
    calls (suc d) g m (Some n) xs s k few lt =
        by_argument (all m few n s k)
        (λ x next t j o i h. by_coming (calls d g o next (xs ++ x ∷ []) t j (omega sums) (omega sums)) (λ r f w. comes (passes h f) (more (omega sums) w)))
        (λ r h q w. comes (argument_stays h q) w)

    -- a node of one operand
    one : {n : ℕ} {y : Node} {s : Shown} {k : Kept} (a : ℕ) (g : Value ℕ → Shown → Kept → ℕ → Ending) → ((r : Ending) → Runs e a (node_of e a) (tick s) k l r → Runs e n y s k (suc l) (on_value r g)) → ((x : Value ℕ) (t : Shown) (j : Kept) (m : ℕ) → m < suc l → Within (suc l) (g x t j m)) → Ends n y s k (suc l)
    one {s = s} {k = k} a g rule within = by_end (all l (le_refl l) a (tick s) k) (λ r h w. some (rule r h) (after_value g (omega sums) w (λ x t j m lt. within x t j m (omega sums))))

    next_step : (n : ℕ) (y : Node) (s : Shown) (k : Kept) → Ends n y s k (suc l)
    next_step n (Constant t w) s k = some constant (in_ends (le_refl (suc l)))
    next_step n (Variable v) s k = some variable (in_ends (le_refl (suc l)))
    next_step n (Minus a) s k = one a _ (λ r. minus) (λ x t j m lt. in_ends lt)
    next_step n (Not a) s k = one a _ (λ r. not) (λ x t j m lt. in_ends lt)
    next_step n (Arithmetic o a b) s k = by_coming (operators n a b (Calculates o (figure_type e a)) (tick s) k) (λ r h w. some (arithmetic h) (more (omega sums) w))
    next_step n (Comparison o a b) s k = by_coming (operators n a b (Compares o (figure_type e a)) (tick s) k) (λ r h w. some (comparison h) (more (omega sums) w))
    next_step n (AndNode a b) s k = by_coming (operators n a b And (tick s) k) (λ r h w. some (and h) (more (omega sums) w))
    next_step n (OrNode a b) s k = by_coming (operators n a b Or (tick s) k) (λ r h w. some (or h) (more (omega sums) w))
    next_step n (Choice a b c) s k =
        by_value (all l (le_refl l) a (tick s) k)
        (λ x t j m i h. by_end (all m (omega sums) (cond (holds x) b c) t j) (λ r g w. some (choice h g) (after_value _ (omega sums) w (λ y s k o lt. in_ends (omega sums)))))
        (λ r h q w. some (choice_stays h q) (more (omega sums) w))
    next_step n (Assignment v b) s k = one b _ (λ r. assignment) (λ x t j m lt. in_ends lt)
    next_step n (Call g f) s k = by_coming (calls (suc l) g l f [] (tick s) k (le_refl l) (le_refl (suc l))) (λ r h w. some (call h) (more (omega sums) w))
    next_step n (Argument a next) s k = one a _ (λ r. argument) (λ x t j m lt. in_ends lt)
    next_step n (Release a) s k = one a _ (λ r. release) (λ x t j m lt. lined_within _ n (figure_type e a) (word_in x) _ t j lt)
    next_step n (Expression a) s k = one a _ (λ r. expression) (λ x t j m lt. in_ends lt)
    next_step n (Sequence a b) s k =
        by_fall (all l (le_refl l) a (tick s) k)
        (λ t j m i h. by_end (all m (omega sums) b t j) (λ r g w. some (sequence h g) (more (omega sums) w)))
        (λ r h q w. some (sequence_leaves h q) (more (omega sums) w))
    next_step n (If a b) s k =
        by_value (all l (le_refl l) a (tick s) k)
        (λ x t j m i h.
        by_test (holds x) (λ y. by_end (all m (omega sums) b t j) (λ r g w. some (if h y g) (more (omega sums) w)))
        (λ y. some (if_not h y) (in_ends (omega sums))))
        (λ r h q w. some (if_stays h q) (more (omega sums) w))
    next_step n (IfElse a b c) s k =
        by_value (all l (le_refl l) a (tick s) k)
        (λ x t j m i h. by_end (all m (omega sums) (cond (holds x) b c) t j) (λ r g w. some (if_else h g) (more (omega sums) w)))
        (λ r h q w. some (if_else_stays h q) (more (omega sums) w))
    next_step n (While a b) s k = by_coming (loops (suc l) a b l (tick s) k (le_refl l) (le_refl (suc l))) (λ r h w. some (while h) (more (omega sums) w))
    next_step n (DoWhile a b) s k = by_coming (loop_bodies a b (tick s) k) (λ r h w. some (do_while h) (more (omega sums) w))
    next_step n (Return a) s k = one a _ (λ r. return) (λ x t j m lt. in_ends lt)
    next_step n ReturnVoid s k = some return_void (in_ends (le_refl (suc l)))
    next_step n Break s k = some break (in_ends (le_refl (suc l)))
    next_step n Continue s k = some continue (in_ends (le_refl (suc l)))
    next_step n (Definition v) s k = some definition (in_ends (le_refl (suc l)))
    next_step n (Output a) s k = one a _ (λ r. output) (λ x t j m lt. lined_within _ n (figure_type e a) (plain_word x) _ t j lt)

  -- with at most l steps, by the steps
  up_to : (l : ℕ) → All l
  up_to zero zero few n s k = some cut in_stops
  up_to zero (suc m) few n s k = absurd (not-suc-le-zero few)
  up_to (suc l) zero few n s k = some cut in_stops
  up_to (suc l) (suc m) few n s k = next_step m (λ o lt. up_to l o (omega sums)) n (node_of e n) s k

  pub ending : (n l : ℕ) (s : Shown) (k : Kept) → (r : Ending) × Runs e n (node_of e n) s k l r
  ending n l s k = by_end (up_to l l (le_refl l) n s k) (λ r h w. (r, h))
