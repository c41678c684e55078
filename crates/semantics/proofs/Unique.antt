-- The natural semantics gives one ending.
use Rattle.std.proofs.Common.{◌≡◌, ℕ, Bool, true, false, cond, List, [], ◌∷◌, ◌++◌, Option, sym, refl, ap, ◌∙◌, subst, true≢false}
use Rattle.program.specs.declared.records.Node.{Node}
use Rattle.typing.specs.Environment.{Environment, level_of}
use Rattle.semantics.specs.State.{Shown, Kept, settled, settling, decides, holds, node_of}
use Rattle.semantics.specs.Natural.{Ending, ends, stops, on_value, gives, falls, argues, called, goes_on, left, combined, Runs, cut, constant, variable, minus, not, arithmetic, comparison, and, or, choice, choice_stays, assignment, call, argument, release, expression, sequence, sequence_leaves, if, if_not, if_stays, if_else, if_else_stays, while, do_while, return, return_void, break, continue, definition, output, Operates, both, skips, stays, Rounds, holds_on, fails, guard_stays, Bodies, again, leaves, Passes, passes, argument_stays, enters}
use Rattle.semantics.specs.declared.values.Operator.{Operator}
use Rattle.semantics.specs.declared.values.Value.{Value}
use Rattle.semantics.specs.declared.values.Signal.TheVariants.{Gives, Argues, Falls, Returns, Breaks, Continues}

-- what holds of an ending, where it is a value; where it falls; where it is an argument; where it ends at all
AfterValue : (Value ℕ → Shown → Kept → ℕ → Type 0) → Ending → Type 0
AfterValue P (ends (Gives x) s k l) = P x s k l
AfterValue P (ends (Argues x next) s k l) = Unit {0}
AfterValue P (ends Falls s k l) = Unit {0}
AfterValue P (ends (Returns x) s k l) = Unit {0}
AfterValue P (ends Breaks s k l) = Unit {0}
AfterValue P (ends Continues s k l) = Unit {0}
AfterValue P (stops o s k) = Unit {0}

AfterArgument : (Value ℕ → Option ℕ → Shown → Kept → ℕ → Type 0) → Ending → Type 0
AfterArgument P (ends (Gives x) s k l) = Unit {0}
AfterArgument P (ends (Argues x next) s k l) = P x next s k l
AfterArgument P (ends Falls s k l) = Unit {0}
AfterArgument P (ends (Returns x) s k l) = Unit {0}
AfterArgument P (ends Breaks s k l) = Unit {0}
AfterArgument P (ends Continues s k l) = Unit {0}
AfterArgument P (stops o s k) = Unit {0}

AfterEnd : (Shown → Kept → ℕ → Type 0) → Ending → Type 0
AfterEnd P (ends z s k l) = P s k l
AfterEnd P (stops o s k) = Unit {0}

followed : (g : Value ℕ → Shown → Kept → ℕ → Ending) {r q : Ending} → r ≡ q → on_value r g ≡ on_value q g
followed g i = ap (λ r. on_value r g) i

-- the same state, fallen through
fallen : Ending → Ending
fallen (ends z s k l) = ends Falls s k l
fallen (stops o s k) = stops o s k

-- a value is no other ending, and so on
unlike : (f : Ending → Bool) {r q : Ending} {A : Type 0} → f r ≡ true → r ≡ q → f q ≡ false → A
unlike f t i u = absurd (true≢false (sym t ∙ ap f i ∙ u))

module _ (e : Environment) where
  mutual
    unfolding AfterValue AfterArgument AfterEnd fallen

    pub one_ending : {n l : ℕ} {x : Node} {s : Shown} {k : Kept} {r q : Ending} → Runs e n x s k l r → Runs e n x s k l q → r ≡ q
    one_ending cut cut = refl
    one_ending constant constant = refl
    one_ending variable variable = refl
    one_ending (minus h) (minus i) = followed _ (one_ending h i)
    one_ending (not h) (not i) = followed _ (one_ending h i)
    one_ending (arithmetic h) (arithmetic i) = one_operation h i
    one_ending (comparison h) (comparison i) = one_operation h i
    one_ending (and h) (and i) = one_operation h i
    one_ending (or h) (or i) = one_operation h i
    one_ending (choice {b = b} {c = c} {r = r} h j) (choice {r = q} i g) =
        followed _ (one_ending j (subst (AfterValue (λ x s k l. Runs e (cond (holds x) b c) (node_of e (cond (holds x) b c)) s k l q)) (sym (one_ending h i)) g))
    one_ending (choice h j) (choice_stays i g) = unlike gives refl (one_ending h i) g
    one_ending (choice_stays h j) (choice i g) = unlike gives refl (sym (one_ending h i)) j
    one_ending (choice_stays h j) (choice_stays i g) = one_ending h i
    one_ending (assignment h) (assignment i) = followed _ (one_ending h i)
    one_ending (call h) (call i) = one_passing h i
    one_ending (argument h) (argument i) = followed _ (one_ending h i)
    one_ending (release h) (release i) = followed _ (one_ending h i)
    one_ending (expression h) (expression i) = followed _ (one_ending h i)
    one_ending (sequence {b = b} h j) (sequence {r = q} i g) = one_ending j (subst (AfterEnd (λ s k l. Runs e b (node_of e b) s k l q)) (sym (one_ending h i)) g)
    one_ending (sequence h j) (sequence_leaves i g) = unlike falls refl (one_ending h i) g
    one_ending (sequence_leaves h j) (sequence i g) = unlike falls refl (sym (one_ending h i)) j
    one_ending (sequence_leaves h j) (sequence_leaves i g) = one_ending h i
    one_ending (if {b = b} h t j) (if {r = q} i u g) = one_ending j (subst (AfterValue (λ x s k l. Runs e b (node_of e b) s k l q)) (sym (one_ending h i)) g)
    one_ending (if h t j) (if_not i u) = absurd (true≢false (sym t ∙ subst (AfterValue (λ x s k l. holds x ≡ false)) (sym (one_ending h i)) u))
    one_ending (if h t j) (if_stays i g) = unlike gives refl (one_ending h i) g
    one_ending (if_not h t) (if i u g) = absurd (true≢false (sym (subst (AfterValue (λ x s k l. holds x ≡ true)) (sym (one_ending h i)) u) ∙ t))
    one_ending (if_not h t) (if_not i u) = ap fallen (one_ending h i)
    one_ending (if_not h t) (if_stays i g) = unlike gives refl (one_ending h i) g
    one_ending (if_stays h j) (if i u g) = unlike gives refl (sym (one_ending h i)) j
    one_ending (if_stays h j) (if_not i u) = unlike gives refl (sym (one_ending h i)) j
    one_ending (if_stays h j) (if_stays i g) = one_ending h i
    one_ending (if_else {b = b} {c = c} h j) (if_else {r = q} i g) =
        one_ending j (subst (AfterValue (λ x s k l. Runs e (cond (holds x) b c) (node_of e (cond (holds x) b c)) s k l q)) (sym (one_ending h i)) g)
    one_ending (if_else h j) (if_else_stays i g) = unlike gives refl (one_ending h i) g
    one_ending (if_else_stays h j) (if_else i g) = unlike gives refl (sym (one_ending h i)) j
    one_ending (if_else_stays h j) (if_else_stays i g) = one_ending h i
    one_ending (while h) (while i) = one_rounds h i
    one_ending (do_while h) (do_while i) = one_bodies h i
    one_ending (return h) (return i) = followed _ (one_ending h i)
    one_ending return_void return_void = refl
    one_ending break break = refl
    one_ending continue continue = refl
    one_ending definition definition = refl
    one_ending (output h) (output i) = followed _ (one_ending h i)

    one_operation : {n a b l : ℕ} {o : Operator} {s : Shown} {k : Kept} {r q : Ending} → Operates e n o a b s k l r → Operates e n o a b s k l q → r ≡ q
    one_operation {n = n} {o = o} (both {b = b} {x = x} {r = r} h d j) (both {r = q} i f g) =
        subst (AfterValue (λ y s k l. (p : Ending) → Runs e b (node_of e b) s k l p → on_value r (λ z s k l. combined e n o x z s k l) ≡ on_value p (λ z s k l. combined e n o y z s k l)))
        (one_ending h i) (λ p c. ap (λ r. on_value r (λ z s k l. combined e n o x z s k l)) (one_ending j c)) q g
    one_operation {o = o} (both h d j) (skips i f) = absurd (true≢false (sym f ∙ subst (AfterValue (λ x s k l. decides o x ≡ false)) (one_ending h i) d))
    one_operation (both h d j) (stays i f) = unlike gives refl (one_ending h i) f
    one_operation {o = o} (skips h d) (both i f g) = absurd (true≢false (sym d ∙ subst (AfterValue (λ x s k l. decides o x ≡ false)) (sym (one_ending h i)) f))
    one_operation {n = n} (skips h d) (skips i f) = ap (λ r. on_value r (λ x s k l. ends (Gives (settled (level_of e n) x)) s (settling (level_of e n) x k) l)) (one_ending h i)
    one_operation (skips h d) (stays i f) = unlike gives refl (one_ending h i) f
    one_operation (stays h d) (both i f g) = unlike gives refl (sym (one_ending h i)) d
    one_operation (stays h d) (skips i f) = unlike gives refl (sym (one_ending h i)) d
    one_operation (stays h d) (stays i f) = one_ending h i

    one_rounds : {a b l : ℕ} {s : Shown} {k : Kept} {r q : Ending} → Rounds e a b s k l r → Rounds e a b s k l q → r ≡ q
    one_rounds (holds_on {a = a} {b = b} h t j) (holds_on {r = q} i u g) = one_bodies j (subst (AfterValue (λ x s k l. Bodies e a b s k l q)) (sym (one_ending h i)) g)
    one_rounds (holds_on h t j) (fails i u) = absurd (true≢false (sym t ∙ subst (AfterValue (λ x s k l. holds x ≡ false)) (sym (one_ending h i)) u))
    one_rounds (holds_on h t j) (guard_stays i u) = unlike gives refl (one_ending h i) u
    one_rounds (fails h t) (holds_on i u g) = absurd (true≢false (sym (subst (AfterValue (λ x s k l. holds x ≡ true)) (sym (one_ending h i)) u) ∙ t))
    one_rounds (fails h t) (fails i u) = ap fallen (one_ending h i)
    one_rounds (fails h t) (guard_stays i u) = unlike gives refl (one_ending h i) u
    one_rounds (guard_stays h t) (holds_on i u g) = unlike gives refl (sym (one_ending h i)) t
    one_rounds (guard_stays h t) (fails i u) = unlike gives refl (sym (one_ending h i)) t
    one_rounds (guard_stays h t) (guard_stays i u) = one_ending h i

    one_bodies : {a b l : ℕ} {s : Shown} {k : Kept} {r q : Ending} → Bodies e a b s k l r → Bodies e a b s k l q → r ≡ q
    one_bodies (again {a = a} {b = b} h t j) (again {r = q} i u g) = one_rounds j (subst (AfterEnd (λ s k l. Rounds e a b s k l q)) (sym (one_ending h i)) g)
    one_bodies (again h t j) (leaves i u) = unlike goes_on t (one_ending h i) u
    one_bodies (leaves h t) (again i u g) = unlike goes_on u (sym (one_ending h i)) t
    one_bodies (leaves h t) (leaves i u) = ap left (one_ending h i)

    one_passing : {g l : ℕ} {f : Option ℕ} {xs : List (Value ℕ)} {s : Shown} {k : Kept} {r q : Ending} → Passes e g f xs s k l r → Passes e g f xs s k l q → r ≡ q
    one_passing (passes {g = g} {xs = xs} h j) (passes {r = q} i f) = one_passing j (subst (AfterArgument (λ x next s k l. Passes e g next (xs ++ x ∷ []) s k l q)) (sym (one_ending h i)) f)
    one_passing (passes h j) (argument_stays i f) = unlike argues refl (one_ending h i) f
    one_passing (argument_stays h j) (passes i f) = unlike argues refl (sym (one_ending h i)) j
    one_passing (argument_stays h j) (argument_stays i f) = one_ending h i
    one_passing (enters h) (enters i) = ap called (one_ending h i)
