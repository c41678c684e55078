-- Searches, tables and tests over rising numbers: one number further, and what a whole one says of each number.
use Rattle.std.proofs.Common.{◌≡◌, ℕ, zero, suc, ◌+◌, ◌-◌, ◌*◌, ◌<◌, Bool, true, ◌&&◌, List, [], ◌∷◌, ◌++◌, length, get_or, drop, Some, None, Option, sym, refl, ap, ◌∙◌, subst, ⊎_elim, le_refl, le_of_suc-le-suc, not-suc-le-zero, suc-add, eq-or-lt_of_le, zero-add, mul-one, mul-add, add-one, arith, length-append, drop-drop}
use native.Mathlib.Nat.{le_step}
use lib.Seq.{get_or_at}
use Rattle.std.proofs.lemmas.List.{get_or_append_left}
use Rattle.std.proofs.Math.Bool.{and-true, and_assoc}
use Rattle.std.proofs.lemmas.Bool.{and_parts}
use Rattle.std.specs.List.{list_all, enumerate_from}
use Rattle.typing.specs.Faults.{all_below}
use Rattle.typing.specs.First.{or_else, first, table}

-- ---- searches

pub first_none : {X : Type 0} (f : ℕ → Option X) → first f 0 ≡ None
unfolding first
first_none f = refl

pub first_more : {X : Type 0} (f : ℕ → Option X) (i : ℕ) → first f i ≡ None → f i ≡ None → first f (i + 1) ≡ None
unfolding first
first_more f i before here = rw (add-one, before) here

first_kept : {X : Type 0} (f : ℕ → Option X) (x : X) (i d : ℕ) → first f i ≡ Some x → first f (d + i) ≡ Some x
unfolding first
first_kept f x i zero h = rw zero-add h
first_kept f x i (suc d) h = rw (suc-add, first_kept f x i d h)

pub first_found : {X : Type 0} (f : ℕ → Option X) (x : X) (i n : ℕ) → first f i ≡ None → f i ≡ Some x → i < n → first f n ≡ Some x
unfolding first
first_found f x i n before here lt =
    let found : first f (suc i) ≡ Some x = rw before here in
    let e : (n - suc i) + suc i ≡ n = omega arith in
    subst (λ (m : ℕ). first f m ≡ Some x) e (first_kept f x (suc i) (n - suc i) found)

pub first_same : {X : Type 0} (f g : ℕ → Option X) (n : ℕ) → ((k : ℕ) → k < n → f k ≡ g k) → first f n ≡ first g n
unfolding first
first_same f g zero h = refl
first_same f g (suc n) h = rw (first_same f g n (λ k lt. h k (le_step lt)), h n (le_refl (suc n)))

pub either_none : {X : Type 0} (a b : Option X) → or_else a b ≡ None → (a ≡ None) × (b ≡ None)
either_none None b h = (refl, h)
either_none (Some x) b h = let z : ◌≡◌ {A = ℕ} 0 1 = cc in absurd (omega arith)

pub none_at : {X : Type 0} (f : ℕ → Option X) (k n : ℕ) → first f n ≡ None → k < n → f k ≡ None
unfolding first
none_at f k zero h lt = absurd (not-suc-le-zero lt)
none_at f k (suc n) h lt =
    ⊎_elim
    (λ e. rw e (either_none (first f n) (f n) h).1)
    (λ less. none_at f k n (either_none (first f n) (f n) h).0 less)
    (eq-or-lt_of_le (le_of_suc-le-suc lt))

pub all_none : {X : Type 0} (f : ℕ → Option X) (n : ℕ) → ((k : ℕ) → k < n → f k ≡ None) → first f n ≡ None
unfolding first
all_none f zero h = refl
all_none f (suc n) h = rw (all_none f n (λ k lt. h k (le_step lt)), h n (le_refl (suc n)))

-- ---- tables

pub table_none : {X : Type 0} (f : List X → ℕ → X) → table f 0 ≡ []
unfolding table
table_none f = refl

pub table_more : {X : Type 0} (f : List X → ℕ → X) (i : ℕ) → table f (i + 1) ≡ table f i ++ f (table f i) i ∷ []
unfolding table
table_more f i = rw add-one

pub length_table : {X : Type 0} (f : List X → ℕ → X) (n : ℕ) → length (table f n) ≡ n
unfolding table
length_table f zero = refl
length_table f (suc n) =
    length-append (table f n) (f (table f n) n ∷ []) ∙ ap (λ (k : ℕ). k + 1) (length_table f n) ∙ add-one n

pub table_at : {X : Type 0} (f : List X → ℕ → X) (d : X) (k n : ℕ) → k < n → get_or (table f n) k d ≡ f (table f k) k
unfolding table
table_at f d k zero h = absurd (not-suc-le-zero h)
table_at f d k (suc n) h =
    ⊎_elim
    (λ e. rw e (get_or_at (table f n) (f (table f n) n) [] d n (length_table f n)))
    (λ lt. get_or_append_left (table f n) (f (table f n) n ∷ []) d k (rw (length_table f n) lt) ∙ table_at f d k n lt)
    (eq-or-lt_of_le (le_of_suc-le-suc h))

-- ---- tests of all numbers below one

pub all_below_at : (t : ℕ → Bool) (k n : ℕ) → all_below t n ≡ true → k < n → t k ≡ true
unfolding all_below
all_below_at t k zero h lt = absurd (not-suc-le-zero lt)
all_below_at t k (suc n) h lt =
    ⊎_elim
    (λ e. rw e (and_parts (all_below t n) (t n) h).1)
    (λ less. all_below_at t k n (and_parts (all_below t n) (t n) h).0 less)
    (eq-or-lt_of_le (le_of_suc-le-suc lt))

pub all_below_from : (t : ℕ → Bool) (n : ℕ) → ((k : ℕ) → k < n → t k ≡ true) → all_below t n ≡ true
unfolding all_below
all_below_from t zero h = refl
all_below_from t (suc n) h = rw (all_below_from t n (λ k lt. h k (le_step lt))) (h n (le_refl (suc n)))

-- the first number apart
all_below_front : (t : ℕ → Bool) (n : ℕ) → all_below t (suc n) ≡ (t 0 && all_below (λ k. t (suc k)) n)
unfolding all_below
all_below_front t zero = sym (and-true (t 0))
all_below_front t (suc n) =
    ap (λ (b : Bool). b && t (suc n)) (all_below_front t n) ∙ and_assoc (t 0) (all_below (λ k. t (suc k)) n) (t (suc n))

-- a test of all elements with their numbers, from n on
pub all_enumerated : {X : Type 0} (test : ℕ × X → Bool) (d : X) (xs : List X) (n : ℕ) (t : ℕ → Bool) → ((k : ℕ) → test (n + k, get_or xs k d) ≡ t k) → list_all test (enumerate_from n xs) ≡ all_below t (length xs)
unfolding all_below
all_enumerated test d [] n t h = refl
all_enumerated test d (x ∷ xs) n t h =
    let shifted = λ (k : ℕ). (let e : n + 1 + k ≡ n + suc k = omega arith in ap (λ (m : ℕ). test (m, get_or xs k d)) e ∙ h (suc k)) in
    let e : n ≡ n + 0 = omega arith in
    rw (all_enumerated test d xs (n + 1) (λ k. t (suc k)) shifted, all_below_front t (length xs))
    (ap (λ (b : Bool). b && all_below (λ k. t (suc k)) (length xs)) (ap (λ (m : ℕ). test (m, x)) e ∙ h 0))

-- ---- the records of a part, one after another

pub drop_record : (w i : ℕ) (bs : List ℕ) → drop w (drop (w * i) bs) ≡ drop (w * (i + 1)) bs
drop_record w i bs = drop-drop w (w * i) bs ∙ ap (λ (k : ℕ). drop k bs) (sym (mul-add w i 1 ∙ ap (λ (k : ℕ). w * i + k) (mul-one w)))
