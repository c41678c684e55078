-- The table of names counts how often each node is named.
use Rattle.std.proofs.Common.{◌≡◌, ℕ, zero, suc, ◌+◌, ◌<◌, Bool, true, false, cond, ◌||◌, eqb, ltb, ◌≢◌, List, [], ◌∷◌, ◌++◌, length, get_or, set, replicate, fold, Option, sym, refl, ap, ◌∙◌, subst, add-zero, add_assoc, zero-add, add-one, length-set, get_or-set_other, get_or-set_same, rules}
use lib.ListN.{length-replicate, get_or-replicate}
use Rattle.std.proofs.lemmas.Bool.{eqb-true, eqb-false, lt-ltb}
use Rattle.program.specs.Program.{optional, present, children, times_in}
use Rattle.program.specs.declared.records.Procedure.{Procedure}
use Rattle.program.specs.declared.refusal.Refusal.TheVariants.{Naming as BadNaming}
use Rattle.typing.specs.Faults.{times_named, is_body, name_fault}
use Rattle.typing.specs.First.{first, unless}
use Rattle.typing.specs.declared.classes.TypedNode.{TypedNode}
use Rattle.typing.proofs.Rising.{first_same}
use Rattle.tables.specs.declared.tables.Naming.{Naming}
use Rattle.tables.specs.declared.tables.Naming.TheVariants.{Never, Once, Often}
use Rattle.checker.specs.Names.{more, is_once, marked, marked_all, marked_by, count_fault}

-- the entry of a node that is named t times
tally : ℕ → Naming
tally zero = Never
tally (suc zero) = Once
tally (suc (suc n)) = Often

more_tally : (t : ℕ) → more (tally t) ≡ tally (t + 1)
unfolding tally
more_tally zero = refl
more_tally (suc zero) = refl
more_tally (suc (suc n)) = rw add-one

once_tally : (t : ℕ) → is_once (tally t) ≡ eqb t 1
unfolding tally
once_tally zero = refl
once_tally (suc zero) = refl
once_tally (suc (suc n)) = search rules

length_marked : (ms : List Naming) (j : ℕ) → length (marked ms j) ≡ length ms
unfolding marked
length_marked ms j =
    elim (ltb j (length ms)) as (λ b. length (cond b (set ms j (more (get_or ms j Never))) ms) ≡ length ms)
    [ true ↦ length-set ms j _ | false ↦ refl ]

marked_other : (ms : List Naming) (j k : ℕ) → k ≢ j → get_or (marked ms j) k Never ≡ get_or ms k Never
unfolding marked
marked_other ms j k ne =
    elim (ltb j (length ms)) as (λ b. get_or (cond b (set ms j (more (get_or ms j Never))) ms) k Never ≡ get_or ms k Never)
    [ true ↦ get_or-set_other ms j k _ Never ne | false ↦ refl ]

marked_same : (ms : List Naming) (k : ℕ) → k < length ms → get_or (marked ms k) k Never ≡ more (get_or ms k Never)
unfolding marked
marked_same ms k lt =
    ap (λ (b : Bool). get_or (cond b (set ms k (more (get_or ms k Never))) ms) k Never) (lt-ltb k (length ms) lt)
    ∙ get_or-set_same ms k _ Never lt

marked_at : (ms : List Naming) (j k t : ℕ) (b : Bool) → eqb j k ≡ b → k < length ms → get_or ms k Never ≡ tally t → get_or (marked ms j) k Never ≡ tally (t + cond b 1 0)
marked_at ms j k t true e lt h =
    let same : j ≡ k = eqb-true j k e in
    ap (λ (m : ℕ). get_or (marked ms m) k Never) same ∙ marked_same ms k lt ∙ ap more h ∙ more_tally t
marked_at ms j k t false e lt h =
    marked_other ms j k (λ q. eqb-false j k e (sym q)) ∙ h ∙ ap tally (sym (add-zero t))

all_at : (ks : List ℕ) (ms : List Naming) (k t : ℕ) → k < length ms → get_or ms k Never ≡ tally t → get_or (marked_all ms ks) k Never ≡ tally (t + times_in k ks)
all_at [] ms k t lt h = h ∙ ap tally (sym (add-zero t))
all_at (j ∷ ks) ms k t lt h =
    all_at ks (marked ms j) k (t + cond (eqb j k) 1 0) (subst (λ (m : ℕ). k < m) (sym (length_marked ms j)) lt) (marked_at ms j k t (eqb j k) refl lt h)
    ∙ ap tally (add_assoc t (cond (eqb j k) 1 0) (times_in k ks))

length_all : (ks : List ℕ) (ms : List Naming) → length (marked_all ms ks) ≡ length ms
length_all [] ms = refl
length_all (j ∷ ks) ms = length_all ks (marked ms j) ∙ length_marked ms j

folded_at : (ns : List TypedNode) (ms : List Naming) (k t : ℕ) → k < length ms → get_or ms k Never ≡ tally t → get_or (fold marked_by ms ns) k Never ≡ tally (t + times_named k ns)
folded_at [] ms k t lt h = h ∙ ap tally (sym (add-zero t))
folded_at (n ∷ ns) ms k t lt h =
    let ks = children n.node in
    folded_at ns (marked_all ms ks) k (t + times_in k ks) (subst (λ (m : ℕ). k < m) (sym (length_all ks ms)) lt) (all_at ks ms k t lt h)
    ∙ ap tally (add_assoc t (times_in k ks) (times_named k ns))

length_folded : (ns : List TypedNode) (ms : List Naming) → length (fold marked_by ms ns) ≡ length ms
length_folded [] ms = refl
length_folded (n ∷ ns) ms = length_folded ns (marked_by ms n) ∙ length_all (children n.node) ms

-- what all nodes name
abbrev pub names_of : List TypedNode → List Naming
names_of ns = fold marked_by (replicate (length ns) Never) ns

length_names : (ns : List TypedNode) → length (names_of ns) ≡ length ns
length_names ns = length_folded ns (replicate (length ns) Never) ∙ length-replicate (length ns) Never

names_at : (ns : List TypedNode) (k : ℕ) → k < length ns → get_or (names_of ns) k Never ≡ tally (times_named k ns)
unfolding tally
names_at ns k lt =
    folded_at ns (replicate (length ns) Never) k 0 (subst (λ (m : ℕ). k < m) (sym (length-replicate (length ns) Never)) lt) (get_or-replicate (length ns) k Never Never lt)
    ∙ ap tally (zero-add (times_named k ns))

-- the first fault by the counts is the first node that is named too seldom or too often
pub counts_say : (ds : List Procedure) (ns : List TypedNode) → first (count_fault ds (names_of ns)) (length (names_of ns)) ≡ first (name_fault ds ns) (length ns)
counts_say ds ns =
    ap (first (count_fault ds (names_of ns))) (length_names ns)
    ∙ first_same (count_fault ds (names_of ns)) (name_fault ds ns) (length ns)
    (λ k lt. ap (λ (b : Bool). unless (is_body ds k || b) (BadNaming k)) (ap is_once (names_at ns k lt) ∙ once_tally (times_named k ns)))

-- the children that are there, counted one by one
all_append : (ks js : List ℕ) (ms : List Naming) → marked_all ms (ks ++ js) ≡ marked_all (marked_all ms ks) js
all_append [] js ms = refl
all_append (k ∷ ks) js ms = all_append ks js (marked ms k)

abbrev pub marked_if : List Naming → Option ℕ → List Naming
marked_if ms o = marked_all ms (optional o)

pub present_marked : (os : List (Option ℕ)) (ms : List Naming) → fold marked_if ms os ≡ marked_all ms (present os)
present_marked [] ms = refl
present_marked (o ∷ os) ms = present_marked os (marked_if ms o) ∙ sym (all_append (optional o) (present os) ms)
