-- The typed nodes of a program, and what is known of them where a node above is checked.
use Rattle.std.proofs.Common.{◌≡◌, ℕ, ◌<◌, Bool, true, false, cond, ltb, List, length, get_or, Some, None, sym, refl, ap, ◌∙◌, subst, arith}
use Rattle.std.proofs.lemmas.Bool.{lt-ltb, ltb-true}
use Rattle.levels.specs.Rules.{Rules}
use Rattle.program.specs.Program.{Program, at, no_node}
use Rattle.program.specs.declared.records.Node.{Node}
use Rattle.typing.specs.Classes.{class_of}
use Rattle.typing.specs.Environment.{Environment, node_at, procedure_of, no_typed_node}
use Rattle.typing.specs.Faults.{environment, typed_node}
use Rattle.typing.specs.First.{table}
use Rattle.typing.specs.Typing.{NodeIs}
use Rattle.typing.specs.declared.classes.TypedNode.{TypedNode}
use Rattle.typing.proofs.Rising.{length_table, table_at}

pub some_none : {X : Type 0} {P : Type 0} (x : X) → Some x ≡ None → P
some_none x h = let z : ◌≡◌ {A = ℕ} 0 1 = cc in absurd (omega arith)

pub false_true : {P : Type 0} → false ≡ true → P
false_true h = let z : ◌≡◌ {A = ℕ} 0 1 = cc in absurd (omega arith)

-- what stands at a place is below the end, and is what the list has there
at_cases : {X : Type 0} (b : Bool) (y x : X) → cond b (Some y) None ≡ Some x → (b ≡ true) × (y ≡ x)
at_cases true y x h = (refl, cc)
at_cases false y x h = some_none x (sym h)

pub at_below : {X : Type 0} (d : X) (xs : List X) (k : ℕ) (x : X) → at d xs k ≡ Some x → k < length xs
at_below d xs k x h = ltb-true k (length xs) (at_cases (ltb k (length xs)) (get_or xs k d) x h).0

pub at_item : {X : Type 0} (d : X) (xs : List X) (k : ℕ) (x : X) → at d xs k ≡ Some x → get_or xs k d ≡ x
at_item d xs k x h = (at_cases (ltb k (length xs)) (get_or xs k d) x h).1

pub at_there : {X : Type 0} (d : X) (xs : List X) (k : ℕ) → k < length xs → at d xs k ≡ Some (get_or xs k d)
at_there d xs k lt = ap (λ (b : Bool). cond b (Some (get_or xs k d)) None) (lt-ltb k (length xs) lt)

-- the procedure of node n
abbrev pub home : Program → ℕ → ℕ
home p n = procedure_of p.procedures n

module _ (r : Rules) (p : Program) where
  unfoldable pub next_typed : List TypedNode → ℕ → TypedNode
  next_typed ns k = typed_node r (environment p.variables p.procedures ns) (procedure_of p.procedures k) (get_or p.nodes k no_node)

  -- the environment of node k
  unfoldable pub below : ℕ → Environment
  unfolding next_typed
  below k = environment p.variables p.procedures (table next_typed k)

  -- node k, typed
  unfoldable pub typed : ℕ → TypedNode
  unfolding next_typed
  typed k = next_typed (table next_typed k) k

  pub seen : (k m : ℕ) → m < k → node_at (below k) m ≡ Some (typed m)
  unfolding below typed
  seen k m lt =
      let lt' : m < length (table next_typed k) = subst (λ (n : ℕ). m < n) (sym (length_table next_typed k)) lt in
      at_there no_typed_node (table next_typed k) m lt' ∙ ap Some (table_at next_typed no_typed_node m k lt)

  pub class_is : (k : ℕ) (x : Node) → NodeIs p k x → (typed k).class ≡ class_of r (below k) x
  unfolding below typed
  class_is k x h = ap (class_of r (below k)) (at_item no_node p.nodes k x h)

  pub procedure_is : (k : ℕ) → (typed k).procedure ≡ home p k
  unfolding typed
  procedure_is k = refl

  pub node_is : (k : ℕ) (x : Node) → NodeIs p k x → (typed k).node ≡ x
  unfolding typed
  node_is k x h = at_item no_node p.nodes k x h
