-- The typed nodes of a well-typed program describe it, so that its runs keep to the levels.
use Rattle.std.proofs.Common.{◌≡◌, ℕ, ◌<◌, length, get_or, Some, refl, ap, ◌∙◌, subst, arith}
use Rattle.words.specs.declared.types.DataType.{DataType}
use Rattle.levels.specs.Rules.{Rules, Lawful}
use Rattle.program.specs.Encode.{encoded}
use Rattle.program.specs.Program.{Program, no_node}
use Rattle.program.specs.declared.records.Procedure.{Procedure}
use Rattle.typing.specs.Environment.{no_typed_node}
use Rattle.typing.specs.Formed.{WellFormed}
use Rattle.typing.specs.Typing.{Expression, WellTyped, constant, variable, minus, not, arithmetic, comparison, and, or, choice, assignment, call, release}
use Rattle.typing.specs.declared.classes.TypedNode.{TypedNode}
use Rattle.typing.proofs.Belonging.{belongs, belongs_once}
use Rattle.typing.proofs.Determined.{level_known, expression_class}
use Rattle.typing.proofs.Passed.{rises, last}
use Rattle.typing.proofs.Tabled.{home, at_below, at_item, next_typed, below, typed, seen, procedure_is, node_is}
use Rattle.typing.proofs.Theorems.{sound_acceptance}
use Rattle.semantics.specs.Fitting.{nodes_of, LevelsKept, StatementEnding}
use Rattle.semantics.proofs.Inverted.{Describes, procedure_told}
use Rattle.semantics.proofs.Fitting.{value, statement}

module _ (r : Rules) (p : Program) (formed : WellFormed r p) (well : WellTyped r p) where
  pub there : {q n l : ℕ} {t : DataType} → Expression r p q n t l → n < length p.nodes
  there {n = n} (constant h) = at_below no_node p.nodes n _ h
  there {n = n} (variable h v s) = at_below no_node p.nodes n _ h
  there {n = n} (minus h d) = at_below no_node p.nodes n _ h
  there {n = n} (not h d) = at_below no_node p.nodes n _ h
  there {n = n} (arithmetic h k d f) = at_below no_node p.nodes n _ h
  there {n = n} (comparison h k d f) = at_below no_node p.nodes n _ h
  there {n = n} (and h d f) = at_below no_node p.nodes n _ h
  there {n = n} (or h d f) = at_below no_node p.nodes n _ h
  there {n = n} (choice h a d f) = at_below no_node p.nodes n _ h
  there {n = n} (assignment h v s d f) = at_below no_node p.nodes n _ h
  there {n = n} (call h lt v s d) = at_below no_node p.nodes n _ h
  there {n = n} (release h d) = at_below no_node p.nodes n _ h

  typed_there : (n : ℕ) → n < length p.nodes → get_or (nodes_of r p) n no_typed_node ≡ typed r p n
  unfolding below next_typed
  typed_there n lt = at_item no_typed_node (nodes_of r p) n (typed r p n) (seen r p (length p.nodes) n lt)

  pub described : Describes r p (nodes_of r p)
  unfolding below next_typed
  described =
      record {
        nodes = λ n x h. ap (λ (y : TypedNode). y.node) (typed_there n (at_below no_node p.nodes n x h)) ∙ node_is r p n x h;
        levels = λ q n l t d. level_known r p formed.below (length p.nodes) n l (Some t) (there d) (expression_class r p formed.below d);
        homes = λ q n b.
            let lt : n < length p.nodes = omega (arith, b.within, (formed.procedures q b.procedure b.is).body) in
            ap (λ (y : TypedNode). y.procedure) (typed_there n lt) ∙ procedure_is r p n ∙ belongs_once p formed.some_procedures (rises r p formed well) (last r p formed well) (home p n) q n (belongs p formed.some_procedures (rises r p formed well) (last r p formed well) n lt) b;
      }

pub levels_kept : (r : Rules) → Lawful r → LevelsKept r
levels_kept r law p formed well =
    let ns = nodes_of r p in
    let told = described r p formed well in
    let is_level = (sound_acceptance r law (encoded p) (record { program = p; encodes = refl; formed = formed; typed = well })).1.levels in
    record {
      expressions = λ q n l m t s k a d f h. value r law p formed well ns told is_level h q l t d f;
      statements = λ q n m d x s k a i e b f h. subst (λ (c : Procedure). StatementEnding p c.result c.level x a) (procedure_told r p ns q d i) (statement r law p formed well ns told is_level h q x e b f);
    }
