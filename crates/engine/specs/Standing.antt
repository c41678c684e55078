-- The entries of a stack. Assumes nothing.
use Rattle.std.specs.Prelude.{◌≡◌, List, [], ◌∷◌, reverse, Some, None, vec_items, Option}
use Rattle.engine.specs.declared.control.Control.{Control}
use Rattle.engine.specs.declared.frames.Entry.{Entry}

-- the top comes first
abbrev pub entries : Control → List Entry
entries c = reverse (vec_items c.stack)

-- what is popped from a stack, and what is left
abbrev pub Popped : Option Entry → List Entry → List Entry → Type 0
Popped None es fs = (es ≡ []) × (fs ≡ [])
Popped (Some x) es fs = es ≡ x ∷ fs
