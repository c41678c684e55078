-- A call whose arguments run, on top of a stack. Assumes nothing.
use Rattle.std.specs.Prelude.{ℕ, List, [], ◌∷◌, ◌++◌}
use Rattle.holding.specs.declared.shares.Shares.{Shares}
use Rattle.semantics.specs.declared.values.Value.{Value}
use Rattle.engine.specs.View.{value_of}
use Rattle.engine.specs.declared.frames.Entry.{Entry}
use Rattle.engine.specs.declared.frames.Entry.TheVariants.{Frame as Framed, Passed}
use Rattle.engine.specs.declared.frames.Frame.{Frame}
use Rattle.engine.specs.declared.frames.Frame.TheVariants.{Running}

-- its frame, and what stands below that
unfoldable pub call_of : List Entry → Frame
call_of [] = Running 0
call_of (Framed f ∷ es) = f
call_of (Passed x ∷ es) = call_of es

unfoldable pub under_call : List Entry → List Entry
under_call [] = []
under_call (Framed f ∷ es) = es
under_call (Passed x ∷ es) = under_call es

-- the figures of the arguments that have run, in order
unfoldable pub passed : (Shares → ℕ) → List Entry → List (Value ℕ)
passed stands [] = []
passed stands (Framed f ∷ es) = []
passed stands (Passed x ∷ es) = passed stands es ++ value_of stands x ∷ []
