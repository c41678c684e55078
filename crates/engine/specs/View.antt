-- What the parts of a run stand for. Here alone three words become the word that they stand for. Assumes nothing.
use Rattle.std.specs.Prelude.{ℕ, List, [], ◌∷◌, Some, None, Option}
use Rattle.words.specs.Operators.{minus_word, not_word}
use Rattle.holding.specs.declared.shares.Shares.{Shares}
use Rattle.semantics.specs.Machine as model
use Rattle.semantics.specs.State.{Kept}
use Rattle.semantics.specs.declared.values.Signal.{Signal}
use Rattle.semantics.specs.declared.values.Signal.TheVariants.{Gives, Argues, Falls, Returns, Breaks, Continues}
use Rattle.semantics.specs.declared.values.Value.{Value}
use Rattle.semantics.specs.declared.values.Value.TheVariants.{Plain, Held}
use Rattle.engine.specs.declared.wants.Unary.{Unary}
use Rattle.engine.specs.declared.wants.Unary.TheVariants.{Minus, Not}
use Rattle.engine.specs.declared.wants.Want.{Want}
use Rattle.engine.specs.declared.wants.Want.TheVariants.{Only, First, Second, Choose, Chosen, Assign, Argue, Release, Output, Discard, Branch, BranchElse, Guard, Return}
use Rattle.engine.specs.declared.frames.Entry.{Entry}
use Rattle.engine.specs.declared.frames.Entry.TheVariants.{Frame as Framed, Passed}
use Rattle.engine.specs.declared.frames.Frame.{Frame}
use Rattle.engine.specs.declared.frames.Frame.TheVariants.{Wait, Then, Loop, Calling, Running}
use Rattle.engine.specs.declared.frames.Move.{Move}
use Rattle.engine.specs.declared.frames.Move.TheVariants.{Begin, Under, Over, Write, Stop}

-- the word of an operator on one word
abbrev pub unary_word : Unary → ℕ → ℕ
unary_word Minus = minus_word
unary_word Not = not_word

module _ (stands : Shares → ℕ) where
  abbrev pub value_of : Value Shares → Value ℕ
  value_of (Plain w) = Plain w
  value_of (Held s) = Held (stands s)

  abbrev pub returned_of : Option (Value Shares) → Option (Value ℕ)
  returned_of None = None
  returned_of (Some x) = Some (value_of x)

  abbrev pub signal_of : Signal Shares → Signal ℕ
  signal_of (Gives x) = Gives (value_of x)
  signal_of (Argues x next) = Argues (value_of x) next
  signal_of Falls = Falls
  signal_of (Returns x) = Returns (returned_of x)
  signal_of Breaks = Breaks
  signal_of Continues = Continues

  abbrev pub want_of : Want Shares → model.Want
  want_of (Only Minus) = model.negating
  want_of (Only Not) = model.inverting
  want_of (First o b) = model.first o b
  want_of (Second o x) = model.second o (value_of x)
  want_of (Choose b c) = model.choosing b c
  want_of Chosen = model.chosen
  want_of (Assign v) = model.assigning v
  want_of (Argue next) = model.arguing next
  want_of (Release t) = model.releasing t
  want_of (Output t) = model.outputting t
  want_of Discard = model.discarding
  want_of (Branch b) = model.branching b
  want_of (BranchElse b c) = model.branching_else b c
  want_of (Guard a b) = model.guarding a b
  want_of Return = model.returning

  -- a frame, with the figures that stand on it if it is a call's
  abbrev pub frame_of : List (Value ℕ) → Frame → model.Frame
  frame_of xs (Wait n w) = model.wait n (want_of w)
  frame_of xs (Then n b) = model.then n b
  frame_of xs (Loop n a b) = model.loop n a b
  frame_of xs (Calling n g) = model.calling n g xs
  frame_of xs (Running n) = model.running n

  -- the frames of a stack, of which the top comes first; xs are the figures that were passed above it
  unfoldable pub frames_of : List (Value ℕ) → List Entry → List model.Frame
  frames_of xs [] = []
  frames_of xs (Framed f ∷ es) = frame_of xs f ∷ frames_of [] es
  frames_of xs (Passed x ∷ es) = frames_of (value_of x ∷ xs) es

  -- a move, with what is kept then
  abbrev pub move_of : Move → Kept → model.Move
  move_of (Begin n) k = model.begin n k
  move_of (Under f n) k = model.under (frame_of [] f) n k
  move_of (Over z) k = model.over (signal_of z) k
  move_of (Write d z) k = model.line d.kind d.node d.data_type d.word (signal_of z) k
  move_of (Stop o) k = model.stop o k
