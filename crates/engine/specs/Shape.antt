-- What bounds the stack: a node begins only nodes below it. Assumes nothing.
use Rattle.std.specs.Prelude.{ℕ, suc, ◌+◌, Bool, true, false, ◌&&◌, List, [], ◌∷◌, length, Some, None, Option, ◌==◌, nat_lt}
use Rattle.holding.specs.declared.shares.Shares.{Shares}
use Rattle.typing.specs.Environment.{Environment}
use Rattle.semantics.specs.State.{procedure}
use Rattle.semantics.specs.declared.values.Signal.{Signal}
use Rattle.semantics.specs.declared.values.Signal.TheVariants.{Gives, Argues, Falls, Returns, Breaks, Continues}
use Rattle.engine.specs.declared.wants.Want.{Want}
use Rattle.engine.specs.declared.wants.Want.TheVariants.{Only, First, Second, Choose, Chosen, Assign, Argue, Release, Output, Discard, Branch, BranchElse, Guard, Return}
use Rattle.engine.specs.declared.frames.Entry.{Entry}
use Rattle.engine.specs.declared.frames.Entry.TheVariants.{Frame as Framed, Passed}
use Rattle.engine.specs.declared.frames.Frame.{Frame}
use Rattle.engine.specs.declared.frames.Frame.TheVariants.{Wait, Then, Loop, Calling, Running}
use Rattle.engine.specs.declared.frames.Move.{Move}
use Rattle.engine.specs.declared.frames.Move.TheVariants.{Begin, Under, Over, Write, Stop}
use Rattle.engine.specs.declared.frames.Next.{Next}
use Rattle.engine.specs.declared.frames.Next.TheVariants.{Begin as Begins, Ended}

-- ---- the nodes that are named lie below n

abbrev pub next_below : ℕ → Option ℕ → Bool
next_below n None = true
next_below n (Some m) = nat_lt m n

abbrev pub want_below : ℕ → Want Shares → Bool
want_below n (Only o) = true
want_below n (First o b) = nat_lt b n
want_below n (Second o x) = true
want_below n (Choose b c) = nat_lt b n && nat_lt c n
want_below n Chosen = true
want_below n (Assign v) = true
want_below n (Argue next) = next_below n next
want_below n (Release t) = true
want_below n (Output t) = true
want_below n Discard = true
want_below n (Branch b) = nat_lt b n
want_below n (BranchElse b c) = nat_lt b n && nat_lt c n
want_below n (Guard a b) = nat_lt a n && nat_lt b n
want_below n Return = true

abbrev pub signal_below : ℕ → Signal Shares → Bool
signal_below n (Gives x) = true
signal_below n (Argues x next) = next_below n next
signal_below n Falls = true
signal_below n (Returns x) = true
signal_below n Breaks = true
signal_below n Continues = true

abbrev pub number : Frame → ℕ
number (Wait n w) = n
number (Then n b) = n
number (Loop n a b) = n
number (Calling n g) = n
number (Running n) = n

abbrev pub is_calling : Frame → Bool
is_calling (Wait n w) = false
is_calling (Then n b) = false
is_calling (Loop n a b) = false
is_calling (Calling n g) = true
is_calling (Running n) = false

abbrev pub is_argument : Signal Shares → Bool
is_argument (Gives x) = false
is_argument (Argues x next) = true
is_argument Falls = false
is_argument (Returns x) = false
is_argument Breaks = false
is_argument Continues = false

-- the top of a stack is a call whose arguments run, under the figures of those that have
unfoldable pub in_call : List Entry → Bool
in_call [] = false
in_call (Framed f ∷ es) = is_calling f
in_call (Passed x ∷ es) = in_call es

module _ (e : Environment) where
  abbrev pub frame_below : Frame → Bool
  frame_below (Wait n w) = want_below n w
  frame_below (Then n b) = nat_lt b n
  frame_below (Loop n a b) = nat_lt a n && nat_lt b n
  frame_below (Calling n g) = nat_lt (procedure e g).body n
  frame_below (Running n) = true

  -- the move of node n
  abbrev pub move_below : ℕ → Move → Bool
  move_below n (Begin m) = nat_lt m n
  move_below n (Under f m) = number f == n && (frame_below f && nat_lt m n)
  move_below n (Over z) = signal_below n z
  move_below n (Write d z) = signal_below n z
  move_below n (Stop o) = true

  -- a node's number and its depth together stay below the count of the nodes
  abbrev pub depth_fits : ℕ → ℕ → Bool
  depth_fits n depth = nat_lt (n + depth) (length e.nodes)

  -- the top comes first
  unfoldable pub stack_fits : List Entry → Bool
  stack_fits [] = true
  stack_fits (Framed f ∷ es) = (frame_below f && depth_fits (number f) (length es)) && stack_fits es
  stack_fits (Passed x ∷ es) = (in_call es && depth_fits 0 (length es)) && stack_fits es

  -- the argument that a signal names may begin above one more entry
  abbrev pub argument_fits : ℕ → Option ℕ → Bool
  argument_fits depth None = true
  argument_fits depth (Some m) = depth_fits (suc m) depth

  abbrev pub signal_fits : ℕ → Signal Shares → Bool
  signal_fits depth (Gives x) = true
  signal_fits depth (Argues x next) = argument_fits depth next
  signal_fits depth Falls = true
  signal_fits depth (Returns x) = true
  signal_fits depth Breaks = true
  signal_fits depth Continues = true

  -- the move of a node that has this depth
  abbrev pub move_fits : ℕ → Move → Bool
  move_fits depth (Begin m) = depth_fits m depth
  move_fits depth (Under f m) = (frame_below f && depth_fits (number f) depth) && depth_fits m (suc depth)
  move_fits depth (Over z) = signal_fits depth z
  move_fits depth (Write d z) = signal_fits depth z
  move_fits depth (Stop o) = true

  abbrev pub next_fits : ℕ → Next → Bool
  next_fits depth (Begins n) = depth_fits n depth
  next_fits depth (Ended o) = true
