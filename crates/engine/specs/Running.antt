-- Where a machine stands. Assumes nothing.
use Rattle.std.specs.Prelude.{◌≡◌, ℕ, suc, ◌<◌, Bool, true, List, [], length, Some, None, Option}
use Rattle.holding.specs.declared.shares.Shares.{Shares}
use Rattle.typing.specs.Environment.{Environment}
use Rattle.tables.specs.View.{view}
use Rattle.semantics.specs.Machine as model
use Rattle.semantics.specs.State.{Shown, Kept}
use Rattle.semantics.specs.declared.values.Signal.{Signal}
use Rattle.engine.specs.Shape.{signal_fits}
use Rattle.engine.specs.Standing.{entries}
use Rattle.engine.specs.View.{signal_of, frames_of, move_of}
use Rattle.engine.specs.declared.frames.Entry.{Entry}
use Rattle.engine.specs.declared.frames.Move.{Move}
use Rattle.engine.specs.declared.frames.Next.{Next}
use Rattle.engine.specs.declared.frames.Next.TheVariants.{Begin, Ended}
use Rattle.engine.specs.declared.machine.Machine.{Machine}

abbrev pub program : {H : Type 0} → Machine H → Environment
program m = view m.control.tables

abbrev pub config_of : Next → List model.Frame → Shown → Kept → model.Config
config_of (Begin n) fs s k = model.at n fs s k
config_of (Ended o) fs s k = model.done o s k

-- a signal that goes on up may name an argument that fits
abbrev pub handed_fits : Environment → ℕ → Option (Signal Shares) → Bool
handed_fits e depth None = true
handed_fits e depth (Some z) = signal_fits e depth z

-- a signal that goes on up meets no more entries than before, and fewer
abbrev pub HandedSame : Option (Signal Shares) → List Entry → List Entry → Type 0
HandedSame None es fs = Unit {0}
HandedSame (Some z) es fs = fs ≡ es

abbrev pub HandedLess : Option (Signal Shares) → List Entry → List Entry → Type 0
HandedLess None es fs = Unit {0}
HandedLess (Some z) es fs = length fs < length es

-- how many entries a signal may still meet
abbrev pub still_to_meet : Option (Signal Shares) → List Entry → ℕ
still_to_meet None es = 0
still_to_meet (Some z) es = suc (length es)

module _ (stands : Shares → ℕ) {H : Type 0} where
  abbrev pub frames : Machine H → List model.Frame
  frames m = frames_of stands [] (entries m.control)

  abbrev pub standing : Machine H → model.Config
  standing m = config_of m.control.next (frames m) m.sheet m.store

  -- where it stands once a signal that goes on up has been met
  abbrev pub handing : Option (Signal Shares) → Machine H → model.Config
  handing None m = standing m
  handing (Some z) m = model.pass (program m) (frames m) (signal_of stands z) m.sheet m.store

  -- and where it stands once a move is done
  abbrev pub driving : Move → Machine H → model.Config
  driving v m = model.drive (program m) (frames m) (model.pass (program m) (frames m)) m.sheet (move_of stands v m.store)
