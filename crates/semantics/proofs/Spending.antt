-- Every turn spends one step, and nothing else spends any.
use Rattle.std.proofs.Common.{◌≡◌, ℕ, suc, Bool, true, false, cond, List, [], ◌∷◌, refl}
use Rattle.typing.specs.Environment.{Environment}
use Rattle.semantics.specs.State.{Shown, Kept, tick, full, written, node_of}
use Rattle.semantics.specs.Machine.{Frame, Move, begin, under, over, line, stop, Config, at, done, shown, begins, meets, drive, pass, turn}
use Rattle.semantics.specs.declared.lines.Outcome.TheVariants.{LinesFull}
use Rattle.semantics.specs.declared.values.Signal.{Signal}

module _ (e : Environment) where
  drive_spends : (fs : List Frame) (up : Signal ℕ → Shown → Kept → Config) (s : Shown) (v : Move) → ((z : Signal ℕ) (t : Shown) (k : Kept) → (shown (up z t k)).spent ≡ t.spent) → (shown (drive e fs up s v)).spent ≡ s.spent
  drive_spends fs up s (begin n k) h = refl
  drive_spends fs up s (under f n k) h = refl
  drive_spends fs up s (over z k) h = h z s k
  drive_spends fs up s (line kind n t w z k) h = by (full s)
    where
      by : (b : Bool) → (shown (cond b (done LinesFull s k) (up z (written kind n t w s) k))).spent ≡ s.spent
      by true = refl
      by false = h z (written kind n t w s) k
  drive_spends fs up s (stop o k) h = refl

  pass_spends : (fs : List Frame) (z : Signal ℕ) (s : Shown) (k : Kept) → (shown (pass e fs z s k)).spent ≡ s.spent
  unfolding pass
  pass_spends [] z s k = refl
  pass_spends (f ∷ fs) z s k = drive_spends fs (pass e fs) s (meets e f z k) (pass_spends fs)

  pub turn_spends : (n : ℕ) (fs : List Frame) (s : Shown) (k : Kept) → (shown (turn e (at n fs s k))).spent ≡ suc s.spent
  unfolding turn
  turn_spends n fs s k = drive_spends fs (pass e fs) (tick s) (begins e n (node_of e n) k) (pass_spends fs)
