-- Lines that stand stay, and where two runs have parted they stay so.
use Rattle.std.proofs.Common.{◌≡◌, ℕ, zero, suc, Bool, true, false, cond, List, [], ◌∷◌, ◌++◌, length, sym, refl, ap, ◌∙◌, subst, append_assoc, append-nil}
use Rattle.words.specs.declared.types.DataType.{DataType}
use Rattle.typing.specs.Environment.{Environment}
use Rattle.semantics.specs.State.{Shown, Kept, tick, full, written, node_of}
use Rattle.semantics.specs.Machine.{Frame, Move, begin, under, over, line, stop, Config, at, done, shown, begins, meets, drive, pass, turn, run}
use Rattle.semantics.specs.Parting.{release_line, Parts, here, there}
use Rattle.semantics.specs.declared.lines.Line.{Line}
use Rattle.semantics.specs.declared.lines.Outcome.TheVariants.{LinesFull}
use Rattle.semantics.specs.declared.values.Signal.{Signal}

-- ---- lines are only added

abbrev pub Grows : List Line → List Line → Type 0
Grows xs ys = (zs : List Line) × (ys ≡ xs ++ zs)

pub grows_same : (xs : List Line) → Grows xs xs
grows_same xs = ([], sym (append-nil xs))

pub grows_on : (xs ys zs : List Line) → Grows xs ys → Grows ys zs → Grows xs zs
grows_on xs ys zs (us, e) (vs, f) = (us ++ vs, f ∙ ap (λ (ls : List Line). ls ++ vs) e ∙ append_assoc xs us vs)

module _ (e : Environment) where
  drive_grows : (fs : List Frame) (up : Signal ℕ → Shown → Kept → Config) (s : Shown) (v : Move) → ((z : Signal ℕ) (t : Shown) (k : Kept) → Grows t.lines (shown (up z t k)).lines) → Grows s.lines (shown (drive e fs up s v)).lines
  drive_grows fs up s (begin n k) h = grows_same s.lines
  drive_grows fs up s (under f n k) h = grows_same s.lines
  drive_grows fs up s (over z k) h = h z s k
  drive_grows fs up s (line kind n t w z k) h = by (full s)
    where
      by : (b : Bool) → Grows s.lines (shown (cond b (done LinesFull s k) (up z (written kind n t w s) k))).lines
      by true = grows_same s.lines
      by false = grows_on s.lines (written kind n t w s).lines _ (_, refl) (h z (written kind n t w s) k)
  drive_grows fs up s (stop o k) h = grows_same s.lines

  pub pass_grows : (fs : List Frame) (z : Signal ℕ) (s : Shown) (k : Kept) → Grows s.lines (shown (pass e fs z s k)).lines
  unfolding pass
  pass_grows [] z s k = grows_same s.lines
  pass_grows (f ∷ fs) z s k = drive_grows fs (pass e fs) s (meets e f z k) (pass_grows fs)

  turn_grows : (c : Config) → Grows (shown c).lines (shown (turn e c)).lines
  unfolding turn
  turn_grows (at n fs s k) = drive_grows fs (pass e fs) (tick s) (begins e n (node_of e n) k) (pass_grows fs)
  turn_grows (done o s k) = grows_same s.lines

  pub run_grows : (n : ℕ) (c : Config) → Grows (shown c).lines (shown (run e n c)).lines
  unfolding run
  run_grows zero c = grows_same (shown c).lines
  run_grows (suc n) c = grows_on (shown c).lines (shown (turn e c)).lines _ (turn_grows c) (run_grows n (turn e c))

-- ---- where lines part

parts_more : {i : ℕ} {xs ys : List Line} (us vs : List Line) → Parts i xs ys → Parts i (xs ++ us) (ys ++ vs)
parts_more us vs (here d) = here d
parts_more us vs (there q) = there (parts_more us vs q)

pub parts_grow : {i : ℕ} {xs ys : List Line} (cs bs : List Line) → Parts i xs ys → Grows xs cs → Grows ys bs → Parts i cs bs
parts_grow {i = i} {xs = xs} cs bs q (us, e) (vs, f) =
    subst (λ (ls : List Line). Parts i ls bs) (sym e) (subst (λ (ls : List Line). Parts i (xs ++ us) ls) (sym f) (parts_more us vs q))

parts_after : (xs : List Line) (n s w v : ℕ) (t : DataType) → (w ≡ v → ⊥) → Parts (length xs) (xs ++ release_line n s t w ∷ []) (xs ++ release_line n s t v ∷ [])
parts_after [] n s w v t d = here d
parts_after (x ∷ xs) n s w v t d = there (parts_after xs n s w v t d)

-- two releases of two words, after the same lines
pub parts_here : (xs : List Line) (n s w v : ℕ) (t : DataType) (cs bs : List Line) → (w ≡ v → ⊥) → Grows (xs ++ release_line n s t w ∷ []) cs → Grows (xs ++ release_line n s t v ∷ []) bs → Parts (length xs) cs bs
parts_here xs n s w v t cs bs d g h = parts_grow cs bs (parts_after xs n s w v t d) g h
