-- A signal meets the entry on top of a stack.
use Rattle.std.proofs.Common.{◌≡◌, ℕ, Bool, true, false, ◌&&◌, List, [], ◌∷◌, length, sym, refl, ap, ◌∙◌, true≢false}
use Rattle.std.proofs.lemmas.Bool.{and_parts}
use Rattle.holding.specs.declared.shares.Shares.{Shares}
use Rattle.typing.specs.Environment.{Environment}
use Rattle.semantics.specs.Machine as model
use Rattle.semantics.specs.State.{Shown, Kept}
use Rattle.semantics.specs.declared.values.Signal.{Signal}
use Rattle.semantics.specs.declared.values.Signal.TheVariants.{Gives, Argues, Falls, Returns, Breaks, Continues}
use Rattle.semantics.specs.declared.values.Value.{Value}
use Rattle.engine.specs.Shape.{number, is_argument, in_call, frame_below, depth_fits, stack_fits}
use Rattle.engine.specs.View.{value_of, signal_of, frame_of, frames_of}
use Rattle.engine.specs.declared.frames.Entry.{Entry}
use Rattle.engine.specs.declared.frames.Entry.TheVariants.{Frame as Framed, Passed}
use Rattle.engine.specs.declared.frames.Frame.{Frame}
use Rattle.engine.specs.declared.frames.Frame.TheVariants.{Wait, Then, Loop, Calling, Running}

-- ---- what fits

module _ (e : Environment) where
  pub framed_fits : (f : Frame) (es fs : List Entry) → es ≡ Framed f ∷ fs → stack_fits e es ≡ true → (frame_below e f ≡ true) × (depth_fits e (number f) (length fs) ≡ true)
  unfolding stack_fits
  framed_fits f es fs h k =
      and_parts (frame_below e f) (depth_fits e (number f) (length fs)) (and_parts (frame_below e f && depth_fits e (number f) (length fs)) (stack_fits e fs) (sym (ap (stack_fits e) h) ∙ k)).0

  pub passed_fits : (x : Value Shares) (es fs : List Entry) → es ≡ Passed x ∷ fs → stack_fits e es ≡ true → in_call es ≡ true
  unfolding in_call stack_fits
  passed_fits x es fs h k =
      ap in_call h ∙ (and_parts (in_call fs) (depth_fits e 0 (length fs)) (and_parts (in_call fs && depth_fits e 0 (length fs)) (stack_fits e fs) (sym (ap (stack_fits e) h) ∙ k)).0).0

pub no_argument : (a c : Bool) → c ≡ true → (a && c) ≡ false → a ≡ false
no_argument true c h k = absurd (true≢false (sym h ∙ k))
no_argument false c h k = refl

-- ---- where the machine stands then

module _ (stands : Shares → ℕ) where
  pub met : (e o : Environment) (f : Frame) (es fs : List Entry) (z : Signal Shares) (s : Shown) (k : Kept) (v : model.Move) → o ≡ e → es ≡ Framed f ∷ fs → v ≡ model.meets o (frame_of stands [] f) (signal_of stands z) k → model.drive o (frames_of stands [] fs) (model.pass o (frames_of stands [] fs)) s v ≡ model.pass e (frames_of stands [] es) (signal_of stands z) s k
  unfolding frames_of model.pass
  met e o f es fs z s k v t h m =
      ap (model.drive o (frames_of stands [] fs) (model.pass o (frames_of stands [] fs)) s) m
      ∙ ap (λ (i : Environment). model.pass i (frames_of stands [] (Framed f ∷ fs)) (signal_of stands z) s k) t
      ∙ sym (ap (λ (gs : List Entry). model.pass e (frames_of stands [] gs) (signal_of stands z) s k) h)

  -- no signal but an argument's is for the figures that were passed
  pass_any : (e : Environment) (fs : List Entry) (xs ys : List (Value ℕ)) (z : Signal Shares) (s : Shown) (k : Kept) → is_argument z ≡ false → model.pass e (frames_of stands xs fs) (signal_of stands z) s k ≡ model.pass e (frames_of stands ys fs) (signal_of stands z) s k
  unfolding frames_of model.pass model.meets
  pass_any e [] xs ys z s k h = refl
  pass_any e (Framed (Wait n w) ∷ fs) xs ys z s k h = refl
  pass_any e (Framed (Then n b) ∷ fs) xs ys z s k h = refl
  pass_any e (Framed (Loop n a b) ∷ fs) xs ys z s k h = refl
  pass_any e (Framed (Calling n g) ∷ fs) xs ys (Gives x) s k h = refl
  pass_any e (Framed (Calling n g) ∷ fs) xs ys (Argues x next) s k h = absurd (true≢false h)
  pass_any e (Framed (Calling n g) ∷ fs) xs ys Falls s k h = refl
  pass_any e (Framed (Calling n g) ∷ fs) xs ys (Returns x) s k h = refl
  pass_any e (Framed (Calling n g) ∷ fs) xs ys Breaks s k h = refl
  pass_any e (Framed (Calling n g) ∷ fs) xs ys Continues s k h = refl
  pass_any e (Framed (Running n) ∷ fs) xs ys z s k h = refl
  pass_any e (Passed x ∷ fs) xs ys z s k h = pass_any e fs (value_of stands x ∷ xs) (value_of stands x ∷ ys) z s k h

  pub past_figure : (e o : Environment) (x : Value Shares) (es fs : List Entry) (z : Signal Shares) (s : Shown) (k : Kept) → o ≡ e → es ≡ Passed x ∷ fs → is_argument z ≡ false → model.pass o (frames_of stands [] fs) (signal_of stands z) s k ≡ model.pass e (frames_of stands [] es) (signal_of stands z) s k
  unfolding frames_of
  past_figure e o x es fs z s k t h n =
      ap (λ (i : Environment). model.pass i (frames_of stands [] fs) (signal_of stands z) s k) t
      ∙ pass_any e fs [] (value_of stands x ∷ []) z s k n
      ∙ sym (ap (λ (gs : List Entry). model.pass e (frames_of stands [] gs) (signal_of stands z) s k) h)
