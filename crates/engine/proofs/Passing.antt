-- The figures that were passed to a call, and the parameters that they become.
use Rattle.std.proofs.Common.{◌≡◌, ℕ, suc, ◌+◌, true, List, [], ◌∷◌, ◌++◌, length, Some, None, sym, refl, ap, ◌∙◌, add-zero, arith}
use mathlib.Core.Bool.{false≢true}
use Rattle.std.proofs.lemmas.List.{append-nil, append_assoc}
use Rattle.holding.specs.declared.shares.Shares.{Shares}
use Rattle.typing.specs.Environment.{Environment}
use Rattle.semantics.specs.Machine as model
use Rattle.semantics.specs.State.{Shown, Kept, procedure, level_at, stored, bound, cleared, entered}
use Rattle.semantics.specs.declared.values.Signal.TheVariants.{Argues}
use Rattle.semantics.specs.declared.values.Value.{Value}
use Rattle.engine.specs.Shape.{is_calling, in_call}
use Rattle.engine.specs.Passing.{call_of, under_call, passed}
use Rattle.engine.specs.Running.{config_of}
use Rattle.engine.specs.View.{value_of, frame_of, frames_of}
use Rattle.engine.specs.declared.frames.Entry.{Entry}
use Rattle.engine.specs.declared.frames.Entry.TheVariants.{Frame as Framed, Passed}
use Rattle.engine.specs.declared.frames.Frame.{Frame}
use Rattle.engine.specs.declared.frames.Frame.TheVariants.{Wait, Then, Loop, Calling, Running}
use Rattle.engine.specs.declared.frames.Next.{Next}
use Rattle.engine.specs.declared.frames.Next.TheVariants.{Begin}

-- ---- the frame of the call

calls : (es : List Entry) → in_call es ≡ true → is_calling (call_of es) ≡ true
unfolding in_call call_of
calls [] h = absurd (false≢true h)
calls (Framed f ∷ es) h = h
calls (Passed x ∷ es) h = calls es h

is_call : (f : Frame) → is_calling f ≡ true → (n : ℕ) × (g : ℕ) × (f ≡ Calling n g)
is_call (Wait n w) h = absurd (false≢true h)
is_call (Then n b) h = absurd (false≢true h)
is_call (Loop n a b) h = absurd (false≢true h)
is_call (Calling n g) h = (n, g, refl)
is_call (Running n) h = absurd (false≢true h)

pub in_call_is : (es : List Entry) → in_call es ≡ true → (n : ℕ) × (g : ℕ) × (call_of es ≡ Calling n g)
in_call_is es h = is_call (call_of es) (calls es h)

-- ---- the parameters

pub bound_more : (e : Environment) (v : ℕ) (xs : List (Value ℕ)) (x : Value ℕ) (k : Kept) → bound e v (xs ++ x ∷ []) k ≡ stored (v + length xs) (level_at e (v + length xs)) x (bound e v xs k)
unfolding bound
bound_more e v [] x k = ap (λ (i : ℕ). stored i (level_at e i) x k) (sym (add-zero v))
bound_more e v (y ∷ xs) x k =
    let same : suc v + length xs ≡ v + suc (length xs) = omega arith in
    bound_more e (suc v) xs x (stored v (level_at e v) y k)
    ∙ ap (λ (i : ℕ). stored i (level_at e i) x (bound e (suc v) xs (stored v (level_at e v) y k))) same

module _ (stands : Shares → ℕ) where
  gathered : (es : List Entry) (ys : List (Value ℕ)) (n g : ℕ) → in_call es ≡ true → call_of es ≡ Calling n g → frames_of stands ys es ≡ model.calling n g (passed stands es ++ ys) ∷ frames_of stands [] (under_call es)
  unfolding in_call call_of under_call passed frames_of
  gathered [] ys n g i c = absurd (false≢true i)
  gathered (Framed f ∷ es) ys n g i c = ap (λ (x : Frame). frame_of stands ys x ∷ frames_of stands [] es) c
  gathered (Passed x ∷ es) ys n g i c =
      gathered es (value_of stands x ∷ ys) n g i c
      ∙ ap (λ (zs : List (Value ℕ)). model.calling n g zs ∷ frames_of stands [] (under_call es)) (sym (append_assoc (passed stands es) (value_of stands x ∷ []) ys))

  -- the signal of an argument comes to its call
  argued_is : (e : Environment) (es : List Entry) (n g : ℕ) (x : Value ℕ) (next : _) (s : Shown) (k : Kept) → in_call es ≡ true → call_of es ≡ Calling n g → model.pass e (frames_of stands [] es) (Argues x next) s k ≡ model.drive e (frames_of stands [] (under_call es)) (model.pass e (frames_of stands [] (under_call es))) s (model.argued e n g (passed stands es ++ x ∷ []) next k)
  unfolding model.pass model.meets
  argued_is e es n g x next s k i c =
      ap (λ (fs : List model.Frame). model.pass e fs (Argues x next) s k) (gathered es [] n g i c)
      ∙ ap (λ (ys : List (Value ℕ)). model.drive e (frames_of stands [] (under_call es)) (model.pass e (frames_of stands [] (under_call es))) s (model.argued e n g (ys ++ x ∷ []) next k)) (append-nil (passed stands es))

  pub next_argument : (e : Environment) (next : Next) (x : Value Shares) (m : ℕ) (es fs : List Entry) (s : Shown) (k : Kept) → in_call es ≡ true → next ≡ Begin m → fs ≡ Passed x ∷ es → config_of next (frames_of stands [] fs) s k ≡ model.pass e (frames_of stands [] es) (Argues (value_of stands x) (Some m)) s k
  unfolding frames_of
  next_argument e next x m es fs s k i p q =
      let (n, g, c) = in_call_is es i in
      ap (λ (y : Next). config_of y (frames_of stands [] fs) s k) p
      ∙ ap (λ (gs : List Entry). model.at m (frames_of stands [] gs) s k) q
      ∙ ap (λ (gs : List model.Frame). model.at m gs s k) (gathered es (value_of stands x ∷ []) n g i c)
      ∙ sym (argued_is e es n g (value_of stands x) (Some m) s k i c)

  pub enters : (e : Environment) (next : Next) (x : Value Shares) (n g : ℕ) (es fs : List Entry) (s : Shown) (k j : Kept) → in_call es ≡ true → call_of es ≡ Calling n g → next ≡ Begin (procedure e g).body → fs ≡ Framed (Running n) ∷ under_call es → j ≡ entered e g (passed stands es ++ value_of stands x ∷ []) k → config_of next (frames_of stands [] fs) s j ≡ model.pass e (frames_of stands [] es) (Argues (value_of stands x) None) s k
  unfolding frames_of
  enters e next x n g es fs s k j i c p q r =
      ap (λ (y : Next). config_of y (frames_of stands [] fs) s j) p
      ∙ ap (λ (gs : List Entry). model.at (procedure e g).body (frames_of stands [] gs) s j) q
      ∙ ap (λ (z : Kept). model.at (procedure e g).body (frames_of stands [] (Framed (Running n) ∷ under_call es)) s z) r
      ∙ sym (argued_is e es n g (value_of stands x) None s k i c)

  -- what is kept once the last parameter is set and the locals are 0
  pub entered_by : (e o : Environment) (g q : ℕ) (x : Value Shares) (es : List Entry) (k j l m : Kept) → o ≡ e → q ≡ (procedure e g).first_parameter + length (passed stands es) → j ≡ bound e (procedure e g).first_parameter (passed stands es) k → l ≡ stored q (level_at o q) (value_of stands x) j → m ≡ cleared g 0 o.variables l → m ≡ entered e g (passed stands es ++ value_of stands x ∷ []) k
  entered_by e o g q x es k j l m t p b st cl =
      let v = (procedure e g).first_parameter in
      let xs = passed stands es in
      cl
      ∙ ap (λ (z : Environment). cleared g 0 z.variables l) t
      ∙ ap (cleared g 0 e.variables)
      (st
      ∙ ap (λ (z : Environment). stored q (level_at z q) (value_of stands x) j) t
      ∙ ap (λ (z : ℕ). stored z (level_at e z) (value_of stands x) j) p
      ∙ ap (stored (v + length xs) (level_at e (v + length xs)) (value_of stands x)) b
      ∙ sym (bound_more e v xs (value_of stands x) k))
