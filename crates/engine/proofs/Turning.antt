-- A turn of the machine, and so many of them.
use Rattle.std.proofs.Common.{◌≡◌, ℕ, zero, suc, ◌+◌, List, sym, refl, ap, ◌∙◌, add-one}
use Rattle.typing.specs.Environment.{Environment}
use Rattle.semantics.specs.Machine as model
use Rattle.semantics.specs.State.{Shown, Kept, tick, node_of}
use Rattle.semantics.specs.declared.lines.Outcome.{Outcome}
use Rattle.semantics.proofs.Spending.{turn_spends}
use Rattle.semantics.proofs.Theorems.{turns_add}
use Rattle.engine.specs.Running.{config_of}
use Rattle.engine.specs.declared.frames.Next.{Next}
use Rattle.engine.specs.declared.frames.Next.TheVariants.{Begin, Ended}

module _ (e : Environment) where
  pub turned : (next : Next) (n : ℕ) (fs : List model.Frame) (s t : Shown) (k : Kept) (v : model.Move) → next ≡ Begin n → t ≡ tick s → v ≡ model.begins e n (node_of e n) k → model.drive e fs (model.pass e fs) t v ≡ model.turn e (config_of next fs s k)
  unfolding model.turn
  turned next n fs s t k v p q m =
      ap (λ (z : Shown). model.drive e fs (model.pass e fs) z v) q
      ∙ ap (model.drive e fs (model.pass e fs) (tick s)) m
      ∙ sym (ap (λ (x : Next). model.turn e (config_of x fs s k)) p)

  -- what is shown where a machine stands
  config_shown : (next : Next) (fs : List model.Frame) (s : Shown) (k : Kept) → model.shown (config_of next fs s k) ≡ s
  config_shown (Begin n) fs s k = refl
  config_shown (Ended o) fs s k = refl

  pub turned_spends : (next after : Next) (n : ℕ) (fs gs : List model.Frame) (s t : Shown) (k j : Kept) → next ≡ Begin n → config_of after gs t j ≡ model.turn e (config_of next fs s k) → t.spent ≡ s.spent + 1
  turned_spends next after n fs gs s t k j p h =
      sym (ap (λ (z : Shown). z.spent) (config_shown after gs t j))
      ∙ ap (λ (c : model.Config). (model.shown c).spent) (h ∙ ap (λ (x : Next). model.turn e (config_of x fs s k)) p)
      ∙ turn_spends e n fs s k
      ∙ sym (add-one s.spent)

  -- a run that has ended stays so
  still : (n : ℕ) (o : Outcome) (s : Shown) (k : Kept) → model.run e n (model.done o s k) ≡ model.done o s k
  unfolding model.run model.turn
  still zero o s k = refl
  still (suc n) o s k = still n o s k

  pub run_ended : (m n : ℕ) (c : model.Config) (next : Next) (o : Outcome) (fs : List model.Frame) (s : Shown) (k : Kept) → config_of next fs s k ≡ model.run e m c → next ≡ Ended o → config_of next fs s k ≡ model.run e (m + n) c
  run_ended m n c next o fs s k h p =
      let d = ap (λ (x : Next). config_of x fs s k) p in
      d ∙ sym (still n o s k) ∙ ap (model.run e n) (sym d ∙ h) ∙ sym (turns_add e m n c)
