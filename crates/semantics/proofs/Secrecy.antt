-- No sequence of calls carries a hidden figure to an observer, except in a released word.
use Rattle.std.proofs.Common.{◌≡◌, ℕ, suc, ◌+◌, ◌<◌, ◌≤◌, Bool, true, false, cond, ◌&&◌, ltb, List, [], ◌∷◌, ◌++◌, length, get_or, take, drop, Some, None, Ok, Err, Option, Result, sym, refl, ap, ◌∙◌, subst, true≢false, le_refl, arith, length-append}
use Rattle.levels.specs.Rules.{Rules, Lawful}
use Rattle.holding.specs.declared.shares.Counts.{Counts}
use Rattle.program.specs.Program.{Program, no_procedure}
use Rattle.program.specs.declared.layout.Layout.{Layout}
use Rattle.program.specs.declared.records.Variable.{Variable}
use Rattle.program.specs.declared.refusal.Refusal.{Refusal}
use Rattle.typing.specs.Environment.{Environment, variable_at}
use Rattle.typing.specs.Faults.{verdict_of}
use Rattle.typing.specs.Formed.{WellFormed}
use Rattle.typing.specs.Typing.{VariableIs, WellTyped}
use Rattle.typing.proofs.Belonging.{body_belongs}
use Rattle.typing.proofs.Passed.{rises, last}
use Rattle.typing.proofs.Tabled.{at_there}
use Rattle.semantics.specs.Fitting.{nodes_of, environment_of}
use Rattle.semantics.specs.Machine.{Config, shown, kept, outcome, run}
use Rattle.semantics.specs.Opening.{unset, zeroed, main}
use Rattle.semantics.specs.Parting.{Parts, here, there}
use Rattle.semantics.specs.Secrecy.{transcript_of, transcript_by, AlikeKeyings, AlikeIn, none, same as same_key, hidden, open_to, seen, standing, Wrote, now, later, KeptSecret, whole, parted, Secret, listed, Secrecy}
use Rattle.semantics.specs.Sessions.{Unstarted, unstarted, input_at, keyed_word, key_answer, with_key, key_after, key_answers, keyed_all, started, goes_on, too_many, ran, no_line, looked, answer, after, answers, finally}
use Rattle.semantics.specs.State.{Shown, Kept, word_in, settled, cell, stored, level_at, procedure}
use Rattle.semantics.specs.declared.calls.Answer.{Answer}
use Rattle.semantics.specs.declared.calls.Answer.TheVariants.{Refused, Line as LineAnswer, Word}
use Rattle.semantics.specs.declared.calls.KeyRefusal.{KeyRefusal}
use Rattle.semantics.specs.declared.calls.Keying.{Keying}
use Rattle.semantics.specs.declared.calls.Request.{Request}
use Rattle.semantics.specs.declared.calls.Request.TheVariants.{Run, Line as LineRequest, Look}
use Rattle.semantics.specs.declared.calls.RequestRefusal.TheVariants.{TooManySteps, NoLevel, NotAllowed, NoLine}
use Rattle.semantics.specs.declared.lines.Line.{Line}
use Rattle.semantics.specs.declared.lines.Outcome.{Outcome}
use Rattle.semantics.specs.declared.values.Value.{Value}
use Rattle.semantics.specs.declared.values.Value.TheVariants.{Plain}
use Rattle.semantics.proofs.Agreeing.{Agree, Alike, agree_plain, agree_hidden, alike_stored, alike_cleared}
use Rattle.semantics.proofs.Cells.{level_is, settling_cells}
use Rattle.semantics.proofs.Checked.{checked}
use Rattle.semantics.proofs.Growing.{Grows, grows_same, grows_on, run_grows, parts_grow}
use Rattle.semantics.proofs.Low.{b_statement, bottom, Low, low_at, low_done, Seen, same as seen_same, parted as seen_parted}
use Rattle.semantics.proofs.Unwinding.{run_low}
use Rattle.semantics.proofs.Zeroed.{zeroed_fits}

-- ---- where lines part

parts_below : {i : ℕ} {xs ys : List Line} → Parts i xs ys → (i < length xs) × (i < length ys)
parts_below (here d) = (omega arith, omega arith)
parts_below (there q) = let h = parts_below q in (omega (arith, h.0), omega (arith, h.1))

first_word : List Line → ℕ
first_word [] = 0
first_word (l ∷ ls) = l.word

-- lists that begin alike part after that
parts_beyond : {i : ℕ} {xs ys : List Line} (ls us vs : List Line) → xs ≡ ls ++ us → ys ≡ ls ++ vs → Parts i xs ys → length ls ≤ i
unfolding first_word
parts_beyond [] us vs e f q = omega arith
parts_beyond (l ∷ ls) us vs e f (here d) = absurd (d (ap first_word e ∙ sym (ap first_word f)))
parts_beyond (l ∷ ls) us vs e f (there q) = let h = parts_beyond ls us vs (ap (drop 1) e) (ap (drop 1) f) q in omega (arith, h)

module _ (r : Rules) (law : Lawful r) (o : ℕ) (known : r.is_level o ≡ true) (p : Program) (formed : WellFormed r p) (well : WellTyped r p) where
  -- ---- the opening

  zeroed_cells : (i : ℕ) (vs : List Variable) (k j : Kept) → k.cells ≡ j.cells → (zeroed i vs k).cells ≡ (zeroed i vs j).cells
  unfolding zeroed
  zeroed_cells i [] k j h = h
  zeroed_cells i (v ∷ vs) k j h =
      zeroed_cells (suc i) vs (stored i v.level (Plain 0) k) (stored i v.level (Plain 0) j)
      (ap (λ (cs : List (Value ℕ)). lib.ListN.set cs i (settled v.level (Plain 0))) (settling_cells v.level (Plain 0) k ∙ h ∙ sym (settling_cells v.level (Plain 0) j)))

  opened_alike : (c d : Counts) → Alike r o p (zeroed 0 p.variables (unset c)) (zeroed 0 p.variables (unset d))
  opened_alike c d =
      record {
        left = zeroed_fits p formed.few_variables c;
        right = zeroed_fits p formed.few_variables d;
        same = λ v x q s. ap (λ (cs : List (Value ℕ)). get_or cs v (Plain 0)) (zeroed_cells 0 p.variables (unset c) (unset d) refl);
      }

  -- ---- keyings

  record KeyedAlike (u w : Unstarted) : Type 0 where
    keyed : u.keyed ≡ w.keyed
    kept : Alike r o p u.kept w.kept

  -- a word is keyed in both, the same or a hidden one
  set_alike : (u w : Unstarted) (v a b : ℕ) → ((x : Variable) → VariableIs p v x → Agree r o x.level (settled x.level (Plain a)) (settled x.level (Plain b))) → KeyedAlike u w → Alike r o p (stored v (level_at (environment_of r p) v) (Plain a) u.kept) (stored v (level_at (environment_of r p) v) (Plain b) w.kept)
  set_alike u w v a b g h =
      alike_stored r law o known p v (level_at (environment_of r p) v) (Plain a) (Plain b)
      (λ x q. subst (λ (l : ℕ). Agree r o x.level (settled l (Plain a)) (settled l (Plain b))) (sym (level_is p (nodes_of r p) v x q)) (g x q))
      h.kept

  abbrev Agreeing : Keying → Keying → Type 0
  Agreeing x y = (z : Variable) → VariableIs p x.variable z → Agree r o z.level (settled z.level (Plain (keyed_word (variable_at (environment_of r p) x.variable) x.word))) (settled z.level (Plain (keyed_word (variable_at (environment_of r p) x.variable) y.word)))

  key_alike : (u w : Unstarted) (v a b : ℕ) → Agreeing (record { variable = v; word = a }) (record { variable = v; word = b }) → KeyedAlike u w → (key_answer (environment_of r p) u (record { variable = v; word = a }) ≡ key_answer (environment_of r p) w (record { variable = v; word = b })) × KeyedAlike (key_after (environment_of r p) u (record { variable = v; word = a })) (key_after (environment_of r p) w (record { variable = v; word = b }))
  key_alike u w v a b g h = by (input_at (variable_at (environment_of r p) v)) (get_or u.keyed v false) (get_or w.keyed v false) (ap (λ (ks : List Bool). get_or ks v false) h.keyed)
    where
      both : KeyedAlike (with_key (environment_of r p) u (record { variable = v; word = a })) (with_key (environment_of r p) w (record { variable = v; word = b }))
      both = record { keyed = ap (λ (ks : List Bool). lib.ListN.set ks v true) h.keyed; kept = set_alike u w v _ _ g h }

      by : (i s t : Bool) → s ≡ t → (◌≡◌ {A = Result Unit KeyRefusal} (cond i (cond s (Err KeyRefusal.KeyedAlready) (Ok tt)) (Err KeyRefusal.NotAnInput)) (cond i (cond t (Err KeyRefusal.KeyedAlready) (Ok tt)) (Err KeyRefusal.NotAnInput))) × KeyedAlike (cond i (cond s u (with_key (environment_of r p) u (record { variable = v; word = a }))) u) (cond i (cond t w (with_key (environment_of r p) w (record { variable = v; word = b }))) w)
      by false s t e = (refl, h)
      by true true true e = (refl, h)
      by true true false e = absurd (true≢false e)
      by true false true e = absurd (true≢false (sym e))
      by true false false e = (refl, both)

  keys_alike : (u w : Unstarted) {ks js : List Keying} → AlikeKeyings r o (environment_of r p) ks js → KeyedAlike u w → (key_answers (environment_of r p) u ks ≡ key_answers (environment_of r p) w js) × KeyedAlike (keyed_all (environment_of r p) u ks) (keyed_all (environment_of r p) w js)
  unfolding key_answers keyed_all
  keys_alike u w none h = (refl, h)
  keys_alike u w (same_key z {xs = ks} {ys = js} q) h =
      let one = key_alike u w z.variable z.word z.word (λ y i. agree_plain r law o known y.level (keyed_word (variable_at (environment_of r p) z.variable) z.word)) h in
      let more = keys_alike (key_after (environment_of r p) u z) (key_after (environment_of r p) w z) q one.1 in
      (ap (λ (a : Result Unit KeyRefusal). a ∷ key_answers (environment_of r p) (key_after (environment_of r p) u z) ks) one.0 ∙ ap (λ (bs : List (Result Unit KeyRefusal)). key_answer (environment_of r p) w z ∷ bs) more.0, more.1)
  keys_alike u w (hidden v a b {xs = ks} {ys = js} i n q) h =
      let x : Keying = record { variable = v; word = a } in
      let y : Keying = record { variable = v; word = b } in
      let one = key_alike u w v a b (λ z s. agree_hidden r law o known z.level (keyed_word (variable_at (environment_of r p) v) a) (keyed_word (variable_at (environment_of r p) v) b) (subst (λ (l : ℕ). r.flows l o ≡ false) (level_is p (nodes_of r p) v z s) n)) h in
      let more = keys_alike (key_after (environment_of r p) u x) (key_after (environment_of r p) w y) q one.1 in
      (ap (λ (c : Result Unit KeyRefusal). c ∷ key_answers (environment_of r p) (key_after (environment_of r p) u x) ks) one.0 ∙ ap (λ (bs : List (Result Unit KeyRefusal)). key_answer (environment_of r p) w y ∷ bs) more.0, more.1)

  -- ---- the start

  started_low : (u w : Unstarted) → KeyedAlike u w → Low r o p (started (environment_of r p) u) (started (environment_of r p) w)
  started_low u w h =
      let q = main (environment_of r p) in
      let d = procedure (environment_of r p) q in
      let i = at_there no_procedure p.procedures q (omega (arith, formed.some_procedures)) in
      low_at (b_statement (well q d i).statement (body_belongs p formed.some_procedures (rises r p formed well) (last r p formed well) q d i)) bottom
      (alike_cleared r law o known p q 0 p.variables u.kept w.kept refl h.kept)

  -- ---- requests

  low_shown : {c d : Config} → Low r o p c d → shown c ≡ shown d
  low_shown (low_at b s a) = refl
  low_shown (low_done a) = refl

  low_outcome : {c d : Config} → Low r o p c d → outcome c ≡ outcome d
  low_outcome (low_at b s a) = refl
  low_outcome (low_done a) = refl

  low_kept : {c d : Config} → Low r o p c d → Alike r o p (kept c) (kept d)
  low_kept (low_at b s a) = a
  low_kept (low_done a) = a

  -- the same steps are too many for both
  too_many_alike : (n : ℕ) (c d : Config) → Low r o p c d → too_many n c ≡ too_many n d
  too_many_alike n c d l =
      ap (λ (u : Outcome). goes_on u && ltb 4294967295 ((shown c).spent + n)) (low_outcome l) ∙ ap (λ (s : Shown). goes_on (outcome d) && ltb 4294967295 (s.spent + n)) (low_shown l)

  ran_alike : (c d e f : Config) → Low r o p c d → Low r o p e f → ran c e ≡ ran d f
  ran_alike c d e f l m =
      let s : shown c ≡ shown d = low_shown l in
      let t : shown e ≡ shown f = low_shown m in
      let u : outcome e ≡ outcome f = low_outcome m in
      cc

  line_alike : (i : ℕ) (c d : Config) → Low r o p c d → answer r (environment_of r p) c (LineRequest i) ≡ answer r (environment_of r p) d (LineRequest i)
  line_alike i c d l = ap (λ (s : Shown). cond (ltb i (length s.lines)) (LineAnswer (get_or s.lines i no_line)) (Refused NoLine)) (low_shown l)

  looked_alike : (l v : ℕ) (x : Option Variable) (k j : Kept) → variable_at (environment_of r p) v ≡ x → r.flows l o ≡ true → Alike r o p k j → looked r (environment_of r p) l x (word_in (cell v k)) ≡ looked r (environment_of r p) l x (word_in (cell v j))
  looked_alike l v None k j e f a = refl
  looked_alike l v (Some x) k j e f a = by (r.flows x.level l) refl
    where
      by : (c : Bool) → r.flows x.level l ≡ c → cond c (Word x.data_type (word_in (cell v k))) (Refused NotAllowed) ≡ cond c (Word x.data_type (word_in (cell v j))) (Refused NotAllowed)
      by true g = ap (λ (z : Value ℕ). Word x.data_type (word_in z)) (a.same v x e (law.transitive x.level l o g f))
      by false g = refl

  look_alike : (l v : ℕ) (c d : Config) → Low r o p c d → open_to r o (Look l v) (answer r (environment_of r p) c (Look l v)) ≡ open_to r o (Look l v) (answer r (environment_of r p) d (Look l v))
  look_alike l v c d m = by (r.flows l o) refl
    where
      by : (t : Bool) → r.flows l o ≡ t → cond t (Some (answer r (environment_of r p) c (Look l v))) None ≡ cond t (Some (answer r (environment_of r p) d (Look l v))) None
      by true f = ap (λ (a : Answer). Some (cond (r.is_level l) a (Refused NoLevel))) (looked_alike l v (variable_at (environment_of r p) v) (kept c) (kept d) refl f (low_kept m))
      by false f = refl

  -- what is told of the requests that are still to come: where lines part, they do so after those that stand
  data Told (xs : List Request) (c d : Config) : Type 0 where
    told_whole : (shown (finally r (environment_of r p) c xs)).lines ≡ (shown (finally r (environment_of r p) d xs)).lines → seen r o xs (answers r (environment_of r p) c xs) ≡ seen r o xs (answers r (environment_of r p) d xs) → Told xs c d
    told_parted : (i j : ℕ) → length (shown c).lines ≤ i → Parts i (shown (finally r (environment_of r p) c xs)).lines (shown (finally r (environment_of r p) d xs)).lines → Wrote i j (answers r (environment_of r p) c xs) → Wrote i j (answers r (environment_of r p) d xs) → take j (seen r o xs (answers r (environment_of r p) c xs)) ≡ take j (seen r o xs (answers r (environment_of r p) d xs)) → Told xs c d

  -- a request that tells the observer the same of both, and the requests after it
  told_on : (x : Request) (xs : List Request) (c d : Config) → open_to r o x (answer r (environment_of r p) c x) ≡ open_to r o x (answer r (environment_of r p) d x) → standing (answer r (environment_of r p) c x) ≤ length (shown (after r (environment_of r p) c x)).lines → standing (answer r (environment_of r p) d x) ≤ length (shown (after r (environment_of r p) c x)).lines → length (shown c).lines ≤ length (shown (after r (environment_of r p) c x)).lines → Told xs (after r (environment_of r p) c x) (after r (environment_of r p) d x) → Told (x ∷ xs) c d
  unfolding answers finally seen
  told_on x xs c d e s t u (told_whole f g) =
      told_whole f (ap (λ (a : Option Answer). a ∷ seen r o xs (answers r (environment_of r p) (after r (environment_of r p) c x) xs)) e ∙ ap (λ (bs : List (Option Answer)). open_to r o x (answer r (environment_of r p) d x) ∷ bs) g)
  told_on x xs c d e s t u (told_parted i j b q w v g) =
      told_parted i (suc j) (omega (arith, u, b)) q (later (omega (arith, s, b)) w) (later (omega (arith, t, b)) v)
      (ap (λ (a : Option Answer). a ∷ take j (seen r o xs (answers r (environment_of r p) (after r (environment_of r p) c x) xs))) e ∙ ap (λ (bs : List (Option Answer)). open_to r o x (answer r (environment_of r p) d x) ∷ bs) g)

  told_at : {xs : List Request} {c d : Config} (i j : Config) → i ≡ c → j ≡ d → Told xs c d → Told xs i j
  told_at {xs = xs} {d = d} i j e f t = subst (λ (a : Config). Told xs i a) (sym f) (subst (λ (a : Config). Told xs a d) (sym e) t)

  grows_longer : (xs ys : List Line) → Grows xs ys → length xs ≤ length ys
  grows_longer xs ys (zs, e) = omega (arith, ap length e, length-append xs zs)

  after_grows : (c : Config) (x : Request) → Grows (shown c).lines (shown (after r (environment_of r p) c x)).lines
  after_grows c (Run n) = by (too_many n c)
    where
      by : (t : Bool) → Grows (shown c).lines (shown (cond t c (run (environment_of r p) n c))).lines
      by true = grows_same (shown c).lines
      by false = run_grows (environment_of r p) n c
  after_grows c (LineRequest i) = grows_same (shown c).lines
  after_grows c (Look l v) = grows_same (shown c).lines

  finally_grows : (c : Config) (xs : List Request) → Grows (shown c).lines (shown (finally r (environment_of r p) c xs)).lines
  unfolding finally
  finally_grows c [] = grows_same (shown c).lines
  finally_grows c (x ∷ xs) = grows_on (shown c).lines (shown (after r (environment_of r p) c x)).lines _ (after_grows c x) (finally_grows (after r (environment_of r p) c x) xs)

  -- a run is too long, and nothing changes
  long_told : (n : ℕ) (xs : List Request) (c d : Config) → Low r o p c d → too_many n c ≡ true → Told xs c d → Told (Run n ∷ xs) c d
  long_told n xs c d l h t =
      let g : too_many n d ≡ true = sym (too_many_alike n c d l) ∙ h in
      let ac : answer r (environment_of r p) c (Run n) ≡ Refused TooManySteps = ap (λ (b : Bool). cond b (Refused TooManySteps) (ran c (run (environment_of r p) n c))) h in
      let ad : answer r (environment_of r p) d (Run n) ≡ Refused TooManySteps = ap (λ (b : Bool). cond b (Refused TooManySteps) (ran d (run (environment_of r p) n d))) g in
      let bc : after r (environment_of r p) c (Run n) ≡ c = ap (λ (b : Bool). cond b c (run (environment_of r p) n c)) h in
      let bd : after r (environment_of r p) d (Run n) ≡ d = ap (λ (b : Bool). cond b d (run (environment_of r p) n d)) g in
      told_on (Run n) xs c d (ap Some (ac ∙ sym ad)) (omega (arith, ap standing ac)) (omega (arith, ap standing ad)) (omega (arith, ap (λ (z : Config). length (shown z).lines) bc))
      (told_at (after r (environment_of r p) c (Run n)) (after r (environment_of r p) d (Run n)) bc bd t)

  -- a run that spends steps
  ran_told : (n : ℕ) (xs : List Request) (c d : Config) → Low r o p c d → too_many n c ≡ false → ((a b : Config) → Low r o p a b → Told xs a b) → Seen r o p (run (environment_of r p) n c) (run (environment_of r p) n d) → Told (Run n ∷ xs) c d
  unfolding answers finally
  ran_told n xs c d l h f s = by s
    where
      g : too_many n d ≡ false
      g = sym (too_many_alike n c d l) ∙ h

      ac : answer r (environment_of r p) c (Run n) ≡ ran c (run (environment_of r p) n c)
      ac = ap (λ (b : Bool). cond b (Refused TooManySteps) (ran c (run (environment_of r p) n c))) h

      ad : answer r (environment_of r p) d (Run n) ≡ ran d (run (environment_of r p) n d)
      ad = ap (λ (b : Bool). cond b (Refused TooManySteps) (ran d (run (environment_of r p) n d))) g

      bc : after r (environment_of r p) c (Run n) ≡ run (environment_of r p) n c
      bc = ap (λ (b : Bool). cond b c (run (environment_of r p) n c)) h

      bd : after r (environment_of r p) d (Run n) ≡ run (environment_of r p) n d
      bd = ap (λ (b : Bool). cond b d (run (environment_of r p) n d)) g

      by : Seen r o p (run (environment_of r p) n c) (run (environment_of r p) n d) → Told (Run n ∷ xs) c d
      by (seen_same m) =
          let more = grows_longer (shown c).lines (shown (run (environment_of r p) n c)).lines (run_grows (environment_of r p) n c) in
          let long = ap (λ (z : Config). length (shown z).lines) bc in
          told_on (Run n) xs c d (ap Some (ac ∙ ran_alike c d (run (environment_of r p) n c) (run (environment_of r p) n d) l m ∙ sym ad))
          (omega (arith, ap standing ac, long)) (omega (arith, ap standing ad, long, ap (λ (z : Shown). length z.lines) (low_shown m))) (omega (arith, long, more))
          (told_at (after r (environment_of r p) c (Run n)) (after r (environment_of r p) d (Run n)) bc bd (f (run (environment_of r p) n c) (run (environment_of r p) n d) m))
      by (seen_parted i q) =
          let (us, eu) = run_grows (environment_of r p) n c in
          let (vs, ev) = run_grows (environment_of r p) n d in
          let lines : (shown d).lines ≡ (shown c).lines = sym (ap (λ (z : Shown). z.lines) (low_shown l)) in
          let low = parts_below q in
          told_parted i 0 (parts_beyond (shown c).lines us vs eu (ev ∙ ap (λ (ls : List Line). ls ++ vs) lines) q)
          (parts_grow _ _ q
          (subst (λ (z : Config). Grows (shown z).lines (shown (finally r (environment_of r p) (after r (environment_of r p) c (Run n)) xs)).lines) bc (finally_grows (after r (environment_of r p) c (Run n)) xs))
          (subst (λ (z : Config). Grows (shown z).lines (shown (finally r (environment_of r p) (after r (environment_of r p) d (Run n)) xs)).lines) bd (finally_grows (after r (environment_of r p) d (Run n)) xs)))
          (now (omega (arith, ap standing ac, low.0))) (now (omega (arith, ap standing ad, low.1))) refl

  -- lines and looks say nothing of how many lines stand
  quiet_line : (b : Bool) (x : Line) → standing (cond b (LineAnswer x) (Refused NoLine)) ≡ 0
  quiet_line true x = refl
  quiet_line false x = refl

  quiet_looked : (b : Bool) (x : Variable) (w : ℕ) → standing (cond b (Word x.data_type w) (Refused NotAllowed)) ≡ 0
  quiet_looked true x w = refl
  quiet_looked false x w = refl

  quiet_look : (b : Bool) (l w : ℕ) (x : Option Variable) → standing (cond b (looked r (environment_of r p) l x w) (Refused NoLevel)) ≡ 0
  quiet_look true l w None = refl
  quiet_look true l w (Some x) = quiet_looked (r.flows x.level l) x w
  quiet_look false l w x = refl

  requests_told : (xs : List Request) (c d : Config) → Low r o p c d → Told xs c d
  unfolding answers finally seen
  requests_told [] c d l = told_whole (ap (λ (s : Shown). s.lines) (low_shown l)) refl
  requests_told (Run n ∷ xs) c d l = run_told (too_many n c) refl (requests_told xs) (run_low r law o known p formed well n c d l)
    where
      run_told : (t : Bool) → too_many n c ≡ t → ((a b : Config) → Low r o p a b → Told xs a b) → Seen r o p (run (environment_of r p) n c) (run (environment_of r p) n d) → Told (Run n ∷ xs) c d
      run_told true h f s = long_told n xs c d l h (f c d l)
      run_told false h f s = ran_told n xs c d l h f s
  requests_told (LineRequest i ∷ xs) c d l =
      told_on (LineRequest i) xs c d (ap Some (line_alike i c d l)) (omega (arith, quiet_line (ltb i (length (shown c).lines)) (get_or (shown c).lines i no_line))) (omega (arith, quiet_line (ltb i (length (shown d).lines)) (get_or (shown d).lines i no_line))) (le_refl (length (shown c).lines)) (requests_told xs c d l)
  requests_told (Look v w ∷ xs) c d l =
      told_on (Look v w) xs c d (look_alike v w c d l) (omega (arith, quiet_look (r.is_level v) v (word_in (cell w (kept c))) (variable_at (environment_of r p) w))) (omega (arith, quiet_look (r.is_level v) v (word_in (cell w (kept d))) (variable_at (environment_of r p) w))) (le_refl (length (shown c).lines)) (requests_told xs c d l)

  -- ---- sequences

  told_secret : (xs : List Request) (c d : Config) → Told xs c d → KeptSecret r o xs (answers r (environment_of r p) c xs) (answers r (environment_of r p) d xs) (shown (finally r (environment_of r p) c xs)).lines (shown (finally r (environment_of r p) d xs)).lines
  told_secret xs c d (told_whole e f) = whole e f
  told_secret xs c d (told_parted i j b q w v t) = parted i j q w v t

  secret : (c d : Counts) (ks js : List Keying) (xs : Option (List Request)) → AlikeKeyings r o (environment_of r p) ks js → Secret r o (listed xs) (transcript_of r (environment_of r p) c ks xs) (transcript_of r (environment_of r p) d js xs)
  secret c d ks js None q = (keys_alike (unstarted (environment_of r p) c) (unstarted (environment_of r p) d) q (record { keyed = refl; kept = opened_alike c d })).0
  secret c d ks js (Some xs) q =
      let u = unstarted (environment_of r p) c in
      let w = unstarted (environment_of r p) d in
      let keys = keys_alike u w q (record { keyed = refl; kept = opened_alike c d }) in
      let a = started (environment_of r p) (keyed_all (environment_of r p) u ks) in
      let b = started (environment_of r p) (keyed_all (environment_of r p) w js) in
      (keys.0, told_secret xs a b (requests_told xs a b (started_low (keyed_all (environment_of r p) u ks) (keyed_all (environment_of r p) w js) keys.1)))

-- of a file that opens or does not
secret_by : (r : Rules) → Lawful r → (bs : List ℕ) (v : Result Layout Refusal) (o : ℕ) → r.is_level o ≡ true → verdict_of r bs ≡ v → (c d : Counts) (ks js : List Keying) (xs : Option (List Request)) → AlikeIn r o bs v ks js → Secret r o (listed xs) (transcript_by r bs v c (record { keyings = ks; requests = xs })) (transcript_by r bs v d (record { keyings = js; requests = xs }))
secret_by r law bs (Err x) o known e c d ks js xs q = refl
secret_by r law bs (Ok l) o known e c d ks js xs q =
    let k = checked r bs l e in
    subst (λ (i : Environment). Secret r o (listed xs) (transcript_of r i c ks xs) (transcript_of r i d js xs)) (sym k.is)
    (secret r law o known k.program k.formed k.typed c d ks js xs (subst (λ (i : Environment). AlikeKeyings r o i ks js) k.is q))

pub secrecy : (r : Rules) → Lawful r → Secrecy r
secrecy r law bs o known c d ks js xs q = secret_by r law bs (verdict_of r bs) o known refl c d ks js xs q
