-- The secrecy statement: no sequence of calls carries a hidden figure to an observer, except in a released word. Assumes nothing.
use Rattle.std.specs.Prelude.{◌≡◌, ℕ, zero, suc, ◌<◌, ◌≤◌, true, false, cond, List, [], ◌∷◌, take, Some, None, Ok, Err, Option, Result}
use Rattle.levels.specs.Rules.{Rules}
use Rattle.holding.specs.declared.shares.Counts.{Counts}
use Rattle.program.specs.declared.layout.Layout.{Layout}
use Rattle.program.specs.declared.refusal.Refusal.{Refusal}
use Rattle.typing.specs.Environment.{Environment, variable_at}
use Rattle.typing.specs.Faults.{environment, file_variables, file_procedures, file_nodes, verdict_of}
use Rattle.semantics.specs.Machine.{shown}
use Rattle.semantics.specs.Parting.{Parts}
use Rattle.semantics.specs.Sessions.{input_at, unstarted, key_answers, keyed_all, started, answers, finally}
use Rattle.semantics.specs.State.{level_at}
use Rattle.semantics.specs.declared.calls.Answer.{Answer}
use Rattle.semantics.specs.declared.calls.Answer.TheVariants.{Ran as RanAnswer, Line as LineAnswer, Word, Refused}
use Rattle.semantics.specs.declared.calls.KeyRefusal.{KeyRefusal}
use Rattle.semantics.specs.declared.calls.Keying.{Keying}
use Rattle.semantics.specs.declared.calls.Request.{Request}
use Rattle.semantics.specs.declared.calls.Request.TheVariants.{Run, Line as LineRequest, Look}
use Rattle.semantics.specs.declared.lines.Line.{Line}

-- ---- sequences of calls on a file

-- the keyings after the opening, and the requests after the start, if there is one
pub record Calls : Type 0 where
  pub keyings : List Keying
  pub requests : Option (List Request)

-- what they answer: the opening is refused; or the answers to the keyings and, after the start, to the requests, and the lines in the end
pub data Transcript : Type 0 where
  not_opened : Refusal → Transcript
  not_started : List (Result Unit KeyRefusal) → Transcript
  served : List (Result Unit KeyRefusal) → List Answer → List Line → Transcript

abbrev pub opened_as : Rules → List ℕ → Layout → Environment
opened_as r bs l = environment (file_variables l bs) (file_procedures l bs) (file_nodes r l bs)

abbrev pub transcript_of : Rules → Environment → Counts → List Keying → Option (List Request) → Transcript
transcript_of r e c ks None = not_started (key_answers e (unstarted e c) ks)
transcript_of r e c ks (Some xs) =
    let d = started e (keyed_all e (unstarted e c) ks) in
    served (key_answers e (unstarted e c) ks) (answers r e d xs) (shown (finally r e d xs)).lines

abbrev pub transcript_by : Rules → List ℕ → Result Layout Refusal → Counts → Calls → Transcript
transcript_by r bs (Err x) c calls = not_opened x
transcript_by r bs (Ok l) c calls = transcript_of r (opened_as r bs l) c calls.keyings calls.requests

-- over a holding that has these counts
abbrev pub transcript : Rules → List ℕ → Counts → Calls → Transcript
transcript r bs c calls = transcript_by r bs (verdict_of r bs) c calls

-- ---- what an observer of level o may see

-- the same keyings, but for the words of inputs whose level does not flow into o
pub data AlikeKeyings (r : Rules) (o : ℕ) (e : Environment) : List Keying → List Keying → Type 0 where
  none : AlikeKeyings r o e [] []
  same : (x : Keying) {xs ys : List Keying} → AlikeKeyings r o e xs ys → AlikeKeyings r o e (x ∷ xs) (x ∷ ys)
  hidden : (v a b : ℕ) {xs ys : List Keying} → input_at (variable_at e v) ≡ true → r.flows (level_at e v) o ≡ false → AlikeKeyings r o e xs ys → AlikeKeyings r o e (record { variable = v; word = a } ∷ xs) (record { variable = v; word = b } ∷ ys)

-- all answers are open to it but those to looks from levels that do not flow into its own
abbrev pub open_to : Rules → ℕ → Request → Answer → Option Answer
open_to r o (Run n) a = Some a
open_to r o (LineRequest i) a = Some a
open_to r o (Look l v) a = cond (r.flows l o) (Some a) None

unfoldable pub seen : Rules → ℕ → List Request → List Answer → List (Option Answer)
seen r o [] bs = []
seen r o (x ∷ xs) [] = []
seen r o (x ∷ xs) (a ∷ bs) = open_to r o x a ∷ seen r o xs bs

-- ---- the statement

-- how many lines stand, if an answer says so
abbrev pub standing : Answer → ℕ
standing (RanAnswer x) = x.lines
standing (LineAnswer x) = 0
standing (Word t w) = 0
standing (Refused x) = 0

-- line i was written by request j, the first to answer that more than i lines stand
pub data Wrote (i : ℕ) : ℕ → List Answer → Type 0 where
  now : {a : Answer} {bs : List Answer} → i < standing a → Wrote i zero (a ∷ bs)
  later : {j : ℕ} {a : Answer} {bs : List Answer} → standing a ≤ i → Wrote i j bs → Wrote i (suc j) (a ∷ bs)

-- the lines of two sequences with the same requests are the same, and so is all that the observer sees; or they part at a release that the same call wrote, and it sees the same
-- of all calls before that
pub data KeptSecret (r : Rules) (o : ℕ) (xs : List Request) (cs ds : List Answer) (ls ms : List Line) : Type 0 where
  whole : ls ≡ ms → seen r o xs cs ≡ seen r o xs ds → KeptSecret r o xs cs ds ls ms
  parted : (i j : ℕ) → Parts i ls ms → Wrote i j cs → Wrote i j ds → take j (seen r o xs cs) ≡ take j (seen r o xs ds) → KeptSecret r o xs cs ds ls ms

-- what two transcripts of the same requests tell an observer
abbrev pub Secret : Rules → ℕ → List Request → Transcript → Transcript → Type 0
Secret r o xs (not_opened x) (not_opened y) = x ≡ y
Secret r o xs (not_opened x) (not_started bs) = ⊥
Secret r o xs (not_opened x) (served bs ds ms) = ⊥
Secret r o xs (not_started hs) (not_opened y) = ⊥
Secret r o xs (not_started hs) (not_started bs) = hs ≡ bs
Secret r o xs (not_started hs) (served bs ds ms) = ⊥
Secret r o xs (served hs cs ls) (not_opened y) = ⊥
Secret r o xs (served hs cs ls) (not_started bs) = ⊥
Secret r o xs (served hs cs ls) (served bs ds ms) = (hs ≡ bs) × KeptSecret r o xs cs ds ls ms

abbrev pub listed : Option (List Request) → List Request
listed None = []
listed (Some xs) = xs

-- the keyings are alike in the program of the file, if it has one
abbrev pub AlikeIn : Rules → ℕ → List ℕ → Result Layout Refusal → List Keying → List Keying → Type 0
AlikeIn r o bs (Err x) ks js = Unit {0}
AlikeIn r o bs (Ok l) ks js = AlikeKeyings r o (opened_as r bs l) ks js

-- for every file, every observer and any two sequences that are alike, each over a holding with counts of its own
abbrev pub Secrecy : Rules → Type 0
Secrecy r =
    (bs : List ℕ) (o : ℕ) → r.is_level o ≡ true → (c d : Counts) (ks js : List Keying) (xs : Option (List Request)) → AlikeIn r o bs (verdict_of r bs) ks js → Secret r o (listed xs) (transcript r bs c (record { keyings = ks; requests = xs })) (transcript r bs d (record { keyings = js; requests = xs }))
