-- The theorems on acceptance: a file passes every row exactly where it is a well-formed and well-typed program's, and what that gives. Assumes nothing.
use Rattle.std.specs.Prelude.{◌≡◌, ℕ, ◌<◌, true, List, is_ok, Option, slice_index}
use Rattle.words.specs.declared.types.DataType.{DataType}
use Rattle.levels.specs.Rules.{Rules}
use Rattle.program.specs.Program.{Program, children}
use Rattle.program.specs.declared.records.Node.{Node}
use Rattle.program.specs.declared.records.Node.TheVariants.{Call}
use Rattle.typing.specs.Faults.{verdict_of}
use Rattle.typing.specs.Formed.{Accepted, Among, Belongs}
use Rattle.typing.specs.Typing.{NodeIs, Expression, Statement}
use Rattle.typing.specs.declared.classes.Exits.{Exits}

abbrev pub Bytes : List ℕ → Type 0
Bytes bs = (i : ℕ) → slice_index bs i < 256

-- a file of bytes passes every row exactly where it is accepted so
abbrev pub DecidesAcceptance : Rules → Type 0
DecidesAcceptance r = (bs : List ℕ) → Bytes bs → ((is_ok (verdict_of r bs) ≡ true) → Accepted r bs) × (Accepted r bs → is_ok (verdict_of r bs) ≡ true)

-- what the rules make of a node is one thing: its data type, its level and its exits are determined
pub record Unique (r : Rules) (p : Program) : Type 0 where
  pub data_type : (q n l m : ℕ) (t u : DataType) → Expression r p q n t l → Expression r p q n u m → t ≡ u
  pub level : (q n l m : ℕ) (t u : DataType) → Expression r p q n t l → Expression r p q n u m → l ≡ m
  pub exits : (q n : ℕ) (x y : Exits) → Statement r p q n x → Statement r p q n y → x ≡ y

-- the shape of an accepted program: trees, and calls that go down
pub record Shaped (r : Rules) (p : Program) : Type 0 where
  pub below : (n m : ℕ) (x : Node) → NodeIs p n x → Among m (children x) → m < n
  pub one_parent : (n o m : ℕ) (x y : Node) → NodeIs p n x → NodeIs p o y → Among m (children x) → Among m (children y) → n ≡ o
  pub calls_down : (n q g : ℕ) (f : Option ℕ) → NodeIs p n (Call g f) → Belongs p q n → g < q
  pub levels : (q n l : ℕ) (t : DataType) → Expression r p q n t l → r.is_level l ≡ true

-- what acceptance gives
abbrev pub SoundAcceptance : Rules → Type 0
SoundAcceptance r = (bs : List ℕ) (a : Accepted r bs) → Unique r a.program × Shaped r a.program
