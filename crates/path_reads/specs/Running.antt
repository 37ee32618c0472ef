-- Bits of an expression as a type stores them, by runs of one kind of store.
use Rattle.std.specs.Prelude.{◌≡◌, ℕ, ◌+◌, ◌-◌, ◌≤◌, ◌<◌, Bool, true, false, List, length, replicate, slice_index_or}
use Rattle.b4_core.specs.declared.bit.Bit4.{Bit4}
use Rattle.b4_core.specs.declared.bit.Bit4.TheVariants.{X}
use Rattle.sv_types.specs.declared.types.SvType.{SvType}
use Rattle.sv_types.specs.Layouts.{layout, width_of, stored}
use Rattle.v_tree.specs.declared.names.Helper.{Helper}
use Rattle.v_meaning.specs.Scopes.{Scope}
use Rattle.v_meaning.specs.Values as T
use Rattle.path_flatten.specs.Naming.{SameNumbers}
use Rattle.path_flatten.specs.Storing.{IsSteady, StoresBits, StoresRun, StoresFrom}
use Rattle.path_reads.specs.declared.runs.Run.{Run}

-- a type stores bits as they are
abbrev pub KeepsBits : SvType → Type 0
KeepsBits t = (c : List Bit4) → length c ≡ width_of t → stored (layout t).two_state c ≡ c

-- the run of equal bits that ends below a place; its bits are two-state where x isn't kept
pub record IsRunBelow (marks : List Bit4) (high : ℕ) (r : Run) : Type 0 where
  pub some : r.low < high
  pub bits : r.bits ≡ high - r.low
  pub all : r.all ≡ length marks
  pub same : IsSteady marks r.low high
  pub two : r.two_state ≡ true → slice_index_or marks (high - 1) X ≡ X → ⊥
  pub four : r.two_state ≡ false → slice_index_or marks (high - 1) X ≡ X

-- the bits of a run are of one kind of store
abbrev pub IsRun : Run → List Bool → Type 0
IsRun r bs = (j : ℕ) → j < r.bits → slice_index_or bs (r.low + j) false ≡ r.two_state

-- a run as it is stored, and all bits from one on by runs; a mark says what becomes of x
abbrev pub StoresOne : T.Meaning → Run → List Helper → T.Meaning → Type 0
StoresOne m r hs p = (bs : List Bool) → IsRun r bs → r.low + r.bits ≤ r.all → 1 ≤ r.bits → StoresRun m bs r.all r.low r.bits hs p

abbrev pub StoresMarks : T.Meaning → List Bit4 → ℕ → List Helper → List T.Meaning → Type 0
StoresMarks m marks high hs ms = (bs : List Bool) → marks ≡ stored bs (replicate (length bs) X) → StoresFrom m bs (length marks) high hs ms

-- bits of a type with these marks as it stores them
abbrev pub StoresAll : T.Meaning → List Bit4 → List Helper → T.Meaning → Type 0
StoresAll m marks hs r = (t : SvType) → marks ≡ stored (layout t).two_state (replicate (width_of t) X) → StoresBits t m hs r

-- pieces name what an expression does
abbrev pub NamesAll : T.Meaning → List T.Meaning → Type 0
NamesAll m ms = (sc : Scope) → SameNumbers (m.names sc) (T.all_names ms sc)
