-- What declarations of a block and the bodies of functions keep.
use Rattle.std.specs.Prelude.{◌≡◌, ⊤, true, List, Option, Some, None}
use Rattle.sv_types.specs.declared.statement.Function.{Function}
use Rattle.sv_types.specs.declared.types.SvType.{SvType}
use Rattle.expr_type.specs.Names.{Context}
use Rattle.expr_type.specs.Statements.{BlockPart, IsStatement, IsDeclared, Declared, Kind, IsType, IsValue, Parameter, WrittenType, OfValue, OfType}
use Rattle.expr_type.specs.Types.{TypeFound}
use Rattle.typing_fits.specs.Types.{is_full}
use Rattle.typing_fits.specs.Sound.{IsNarrowType}
use Rattle.typing_fits.specs.Operands.{AllValuesSound, AllTypesFull, AllLocalsNarrow}
use Rattle.typing_walks.specs.Keeps.{Surrounded}
use Rattle.routine_fits.specs.Sound.{SoundStmt, AllSoundLocals}

-- a type as it is written, and the values of the enum names in it
pub record SoundType (f : TypeFound) (gs : List Function) : Type 0 where
  pub full : is_full f.of ≡ true
  pub names : AllValuesSound f.names

-- What is declared: values have as many bits as their types, types are full, and locals have narrow types and start with what can be given
-- to them.
pub record SoundDeclared (d : Declared) (gs : List Function) : Type 0 where
  pub values : AllValuesSound d.values
  pub types : AllTypesFull d.types
  pub ids : AllLocalsNarrow d.ids
  pub locals : AllSoundLocals d.locals gs

-- a type that may be left out
abbrev pub PerhapsFull : Option SvType → Type 0
PerhapsFull None = ⊤
PerhapsFull (Some t) = is_full t ≡ true

-- what is written of a type
abbrev pub WrittenFull : WrittenType → Type 0
WrittenFull (OfValue s) = ⊤
WrittenFull (OfType t) = is_full t ≡ true

-- what the next parameter takes
abbrev pub KindFull : Kind → Type 0
KindFull IsType = ⊤
KindFull (IsValue t) = WrittenFull t

pub record SoundParameter (p : Parameter) (gs : List Function) : Type 0 where
  pub kind : KindFull p.kind
  pub declared : SoundDeclared p.declared gs

-- an item of a block
abbrev pub SoundPart : BlockPart → List Function → Type 0
SoundPart (IsStatement s) gs = SoundStmt s gs
SoundPart (IsDeclared d) gs = SoundDeclared d gs

-- what `return` gives
abbrev pub NarrowResult : Option SvType → Type 0
NarrowResult None = ⊤
NarrowResult (Some t) = IsNarrowType t

-- a text in which statements stand
pub record AroundStatements (Q : List Function → Type 0) (k : Context) : Type 0 where
  pub around : Surrounded Q k
  pub result : NarrowResult k.result
