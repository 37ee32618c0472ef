-- Declarations in a row.
use Rattle.std.specs.Prelude.{⊤, Bool, true, false, List, Option, Result, Ok, Err, map}
use Rattle.sv_tree.specs.declared.declarations.Declarator.{Declarator}
use Rattle.sv_types.specs.declared.statement.Function.{Function}
use Rattle.sv_types.specs.declared.types.SvType.{SvType}
use Rattle.expr_type.specs.declared.halt.Halt.{Halt}
use Rattle.expr_type.specs.Names.{Context}
use Rattle.expr_type.specs.Statements.{Declared, and_then, in_turn, variable}
use Rattle.expr_type.specs.Types.{TypeFound}
use Rattle.expr_type.specs.Typings.{Typed, Typing}
use Rattle.typing_scopes.specs.Ahead.{AheadQuiet, AheadWhole}
use Rattle.stmt_laws.specs.Sound.{SoundType}

-- variables of a type, if that is whole
abbrev pub each_variable : Context → Option SvType → List Declarator → Typing Declared
each_variable k of ds = in_turn k (map (variable of) ds)

-- what was found is sound
abbrev pub FoundSound : Result TypeFound Halt → List Function → Type 0
FoundSound (Ok f) fs = SoundType f fs
FoundSound (Err h) fs = ⊤

-- how far a row has come, where all before is whole or not
abbrev pub AheadBy : Bool → Declared → Typing Declared → Typed Declared → List Function → Type 0
AheadBy true d rest row fs = AheadWhole (and_then d) rest row fs
AheadBy false d rest row fs = AheadQuiet rest row fs
