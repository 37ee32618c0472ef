-- Parameters by their values.
use Rattle.std.specs.Prelude.{◌≡◌, ⊤, ℕ, Bool, true, List, Option, Some, None, Result, Ok, Err}
use Rattle.sv_types.specs.declared.expression.Expr.{Expr}
use Rattle.sv_types.specs.declared.frame.ParamValue.{ParamValue}
use Rattle.sv_types.specs.declared.statement.Function.{Function}
use Rattle.sv_types.specs.declared.types.SvType.{SvType}
use Rattle.sv_types.specs.Layouts.{width_of}
use Rattle.expr_type.specs.declared.halt.Halt.{Halt}
use Rattle.expr_type.specs.Names.{Source, position}
use Rattle.expr_type.specs.Operands.{Operand, Plain, constant_alone, constant_of, is_constant_value, stops, value_by, width}
use Rattle.expr_type.specs.Operators.{not_too_long}
use Rattle.expr_type.specs.Shapes.{vector}
use Rattle.expr_type.specs.Typings.{Checked, refused, where_whole}
use Rattle.typing_fits.specs.Sound.{SoundAlone, SoundFor}
use Rattle.typing_fits.specs.Types.{is_full}
use Rattle.constant_values.specs.declared.parameters.Place.{Place}

-- the value of a parameter, which has at most 65,536 bits (E701)
abbrev pub param : Place → SvType → List Function → Expr → ParamValue
param p t fs e = record { decl = p.declaration; of = t; value = value_by fs t e }

abbrev pub short : Source → Place → SvType → List Function → Expr → Checked ParamValue
short k p t fs e = not_too_long k p.name (width_of t) (Ok (param p t fs e))

-- E608 and E701
abbrev pub limited : Source → Place → ℕ → SvType → List Function → Expr → Checked ParamValue
limited k p first t fs e = refused (stops fs e) (position k first) 608 (short k p t fs e)

-- of a type, and of that of what it is given
abbrev pub of_type : Source → Place → SvType → Operand → List Function → Checked ParamValue
of_type k p t o fs = where_whole (constant_of k t o fs) (short k p t fs)

abbrev pub of_own_type : Source → Place → Operand → List Function → Checked ParamValue
of_own_type k p o fs = where_whole (is_constant_value k o) (λ v. where_whole (constant_alone k v fs) (short k p v.expr.of fs))

-- of a sign and the range of what it is given
abbrev pub of_range : Source → Place → Bool → Operand → List Function → Checked ParamValue
of_range k p signed o fs = where_whole (is_constant_value k o) (λ v. of_type k p (vector (width v) signed) (Plain v) fs)

abbrev pub parameter_value : Source → Place → Option SvType → Operand → List Function → Checked ParamValue
parameter_value k p None o fs = of_own_type k p o fs
parameter_value k p (Some t) o fs = of_type k p t o fs

-- what may be valued, by itself and as a type stores it
pub record IsGiven (e : Expr) (t : SvType) (fs : List Function) : Type 0 where
  pub alone : SoundAlone e fs
  pub given : SoundFor e t fs

abbrev pub IsGivenIf : Result (Unit {0}) Halt → Expr → SvType → List Function → Type 0
IsGivenIf (Ok u) e t fs = IsGiven e t fs
IsGivenIf (Err h) e t fs = ⊤

abbrev pub AllGiven : Result Expr Halt → SvType → List Function → Type 0
AllGiven (Ok e) t fs = IsGiven e t fs
AllGiven (Err h) t fs = ⊤

-- a type that may be left out
abbrev pub FullIfThere : Option SvType → Type 0
FullIfThere None = ⊤
FullIfThere (Some t) = is_full t ≡ true
