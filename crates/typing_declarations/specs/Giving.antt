-- Types with the dimensions behind names, and what functions give, as the code has them.
use Rattle.std.specs.Prelude.{ℕ, Bool, true, false, List, [], ◌∷◌, Option, Some, Ok}
use Rattle.sv_tree.specs.declared.expressions.Dimension.{Dimension}
use Rattle.sv_types.specs.declared.frame.ParamValue.{ParamValue}
use Rattle.sv_types.specs.declared.statement.FunctionKind.{FunctionKind}
use Rattle.sv_types.specs.declared.statement.FunctionKind.TheVariants as K
use Rattle.sv_types.specs.declared.types.SvType.{SvType}
use Rattle.sv_types.specs.Layouts.{width_of}
use Rattle.expr_type.specs.Functions as F
use Rattle.expr_type.specs.Functions.{names_if, type_if}
use Rattle.expr_type.specs.Names.{Context, LocalId, Source, with_locals, with_values}
use Rattle.expr_type.specs.Operators.{not_too_long}
use Rattle.expr_type.specs.Shapes.{one_bit}
use Rattle.expr_type.specs.Types.{TypeFound, declared_type}
use Rattle.expr_type.specs.Typings.{Checked, Typing, beside_by, checked, rule, whole}
use Rattle.typing_declarations.specs.declared.results.ResultFound.{ResultFound}

-- a type with the dimensions behind a name that has it
abbrev pub dims_by : Context → List Dimension → Option TypeFound → Typing SvType
dims_by k ds o = declared_type (names_if k o) (type_if o) ds

abbrev pub with_dims : Context → Typing TypeFound → List Dimension → Typing (TypeFound × SvType)
with_dims k x ds = beside_by x (dims_by k ds)

-- where it is whole
abbrev pub with_type : TypeFound → SvType → Typing (TypeFound × SvType)
with_type f t = whole (f, t)

abbrev pub whole_dims : Context → TypeFound → List Dimension → Typing (TypeFound × SvType)
whole_dims k f ds = checked (declared_type (with_values f.names k) (Some f.of) ds) (with_type f)

-- what a function gives
abbrev pub kind_by : Bool → FunctionKind
kind_by true = K.Plain
kind_by false = K.Routine

abbrev pub plain_result : Bool → SvType → List ParamValue → F.ResultFound
plain_result plain of names = record { kind = kind_by plain; of = of; names = names }

abbrev pub result_of : ResultFound → F.ResultFound
result_of r = plain_result r.plain r.of r.names

abbrev pub no_result : F.ResultFound
no_result = plain_result false one_bit []

abbrev pub result_rule : Source → ℕ → TypeFound → SvType → Checked F.ResultFound
result_rule k at f t = not_too_long k at (width_of t) (Ok (plain_result true t f.names))

abbrev pub result_typed : Source → ℕ → Typing (TypeFound × SvType) → Typing F.ResultFound
result_typed k at x = checked x (λ p. rule (result_rule k at p.0 p.1))

-- a body's own result
abbrev pub own_local : Context → ℕ → SvType → LocalId
own_local k name t = record { decl = k.declared name; number = 0; of = t }

abbrev pub with_result : Context → ℕ → SvType → Context
with_result k name t = record (with_locals (own_local k name t ∷ []) k) { result = Some t }
