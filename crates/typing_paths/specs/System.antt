-- System functions over expressions.
use Rattle.std.specs.Prelude.{ℕ, List, cond, codes, Option, Some, map}
use Rattle.sv_tree.specs.declared.expressions.Dimension.{Dimension}
use Rattle.sv_tree.specs.declared.expressions.Expr.{Expr}
use Rattle.sv_tree.specs.declared.expressions.Select.{Select}
use Rattle.sv_tree.specs.declared.names.QualifiedName.{QualifiedName}
use Rattle.sv_tree.specs.declared.types.KeywordType.{KeywordType}
use Rattle.sv_types.specs.declared.expression.Form.TheVariants as T
use Rattle.sv_types.specs.declared.types.SvType.{SvType}
use Rattle.expr_type.specs.declared.operand.Valued.{Valued}
use Rattle.expr_type.specs.Expressions.{meaning, select_meaning, type_of_name}
use Rattle.expr_type.specs.Forms as F
use Rattle.expr_type.specs.Names.{Context, Source}
use Rattle.expr_type.specs.Operators.{by_itself}
use Rattle.expr_type.specs.Shapes.{integer}
use Rattle.expr_type.specs.Operands.{width}
use Rattle.expr_type.specs.Typings.{Typing, checked, maybe, whole}
use Rattle.typing_paths.specs.TypingValuesParts as part
use Rattle.typing_paths.specs.TypingValues.{bits_of, value_of}

-- an expression as a type, if it is one
abbrev pub as_type_of : Context → Expr → Typing (Option SvType)
as_type_of k e = maybe ((meaning e).as_type k)

abbrev pub word_type_of : Context → KeywordType → List Dimension → Typing (Option SvType)
word_type_of k of ds = maybe (Some (part.type_of_word k of ds))

abbrev pub named_type_of : Context → QualifiedName → List Select → Typing (Option SvType)
named_type_of k of ss = maybe (type_of_name k of (map select_meaning ss))

abbrev pub bits_call_of : Context → ℕ → Expr → Typing Valued
bits_call_of k name e = F.bits_of k.source name ((meaning e).as_type k) ((meaning e).typed k)

abbrev pub bits_of_part_of : Context → ℕ → Expr → Typing Valued
bits_of_part_of k name e = checked (value_of k e) (λ v. whole (F.bits_number k.source name (width v)))

-- `$clog2`, `$signed` or `$unsigned` of a value with bits
abbrev pub value_call_of : Source → ℕ → Valued → Typing Valued
value_call_of k name v =
    cond (F.is_word k name (codes "$clog2")) (whole (by_itself k name integer (T.Clog2 v.expr)))
    (whole (F.with_sign k name (F.is_word k name (codes "$signed")) v))

abbrev pub bits_function_of : Context → ℕ → Expr → Typing Valued
bits_function_of k name e = checked (bits_of k e) (λ v. value_call_of k.source name v)
