-- Casts to sizes and types, by what stands before their ticks.
use Rattle.std.specs.Prelude.{ℕ, false, [], pos, unsigned_abs, Result, Ok, Err}
use Rattle.sv_tree.specs.declared.expressions.Cast.{Cast}
use Rattle.sv_types.specs.declared.expression.Expr.{Expr}
use Rattle.sv_types.specs.declared.types.SvType.{SvType}
use Rattle.expr_type.specs.declared.halt.Halt.{Halt}
use Rattle.expr_type.specs.declared.operand.Valued.{Valued}
use Rattle.expr_type.specs.Forms as F
use Rattle.expr_type.specs.Names.{Context, Source}
use Rattle.expr_type.specs.Operands.{Operand, number_within}
use Rattle.expr_type.specs.Typings.{Typing, both, checked, rule, whole}
use Rattle.typing_patterns.specs.Insides.{bits_of, inside_of}

-- the size that an operand gives
abbrev pub size_of : Source → Typing Operand → Typing ℕ
size_of k x = checked (number_within k (pos 1) F.most_of_size x) (λ n. whole (unsigned_abs n.number))

abbrev pub sized : Context → ℕ → Typing ℕ → Cast → Typing Valued
sized k first n c = both n (bits_of k c) (λ m p. rule (F.size_cast k.source first m p))

abbrev pub typed_by : Context → ℕ → Typing SvType → Cast → Typing Valued
typed_by k first t c = F.by_type k.source first t (inside_of k c)

-- an expression that is whole by itself, as a value
abbrev pub whole_of : ℕ → Expr → Valued
whole_of first e = record { first = first; begins = first; is_unsized = false; expr = e; arithmetic = [] }

abbrev pub whole_by : ℕ → Result Expr Halt → Result Valued Halt
whole_by first (Ok e) = Ok (whole_of first e)
whole_by first (Err h) = Err h
