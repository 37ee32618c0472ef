-- What is given to targets with enums in them.
use Rattle.std.specs.Prelude.{◌≡◌, ℕ, Bool, true, false, cond, Option, Some, None, Result, Ok, Err}
use Rattle.sv_types.specs.declared.expression.Expr.{Expr}
use Rattle.expr_type.specs.declared.halt.Halt.{Halt}
use Rattle.expr_type.specs.declared.halt.Halt.TheVariants as H
use Rattle.expr_type.specs.Operands.{Operand, Plain, Pattern, Stream}
use Rattle.pattern_laws.specs.Reasons.{is_sooner}

-- whether a break comes before that of an enum at a token
abbrev pub sooner_than_enum : ℕ → ℕ → ℕ → Bool
sooner_than_enum at rule first = is_sooner (record { at = at; rule = rule }) (record { at = first; rule = 503 })

-- the break that counts
abbrev pub forbidden : ℕ → Result Expr Halt → Halt
forbidden first (Ok e) = H.Breaks first 503
forbidden first (Err H.Memory) = H.Memory
forbidden first (Err H.Quiet) = H.Breaks first 503
forbidden first (Err (H.Breaks at rule)) = cond (sooner_than_enum at rule first) (H.Breaks at rule) (H.Breaks first 503)

abbrev pub Forbids : Bool → ℕ → Result Expr Halt → Result Expr Halt → Type 0
Forbids false first made r = r ≡ made
Forbids true first made r = r ≡ Err (forbidden first made)

-- the first token of an operand that is no stream
abbrev pub plain_first : Operand → Option ℕ
plain_first (Plain v) = Some v.first
plain_first (Pattern tick of) = Some tick
plain_first (Stream v) = None
