-- What operands keep, and what is allowed.
use Rattle.std.specs.Prelude.{◌≡◌, ⊤, ◌≤◌, ℕ, true, false, nat_lt, List, [], ◌∷◌, Option, Some, None, Result, Ok, Err}
use Rattle.expr_type.specs.declared.halt.Halt.{Halt}
use Rattle.expr_type.specs.declared.operand.Valued.{Valued}
use Rattle.expr_type.specs.Answers.{Break, first_break, HaltsBy}
use Rattle.expr_type.specs.Breaks.{Breaks}
use Rattle.sv_types.specs.declared.expression.Expr.{Expr}
use Rattle.sv_types.specs.Layouts.{width_of}

-- an operand of at most 2^22 bits, which a signal that is an unpacked array may have
abbrev pub IsNarrow : Valued → Type 0
IsNarrow v = width_of v.expr.of ≤ 4194304

-- one of at most 65,536 bits, as E701 leaves a stream
abbrev pub IsShort : Valued → Type 0
IsShort v = width_of v.expr.of ≤ 65536

abbrev pub IsNarrowExpr : Expr → Type 0
IsNarrowExpr e = width_of e.of ≤ 4194304

abbrev pub AllNarrow : List Expr → Type 0
AllNarrow [] = ⊤
AllNarrow (e ∷ es) = IsNarrowExpr e × AllNarrow es

-- no break, or the first of them
abbrev pub reason_of : Option Breaks → Option (Option Break)
reason_of None = None
reason_of (Some b) = Some (first_break b)

abbrev pub Allows : Result (Unit {0}) Halt → Option Breaks → Type 0
Allows (Ok u) o = o ≡ None
Allows (Err h) o = HaltsBy h (reason_of o)

-- a number of bits that isn't too large, or that it is
abbrev pub IsWithin : Option ℕ → ℕ → Type 0
IsWithin None bits = nat_lt 65536 bits ≡ true
IsWithin (Some n) bits = (n ≡ bits) × (nat_lt 65536 bits ≡ false)
