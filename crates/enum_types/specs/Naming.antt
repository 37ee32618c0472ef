-- The value of an enum's name, by its bits in the base.
use Rattle.std.specs.Prelude.{◌≡◌, ⊤, ℕ, ℤ, List, Option, Some, None, Result, Ok, Err}
use Rattle.b4_core.specs.declared.bit.Bit4.{Bit4}
use Rattle.sv_types.specs.declared.types.SvType.{SvType}
use Rattle.sv_types.specs.Layouts.{width_of}
use Rattle.expr_type.specs.declared.halt.Halt.{Halt}
use Rattle.expr_type.specs.Answers.{HaltsBy, reason}
use Rattle.expr_type.specs.Names.{Source, position}
use Rattle.expr_type.specs.Operands.{number_or}
use Rattle.expr_type.specs.Operators.{not_too_long}
use Rattle.expr_type.specs.Types.{NameValue, is_taken}
use Rattle.expr_type.specs.Typings.{Checked, refused, where_whole}
use Rattle.enum_types.specs.Bits.{HasBits}
use Rattle.enum_types.specs.Taken.{IsValue}

-- The value of a name at a token, which stands at its first token or is one more than that before: it is a value of the base
-- (E411) that no name before has (E509), and the base has at most 65,536 bits (E701).
abbrev pub named : Source → ℕ → ℕ → SvType → List NameValue → Option ℤ → Checked NameValue
named k first at t before o =
    where_whole (number_or k first o)
    (λ n. refused (is_taken before n.number) (position k at) 509 (not_too_long k at (width_of t) (Ok (record { at = at; number = n.number }))))

-- a number that the base holds, if there is one
abbrev pub IsInside : SvType → Option ℤ → Type 0
IsInside t None = ⊤
IsInside t (Some n) = IsValue t n

-- the bits of the value, or the rule that it breaks
abbrev pub Names : SvType → ℕ → Result (List Bit4) Halt → Checked NameValue → Type 0
Names t at (Ok v) m = (n : ℤ) × (m ≡ Ok (record { at = at; number = n })) × HasBits t v n
Names t at (Err h) m = HaltsBy h (reason m)
