-- The value of an enum's name, by its bits in the base.
use Rattle.std.specs.Prelude.{◌≡◌, ◌≤◌, ⊤, ℕ, ℤ, Bool, true, false, ◌&&◌, not, int_le, List, Option, Some, None, Result, Ok, Err}
use Rattle.b4_core.specs.declared.bit.Bit4.{Bit4}
use Rattle.b4_core.specs.Vectors.{number}
use Rattle.sv_types.specs.declared.statement.Function.{Function}
use Rattle.sv_types.specs.declared.types.SvType.{SvType}
use Rattle.sv_types.specs.Layouts.{width_of}
use Rattle.expr_type.specs.declared.halt.Halt.{Halt}
use Rattle.expr_type.specs.declared.halt.Halt.TheVariants as H
use Rattle.expr_type.specs.declared.operand.Valued.{Valued}
use Rattle.expr_type.specs.Answers.{HaltsBy, reason}
use Rattle.expr_type.specs.Names.{Source, position}
use Rattle.expr_type.specs.Operators.{not_too_long}
use Rattle.expr_type.specs.Shapes.{sign_of}
use Rattle.expr_type.specs.Types.{NameValue, is_name_number, is_taken, least_value, most_value, next_value}
use Rattle.expr_type.specs.Typings.{Checked, refused, where_whole}
use Rattle.enum_types.specs.Bits.{HasBits}

-- bits of a value of the base, and the value that they are of
abbrev pub IsInBase : SvType → List Bit4 → Type 0
IsInBase t v = HasBits t v (number (sign_of t) v)

abbrev pub AreInBase : SvType → Option (List Bit4) → Type 0
AreInBase t None = ⊤
AreInBase t (Some v) = IsInBase t v

abbrev pub last_number : SvType → Option (List Bit4) → Option ℤ
last_number t None = None
last_number t (Some v) = Some (number (sign_of t) v)

abbrev pub named_by : SvType → ℕ → List Bit4 → NameValue
named_by t at v = record { at = at; number = number (sign_of t) v }

-- the bits of a name's value, in a base of at most 65,536 bits, or the rule that it breaks
pub record IsNamed (t : SvType) (at : ℕ) (v : List Bit4) (m : Checked NameValue) : Type 0 where
  pub value : m ≡ Ok (named_by t at v)
  pub bits : IsInBase t v
  pub short : width_of t ≤ 65536

abbrev pub Names : SvType → ℕ → Result (List Bit4) Halt → Checked NameValue → Type 0
Names t at (Ok v) m = IsNamed t at v m
Names t at (Err h) m = HaltsBy h (reason m)

-- a number that no name before has (E509), in a base of at most 65,536 bits (E701)
abbrev pub distinct : Source → SvType → ℕ → List NameValue → ℤ → Checked NameValue
distinct k base at before n =
    refused (is_taken before n) (position k at) 509 (not_too_long k at (width_of base) (Ok (record { at = at; number = n })))

-- the value of a name where a constant is written, and where none is
abbrev pub written : Source → SvType → ℕ → List NameValue → Valued → List Function → Checked NameValue
written k base at before v fs = where_whole (is_name_number k (least_value base) (most_value base) v fs) (λ n. distinct k base at before n.number)

abbrev pub in_order : Source → SvType → ℕ → ℤ → Checked ℤ
in_order k base at n = refused (not (int_le (least_value base) n && int_le n (most_value base))) (position k at) 411 (Ok n)

abbrev pub unwritten : Source → SvType → ℕ → List NameValue → Option ℤ → Checked NameValue
unwritten k base at before last = where_whole (in_order k base at (next_value last)) (distinct k base at before)

-- what stops where the base has more than 65,536 bits
abbrev pub long_halt : ℕ → ℕ → Bool → Halt
long_halt at first true = H.Breaks at 701
long_halt at first false = H.Breaks first 411
