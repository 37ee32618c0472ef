-- Enum values by their bits in the base.
use Rattle.std.specs.Prelude.{◌≡◌, ⊤, Bool, true, false, ◌&&◌, cond, ℤ, pos, ◌+ℤ◌, List, [], ◌∷◌, ◌++◌, length, max, Option, Some, None}
use Rattle.b4_core.specs.declared.bit.Bit4.{Bit4}
use Rattle.b4_core.specs.declared.bit.Bit4.TheVariants.{Zero, One}
use Rattle.b4_core.specs.Bits.{is_one}
use Rattle.b4_core.specs.Bitwise.{same_bits}
use Rattle.b4_core.specs.Vectors.{ext, known, number, vec}
use Rattle.sv_types.specs.declared.types.SvType.{SvType}
use Rattle.sv_types.specs.Layouts.{width_of}
use Rattle.expr_type.specs.Operands.{in_range}
use Rattle.expr_type.specs.Shapes.{sign_of}
use Rattle.expr_type.specs.Types.{least_value, most_value}

-- a vector as a signed one: a 0 goes on top of an unsigned one
abbrev pub as_signed : Bool → List Bit4 → List Bit4
as_signed true v = v
as_signed false v = v ++ Zero ∷ []

-- signed vectors with one number: in the width of the longer one they are the same bits
abbrev pub has_same_number : List Bit4 → List Bit4 → Bool
has_same_number a b = let w = max (length a) (length b) in same_bits (ext w true a) (ext w true b)

-- the number of a constant, unless a bit of it is x or z, where it is a value of the base
abbrev pub value_in : SvType → Bool → List Bit4 → Option ℤ
value_in t signed v = in_range (least_value t) (most_value t) (cond (known v) (Some (number signed v)) None)

-- the bits of a value in the base
pub record HasBits (t : SvType) (v : List Bit4) (n : ℤ) : Type 0 where
  pub bits : v ≡ vec (width_of t) n
  pub number : number (sign_of t) v ≡ n

abbrev pub BitsOf : SvType → Option (List Bit4) → Option ℤ → Type 0
BitsOf t None None = ⊤
BitsOf t None (Some n) = ⊥
BitsOf t (Some v) None = ⊥
BitsOf t (Some v) (Some n) = HasBits t v n

-- one more: a carry from the lowest bit on
abbrev pub with_carry : Bool → Bit4 → Bit4
with_carry false b = b
with_carry true b = cond (is_one b) Zero One

abbrev pub carried : Bool → List Bit4 → List Bit4
carried c [] = []
carried c (b ∷ v) = with_carry c b ∷ carried (c && is_one b) v

-- the number behind that of some bits, where it is a value of the base
abbrev pub value_after : SvType → List Bit4 → Option ℤ
value_after t v = in_range (least_value t) (most_value t) (Some (number (sign_of t) v +ℤ pos 1))
