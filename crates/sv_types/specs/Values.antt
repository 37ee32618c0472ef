-- Values as trees of members and elements, and their bits.
use Rattle.std.specs.Prelude.{◌≡◌, ℕ, zero, suc, ◌+◌, ◌*◌, max, List, [], ◌∷◌, length, take, drop}
use Rattle.b4_core.specs.declared.bit.Bit4.{Bit4}
use Rattle.sv_types.specs.declared.types.Value.{Value, Value-F, fold-Value}
use Rattle.sv_types.specs.declared.types.Value.TheVariants.{Bits, Items}
use Rattle.sv_types.specs.declared.types.SvType.{SvType, SvType-F, fold-SvType}
use Rattle.sv_types.specs.declared.types.Member.{Member, Member-F, fold-Member}
use Rattle.sv_types.specs.Layouts.{layout, width_of, stacked, count_of, stored, default_bits}

abbrev pub value_step : Value-F (List Bit4) → List Bit4
value_step (Value-F.Bits bits) = bits
value_step (Value-F.Items items) = stacked items

-- the bits of a value, the first member or the leftmost element most significant
abbrev pub bits : Value → List Bit4
bits = fold-Value (List Bit4) value_step

-- a type as it cuts a vector up: its width, and the value that has given bits
pub record Shape : Type 0 where
  pub width : ℕ
  pub value : List Bit4 → Value

abbrev pub total : List Shape → ℕ
total [] = 0
total (m ∷ ms) = m.width + total ms

-- each member takes its bits from the top, and leaves the rest to those behind it
abbrev pub cut : List Shape → List Bit4 → List Value
cut [] v = []
cut (m ∷ ms) v = m.value (drop (total ms) v) ∷ cut ms (take (total ms) v)

-- n elements, the leftmost one at the top
abbrev pub cut_evenly : ℕ → Shape → List Bit4 → List Value
cut_evenly zero item v = []
cut_evenly (suc n) item v = item.value (drop (n * item.width) v) ∷ cut_evenly n item (take (n * item.width) v)

abbrev pub most : List Shape → ℕ
most [] = 0
most (m ∷ ms) = max m.width (most ms)

abbrev pub flat : ℕ → Shape
flat n = record { width = n; value = λ v. Bits v }

abbrev pub even : ℕ → Shape → Shape
even n item = record { width = n * item.width; value = λ v. Items (cut_evenly n item v) }

abbrev pub shape_step : SvType-F Shape Shape → Shape
shape_step (SvType-F.Scalar four signed) = flat 1
shape_step (SvType-F.PackedArray left right signed item) = even (count_of left right) item
shape_step (SvType-F.Struct id packed signed members) = record { width = total members; value = λ v. Items (cut members v) }
shape_step (SvType-F.Union id signed members) = flat (most members)
shape_step (SvType-F.Enum id base names) = flat base.width
shape_step (SvType-F.UnpackedArray left right item) = even (count_of left right) item

abbrev pub shape_member : Member-F Shape Shape → Shape
shape_member m = m.of

abbrev pub shape : SvType → Shape
shape = fold-SvType Shape Shape shape_step shape_member

abbrev pub member_shape : Member → Shape
member_shape = fold-Member Shape Shape shape_step shape_member

-- the value that has these bits, as a type stores them
abbrev pub value_of_bits : SvType → List Bit4 → Value
value_of_bits t v = (shape t).value (stored (layout t).two_state v)

abbrev pub default : SvType → Value
default t = (shape t).value (default_bits (layout t).two_state)

-- a value of a type: it has the type's bits, and is what they make
pub record IsOf (t : SvType) (v : Value) : Type 0 where
  pub length : length (bits v) ≡ width_of t
  pub value : v ≡ value_of_bits t (bits v)
