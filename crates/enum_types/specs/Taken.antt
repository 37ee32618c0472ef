-- Which values the names of an enum have taken.
use Rattle.std.specs.Prelude.{◌≡◌, ℕ, ℤ, List, map, Option, Some, is_some, if◌then◌else◌}
use Rattle.std.specs.Str.{bytes_eq}
use Rattle.b4_core.specs.declared.bit.Bit4.{Bit4}
use Rattle.b4_core.specs.declared.bit.Bit4.TheVariants.{Zero, One, X, Z}
use Rattle.b4_core.specs.Vectors.{vec}
use Rattle.indexmap.specs.IndexMap as map
use Rattle.sv_types.specs.declared.types.SvType.{SvType}
use Rattle.sv_types.specs.Layouts.{width_of}
use Rattle.expr_type.specs.Operands.{in_range}
use Rattle.expr_type.specs.Types.{NameValue, is_taken, least_value, most_value}
use Rattle.enum_types.specs.declared.taken.Taken.{Taken}

-- the characters of bits, the lowest bit first
abbrev pub character : Bit4 → ℕ
character Zero = 48
character One = 49
character X = 120
character Z = 122

abbrev pub key : List Bit4 → List ℕ
key v = map character v

abbrev pub Keys : Type 0
Keys = List ℕ → Option ℕ

abbrev pub keys_in : Taken → Keys
keys_in t = λ name. map.get bytes_eq t.keys name

abbrev pub with_key : Keys → List ℕ → Keys
with_key ks name = λ q. if bytes_eq name q then Some 0 else ks q

-- a value of the base
abbrev pub IsValue : SvType → ℤ → Type 0
IsValue t n = in_range (least_value t) (most_value t) (Some n) ≡ Some n

-- the table holds the values of some names in a base
pub record Holds (t : SvType) (taken : Taken) (vs : List NameValue) : Type 0 where
  pub values : (n : ℤ) → IsValue t n → is_some (keys_in taken (key (vec (width_of t) n))) ≡ is_taken vs n
