-- What the rules ask of types, and the types of operators (IEEE 1800-2017 clauses 6.11, 6.22, 7.2 to 7.4 and 11.6).
use Rattle.std.specs.Prelude.{ℕ, Bool, true, false, ◌&&◌, ◌||◌, ◌==◌, not, cond, ℤ, pos, ◌-ℤ◌, List, [], Option, Some, None, is_some}
use Rattle.std.specs.List.{list_all}
use Rattle.sv_types.specs.declared.types.SvType.{SvType, SvType-F, out-SvType, fold-SvType}
use Rattle.sv_types.specs.declared.types.SvType.TheVariants.{Scalar, PackedArray}
use Rattle.sv_types.specs.declared.types.Member.{Member, Member-F}
use Rattle.sv_types.specs.Layouts.{layout, count_of}
use Rattle.pattern_fit.specs.Same.{same_step, same_member, same_type}

abbrev pub most_bits : ℕ
most_bits = 65536

-- arithmetic and order end here
abbrev pub most_arithmetic : ℕ
most_arithmetic = 128

abbrev pub sign_of : SvType → Bool
sign_of t = (layout t).signed

-- one bit, a vector, and `integer`: operators, numbers and selects of bits are four-state
abbrev pub one_bit : SvType
one_bit = Scalar true false

abbrev pub vector : ℕ → Bool → SvType
vector w signed = PackedArray (pos w -ℤ pos 1) (pos 0) signed (Scalar true false)

abbrev pub integer : SvType
integer = vector 32 true

-- the type of what has a value as a whole but no bits that operators take
abbrev pub is_unpacked : SvType → Bool
is_unpacked t = elim (out-SvType t) [
  | SvType-F.Scalar four s ↦ false
  | SvType-F.PackedArray l r s item ↦ false
  | SvType-F.Struct id packed s ms ↦ not packed
  | SvType-F.Union id s ms ↦ false
  | SvType-F.Enum id base names ↦ false
  | SvType-F.UnpackedArray l r item ↦ true
]

abbrev pub enum_of : SvType → Option ℕ
enum_of t = elim (out-SvType t) [
  | SvType-F.Scalar four s ↦ None
  | SvType-F.PackedArray l r s item ↦ None
  | SvType-F.Struct id packed s ms ↦ None
  | SvType-F.Union id s ms ↦ None
  | SvType-F.Enum id base names ↦ Some id
  | SvType-F.UnpackedArray l r item ↦ None
]

abbrev pub is_enum : SvType → Bool
is_enum t = is_some (enum_of t)

-- one enum (clause 6.22.1)
abbrev pub is_number : Option ℕ → ℕ → Bool
is_number None n = false
is_number (Some m) n = m == n

abbrev pub is_same_number : Option ℕ → Option ℕ → Bool
is_same_number None u = false
is_same_number (Some n) u = is_number u n

abbrev pub is_same_enum : SvType → SvType → Bool
is_same_enum t u = is_same_number (enum_of t) (enum_of u) && same_type t u

-- Unpacked arrays match by their sizes and elements, other types where they are one type (clause 6.22.2).
abbrev pub same_count : ℤ → ℤ → ℤ → ℤ → Bool
same_count l r k s = count_of l r == count_of k s

abbrev pub matches_array : ℤ → ℤ → (SvType → Bool) → SvType-F SvType Member → Bool
matches_array left right item (SvType-F.Scalar f t) = false
matches_array left right item (SvType-F.PackedArray l r t i) = false
matches_array left right item (SvType-F.Struct id packed t ms) = false
matches_array left right item (SvType-F.Union id t ms) = false
matches_array left right item (SvType-F.Enum id base names) = false
matches_array left right item (SvType-F.UnpackedArray l r i) = same_count left right l r && item i

abbrev pub match_step : SvType-F (SvType → Bool) (SvType → Bool) → SvType → Bool
match_step (SvType-F.Scalar four s) u = same_step (SvType-F.Scalar four s) u
match_step (SvType-F.PackedArray l r s item) u = same_step (SvType-F.PackedArray l r s item) u
match_step (SvType-F.Struct id packed s ms) u = same_step (SvType-F.Struct id packed s ms) u
match_step (SvType-F.Union id s ms) u = same_step (SvType-F.Union id s ms) u
match_step (SvType-F.Enum id base names) u = same_step (SvType-F.Enum id base names) u
match_step (SvType-F.UnpackedArray l r item) u = matches_array l r item (out-SvType u)

abbrev pub matches : SvType → SvType → Bool
matches = fold-SvType (SvType → Bool) (SvType → Bool) match_step same_member

-- what breaks where a value of the second type is given to a target of the first (clauses 7.6, 10.8 and 6.19.3)
abbrev pub is_assignable : SvType → SvType → Bool
is_assignable t u = cond (is_unpacked t) (matches t u) (not (is_unpacked u))

abbrev pub is_plain_to_enum : SvType → SvType → Bool
is_plain_to_enum t u = is_enum t && not (is_same_enum t u)

-- an element of what can be indexed: a packed struct and a union as the vector of their bits, an enum as its base
abbrev pub bit_of_type : SvType → SvType
bit_of_type t = Scalar (not (list_all (λ b. b) (layout t).two_state)) false

abbrev pub base_of : SvType → SvType
base_of t = elim (out-SvType t) [ SvType-F.Enum id base names ↦ base | other ↦ t ]

abbrev pub element_step : SvType-F (SvType → SvType) (SvType → SvType) → SvType → SvType
element_step (SvType-F.Scalar four s) t = Scalar four false
element_step (SvType-F.PackedArray l r s item) t = elim (out-SvType t) [ SvType-F.PackedArray a b c of ↦ of | other ↦ t ]
element_step (SvType-F.Struct id packed s ms) t = bit_of_type t
element_step (SvType-F.Union id s ms) t = bit_of_type t
element_step (SvType-F.Enum id base names) t = base (base_of t)
element_step (SvType-F.UnpackedArray l r item) t = elim (out-SvType t) [ SvType-F.UnpackedArray a b of ↦ of | other ↦ t ]

abbrev pub element_of_member : Member-F (SvType → SvType) (SvType → SvType) → SvType → SvType
element_of_member m = m.of

-- an enum has the elements of its base
abbrev pub element_of : SvType → SvType
element_of t = fold-SvType (SvType → SvType) (SvType → SvType) element_step element_of_member t t

abbrev pub is_array : SvType → Bool
is_array t = elim (out-SvType t) [ SvType-F.UnpackedArray l r item ↦ true | other ↦ false ]

-- what an index selects from: an unpacked struct isn't one
abbrev pub is_indexed : SvType → Bool
is_indexed t = is_array t || not (is_unpacked t)

-- the members of a struct or union
abbrev pub members_of : SvType → List Member
members_of t = elim (out-SvType t) [
  | SvType-F.Struct id packed s ms ↦ ms
  | SvType-F.Union id s ms ↦ ms
  | other ↦ []
]
