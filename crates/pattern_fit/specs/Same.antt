-- When two types are one type (IEEE 1800-2017 clause 6.22.1): structs, unions and enums by their declarations and by what stands in
-- them, since one declaration gives each instance a type of its own where parameters stand in it; others by their form.
use Rattle.std.specs.Prelude.{ℕ, Bool, true, false, not, ◌&&◌, ◌==◌, cond, ℤ, List, [], ◌∷◌}
use Rattle.std.specs.Ordering.{int_eq}
use Rattle.sv_types.specs.declared.types.SvType.{SvType, SvType-F, out-SvType, fold-SvType}
use Rattle.sv_types.specs.declared.types.Member.{Member, Member-F, fold-Member}

abbrev pub same_bool : Bool → Bool → Bool
same_bool a b = cond a b (not b)

abbrev pub of_scalar : Bool → Bool → SvType-F SvType Member → Bool
of_scalar four s (SvType-F.Scalar f t) = same_bool four f && same_bool s t
of_scalar four s (SvType-F.PackedArray l r t item) = false
of_scalar four s (SvType-F.Struct id packed t ms) = false
of_scalar four s (SvType-F.Union id t ms) = false
of_scalar four s (SvType-F.Enum id base names) = false
of_scalar four s (SvType-F.UnpackedArray l r item) = false

abbrev pub is_packed_array : ℤ → ℤ → Bool → (SvType → Bool) → SvType-F SvType Member → Bool
is_packed_array left right s same (SvType-F.Scalar f t) = false
is_packed_array left right s same (SvType-F.PackedArray l r t item) = int_eq left l && (int_eq right r && (same_bool s t && same item))
is_packed_array left right s same (SvType-F.Struct id packed t ms) = false
is_packed_array left right s same (SvType-F.Union id t ms) = false
is_packed_array left right s same (SvType-F.Enum id base names) = false
is_packed_array left right s same (SvType-F.UnpackedArray l r item) = false

-- members, of which the types are compared
abbrev pub same_members : List (SvType → Bool) → List Member → Bool
same_members [] [] = true
same_members [] (m ∷ ms) = false
same_members (f ∷ fs) [] = false
same_members (f ∷ fs) (m ∷ ms) = f m.of && same_members fs ms

abbrev pub of_struct : ℕ → Bool → Bool → List (SvType → Bool) → SvType-F SvType Member → Bool
of_struct n is_packed s same (SvType-F.Scalar f t) = false
of_struct n is_packed s same (SvType-F.PackedArray l r t item) = false
of_struct n is_packed s same (SvType-F.Struct id packed t ms) =
    (n == id) && (same_bool is_packed packed && (same_bool s t && same_members same ms))
of_struct n is_packed s same (SvType-F.Union id t ms) = false
of_struct n is_packed s same (SvType-F.Enum id base names) = false
of_struct n is_packed s same (SvType-F.UnpackedArray l r item) = false

abbrev pub of_union : ℕ → Bool → List (SvType → Bool) → SvType-F SvType Member → Bool
of_union n s same (SvType-F.Scalar f t) = false
of_union n s same (SvType-F.PackedArray l r t item) = false
of_union n s same (SvType-F.Struct id packed t ms) = false
of_union n s same (SvType-F.Union id t ms) = (n == id) && (same_bool s t && same_members same ms)
of_union n s same (SvType-F.Enum id base names) = false
of_union n s same (SvType-F.UnpackedArray l r item) = false

abbrev pub of_enum : ℕ → (SvType → Bool) → SvType-F SvType Member → Bool
of_enum n same (SvType-F.Scalar f t) = false
of_enum n same (SvType-F.PackedArray l r t item) = false
of_enum n same (SvType-F.Struct id packed t ms) = false
of_enum n same (SvType-F.Union id t ms) = false
of_enum n same (SvType-F.Enum id base names) = (n == id) && same base
of_enum n same (SvType-F.UnpackedArray l r item) = false

abbrev pub is_unpacked_array : ℤ → ℤ → (SvType → Bool) → SvType-F SvType Member → Bool
is_unpacked_array left right same (SvType-F.Scalar f t) = false
is_unpacked_array left right same (SvType-F.PackedArray l r t item) = false
is_unpacked_array left right same (SvType-F.Struct id packed t ms) = false
is_unpacked_array left right same (SvType-F.Union id t ms) = false
is_unpacked_array left right same (SvType-F.Enum id base names) = false
is_unpacked_array left right same (SvType-F.UnpackedArray l r item) = int_eq left l && (int_eq right r && same item)

abbrev pub same_step : SvType-F (SvType → Bool) (SvType → Bool) → SvType → Bool
same_step (SvType-F.Scalar four s) u = of_scalar four s (out-SvType u)
same_step (SvType-F.PackedArray l r s item) u = is_packed_array l r s item (out-SvType u)
same_step (SvType-F.Struct id packed s ms) u = of_struct id packed s ms (out-SvType u)
same_step (SvType-F.Union id s ms) u = of_union id s ms (out-SvType u)
same_step (SvType-F.Enum id base names) u = of_enum id base (out-SvType u)
same_step (SvType-F.UnpackedArray l r item) u = is_unpacked_array l r item (out-SvType u)

abbrev pub same_member : Member-F (SvType → Bool) (SvType → Bool) → SvType → Bool
same_member m u = m.of u

abbrev pub same_type : SvType → SvType → Bool
same_type = fold-SvType (SvType → Bool) (SvType → Bool) same_step same_member

abbrev pub of_member : Member → SvType → Bool
of_member = fold-Member (SvType → Bool) (SvType → Bool) same_step same_member
