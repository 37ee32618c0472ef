-- How many members or elements types have.
use Rattle.std.proofs.Common.{◌≡◌, ℕ, zero, suc, ℤ, Bool, true, false, ◌&&◌, cond, List, [], ◌∷◌, length, map, replicate, refl, ap, sym, ◌∙◌}
use Rattle.sv_types.specs.declared.types.SvType.{SvType}
use Rattle.sv_types.specs.declared.types.SvType.TheVariants as V
use Rattle.sv_types.specs.declared.types.Member.{Member}
use Rattle.sv_types.specs.declared.types.EnumName.{EnumName}
use Rattle.sv_types.specs.Layouts.{Layout, layout, member_layout, array_layout, with_bits, above_the_next, at_the_bottom, struct_marks, union_marks, count_of, as_a_whole}
use Rattle.sv_types.specs.Operators.{parts_of}
use Rattle.sv_types.proofs.Lengths.{layout-Scalar, layout-PackedArray, layout-Struct, layout-Union, layout-Enum, layout-UnpackedArray}
use Rattle.memory_breaks.specs.Names.{member_count}
use Rattle.memory_breaks.proofs.Marking.{suc-zero}

abbrev parts_in : Layout → ℕ
parts_in l = length (parts_of l)

length-replicate : {A : Type 0} (n : ℕ) (x : A) → length (replicate n x) ≡ n
length-replicate zero x = refl
length-replicate (suc n) x = ap suc (length-replicate n x)

in-array : (left right : ℤ) (s : Bool) (item : Layout) → parts_in (array_layout left right s item) ≡ count_of left right
in-array left right s item = length-replicate (count_of left right) (at_the_bottom item)

length-above : (ms : List Layout) → length (above_the_next ms) ≡ length ms
length-above [] = refl
length-above (m ∷ ms) = ap suc (length-above ms)

length-bottom : (ms : List Layout) → length (map at_the_bottom ms) ≡ length ms
length-bottom [] = refl
length-bottom (m ∷ ms) = ap suc (length-bottom ms)

length-layouts : (ms : List Member) → length (map member_layout ms) ≡ length ms
length-layouts [] = refl
length-layouts (m ∷ ms) = ap suc (length-layouts ms)

some-members : (n : ℕ) → member_count (suc n) ≡ suc n
some-members n = ap (λ b. cond b 2 (suc n)) (suc-zero n)

in-struct : (packed s : Bool) (ms : List Member) → parts_in (with_bits s (above_the_next (map member_layout ms)) (struct_marks packed (map member_layout ms))) ≡ member_count (length ms)
unfolding as_a_whole
in-struct true s [] = refl
in-struct false s [] = refl
in-struct packed s (m ∷ ms) = ap suc (length-above (map member_layout ms) ∙ length-layouts ms) ∙ sym (some-members (length ms))

in-union : (s : Bool) (ms : List Member) → parts_in (with_bits s (map at_the_bottom (map member_layout ms)) (union_marks (map member_layout ms))) ≡ member_count (length ms)
in-union s [] = refl
in-union s (m ∷ ms) = ap suc (length-bottom (map member_layout ms) ∙ length-layouts ms) ∙ sym (some-members (length ms))

pub parts-Scalar : (four s : Bool) → length (parts_of (layout (V.Scalar four s))) ≡ 1
parts-Scalar four s = ap parts_in (layout-Scalar four s)

pub parts-PackedArray : (left right : ℤ) (s : Bool) (item : SvType) → length (parts_of (layout (V.PackedArray left right s item))) ≡ count_of left right
parts-PackedArray left right s item = ap parts_in (layout-PackedArray left right s item) ∙ in-array left right s (layout item)

pub parts-Struct : (id : ℕ) (packed s : Bool) (ms : List Member) → length (parts_of (layout (V.Struct id packed s ms))) ≡ member_count (length ms)
parts-Struct id packed s ms = ap parts_in (layout-Struct id packed s ms) ∙ in-struct packed (packed && s) ms

pub parts-Union : (id : ℕ) (s : Bool) (ms : List Member) → length (parts_of (layout (V.Union id s ms))) ≡ member_count (length ms)
parts-Union id s ms = ap parts_in (layout-Union id s ms) ∙ in-union s ms

pub parts-Enum : (id : ℕ) (base : SvType) (names : List EnumName) → length (parts_of (layout (V.Enum id base names))) ≡ length (parts_of (layout base))
parts-Enum id base names = ap parts_in (layout-Enum id base names)

pub parts-UnpackedArray : (left right : ℤ) (item : SvType) → length (parts_of (layout (V.UnpackedArray left right item))) ≡ count_of left right
parts-UnpackedArray left right item = ap parts_in (layout-UnpackedArray left right item) ∙ in-array left right false (layout item)

pub ruleset counts = (parts-Scalar, parts-PackedArray, parts-Struct, parts-Union, parts-Enum, parts-UnpackedArray)
