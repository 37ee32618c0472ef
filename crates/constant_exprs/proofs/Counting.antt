-- How many members or elements types have.
use Rattle.std.proofs.Common.{◌≡◌, ℕ, suc, Bool, true, false, ℤ, List, [], ◌∷◌, map, length, refl, ap, sym, ◌∙◌}
use Rattle.std.proofs.lemmas.List.{length-replicate}
use Rattle.sv_types.specs.declared.types.EnumName.{EnumName}
use Rattle.sv_types.specs.declared.types.Member.{Member}
use Rattle.sv_types.specs.declared.types.SvType.{SvType}
use Rattle.sv_types.specs.declared.types.SvType.TheVariants as V
use Rattle.sv_types.specs.Layouts.{Layout, layout, member_layout, count_of, above_the_next, at_the_bottom, as_a_whole}
use Rattle.sv_types.specs.Operators.{parts_of}
use Rattle.sv_types.proofs.Lengths.{layout-Scalar, layout-PackedArray, layout-Struct, layout-Union, layout-Enum, layout-UnpackedArray}
use Rattle.constant_exprs.specs.Placed.{CountsMembers}

abbrev parts_in : Layout → ℕ
parts_in l = length (parts_of l)

pub count-Scalar : (four s : Bool) → length (parts_of (layout (V.Scalar four s))) ≡ 1
count-Scalar four s = ap parts_in (layout-Scalar four s)

pub count-PackedArray : (left right : ℤ) (s : Bool) (item : SvType) → length (parts_of (layout (V.PackedArray left right s item))) ≡ count_of left right
count-PackedArray left right s item = ap parts_in (layout-PackedArray left right s item) ∙ length-replicate (count_of left right) (at_the_bottom (layout item))

pub count-UnpackedArray : (left right : ℤ) (item : SvType) → length (parts_of (layout (V.UnpackedArray left right item))) ≡ count_of left right
count-UnpackedArray left right item = ap parts_in (layout-UnpackedArray left right item) ∙ length-replicate (count_of left right) (at_the_bottom (layout item))

pub count-Enum : (id : ℕ) (base : SvType) (names : List EnumName) → length (parts_of (layout (V.Enum id base names))) ≡ length (parts_of (layout base))
count-Enum id base names = ap parts_in (layout-Enum id base names)

-- members
length-above : (ms : List Member) → length (above_the_next (map member_layout ms)) ≡ length ms
length-above [] = refl
length-above (m ∷ ms) = ap suc (length-above ms)

length-bottom : (ms : List Member) → length (map at_the_bottom (map member_layout ms)) ≡ length ms
length-bottom [] = refl
length-bottom (m ∷ ms) = ap suc (length-bottom ms)

struct-by : (id : ℕ) (packed s : Bool) (ms : List Member) (n : ℕ) → CountsMembers ms n → n ≡ length (parts_of (layout (V.Struct id packed s ms)))
unfolding as_a_whole
struct-by id true s [] n h = h ∙ sym (ap parts_in (layout-Struct id true s []))
struct-by id false s [] n h = h ∙ sym (ap parts_in (layout-Struct id false s []))
struct-by id packed s (m ∷ ms) n h = h ∙ ap suc (sym (length-above ms)) ∙ sym (ap parts_in (layout-Struct id packed s (m ∷ ms)))

union-by : (id : ℕ) (s : Bool) (ms : List Member) (n : ℕ) → CountsMembers ms n → n ≡ length (parts_of (layout (V.Union id s ms)))
union-by id s [] n h = h ∙ sym (ap parts_in (layout-Union id s []))
union-by id s (m ∷ ms) n h = h ∙ ap suc (sym (length-bottom ms)) ∙ sym (ap parts_in (layout-Union id s (m ∷ ms)))

pub count-Struct : (t : SvType) (id : ℕ) (packed s : Bool) (ms : List Member) (n : ℕ) → t ≡ V.Struct id packed s ms → CountsMembers ms n → n ≡ length (parts_of (layout t))
count-Struct t id packed s ms n is h = struct-by id packed s ms n h ∙ ap (λ u. length (parts_of (layout u))) (sym is)

pub count-Union : (t : SvType) (id : ℕ) (s : Bool) (ms : List Member) (n : ℕ) → t ≡ V.Union id s ms → CountsMembers ms n → n ≡ length (parts_of (layout t))
count-Union t id s ms n is h = union-by id s ms n h ∙ ap (λ u. length (parts_of (layout u))) (sym is)

pub ruleset counts = (count-Scalar, count-PackedArray, count-UnpackedArray, count-Enum)
