-- How many bits types have, form by form.
use Rattle.std.proofs.Common.{◌≡◌, ℕ, zero, suc, ◌*◌, ◌≤◌, ◌<◌, min, Bool, true, false, cond, ℤ, List, [], ◌∷◌, length, map, replicate, refl, arith, length-append, ap, sym, ◌∙◌, inl, inr}
use Rattle.std.proofs.Math.Nat.{suc-mul}
use Rattle.std.proofs.lemmas.Bool.{cases_lt}
use Rattle.std.specs.List.{list_all}
use Rattle.sv_types.specs.declared.types.SvType.{SvType, SvType-F, fold-roll-SvType}
use Rattle.sv_types.specs.declared.types.SvType.TheVariants.{Scalar, PackedArray, Struct, Union, Enum, UnpackedArray, rolls-Scalar, rolls-PackedArray, rolls-Struct, rolls-Union, rolls-Enum, rolls-UnpackedArray}
use Rattle.sv_types.specs.declared.types.Member.{Member}
use Rattle.sv_types.specs.declared.types.EnumName.{EnumName}
use Rattle.sv_types.specs.Layouts.{Layout, layout, member_layout, type_step, member_step, width_of, count_of, stacked, stacked_marks, widest_marks, struct_marks, repeated, as_a_whole}

pub length-stacked-replicate : {A : Type 0} (n : ℕ) (x : List A) → length (stacked (replicate n x)) ≡ n * length x
length-stacked-replicate zero x = omega arith
length-stacked-replicate (suc n) x =
    omega (arith, length-append (stacked (replicate n x)) x, length-stacked-replicate n x, suc-mul n (length x))

pub length-all_false : (bits : List Bool) → length (map (λ (b : Bool). false) bits) ≡ length bits
length-all_false [] = refl
length-all_false (b ∷ bits) = ap suc (length-all_false bits)

pub length-as_a_whole-by : (b : Bool) (bits : List Bool) → length (cond b bits (map (λ b. false) bits)) ≡ length bits
length-as_a_whole-by true bits = refl
length-as_a_whole-by false bits = length-all_false bits

pub length-repeated : {A : Type 0} (n : ℕ) (x : List A) → length (repeated n x) ≡ n * length x
unfolding repeated
length-repeated n x = length-stacked-replicate n x

pub length-as_a_whole : (bits : List Bool) → length (as_a_whole bits) ≡ length bits
unfolding as_a_whole
length-as_a_whole bits = length-as_a_whole-by (list_all (λ b. b) bits) bits

pub layout-Scalar : (four s : Bool) → layout (Scalar four s) ≡ type_step (SvType-F.Scalar four s)
layout-Scalar four s = ap layout (sym (rolls-Scalar four s)) ∙ fold-roll-SvType Layout Layout type_step member_step (SvType-F.Scalar four s)

pub layout-PackedArray : (left right : ℤ) (s : Bool) (item : SvType) → layout (PackedArray left right s item) ≡ type_step (SvType-F.PackedArray left right s (layout item))
layout-PackedArray left right s item =
    ap layout (sym (rolls-PackedArray left right s item)) ∙ fold-roll-SvType Layout Layout type_step member_step (SvType-F.PackedArray left right s item)

pub layout-UnpackedArray : (left right : ℤ) (item : SvType) → layout (UnpackedArray left right item) ≡ type_step (SvType-F.UnpackedArray left right (layout item))
layout-UnpackedArray left right item =
    ap layout (sym (rolls-UnpackedArray left right item)) ∙ fold-roll-SvType Layout Layout type_step member_step (SvType-F.UnpackedArray left right item)

pub layout-Struct : (id : ℕ) (packed s : Bool) (ms : List Member) → layout (Struct id packed s ms) ≡ type_step (SvType-F.Struct id packed s (map member_layout ms))
layout-Struct id packed s ms =
    ap layout (sym (rolls-Struct id packed s ms)) ∙ fold-roll-SvType Layout Layout type_step member_step (SvType-F.Struct id packed s ms)

pub layout-Union : (id : ℕ) (s : Bool) (ms : List Member) → layout (Union id s ms) ≡ type_step (SvType-F.Union id s (map member_layout ms))
layout-Union id s ms =
    ap layout (sym (rolls-Union id s ms)) ∙ fold-roll-SvType Layout Layout type_step member_step (SvType-F.Union id s ms)

pub layout-Enum : (id : ℕ) (base : SvType) (names : List EnumName) → layout (Enum id base names) ≡ layout base
layout-Enum id base names =
    ap layout (sym (rolls-Enum id base names)) ∙ fold-roll-SvType Layout Layout type_step member_step (SvType-F.Enum id base names)

abbrev marks : Layout → ℕ
marks l = length l.two_state

pub width-PackedArray : (left right : ℤ) (s : Bool) (item : SvType) → width_of (PackedArray left right s item) ≡ count_of left right * width_of item
width-PackedArray left right s item = ap marks (layout-PackedArray left right s item) ∙ length-repeated (count_of left right) (layout item).two_state

pub width-UnpackedArray : (left right : ℤ) (item : SvType) → width_of (UnpackedArray left right item) ≡ count_of left right * width_of item
width-UnpackedArray left right item = ap marks (layout-UnpackedArray left right item) ∙ length-repeated (count_of left right) (layout item).two_state

pub length-struct_marks : (packed : Bool) (ls : List Layout) → length (struct_marks packed ls) ≡ length (stacked_marks ls)
length-struct_marks true ls = length-as_a_whole (stacked_marks ls)
length-struct_marks false ls = refl

pub width-Struct : (id : ℕ) (packed s : Bool) (ms : List Member) → width_of (Struct id packed s ms) ≡ length (stacked_marks (map member_layout ms))
width-Struct id packed s ms = ap marks (layout-Struct id packed s ms) ∙ length-struct_marks packed (map member_layout ms)

length-union_marks-by : (b : Bool) (bits : List Bool) → length (cond b bits (map (λ b. false) bits)) ≡ length bits
length-union_marks-by true bits = refl
length-union_marks-by false bits = length-all_false bits

pub width-Union : (id : ℕ) (s : Bool) (ms : List Member) → width_of (Union id s ms) ≡ length (widest_marks (map member_layout ms))
width-Union id s ms =
    ap marks (layout-Union id s ms)
    ∙ length-union_marks-by (list_all (λ b. b) (stacked_marks (map member_layout ms))) (widest_marks (map member_layout ms))

small-product : (n w m : ℕ) → w < m → min (n * min w m) m ≡ min (n * w) m
small-product n w m h = let e : min w m ≡ w = omega arith in ap (λ k. min (n * k) m) e

large-product : (n w m : ℕ) → m ≤ w → min (n * min w m) m ≡ min (n * w) m
large-product zero w m h = omega arith
large-product (suc n) w m h =
    let e : min w m ≡ m = omega arith in
    ap (λ k. min (suc n * k) m) e ∙ omega (arith, suc-mul n m, suc-mul n w)

pub capped_product : (n w m : ℕ) → min (n * min w m) m ≡ min (n * w) m
capped_product n w m = elim (cases_lt w m) [ inl h ↦ small-product n w m h | inr h ↦ large-product n w m h ]

pub ruleset widths = (width-PackedArray, width-UnpackedArray, width-Struct, width-Union)
