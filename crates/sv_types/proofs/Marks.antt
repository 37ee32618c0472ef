-- The marks of types, form by form.
use Rattle.std.proofs.Common.{◌≡◌, ℕ, zero, suc, ◌+◌, ◌-◌, ◌<◌, ◌≤◌, Bool, true, false, ◌&&◌, cond, ℤ, List, [], ◌∷◌, ◌++◌, length, map, replicate, drop, refl, arith, ap, sym, ◌∙◌, append_assoc, append-nil}
use Rattle.std.specs.List.{list_all}
use Rattle.sv_types.specs.declared.types.SvType.{SvType}
use Rattle.sv_types.specs.declared.types.SvType.TheVariants.{PackedArray, Struct, Union, UnpackedArray}
use Rattle.sv_types.specs.declared.types.Member.{Member}
use Rattle.sv_types.specs.Layouts.{Layout, layout, member_layout, count_of, stacked, union_marks, struct_marks, repeated, as_a_whole}
use Rattle.sv_types.proofs.Lengths.{layout-PackedArray, layout-UnpackedArray, layout-Struct, layout-Union}

abbrev marks : Layout → List Bool
marks l = l.two_state

pub marks-PackedArray : (left right : ℤ) (s : Bool) (item : SvType) → (layout (PackedArray left right s item)).two_state ≡ repeated (count_of left right) (layout item).two_state
marks-PackedArray left right s item = ap marks (layout-PackedArray left right s item)

pub marks-UnpackedArray : (left right : ℤ) (item : SvType) → (layout (UnpackedArray left right item)).two_state ≡ repeated (count_of left right) (layout item).two_state
marks-UnpackedArray left right item = ap marks (layout-UnpackedArray left right item)

pub marks-Struct : (id : ℕ) (packed s : Bool) (ms : List Member) → (layout (Struct id packed s ms)).two_state ≡ struct_marks packed (map member_layout ms)
marks-Struct id packed s ms = ap marks (layout-Struct id packed s ms)

pub marks-Union : (id : ℕ) (s : Bool) (ms : List Member) → (layout (Union id s ms)).two_state ≡ union_marks (map member_layout ms)
marks-Union id s ms = ap marks (layout-Union id s ms)

pub stacked-same : {A : Type 0} (n : ℕ) (x : List A) → x ++ stacked (replicate n x) ≡ stacked (replicate n x) ++ x
stacked-same zero x = append-nil x
stacked-same (suc n) x = sym (append_assoc x (stacked (replicate n x)) x) ∙ ap (λ s. s ++ x) (stacked-same n x)

pub repeated-more : {A : Type 0} (n : ℕ) (x : List A) → repeated (n + 1) x ≡ repeated n x ++ x
unfolding repeated
repeated-more n x = let e : n + 1 ≡ suc n = omega arith in ap (λ k. stacked (replicate k x)) e

pub repeated-none : {A : Type 0} (x : List A) → repeated 0 x ≡ []
unfolding repeated
repeated-none x = refl

pub starts-with-none : {A : Type 0} (xs x : List A) → xs ≡ xs ++ repeated 0 x
starts-with-none xs x = sym (ap (λ r. xs ++ r) (repeated-none x) ∙ append-nil xs)

and-true : (b : Bool) → (b && true) ≡ b
and-true true = refl
and-true false = refl

and-false : (b : Bool) → (b && false) ≡ false
and-false true = refl
and-false false = refl

all-kept : (bits : List Bool) → map (λ (b : Bool). b && true) bits ≡ bits
all-kept [] = refl
all-kept (b ∷ bits) = ap (λ c. c ∷ map (λ (b : Bool). b && true) bits) (and-true b) ∙ ap (λ bs. b ∷ bs) (all-kept bits)

none-kept : (bits : List Bool) → map (λ (b : Bool). b && false) bits ≡ map (λ b. false) bits
none-kept [] = refl
none-kept (b ∷ bits) = ap (λ c. c ∷ map (λ (b : Bool). b && false) bits) (and-false b) ∙ ap (λ bs. false ∷ bs) (none-kept bits)

whole-by : (all : Bool) (bits : List Bool) → map (λ (b : Bool). b && all) bits ≡ cond all bits (map (λ b. false) bits)
whole-by true bits = all-kept bits
whole-by false bits = none-kept bits

pub kept : (all : Bool) (bits : List Bool) → map (λ (b : Bool). b && all) bits ≡ cond all bits (map (λ b. false) bits)
kept = whole-by

pub whole : (all : Bool) (bits : List Bool) → all ≡ list_all (λ b. b) bits → map (λ (b : Bool). b && all) bits ≡ as_a_whole bits
unfolding as_a_whole
whole all bits is = whole-by all bits ∙ ap (λ c. cond c bits (map (λ b. false) bits)) is

pub ruleset marking = (marks-PackedArray, marks-UnpackedArray, marks-Struct, marks-Union, repeated-more, starts-with-none, append_assoc)
