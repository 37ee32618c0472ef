-- The types at places.
use Rattle.std.proofs.Common.{◌≡◌, ℕ, zero, suc, ◌<◌, ◌≤◌, Bool, true, false, ℤ, List, [], ◌∷◌, length, map, replicate, get_or, Option, Some, None, refl, arith, ap, sym, ◌∙◌, subst}
use Rattle.std.specs.Prelude.{slice_get}
use Rattle.std.specs.Borrow.{Bor}
use Rattle.std.proofs.lemmas.Option.{slice_get_past, slice_get_within, get_or_from_slice_get}
use Rattle.sv_types.specs.declared.types.SvType.{SvType, SvType-F}
use Rattle.sv_types.specs.declared.types.SvType.TheVariants as V
use Rattle.sv_types.specs.declared.types.Member.{Member}
use Rattle.sv_types.specs.declared.types.EnumName.{EnumName}
use Rattle.sv_types.specs.declared.statement.Formal.{Formal}
use Rattle.sv_types.specs.Layouts.{Layout, Part, layout, member_layout, width_of, count_of, type_step, above_the_next, at_the_bottom}
use Rattle.sv_types.specs.Operators.{parts_of}
use Rattle.sv_types.specs.Functions.{parameter}
use Rattle.sv_types.proofs.Components.{member-layout}
use Rattle.sv_types.proofs.Lengths.{layout-Scalar, layout-PackedArray, layout-Struct, layout-Union, layout-Enum, layout-UnpackedArray, width-Struct, width-Union}
use Rattle.eval_parts.specs.Targets.{AllNarrow, MembersAreNarrow, IsTypeAt, IsMemberAt, marks_of_parts, marks_of_formals}
use Rattle.eval_parts.proofs.Members.{struct-narrow, union-narrow}

pub element-there : (n i : ℕ) (p : Part) → i < n → slice_get (marks_of_parts (replicate n p)) i ≡ Some p.two_state
element-there zero i p h = absurd (omega arith)
element-there (suc n) zero p h = refl
element-there (suc n) (suc i) p h = element-there n i p (omega arith)

pub element-past : (n i : ℕ) (p : Part) → n ≤ i → slice_get (marks_of_parts (replicate n p)) i ≡ None
element-past zero i p h = slice_get_past [] i (omega arith)
element-past (suc n) zero p h = absurd (omega arith)
element-past (suc n) (suc i) p h = element-past n i p (omega arith)

pub ruleset elements = (element-there, element-past)

-- formals
pub formal-there : (fs : List Formal) (i : ℕ) (d : Formal) → i < length fs → slice_get (marks_of_formals (map parameter fs)) i ≡ Some (layout (get_or fs i d).local.of).two_state
formal-there [] i d h = absurd (omega arith)
formal-there (x ∷ fs) zero d h = refl
formal-there (x ∷ fs) (suc i) d h = formal-there fs i d (omega arith)

pub formal-past : (fs : List Formal) (i : ℕ) → length fs ≤ i → slice_get (marks_of_formals (map parameter fs)) i ≡ None
formal-past [] i h = slice_get_past [] i (omega arith)
formal-past (x ∷ fs) zero h = absurd (omega arith)
formal-past (x ∷ fs) (suc i) h = formal-past fs i (omega arith)

pub formal-narrow : (fs : List Formal) (i : ℕ) (d : Formal) → i < length fs → AllNarrow fs → width_of (get_or fs i d).local.of ≤ 4194304
formal-narrow [] i d h narrow = absurd (omega arith)
formal-narrow (x ∷ fs) zero d h narrow = narrow.0
formal-narrow (x ∷ fs) (suc i) d h narrow = formal-narrow fs i d (omega arith) narrow.1

-- one bit
scalar-there : (four s : Bool) → slice_get (marks_of_parts (parts_of (type_step (SvType-F.Scalar four s)))) 0 ≡ Some (type_step (SvType-F.Scalar four s)).two_state
scalar-there true s = refl
scalar-there false s = refl

pub type-Scalar : (t : SvType) (four s : Bool) → t ≡ V.Scalar four s → slice_get (marks_of_parts (parts_of (layout t))) 0 ≡ Some (layout t).two_state
type-Scalar t four s is =
    let e = ap layout is ∙ layout-Scalar four s in
    subst (λ (l : Layout). slice_get (marks_of_parts (parts_of l)) 0 ≡ Some l.two_state) (sym e) (scalar-there four s)

scalar-past : (four s : Bool) (i : ℕ) → 1 ≤ i → slice_get (marks_of_parts (parts_of (type_step (SvType-F.Scalar four s)))) i ≡ None
scalar-past four s i h = element-past 1 i (type_step (SvType-F.Scalar four s)).element h

pub type-Scalar-past : (t : SvType) (four s : Bool) (i : ℕ) → t ≡ V.Scalar four s → 1 ≤ i → slice_get (marks_of_parts (parts_of (layout t))) i ≡ None
type-Scalar-past t four s i is h = subst (λ (l : Layout). slice_get (marks_of_parts (parts_of l)) i ≡ None) (sym (ap layout is ∙ layout-Scalar four s)) (scalar-past four s i h)

-- arrays
pub type-PackedArray : (r : Option (Bor SvType)) (t : SvType) (left right : ℤ) (s : Bool) (item : SvType) (i : ℕ) → t ≡ V.PackedArray left right s item
    → IsTypeAt r (slice_get (marks_of_parts (replicate (count_of left right) (at_the_bottom (layout item)))) i) → IsTypeAt r (slice_get (marks_of_parts (parts_of (layout t))) i)
type-PackedArray r t left right s item i is h = subst (λ (l : Layout). IsTypeAt r (slice_get (marks_of_parts (parts_of l)) i)) (sym (ap layout is ∙ layout-PackedArray left right s item)) h

pub type-UnpackedArray : (r : Option (Bor SvType)) (t : SvType) (left right : ℤ) (item : SvType) (i : ℕ) → t ≡ V.UnpackedArray left right item
    → IsTypeAt r (slice_get (marks_of_parts (replicate (count_of left right) (at_the_bottom (layout item)))) i) → IsTypeAt r (slice_get (marks_of_parts (parts_of (layout t))) i)
type-UnpackedArray r t left right item i is h = subst (λ (l : Layout). IsTypeAt r (slice_get (marks_of_parts (parts_of l)) i)) (sym (ap layout is ∙ layout-UnpackedArray left right item)) h

pub type-Enum : (r : Option (Bor SvType)) (t : SvType) (id : ℕ) (base : SvType) (names : List EnumName) (i : ℕ) → t ≡ V.Enum id base names → IsTypeAt r (slice_get (marks_of_parts (parts_of (layout base))) i)
    → IsTypeAt r (slice_get (marks_of_parts (parts_of (layout t))) i)
type-Enum r t id base names i is h = subst (λ (l : Layout). IsTypeAt r (slice_get (marks_of_parts (parts_of l)) i)) (sym (ap layout is ∙ layout-Enum id base names)) h

-- members
above-by : (ms : List Member) (i : ℕ) (m : Member) → i < length ms → m ≡ get_or ms i m → slice_get (marks_of_parts (above_the_next (map member_layout ms))) i ≡ Some (layout m.of).two_state
above-by [] i m h is = absurd (omega arith)
above-by (x ∷ ms) zero m h is = ap (λ (l : Layout). Some l.two_state) (ap member_layout (sym is) ∙ member-layout m)
above-by (x ∷ ms) (suc i) m h is = above-by ms i m (omega arith) is

above-past : (ms : List Member) (i : ℕ) → length ms ≤ i → slice_get (marks_of_parts (above_the_next (map member_layout ms))) i ≡ None
above-past [] i h = slice_get_past [] i (omega arith)
above-past (x ∷ ms) zero h = absurd (omega arith)
above-past (x ∷ ms) (suc i) h = above-past ms i (omega arith)

bottom-by : (ms : List Member) (i : ℕ) (m : Member) → i < length ms → m ≡ get_or ms i m → slice_get (marks_of_parts (map at_the_bottom (map member_layout ms))) i ≡ Some (layout m.of).two_state
bottom-by [] i m h is = absurd (omega arith)
bottom-by (x ∷ ms) zero m h is = ap (λ (l : Layout). Some l.two_state) (ap member_layout (sym is) ∙ member-layout m)
bottom-by (x ∷ ms) (suc i) m h is = bottom-by ms i m (omega arith) is

bottom-past : (ms : List Member) (i : ℕ) → length ms ≤ i → slice_get (marks_of_parts (map at_the_bottom (map member_layout ms))) i ≡ None
bottom-past [] i h = slice_get_past [] i (omega arith)
bottom-past (x ∷ ms) zero h = absurd (omega arith)
bottom-past (x ∷ ms) (suc i) h = bottom-past ms i (omega arith)

narrow-as : (m : Member) (t : SvType) → t ≡ m.of → width_of m.of ≤ 4194304 → width_of t ≤ 4194304
narrow-as m t is h = subst (λ (u : SvType). width_of u ≤ 4194304) (sym is) h

there-above : (r : Option (Bor SvType)) (ms : List Member) (i : ℕ) → MembersAreNarrow ms → IsMemberAt r ms i → IsTypeAt r (slice_get (marks_of_parts (above_the_next (map member_layout ms))) i)
there-above None ms i narrow h = above-past ms i h
there-above (Some t) ms i narrow h = (
  above-by ms i h.0 (slice_get_within ms i h.0 h.1) (sym (get_or_from_slice_get ms i h.0 h.0 h.1)) ∙ ap (λ (u : SvType). Some (layout u).two_state) (sym h.2),
  narrow-as h.0 t.now h.2 (narrow i h.0 h.1),
)

there-bottom : (r : Option (Bor SvType)) (ms : List Member) (i : ℕ) → MembersAreNarrow ms → IsMemberAt r ms i → IsTypeAt r (slice_get (marks_of_parts (map at_the_bottom (map member_layout ms))) i)
there-bottom None ms i narrow h = bottom-past ms i h
there-bottom (Some t) ms i narrow h = (
  bottom-by ms i h.0 (slice_get_within ms i h.0 h.1) (sym (get_or_from_slice_get ms i h.0 h.0 h.1)) ∙ ap (λ (u : SvType). Some (layout u).two_state) (sym h.2),
  narrow-as h.0 t.now h.2 (narrow i h.0 h.1),
)

pub struct-members : (id : ℕ) (packed s : Bool) (ms : List Member) → width_of (V.Struct id packed s ms) ≤ 4194304 → MembersAreNarrow ms
struct-members id packed s ms narrow i m is =
    let h = struct-narrow ms i m (slice_get_within ms i m is) (sym (get_or_from_slice_get ms i m m is)) in
    omega (arith, width-Struct id packed s ms)

pub union-members : (id : ℕ) (s : Bool) (ms : List Member) → width_of (V.Union id s ms) ≤ 4194304 → MembersAreNarrow ms
union-members id s ms narrow i m is =
    let h = union-narrow ms i m (slice_get_within ms i m is) (sym (get_or_from_slice_get ms i m m is)) in
    omega (arith, width-Union id s ms)

struct-by : (r : Option (Bor SvType)) (id : ℕ) (packed s : Bool) (ms : List Member) (i : ℕ) → 1 ≤ width_of (V.Struct id packed s ms) → MembersAreNarrow ms → IsMemberAt r ms i
    → IsTypeAt r (slice_get (marks_of_parts (parts_of (type_step (SvType-F.Struct id packed s (map member_layout ms))))) i)
struct-by r id packed s [] i some narrow h = absurd (omega (arith, width-Struct id packed s []))
struct-by r id packed s (m ∷ ms) i some narrow h = there-above r (m ∷ ms) i narrow h

pub type-Struct : (r : Option (Bor SvType)) (t : SvType) (id : ℕ) (packed s : Bool) (ms : List Member) (i : ℕ) → t ≡ V.Struct id packed s ms → 1 ≤ width_of t → width_of t ≤ 4194304 → IsMemberAt r ms i
    → IsTypeAt r (slice_get (marks_of_parts (parts_of (layout t))) i)
type-Struct r t id packed s ms i is some narrow h =
    subst (λ (l : Layout). IsTypeAt r (slice_get (marks_of_parts (parts_of l)) i)) (sym (ap layout is ∙ layout-Struct id packed s ms))
    (struct-by r id packed s ms i (subst (λ u. 1 ≤ width_of u) is some) (struct-members id packed s ms (subst (λ u. width_of u ≤ 4194304) is narrow)) h)

union-by : (r : Option (Bor SvType)) (id : ℕ) (s : Bool) (ms : List Member) (i : ℕ) → 1 ≤ width_of (V.Union id s ms) → MembersAreNarrow ms → IsMemberAt r ms i
    → IsTypeAt r (slice_get (marks_of_parts (parts_of (type_step (SvType-F.Union id s (map member_layout ms))))) i)
union-by r id s [] i some narrow h = absurd (omega (arith, width-Union id s []))
union-by r id s (m ∷ ms) i some narrow h = there-bottom r (m ∷ ms) i narrow h

pub type-Union : (r : Option (Bor SvType)) (t : SvType) (id : ℕ) (s : Bool) (ms : List Member) (i : ℕ) → t ≡ V.Union id s ms → 1 ≤ width_of t → width_of t ≤ 4194304 → IsMemberAt r ms i
    → IsTypeAt r (slice_get (marks_of_parts (parts_of (layout t))) i)
type-Union r t id s ms i is some narrow h =
    subst (λ (l : Layout). IsTypeAt r (slice_get (marks_of_parts (parts_of l)) i)) (sym (ap layout is ∙ layout-Union id s ms))
    (union-by r id s ms i (subst (λ u. 1 ≤ width_of u) is some) (union-members id s ms (subst (λ u. width_of u ≤ 4194304) is narrow)) h)
