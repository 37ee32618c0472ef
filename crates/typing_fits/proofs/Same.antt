-- Types that are one type have one width, and enums that are one have one sign.
use Rattle.std.proofs.Common.{◌≡◌, ℕ, ◌*◌, ◌<◌, ◌≤◌, max, ℤ, Bool, true, false, ◌&&◌, ◌==◌, cond, List, [], ◌∷◌, length, map, refl, arith, ap, sym, ◌∙◌, rules, length-append}
use Rattle.std.specs.Prelude.{nat_lt}
use Rattle.std.specs.Ordering.{int_eq}
use Rattle.std.proofs.lemmas.Int.{ints}
use Rattle.std.proofs.lemmas.Bool.Decides.{nat_tests}
use Rattle.sv_types.specs.declared.types.SvType.{SvType, SvType-F, out-SvType, the_lemmas}
use Rattle.sv_types.specs.declared.types.SvType.TheVariants as V
use Rattle.sv_types.specs.declared.types.Member.{Member}
use Rattle.sv_types.specs.declared.types.EnumName.{EnumName}
use Rattle.sv_types.specs.Layouts.{Layout, member_layout, width_of, count_of, stacked_marks, widest_marks}
use Rattle.sv_types.proofs.Terms.{Each}
use Rattle.sv_types.proofs.TypeShapes.{Kinds, by-type}
use Rattle.sv_types.proofs.Components.{member-layout}
use Rattle.sv_types.proofs.Lengths.{layout-Scalar, layout-PackedArray, layout-UnpackedArray, layout-Struct, layout-Union, layout-Enum, width-PackedArray, width-UnpackedArray, width-Struct, width-Union}
use Rattle.expr_type.specs.PatternFit.{same_type, of_member, same_bool, of_scalar, is_packed_array, same_members, of_struct, of_union, of_enum, is_unpacked_array}
use Rattle.expr_type.specs.Shapes.{enum_of, is_same_number, sign_of, is_same_enum}
use Rattle.expr_type.specs.Operands.{width}
use Rattle.expr_type.specs.Operators.{is_signed}
use Rattle.expr_type.specs.declared.operand.Valued.{Valued}
use Rattle.typing_fits.proofs.Full.{and-left, and-right}

-- a type as it is taken apart
out-Scalar : (four s : Bool) → out-SvType (V.Scalar four s) ≡ SvType-F.Scalar four s
out-Scalar four s = search (rules, the_lemmas)

out-PackedArray : (l r : ℤ) (s : Bool) (item : SvType) → out-SvType (V.PackedArray l r s item) ≡ SvType-F.PackedArray l r s item
out-PackedArray l r s item = search (rules, the_lemmas)

out-UnpackedArray : (l r : ℤ) (item : SvType) → out-SvType (V.UnpackedArray l r item) ≡ SvType-F.UnpackedArray l r item
out-UnpackedArray l r item = search (rules, the_lemmas)

out-Struct : (id : ℕ) (packed s : Bool) (ms : List Member) → out-SvType (V.Struct id packed s ms) ≡ SvType-F.Struct id packed s ms
out-Struct id packed s ms = search (rules, the_lemmas)

out-Union : (id : ℕ) (s : Bool) (ms : List Member) → out-SvType (V.Union id s ms) ≡ SvType-F.Union id s ms
out-Union id s ms = search (rules, the_lemmas)

out-Enum : (id : ℕ) (base : SvType) (names : List EnumName) → out-SvType (V.Enum id base names) ≡ SvType-F.Enum id base names
out-Enum id base names = search (rules, the_lemmas)

-- what is the same as a type of each kind
same-Scalar : (four s : Bool) (u : SvType) → same_type (V.Scalar four s) u ≡ of_scalar four s (out-SvType u)
same-Scalar four s u = search (rules, the_lemmas)

same-PackedArray : (l r : ℤ) (s : Bool) (item u : SvType) → same_type (V.PackedArray l r s item) u ≡ is_packed_array l r s (same_type item) (out-SvType u)
same-PackedArray l r s item u = search (rules, the_lemmas)

same-UnpackedArray : (l r : ℤ) (item u : SvType) → same_type (V.UnpackedArray l r item) u ≡ is_unpacked_array l r (same_type item) (out-SvType u)
same-UnpackedArray l r item u = search (rules, the_lemmas)

same-Struct : (id : ℕ) (packed s : Bool) (ms : List Member) (u : SvType) → same_type (V.Struct id packed s ms) u ≡ of_struct id packed s (map of_member ms) (out-SvType u)
same-Struct id packed s ms u = search (rules, the_lemmas)

same-Union : (id : ℕ) (s : Bool) (ms : List Member) (u : SvType) → same_type (V.Union id s ms) u ≡ of_union id s (map of_member ms) (out-SvType u)
same-Union id s ms u = search (rules, the_lemmas)

same-Enum : (id : ℕ) (base : SvType) (names : List EnumName) (u : SvType) → same_type (V.Enum id base names) u ≡ of_enum id (same_type base) (out-SvType u)
same-Enum id base names u = search (rules, the_lemmas)

member-same : (m : Member) → of_member m ≡ same_type m.of
member-same m = search (rules, the_lemmas)

int-same : (a b : ℤ) → int_eq a b ≡ true → a ≡ b
int-same a b h = grind (arith, ints, nat_tests)

bool-same : (a b : Bool) → same_bool a b ≡ true → a ≡ b
bool-same true true h = refl
bool-same true false h = absurd (cc)
bool-same false true h = absurd (cc)
bool-same false false h = refl

-- whatever a test of a type says, by kinds of the other type
abbrev AnyMember : Member → Type 0
AnyMember m = Unit {0}

module _ (test : SvType-F SvType Member → Bool) (P : SvType → Type 0) (scalar : (four s : Bool) → test (SvType-F.Scalar four s) ≡ true → P (V.Scalar four s))
    (packed : (l r : ℤ) (s : Bool) (item : SvType) → test (SvType-F.PackedArray l r s item) ≡ true → P (V.PackedArray l r s item))
    (structure : (id : ℕ) (packed s : Bool) (ms : List Member) → test (SvType-F.Struct id packed s ms) ≡ true → P (V.Struct id packed s ms))
    (union : (id : ℕ) (s : Bool) (ms : List Member) → test (SvType-F.Union id s ms) ≡ true → P (V.Union id s ms))
    (enumeration : (id : ℕ) (base : SvType) (names : List EnumName) → test (SvType-F.Enum id base names) ≡ true → P (V.Enum id base names))
    (unpacked : (l r : ℤ) (item : SvType) → test (SvType-F.UnpackedArray l r item) ≡ true → P (V.UnpackedArray l r item)) where
  abbrev Tested : SvType → Type 0
  Tested u = test (out-SvType u) ≡ true → P u

  tested : Kinds Tested AnyMember
  tested = record {
    member = λ m h. tt;
    scalar = λ four s h. scalar four s (ap test (sym (out-Scalar four s)) ∙ h);
    packed = λ l r s item i h. packed l r s item (ap test (sym (out-PackedArray l r s item)) ∙ h);
    structure = λ id pk s ms i h. structure id pk s ms (ap test (sym (out-Struct id pk s ms)) ∙ h);
    union = λ id s ms i h. union id s ms (ap test (sym (out-Union id s ms)) ∙ h);
    enumeration = λ id base names i h. enumeration id base names (ap test (sym (out-Enum id base names)) ∙ h);
    unpacked = λ l r item i h. unpacked l r item (ap test (sym (out-UnpackedArray l r item)) ∙ h);
  }

  by-test : (u : SvType) → test (out-SvType u) ≡ true → P u
  by-test = by-type Tested AnyMember tested

-- widths
abbrev SameWidth : SvType → Type 0
SameWidth t = (u : SvType) → same_type t u ≡ true → width_of t ≡ width_of u

abbrev MemberWidth : Member → Type 0
MemberWidth m = SameWidth m.of

member-width : (m n : Member) → MemberWidth m → of_member m n.of ≡ true → length (member_layout m).two_state ≡ length (member_layout n).two_state
member-width m n h is =
    ap (λ (l : Layout). length l.two_state) (member-layout m) ∙ h n.of (ap (λ (f : SvType → Bool). f n.of) (sym (member-same m)) ∙ is)
    ∙ ap (λ (l : Layout). length l.two_state) (sym (member-layout n))

total-same : (ms ns : List Member) → Each MemberWidth ms → same_members (map of_member ms) ns ≡ true → length (stacked_marks (map member_layout ms)) ≡ length (stacked_marks (map member_layout ns))
total-same [] [] h is = refl
total-same [] (n ∷ ns) h is = absurd (cc)
total-same (m ∷ ms) [] h is = absurd (cc)
total-same (m ∷ ms) (n ∷ ns) h is =
    let a = member-width m n h.0 (and-left (of_member m n.of) (same_members (map of_member ms) ns) is) in
    let b = total-same ms ns h.1 (and-right (of_member m n.of) (same_members (map of_member ms) ns) is) in
    omega (arith, a, b, length-append (stacked_marks (map member_layout ms)) (member_layout m).two_state, length-append (stacked_marks (map member_layout ns)) (member_layout n).two_state)

widest-by : (b : Bool) (m : Layout) (ls : List Layout) → nat_lt (length m.two_state) (length (widest_marks ls)) ≡ b → length (cond b (widest_marks ls) m.two_state) ≡ max (length m.two_state) (length (widest_marks ls))
widest-by true m ls is = let h : length m.two_state < length (widest_marks ls) = grind (arith, nat_tests, is) in omega (arith, h)
widest-by false m ls is = let h : length (widest_marks ls) ≤ length m.two_state = grind (arith, nat_tests, is) in omega (arith, h)

widest-is : (m : Member) (ms : List Member) → length (widest_marks (map member_layout (m ∷ ms))) ≡ max (length (member_layout m).two_state) (length (widest_marks (map member_layout ms)))
widest-is m ms = widest-by (nat_lt (length (member_layout m).two_state) (length (widest_marks (map member_layout ms)))) (member_layout m) (map member_layout ms) refl

widest-same : (ms ns : List Member) → Each MemberWidth ms → same_members (map of_member ms) ns ≡ true → length (widest_marks (map member_layout ms)) ≡ length (widest_marks (map member_layout ns))
widest-same [] [] h is = refl
widest-same [] (n ∷ ns) h is = absurd (cc)
widest-same (m ∷ ms) [] h is = absurd (cc)
widest-same (m ∷ ms) (n ∷ ns) h is =
    let a = member-width m n h.0 (and-left (of_member m n.of) (same_members (map of_member ms) ns) is) in
    let b = widest-same ms ns h.1 (and-right (of_member m n.of) (same_members (map of_member ms) ns) is) in
    let c = widest-is m ms in
    let d = widest-is n ns in
    omega (arith, a, b, c, d)

array-same : (l r i j : ℤ) (t u : SvType) → l ≡ i → r ≡ j → width_of t ≡ width_of u → count_of l r * width_of t ≡ count_of i j * width_of u
array-same l r i j t u a b w = ap (λ x. count_of x r * width_of t) a ∙ ap (λ x. count_of i x * width_of t) b ∙ ap (λ n. count_of i j * n) w

scalar-width : (four s : Bool) → width_of (V.Scalar four s) ≡ 1
scalar-width four s = ap (λ (l : Layout). length l.two_state) (layout-Scalar four s)

enum-width : (id : ℕ) (base : SvType) (names : List EnumName) → width_of (V.Enum id base names) ≡ width_of base
enum-width id base names = ap (λ (l : Layout). length l.two_state) (layout-Enum id base names)

widths : Kinds SameWidth MemberWidth
widths = record {
  member = λ m h. h;
  scalar = λ four s u h.
      by-test (of_scalar four s) (λ u. width_of (V.Scalar four s) ≡ width_of u) (λ f t is. scalar-width four s ∙ sym (scalar-width f t)) (λ l r t item is. absurd (cc)) (λ id pk t ms is. absurd (cc)) (λ id t ms is. absurd (cc))
      (λ id base names is. absurd (cc)) (λ l r item is. absurd (cc)) u (sym (same-Scalar four s u) ∙ h);
  packed = λ l r s item same u h.
      by-test (is_packed_array l r s (same_type item)) (λ u. width_of (V.PackedArray l r s item) ≡ width_of u) (λ f t is. absurd (cc))
      (λ i j t other is.
      let rest = and-right (int_eq l i) (int_eq r j && (same_bool s t && same_type item other)) is in
      let last = and-right (int_eq r j) (same_bool s t && same_type item other) rest in
      width-PackedArray l r s item
      ∙ array-same l r i j item other (int-same l i (and-left (int_eq l i) (int_eq r j && (same_bool s t && same_type item other)) is)) (int-same r j (and-left (int_eq r j) (same_bool s t && same_type item other) rest))
      (same other (and-right (same_bool s t) (same_type item other) last))
      ∙ sym (width-PackedArray i j t other))
      (λ id pk t ms is. absurd (cc)) (λ id t ms is. absurd (cc)) (λ id base names is. absurd (cc)) (λ i j other is. absurd (cc)) u (sym (same-PackedArray l r s item u) ∙ h);
  structure = λ id pk s ms same u h.
      by-test (of_struct id pk s (map of_member ms)) (λ u. width_of (V.Struct id pk s ms) ≡ width_of u) (λ f t is. absurd (cc)) (λ l r t item is. absurd (cc))
      (λ j pk2 t ns is.
      let m = same_members (map of_member ms) ns in
      width-Struct id pk s ms
      ∙ total-same ms ns same (and-right (same_bool s t) m (and-right (same_bool pk pk2) (same_bool s t && m) (and-right (id == j) (same_bool pk pk2 && (same_bool s t && m)) is)))
      ∙ sym (width-Struct j pk2 t ns)) (λ j t ns is. absurd (cc))
      (λ j base names is. absurd (cc)) (λ l r item is. absurd (cc)) u (sym (same-Struct id pk s ms u) ∙ h);
  union = λ id s ms same u h.
      by-test (of_union id s (map of_member ms)) (λ u. width_of (V.Union id s ms) ≡ width_of u) (λ f t is. absurd (cc)) (λ l r t item is. absurd (cc)) (λ j pk t ns is. absurd (cc))
      (λ j t ns is.
      let m = same_members (map of_member ms) ns in
      width-Union id s ms ∙ widest-same ms ns same (and-right (same_bool s t) m (and-right (id == j) (same_bool s t && m) is)) ∙ sym (width-Union j t ns)) (λ j base names is. absurd (cc))
      (λ l r item is. absurd (cc)) u (sym (same-Union id s ms u) ∙ h);
  enumeration = λ id base names same u h.
      by-test (of_enum id (same_type base)) (λ u. width_of (V.Enum id base names) ≡ width_of u) (λ f t is. absurd (cc)) (λ l r t item is. absurd (cc)) (λ j pk t ns is. absurd (cc)) (λ j t ns is. absurd (cc))
      (λ j other others is. enum-width id base names ∙ same other (and-right (id == j) (same_type base other) is) ∙ sym (enum-width j other others)) (λ l r item is. absurd (cc)) u (sym (same-Enum id base names u) ∙ h);
  unpacked = λ l r item same u h.
      by-test (is_unpacked_array l r (same_type item)) (λ u. width_of (V.UnpackedArray l r item) ≡ width_of u) (λ f t is. absurd (cc)) (λ i j t other is. absurd (cc)) (λ id pk t ms is. absurd (cc))
      (λ id t ms is. absurd (cc)) (λ id base names is. absurd (cc))
      (λ i j other is.
      let rest = and-right (int_eq l i) (int_eq r j && same_type item other) is in
      width-UnpackedArray l r item
      ∙ array-same l r i j item other (int-same l i (and-left (int_eq l i) (int_eq r j && same_type item other) is)) (int-same r j (and-left (int_eq r j) (same_type item other) rest))
      (same other (and-right (int_eq r j) (same_type item other) rest))
      ∙ sym (width-UnpackedArray i j other))
      u (sym (same-UnpackedArray l r item u) ∙ h);
}

pub same-width : (t u : SvType) → same_type t u ≡ true → width_of t ≡ width_of u
same-width = by-type SameWidth MemberWidth widths

-- signs
abbrev SameSign : SvType → Type 0
SameSign t = (u : SvType) → same_type t u ≡ true → sign_of t ≡ sign_of u

scalar-sign : (four s : Bool) → sign_of (V.Scalar four s) ≡ s
scalar-sign four s = ap (λ (l : Layout). l.signed) (layout-Scalar four s)

array-sign : (l r : ℤ) (s : Bool) (item : SvType) → sign_of (V.PackedArray l r s item) ≡ s
array-sign l r s item = ap (λ (l : Layout). l.signed) (layout-PackedArray l r s item)

struct-sign : (id : ℕ) (packed s : Bool) (ms : List Member) → sign_of (V.Struct id packed s ms) ≡ (packed && s)
struct-sign id packed s ms = ap (λ (l : Layout). l.signed) (layout-Struct id packed s ms)

union-sign : (id : ℕ) (s : Bool) (ms : List Member) → sign_of (V.Union id s ms) ≡ s
union-sign id s ms = ap (λ (l : Layout). l.signed) (layout-Union id s ms)

enum-sign : (id : ℕ) (base : SvType) (names : List EnumName) → sign_of (V.Enum id base names) ≡ sign_of base
enum-sign id base names = ap (λ (l : Layout). l.signed) (layout-Enum id base names)

unpacked-sign : (l r : ℤ) (item : SvType) → sign_of (V.UnpackedArray l r item) ≡ false
unpacked-sign l r item = ap (λ (l : Layout). l.signed) (layout-UnpackedArray l r item)

signs : Kinds SameSign AnyMember
signs = record {
  member = λ m h. tt;
  scalar = λ four s u h.
      by-test (of_scalar four s) (λ u. sign_of (V.Scalar four s) ≡ sign_of u)
      (λ f t is. scalar-sign four s ∙ bool-same s t (and-right (same_bool four f) (same_bool s t) is) ∙ sym (scalar-sign f t)) (λ l r t item is. absurd (cc)) (λ id pk t ms is. absurd (cc)) (λ id t ms is. absurd (cc))
      (λ id base names is. absurd (cc)) (λ l r item is. absurd (cc)) u (sym (same-Scalar four s u) ∙ h);
  packed = λ l r s item i u h.
      by-test (is_packed_array l r s (same_type item)) (λ u. sign_of (V.PackedArray l r s item) ≡ sign_of u) (λ f t is. absurd (cc))
      (λ i j t other is.
      let rest = and-right (int_eq l i) (int_eq r j && (same_bool s t && same_type item other)) is in
      let last = and-right (int_eq r j) (same_bool s t && same_type item other) rest in
      array-sign l r s item ∙ bool-same s t (and-left (same_bool s t) (same_type item other) last) ∙ sym (array-sign i j t other))
      (λ id pk t ms is. absurd (cc)) (λ id t ms is. absurd (cc)) (λ id base names is. absurd (cc)) (λ i j other is. absurd (cc)) u (sym (same-PackedArray l r s item u) ∙ h);
  structure = λ id pk s ms i u h.
      by-test (of_struct id pk s (map of_member ms)) (λ u. sign_of (V.Struct id pk s ms) ≡ sign_of u) (λ f t is. absurd (cc)) (λ l r t item is. absurd (cc))
      (λ j pk2 t ns is.
      let m = same_members (map of_member ms) ns in
      let rest = and-right (id == j) (same_bool pk pk2 && (same_bool s t && m)) is in
      let one = bool-same pk pk2 (and-left (same_bool pk pk2) (same_bool s t && m) rest) in
      let two = bool-same s t (and-left (same_bool s t) m (and-right (same_bool pk pk2) (same_bool s t && m) rest)) in
      struct-sign id pk s ms ∙ ap (λ b. b && s) one ∙ ap (λ b. pk2 && b) two ∙ sym (struct-sign j pk2 t ns))
      (λ j t ns is. absurd (cc)) (λ j base names is. absurd (cc)) (λ l r item is. absurd (cc)) u (sym (same-Struct id pk s ms u) ∙ h);
  union = λ id s ms i u h.
      by-test (of_union id s (map of_member ms)) (λ u. sign_of (V.Union id s ms) ≡ sign_of u) (λ f t is. absurd (cc)) (λ l r t item is. absurd (cc)) (λ j pk t ns is. absurd (cc))
      (λ j t ns is.
      let m = same_members (map of_member ms) ns in
      union-sign id s ms ∙ bool-same s t (and-left (same_bool s t) m (and-right (id == j) (same_bool s t && m) is)) ∙ sym (union-sign j t ns))
      (λ j base names is. absurd (cc)) (λ l r item is. absurd (cc)) u (sym (same-Union id s ms u) ∙ h);
  enumeration = λ id base names same u h.
      by-test (of_enum id (same_type base)) (λ u. sign_of (V.Enum id base names) ≡ sign_of u) (λ f t is. absurd (cc)) (λ l r t item is. absurd (cc)) (λ j pk t ns is. absurd (cc)) (λ j t ns is. absurd (cc))
      (λ j other others is. enum-sign id base names ∙ same other (and-right (id == j) (same_type base other) is) ∙ sym (enum-sign j other others)) (λ l r item is. absurd (cc)) u (sym (same-Enum id base names u) ∙ h);
  unpacked = λ l r item i u h.
      by-test (is_unpacked_array l r (same_type item)) (λ u. sign_of (V.UnpackedArray l r item) ≡ sign_of u) (λ f t is. absurd (cc)) (λ i j t other is. absurd (cc)) (λ id pk t ms is. absurd (cc))
      (λ id t ms is. absurd (cc)) (λ id base names is. absurd (cc)) (λ i j other is. unpacked-sign l r item ∙ sym (unpacked-sign i j other)) u (sym (same-UnpackedArray l r item u) ∙ h);
}

pub same-sign : (t u : SvType) → same_type t u ≡ true → sign_of t ≡ sign_of u
same-sign = by-type SameSign AnyMember signs

-- arms of one enum
abbrev one_enum : SvType → SvType → Bool
one_enum t u = is_same_number (enum_of t) (enum_of u)

pub alike-width : (l r : Valued) → is_same_enum l.expr.of r.expr.of ≡ true → width l ≡ width r
alike-width l r h = same-width l.expr.of r.expr.of (and-right (one_enum l.expr.of r.expr.of) (same_type l.expr.of r.expr.of) h)

pub alike-sign : (l r : Valued) → is_same_enum l.expr.of r.expr.of ≡ true → is_signed l ≡ is_signed r
alike-sign l r h = same-sign l.expr.of r.expr.of (and-right (one_enum l.expr.of r.expr.of) (same_type l.expr.of r.expr.of) h)
