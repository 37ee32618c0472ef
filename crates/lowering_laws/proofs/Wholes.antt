-- Members and elements lie within what they are parts of, and typed steps of a select path have the widths of their parts.
use Rattle.std.proofs.Common.{◌≡◌, ℕ, zero, suc, ◌+◌, ◌*◌, ◌≤◌, Bool, true, false, ◌&&◌, cond, ℤ, pos, ◌-ℤ◌, length, map, List, [], ◌∷◌, Option, Some, None, refl, arith, length-append, sym, ◌∙◌, subst, ap, true≢false}
use Rattle.std.specs.Prelude.{slice_get, nat_lt, unsigned_abs}
use Rattle.std.specs.List.{list_all}
use Rattle.std.proofs.lemmas.Int.{ints}
use Rattle.std.proofs.lemmas.Bool.Decides.{nat_tests}
use Rattle.sv_types.specs.declared.types.SvType.{SvType}
use Rattle.sv_types.specs.declared.types.Member.{Member}
use Rattle.sv_types.specs.Layouts.{Layout, Part, layout, member_layout, width_of, count_of, array_layout, with_bits, stacked_marks, above_the_next, at_the_bottom, widest_marks, union_marks, struct_marks}
use Rattle.sv_types.specs.Meanings as S
use Rattle.sv_types.specs.Meanings.{same_sign, without_bits}
use Rattle.sv_types.specs.Paths as P
use Rattle.sv_types.specs.Paths.{same_marks, unlike, unlike_part, elements_marks}
use Rattle.sv_types.proofs.Lengths.{length-repeated, length-struct_marks, length-all_false, layout-Scalar, layout-PackedArray, layout-UnpackedArray, layout-Struct, layout-Union, layout-Enum}
use Rattle.sv_types.proofs.TypeShapes.{Kinds, by-type}

-- All elements together are the whole, and each member lies in it.
pub record IsWhole (of : Layout) : Type 0 where
  pub elements : count_of of.left of.right * length of.element.two_state ≡ length of.two_state
  pub members : (k : ℕ) (p : Part) → slice_get of.members k ≡ Some p → p.below + length p.two_state ≤ length of.two_state

no-member : (k : ℕ) (p : Part) → slice_get [] k ≡ Some p → ⊥
no-member zero p h = cc
no-member (suc k) p h = cc

some-part : (x p : Part) → Some x ≡ Some p → x ≡ p
some-part x p h = cc

array-whole : (left right : ℤ) (s : Bool) (item : Layout) → IsWhole (array_layout left right s item)
array-whole left right s item = record {
  elements = sym (length-repeated (count_of left right) item.two_state);
  members = λ k p h. absurd (no-member k p h);
}

count-bits : (n : ℕ) → 1 ≤ n → (unsigned_abs ((pos n -ℤ pos 1) -ℤ pos 0) + 1) * 1 ≡ n
count-bits zero h = absurd (omega arith)
count-bits (suc n) h = omega (arith, ints)

bits-whole : (s : Bool) (ms : List Part) (bits : List Bool) → 1 ≤ length bits
    → ((k : ℕ) (p : Part) → slice_get ms k ≡ Some p → p.below + length p.two_state ≤ length bits) → IsWhole (with_bits s ms bits)
bits-whole s ms bits some within = record { elements = count-bits (length bits) some; members = within }

struct-within : (ms : List Layout) (k : ℕ) (p : Part) → slice_get (above_the_next ms) k ≡ Some p → p.below + length p.two_state ≤ length (stacked_marks ms)
struct-within [] k p h = absurd (no-member k p h)
struct-within (m ∷ ms) zero p h =
    let all = length-append (stacked_marks ms) m.two_state in
    subst (λ x. x.below + length x.two_state ≤ length (stacked_marks (m ∷ ms))) (some-part _ p h) (omega arith)
struct-within (m ∷ ms) (suc k) p h =
    let rest = struct-within ms k p h in
    let all = length-append (stacked_marks ms) m.two_state in
    omega arith

widest-by : (a b : List Bool) (c : Bool) → nat_lt (length a) (length b) ≡ c → (length a ≤ length (cond c b a)) × (length b ≤ length (cond c b a))
widest-by a b true h = (grind (arith, nat_tests), omega arith)
widest-by a b false h = (omega arith, grind (arith, nat_tests))

union-within : (ms : List Layout) (k : ℕ) (p : Part) → slice_get (map at_the_bottom ms) k ≡ Some p → p.below + length p.two_state ≤ length (widest_marks ms)
union-within [] k p h = absurd (no-member k p h)
union-within (m ∷ ms) zero p h =
    let wide = widest-by m.two_state (widest_marks ms) _ refl in
    subst (λ x. x.below + length x.two_state ≤ length (widest_marks (m ∷ ms))) (some-part _ p h) (let first = wide.0 in omega arith)
union-within (m ∷ ms) (suc k) p h =
    let rest = union-within ms k p h in
    let wide = widest-by m.two_state (widest_marks ms) _ refl in
    let more = wide.1 in
    omega arith

union-length : (b : Bool) (bits : List Bool) → length (cond b bits (map (λ (x : Bool). false) bits)) ≡ length bits
union-length true bits = refl
union-length false bits = length-all_false bits

abbrev WholeType : SvType → Type 0
WholeType t = 1 ≤ width_of t → IsWhole (layout t)

abbrev AnyMember : Member → Type 0
AnyMember m = Unit {0}

by-layout : (t : SvType) (of : Layout) → layout t ≡ of → (1 ≤ length of.two_state → IsWhole of) → WholeType t
by-layout t of is whole = subst (λ (l : Layout). 1 ≤ length l.two_state → IsWhole l) (sym is) whole

whole-kinds : Kinds WholeType AnyMember
whole-kinds = record {
  member = λ m h. tt;
  scalar = λ four s. by-layout _ _ (layout-Scalar four s) (λ some. bits-whole s [] _ some (λ k p h. absurd (no-member k p h)));
  packed = λ left right s item h. by-layout _ _ (layout-PackedArray left right s item) (λ some. array-whole left right s (layout item));
  structure = λ id packed s ms h. by-layout _ _ (layout-Struct id packed s ms) (λ some. bits-whole (packed && s) (above_the_next (map member_layout ms)) (struct_marks packed (map member_layout ms)) some
      (λ k p is. (let long = length-struct_marks packed (map member_layout ms) in let within = struct-within (map member_layout ms) k p is in omega arith)));
  union = λ id s ms h. by-layout _ _ (layout-Union id s ms) (λ some. bits-whole s (map at_the_bottom (map member_layout ms)) (union_marks (map member_layout ms)) some
      (λ k p is. (let long = union-length (list_all (λ b. b) (stacked_marks (map member_layout ms))) (widest_marks (map member_layout ms)) in
      let within = union-within (map member_layout ms) k p is in omega arith)));
  enumeration = λ id base names h. by-layout _ _ (layout-Enum id base names) h;
  unpacked = λ left right item h. by-layout _ _ (layout-UnpackedArray left right item) (λ some. array-whole left right false (layout item));
}

pub type-whole : (t : SvType) → 1 ≤ width_of t → IsWhole (layout t)
type-whole = by-type WholeType AnyMember whole-kinds

-- A step whose type has the bits of what it selects has as many.
and-yes : (a b : Bool) → (a && b) ≡ true → (a ≡ true) × (b ≡ true)
and-yes true true h = (refl, refl)
and-yes true false h = absurd (true≢false (sym h))
and-yes false b h = absurd (true≢false (sym h))

marks-long : (xs ys : List Bool) → same_marks xs ys ≡ true → length xs ≡ length ys
marks-long [] [] h = refl
marks-long [] (y ∷ ys) h = absurd (true≢false (sym h))
marks-long (x ∷ xs) [] h = absurd (true≢false (sym h))
marks-long (x ∷ xs) (y ∷ ys) h = ap suc (marks-long xs ys (and-yes (same_sign x y) (same_marks xs ys) h).1)

like-by : (b : Bool) → cond {A = ℕ} b 0 1 ≡ 0 → b ≡ true
like-by true h = refl
like-by false h = absurd (omega arith)

like-long : (of : Layout) (bits : List Bool) (s : Bool) → unlike of bits s ≡ 0 → length of.two_state ≡ length bits
like-long of bits s h = marks-long of.two_state bits (and-yes (same_marks of.two_state bits) (same_sign of.signed s) (like-by _ h)).0

-- what a typed step by an index or to a member takes
pub record TypedStep (of : Layout) (from : S.Meaning) (n : ℕ) : Type 0 where
  pub wide : length of.two_state ≡ n
  pub typed_from : from.misfits ≡ 0

pub index-typed : (of : Layout) (at : ℕ) (from i : S.Meaning) → (P.index of at from i).misfits ≡ 0
    → TypedStep of from (length from.of.element.two_state) × (i.misfits ≡ 0)
unfolding P.index
index-typed of at from i none =
    (record { wide = like-long of from.of.element.two_state from.of.element.signed (omega arith); typed_from = omega arith }, omega arith)

pub sliding-typed : (of : Layout) (at : ℕ) (from i : S.Meaning) (n : ℕ) (up : Bool) → (P.sliding of at from i n up).misfits ≡ 0
    → TypedStep of from (n * length from.of.element.two_state) × (i.misfits ≡ 0)
unfolding P.sliding
sliding-typed of at from i n up none =
    (record { wide = like-long of (elements_marks from.of n) false (omega arith) ∙ length-repeated n from.of.element.two_state; typed_from = omega arith }, omega arith)

-- the member that a typed step selects
pub record TypedMember (of : Layout) (from : S.Meaning) (k : ℕ) : Type 0 where
  pub part : Part
  pub there : slice_get from.of.members k ≡ Some part
  pub step : TypedStep of from (length part.two_state)

member-by : (of : Layout) (from : S.Meaning) (k : ℕ) (m : Option Part) → slice_get from.of.members k ≡ m → unlike_part of m ≡ 0 → from.misfits ≡ 0 → TypedMember of from k
member-by of from k None is none rest = absurd (omega arith)
member-by of from k (Some p) is none rest = record { part = p; there = is; step = record { wide = like-long of p.two_state p.signed none; typed_from = rest } }

pub member-typed : (of : Layout) (at : ℕ) (from : S.Meaning) (k : ℕ) → (P.member of at from k).misfits ≡ 0 → TypedMember of from k
unfolding P.member
member-typed of at from k none = member-by of from k (slice_get from.of.members k) refl (omega arith) (omega arith)
