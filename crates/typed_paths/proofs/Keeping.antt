-- Members and elements have the marks that the whole has.
use Rattle.std.proofs.Common.{◌≡◌, ℕ, zero, suc, ◌+◌, ◌*◌, ◌<◌, Bool, true, false, ◌&&◌, cond, not, ℤ, length, map, List, [], ◌∷◌, ◌++◌, Some, refl, arith, ap, sym, ◌∙◌, subst, true≢false}
use Rattle.std.specs.Prelude.{slice_get, nat_lt}
use Rattle.std.specs.List.{list_all}
use Rattle.sv_types.specs.declared.types.EnumName.{EnumName}
use Rattle.sv_types.specs.declared.types.SvType.{SvType, SvType-F, fold-roll-SvType}
use Rattle.sv_types.specs.declared.types.SvType.TheVariants as V
use Rattle.sv_types.specs.declared.types.Member.{Member}
use Rattle.sv_types.specs.Layouts.{Layout, Part, layout, member_layout, count_of, array_layout, with_bits, stacked_marks, above_the_next, at_the_bottom, widest_marks, union_marks, struct_marks, as_a_whole}
use Rattle.sv_types.proofs.Lengths.{length-as_a_whole, layout-Scalar, layout-PackedArray, layout-UnpackedArray, layout-Struct, layout-Union, layout-Enum}
use Rattle.sv_types.proofs.TypeShapes.{Kinds, by-type}
use Rattle.lowering_laws.specs.Held.{marked}
use Rattle.lowering_laws.proofs.Held.{element-marks, member-marks, whole-marks}
use Rattle.typed_paths.specs.Typed.{elements_step, any_member, has_elements}

-- what is marked in a whole is marked in its members, and in its elements
abbrev pub MembersKeep : Layout → Type 0
MembersKeep of = (k : ℕ) (p : Part) (j : ℕ) → slice_get of.members k ≡ Some p → j < length p.two_state → marked of.two_state (p.below + j) ≡ true → marked p.two_state j ≡ true

abbrev pub ElementsKeep : Layout → Type 0
ElementsKeep of = (q j : ℕ) → q < count_of of.left of.right → j < length of.element.two_state → marked of.two_state (q * length of.element.two_state + j) ≡ true → marked of.element.two_state j ≡ true

no-member : (k : ℕ) (p : Part) → slice_get [] k ≡ Some p → ⊥
no-member zero p h = cc
no-member (suc k) p h = cc

some-part : (x p : Part) → Some x ≡ Some p → x ≡ p
some-part x p h = cc

none-keeps : (of : Layout) → of.members ≡ [] → MembersKeep of
none-keeps of none k p j is h mark = absurd (no-member k p (ap (λ (ms : List Part). slice_get ms k) (sym none) ∙ is))

-- all bits are marked, or none
both : (a b : Bool) → (a && b) ≡ true → (a ≡ true) × (b ≡ true)
both true b h = (refl, h)
both false b h = absurd (true≢false (sym h))

every : (bits : List Bool) (j : ℕ) → list_all (λ b. b) bits ≡ true → j < length bits → marked bits j ≡ true
every [] j all h = absurd (omega arith)
every (b ∷ bits) zero all h = (both b (list_all (λ c. c) bits) all).0
every (b ∷ bits) (suc j) all h = every bits j (both b (list_all (λ c. c) bits) all).1 (omega arith)

none-marked : (bits : List Bool) (j : ℕ) → marked (map (λ (b : Bool). false) bits) j ≡ false
none-marked [] j = refl
none-marked (b ∷ bits) zero = refl
none-marked (b ∷ bits) (suc j) = none-marked bits j

marked-in : (bits : List Bool) (j : ℕ) → marked bits j ≡ true → j < length bits
marked-in [] j h = absurd (true≢false (sym h))
marked-in (b ∷ bits) zero h = omega arith
marked-in (b ∷ bits) (suc j) h = (let less = marked-in bits j h in omega arith)

-- what is marked anywhere is marked everywhere
abbrev IsEven : List Bool → Type 0
IsEven bits = (i : ℕ) → marked bits i ≡ true → list_all (λ b. b) bits ≡ true

one-even : (b : Bool) → IsEven (b ∷ [])
one-even true i h = refl
one-even false zero h = h
one-even false (suc i) h = absurd (true≢false (sym h))

cond-even : (b : Bool) (bits : List Bool) → (b ≡ true → list_all (λ c. c) bits ≡ true) → IsEven (cond b bits (map (λ (c : Bool). false) bits))
cond-even true bits all i h = all refl
cond-even false bits all i h = absurd (true≢false (sym h ∙ none-marked bits i))

whole-even : (bits : List Bool) → IsEven (as_a_whole bits)
unfolding as_a_whole
whole-even bits = cond-even (list_all (λ b. b) bits) bits (λ h. h)

-- members of a union that is two-state as a whole
front-all : (xs ys : List Bool) → list_all (λ b. b) (xs ++ ys) ≡ true → (list_all (λ b. b) xs ≡ true) × (list_all (λ b. b) ys ≡ true)
front-all [] ys h = (refl, h)
front-all (x ∷ xs) ys h =
    let parts = both x (list_all (λ b. b) (xs ++ ys)) h in
    let rest = front-all xs ys parts.1 in
    ((λ i. (parts.0 i && rest.0 i)), rest.1)

either-all : (b : Bool) (xs ys : List Bool) → list_all (λ c. c) xs ≡ true → list_all (λ c. c) ys ≡ true → list_all (λ c. c) (cond b xs ys) ≡ true
either-all true xs ys h g = h
either-all false xs ys h g = g

widest-all : (ms : List Layout) → list_all (λ b. b) (stacked_marks ms) ≡ true → list_all (λ b. b) (widest_marks ms) ≡ true
widest-all [] h = refl
widest-all (m ∷ ms) h =
    let parts = front-all (stacked_marks ms) m.two_state h in
    either-all (nat_lt (length m.two_state) (length (widest_marks ms))) (widest_marks ms) m.two_state (widest-all ms parts.0) parts.1

union-member : (ms : List Layout) (k : ℕ) (p : Part) → slice_get (map at_the_bottom ms) k ≡ Some p → list_all (λ b. b) (stacked_marks ms) ≡ true → list_all (λ b. b) p.two_state ≡ true
union-member [] k p is all = absurd (no-member k p is)
union-member (m ∷ ms) zero p is all =
    ap (λ (q : Part). list_all (λ b. b) q.two_state) (sym (some-part (at_the_bottom m) p is)) ∙ (front-all (stacked_marks ms) m.two_state all).1
union-member (m ∷ ms) (suc k) p is all = union-member ms k p is (front-all (stacked_marks ms) m.two_state all).0

-- structs
struct-keeps : (packed : Bool) (ms : List Layout) (k : ℕ) (p : Part) (j : ℕ) → slice_get (above_the_next ms) k ≡ Some p → j < length p.two_state
    → marked (struct_marks packed ms) (p.below + j) ≡ true → marked p.two_state j ≡ true
struct-keeps false ms k p j is h mark = sym (member-marks ms k p j is h) ∙ mark
struct-keeps true ms k p j is h mark =
    let less = marked-in (as_a_whole (stacked_marks ms)) (p.below + j) mark in
    let long = length-as_a_whole (stacked_marks ms) in
    sym (member-marks ms k p j is h) ∙ whole-marks (stacked_marks ms) (p.below + j) (p.below + j) (omega arith) mark

union-by : (ms : List Layout) (k : ℕ) (p : Part) (i j : ℕ) (b : Bool) → list_all (λ c. c) (stacked_marks ms) ≡ b → slice_get (map at_the_bottom ms) k ≡ Some p → j < length p.two_state
    → marked (cond b (widest_marks ms) (map (λ (c : Bool). false) (widest_marks ms))) i ≡ true → marked p.two_state j ≡ true
union-by ms k p i j true all is h mark = every p.two_state j (union-member ms k p is all) h
union-by ms k p i j false all is h mark = absurd (true≢false (sym mark ∙ none-marked (widest_marks ms) i))

-- a vector of bits
vector-keeps : (s : Bool) (ms : List Part) (bits : List Bool) → IsEven bits → ElementsKeep (with_bits s ms bits)
vector-keeps s ms bits even q j less h mark = by j h (even _ mark)
  where
    by : (i : ℕ) → i < 1 → list_all (λ b. b) bits ≡ true → marked (list_all (λ b. b) bits ∷ []) i ≡ true
    by zero g all = all
    by (suc i) g all = absurd (omega arith)

array-keeps : (left right : ℤ) (s : Bool) (item : Layout) → ElementsKeep (array_layout left right s item)
array-keeps left right s item q j less h mark = sym (element-marks (count_of left right) item.two_state q j less h) ∙ mark

-- which types have elements
elements-Struct : (id : ℕ) (packed s : Bool) (ms : List Member) → has_elements (V.Struct id packed s ms) ≡ packed
elements-Struct id packed s ms =
    ap has_elements (sym (V.rolls-Struct id packed s ms)) ∙ fold-roll-SvType Bool Bool elements_step any_member (SvType-F.Struct id packed s ms)

elements-Enum : (id : ℕ) (base : SvType) (names : List EnumName) → has_elements (V.Enum id base names) ≡ has_elements base
elements-Enum id base names =
    ap has_elements (sym (V.rolls-Enum id base names)) ∙ fold-roll-SvType Bool Bool elements_step any_member (SvType-F.Enum id base names)

pub record Keeps (of : Layout) (elements : Bool) : Type 0 where
  pub members : MembersKeep of
  pub each : elements ≡ true → ElementsKeep of

abbrev KeepsType : SvType → Type 0
KeepsType t = Keeps (layout t) (has_elements t)

abbrev AnyMember : Member → Type 0
AnyMember m = Unit {0}

by-layout : (t : SvType) (of : Layout) → layout t ≡ of → Keeps of (has_elements t) → KeepsType t
by-layout t of is h = subst (λ (l : Layout). Keeps l (has_elements t)) (sym is) h

kinds : Kinds KeepsType AnyMember
kinds = record {
  member = λ m h. tt;
  scalar = λ four s. by-layout _ _ (layout-Scalar four s) (record { members = none-keeps (with_bits s [] (not four ∷ [])) refl; each = λ h. vector-keeps s [] (not four ∷ []) (one-even (not four)) });
  packed = λ left right s item h. by-layout _ _ (layout-PackedArray left right s item) (record { members = none-keeps (array_layout left right s (layout item)) refl; each = λ g. array-keeps left right s (layout item) });
  structure = λ id packed s ms h. by-layout _ _ (layout-Struct id packed s ms) (record {
    members = struct-keeps packed (map member_layout ms);
    each = λ g. vector-keeps (packed && s) (above_the_next (map member_layout ms)) (struct_marks packed (map member_layout ms)) (by-packed packed (map member_layout ms) (sym (elements-Struct id packed s ms) ∙ g));
  });
  union = λ id s ms h. by-layout _ _ (layout-Union id s ms) (record {
    members = λ k p j is less mark. union-by (map member_layout ms) k p (p.below + j) j (list_all (λ b. b) (stacked_marks (map member_layout ms))) refl is less mark;
    each = λ g. vector-keeps s (map at_the_bottom (map member_layout ms)) (union_marks (map member_layout ms))
        (cond-even (list_all (λ b. b) (stacked_marks (map member_layout ms))) (widest_marks (map member_layout ms)) (widest-all (map member_layout ms)));
  });
  enumeration = λ id base names h. by-layout _ _ (layout-Enum id base names) (record { members = h.members; each = λ g. h.each (sym (elements-Enum id base names) ∙ g) });
  unpacked = λ left right item h. by-layout _ _ (layout-UnpackedArray left right item) (record { members = none-keeps (array_layout left right false (layout item)) refl; each = λ g. array-keeps left right false (layout item) });
}
  where
    by-packed : (packed : Bool) (ms : List Layout) → packed ≡ true → IsEven (struct_marks packed ms)
    by-packed true ms h = whole-even (stacked_marks ms)
    by-packed false ms h = absurd (true≢false (sym h))

pub type-keeps : (t : SvType) → Keeps (layout t) (has_elements t)
type-keeps = by-type KeepsType AnyMember kinds
