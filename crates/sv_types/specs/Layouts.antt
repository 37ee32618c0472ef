-- How the bits of a type lie in a vector (IEEE 1800-2017 clauses 6.11, 7.2, 7.3 and 7.4): the first member or the leftmost
-- element is the most significant one, of unpacked types too.
use Rattle.std.specs.Prelude.{ℕ, ◌+◌, nat_lt, Bool, true, false, ◌&&◌, not, cond, ℤ, pos, ◌-ℤ◌, unsigned_abs, List, [], ◌∷◌, ◌++◌, length, map, replicate, zip}
use Rattle.std.specs.List.{list_all}
use Rattle.b4_core.specs.declared.bit.Bit4.{Bit4}
use Rattle.b4_core.specs.declared.bit.Bit4.TheVariants.{X}
use Rattle.b4_core.specs.Bits.{two_state4}
use Rattle.sv_types.specs.declared.types.SvType.{SvType, SvType-F, fold-SvType}
use Rattle.sv_types.specs.declared.types.Member.{Member, Member-F, fold-Member}

-- a member or an element: how many bits of the whole lie below it, for each of its own bits, the least significant first,
-- whether it is of a two-state type, and its sign
pub record Part : Type 0 where
  pub below : ℕ
  pub two_state : List Bool
  pub signed : Bool

-- For each bit, the least significant first, whether it is of a two-state type; the sign; the members of a struct or union;
-- and the bounds and the lowest element of what can be indexed.
pub record Layout : Type 0 where
  pub two_state : List Bool
  pub signed : Bool
  pub members : List Part
  pub left : ℤ
  pub right : ℤ
  pub element : Part

-- one above the other, the first one on top; lists have the lowest bit first
abbrev pub stacked : {A : Type 0} → List (List A) → List A
stacked [] = []
stacked (x ∷ xs) = stacked xs ++ x

-- n of the same one above the other
unfoldable pub repeated : {A : Type 0} → ℕ → List A → List A
repeated n x = stacked (replicate n x)

-- how many elements the bounds give
abbrev pub count_of : ℤ → ℤ → ℕ
count_of left right = unsigned_abs (left -ℤ right) + 1

-- a packed struct or union is two-state only if all of it is
unfoldable pub as_a_whole : List Bool → List Bool
as_a_whole bits = cond (list_all (λ b. b) bits) bits (map (λ b. false) bits)

-- the bits of members, the first one on top
abbrev pub stacked_marks : List Layout → List Bool
stacked_marks [] = []
stacked_marks (m ∷ ms) = stacked_marks ms ++ m.two_state

-- each member lies above those that come behind it
abbrev pub above_the_next : List Layout → List Part
above_the_next [] = []
above_the_next (m ∷ ms) = record { below = length (stacked_marks ms); two_state = m.two_state; signed = m.signed } ∷ above_the_next ms

-- a part that lies at the bottom: an element, or any member of a union
abbrev pub at_the_bottom : Layout → Part
at_the_bottom m = record { below = 0; two_state = m.two_state; signed = m.signed }

-- the bits of the widest member
abbrev pub widest_marks : List Layout → List Bool
widest_marks [] = []
widest_marks (m ∷ ms) = let rest = widest_marks ms in cond (nat_lt (length m.two_state) (length rest)) rest m.two_state

-- the bits of a union: it is two-state only if all its members are
abbrev pub union_marks : List Layout → List Bool
union_marks ms = cond (list_all (λ b. b) (stacked_marks ms)) (widest_marks ms) (map (λ b. false) (widest_marks ms))

-- what can be selected from as from a packed array of one-bit elements (clause 7.2.1)
abbrev pub with_bits : Bool → List Part → List Bool → Layout
with_bits signed members bits = record {
  two_state = bits;
  signed = signed;
  members = members;
  left = pos (length bits) -ℤ pos 1;
  right = pos 0;
  element = record { below = 0; two_state = list_all (λ b. b) bits ∷ []; signed = false };
}

-- the bits of a struct, packed or not
abbrev pub struct_marks : Bool → List Layout → List Bool
struct_marks true ms = as_a_whole (stacked_marks ms)
struct_marks false ms = stacked_marks ms

abbrev pub array_layout : ℤ → ℤ → Bool → Layout → Layout
array_layout left right signed item = record {
  two_state = repeated (count_of left right) item.two_state;
  signed = signed;
  members = [];
  left = left;
  right = right;
  element = at_the_bottom item;
}

abbrev pub type_step : SvType-F Layout Layout → Layout
type_step (SvType-F.Scalar four signed) = with_bits signed [] (not four ∷ [])
type_step (SvType-F.PackedArray left right signed item) = array_layout left right signed item
type_step (SvType-F.Struct id packed signed ms) = with_bits (packed && signed) (above_the_next ms) (struct_marks packed ms)
type_step (SvType-F.Union id signed ms) = with_bits signed (map at_the_bottom ms) (union_marks ms)
type_step (SvType-F.Enum id base names) = base
type_step (SvType-F.UnpackedArray left right item) = array_layout left right false item

abbrev pub member_step : Member-F Layout Layout → Layout
member_step m = m.of

abbrev pub layout : SvType → Layout
layout = fold-SvType Layout Layout type_step member_step

abbrev pub member_layout : Member → Layout
member_layout = fold-Member Layout Layout type_step member_step

-- how many bits a type has
abbrev pub width_of : SvType → ℕ
width_of t = length (layout t).two_state

-- a bit as it is stored: 0 in place of x and z where it is two-state (clause 6.3.2)
abbrev pub stored_bit : Bool → Bit4 → Bit4
stored_bit true b = two_state4 b
stored_bit false b = b

-- a vector as it is stored
abbrev pub stored : List Bool → List Bit4 → List Bit4
stored two_state bits = map (λ p. stored_bit p.0 p.1) (zip two_state bits)

-- the bits of the default: 0 where they are two-state, else x (clause 6.8)
abbrev pub default_bits : List Bool → List Bit4
default_bits two_state = map (λ two. stored_bit two X) two_state
