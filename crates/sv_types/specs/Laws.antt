-- What select paths read and write, said of values as lists of members and elements (IEEE 1800-2017 clauses 7.2.1, 7.4.5 and 7.4.6). Each
-- law is the contract of a function of this crate.
use Rattle.std.specs.Prelude.{◌≡◌, ◌⊎◌, ℕ, ◌<◌, Bool, ℤ, ◌-ℤ◌, ◌≤ℤ◌, unsigned_abs, ⊤, List, [], ◌∷◌, length, Some, None, slice_get, slice_set, replicate}
use Rattle.std.specs.List.{AllZip}
use Rattle.b4_core.specs.declared.bit.Bit4.{Bit4}
use Rattle.b4_core.specs.declared.bit.Bit4.TheVariants.{X}
use Rattle.picks.specs.RowMachine.{Place, Valuation, put}
use Rattle.picks.specs.RowMachine.{vector_at}
use Rattle.sv_types.specs.declared.types.Member.{Member}
use Rattle.sv_types.specs.declared.types.SvType.TheVariants.{Struct}
use Rattle.sv_types.specs.declared.types.Value.{Value}
use Rattle.sv_types.specs.declared.types.Value.TheVariants.{Items}
use Rattle.sv_types.specs.Layouts.{Layout, layout, width_of, count_of}
use Rattle.sv_types.specs.Values.{bits}
use Rattle.sv_types.specs.Windows.{Window, whole, seen, picked, written, member_of, element_of}

-- the path reads this value
abbrev pub Reads : List Bit4 → Window → Value → Type 0
Reads held path v = seen held path (length (bits v)) ≡ bits v

-- a value as wide as a member
abbrev pub FitsMember : Member → Value → Type 0
FitsMember m v = length (bits v) ≡ width_of m.of

-- a whole signal or local reads what it holds
abbrev pub WholeIsRead : Type 0
WholeIsRead = (v : Value) → Reads (bits v) (whole (length (bits v))) v

-- where a path reads a struct, its step to member k reads component k
abbrev pub MemberIsRead : Type 0
MemberIsRead = (id : ℕ) (packed signed : Bool) (ms : List Member) (vs : List Value) (held : List Bit4) (path : Window) (k : ℕ) (v : Value)
    → AllZip FitsMember ms vs → Reads held path (Items vs) → slice_get vs k ≡ Some v
    → Reads held (member_of (slice_get (layout (Struct id packed signed ms)).members k) path) v

-- the index lies between the bounds
abbrev pub Between : Layout → ℤ → Type 0
Between of i = ((of.right ≤ℤ i) × (i ≤ℤ of.left)) ⊎ ((of.left ≤ℤ i) × (i ≤ℤ of.right))

-- each element has this many bits
abbrev pub EachIsWide : ℕ → List Value → Type 0
EachIsWide w [] = ⊤
EachIsWide w (v ∷ vs) = (length (bits v) ≡ w) × EachIsWide w vs

-- where a path reads an array, its step by an index between the bounds reads the element that stands so far from the left bound
abbrev pub ElementIsRead : Type 0
ElementIsRead = (of : Layout) (vs : List Value) (held : List Bit4) (path : Window) (i : ℤ) (v : Value)
    → EachIsWide (length of.element.two_state) vs → count_of of.left of.right ≡ length vs → Between of i
    → Reads held path (Items vs) → slice_get vs (unsigned_abs (of.left -ℤ i)) ≡ Some v → Reads held (element_of of (Some i) path) v

-- outside of them, and where it is unknown, each bit is x, as in the default of a four-state element
abbrev pub OutsideIsUnknown : Type 0
OutsideIsUnknown = (of : Layout) (held : List Bit4) (path : Window) (n : ℕ)
    → (seen held (element_of of None path) n ≡ replicate n X)
    × ((i : ℤ) → (Between of i → ⊥) → seen held (element_of of (Some i) path) n ≡ replicate n X)

-- each bit of the path is one of the w bits of what it stands on
abbrev pub InRange : Window → ℕ → ℕ → Type 0
InRange path n w = (j : ℕ) → j < n → (q : ℕ) × (picked path j ≡ Some q) × (q < w)

-- what a signal or local of w bits holds once bits are written through a path
abbrev pub held_after : Valuation → ℕ → ℕ → Window → List Bit4 → List Bit4
held_after v n w path b = vector_at (put (written n path b) v) n w

-- a write through the step to member k changes component k of the struct's value, and no other
abbrev pub MemberIsWritten : Type 0
MemberIsWritten = (id : ℕ) (packed signed : Bool) (ms : List Member) (vs : List Value) (v : Valuation) (n w : ℕ) (path : Window) (k : ℕ) (old new : Value)
    → AllZip FitsMember ms vs → Reads (vector_at v n w) path (Items vs) → InRange path (length (bits (Items vs))) w → slice_get vs k ≡ Some old
    → length (bits new) ≡ length (bits old)
    → Reads (held_after v n w (member_of (slice_get (layout (Struct id packed signed ms)).members k) path) (bits new)) path (Items (slice_set vs k new))

-- a write through the step by an index between the bounds changes that element of the array's value, and no other
abbrev pub ElementIsWritten : Type 0
ElementIsWritten = (of : Layout) (vs : List Value) (v : Valuation) (n w : ℕ) (path : Window) (i : ℤ) (old new : Value)
    → EachIsWide (length of.element.two_state) vs → count_of of.left of.right ≡ length vs → Between of i
    → Reads (vector_at v n w) path (Items vs) → InRange path (length (bits (Items vs))) w → slice_get vs (unsigned_abs (of.left -ℤ i)) ≡ Some old
    → length (bits new) ≡ length (bits old)
    → Reads (held_after v n w (element_of of (Some i) path) (bits new)) path (Items (slice_set vs (unsigned_abs (of.left -ℤ i)) new))

-- a write changes nothing but bits of the signal or local on which its path stands, and where an index is out of range or
-- unknown it changes nothing
abbrev pub OthersAreKept : Type 0
OthersAreKept = (v : Valuation) (n : ℕ) (path : Window) (b : List Bit4)
    → ((q : Place) → (q.signal ≡ n → ⊥) → put (written n path b) v q ≡ v q)
    × ((of : Layout) (q : Place) → put (written n (element_of of None path) b) v q ≡ v q)
    × ((of : Layout) (i : ℤ) → (Between of i → ⊥) → (q : Place) → put (written n (element_of of (Some i) path) b) v q ≡ v q)
