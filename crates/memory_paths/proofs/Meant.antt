-- What select paths mean, by their last steps.
use Rattle.std.proofs.Common.{◌≡◌, ℕ, Bool, false, ℤ, List, [], ◌++◌, length, refl, arith, ap}
use Rattle.std.specs.Prelude.{slice_get}
use Rattle.b4_core.specs.declared.bit.Bit4.{Bit4}
use Rattle.picks.specs.Windows.{whole}
use Rattle.sv_types.specs.Layouts.{Layout, stored, count_of}
use Rattle.sv_types.specs.Windows.{member_of, element_of, between, slide}
use Rattle.sv_types.specs.Surroundings.{Around}
use Rattle.sv_types.specs.Meanings as S
use Rattle.sv_types.specs.Meanings.{written_at}
use Rattle.sv_types.specs.Paths as P

-- which bits they name
pub signal-window : (of : Layout) (at n : ℕ) (a : Around) → (P.signal of at n).window a ≡ whole (length of.two_state)
unfolding P.signal
signal-window of at n a = refl

pub local-window : (of : Layout) (at n : ℕ) (a : Around) → (P.local of at n).window a ≡ whole (length of.two_state)
unfolding P.local
local-window of at n a = refl

pub member-window : (of : Layout) (at : ℕ) (m : S.Meaning) (k : ℕ) (a : Around) → (P.member of at m k).window a ≡ member_of (slice_get m.of.members k) (m.window a)
unfolding P.member
member-window of at m k a = refl

pub index-window : (of : Layout) (at : ℕ) (m i : S.Meaning) (a : Around) → (P.index of at m i).window a ≡ element_of m.of (P.index_of i a) (m.window a)
unfolding P.index
index-window of at m i a = refl

pub part-window : (of : Layout) (at : ℕ) (m : S.Meaning) (left right : ℤ) (a : Around) → (P.part_select of at m left right).window a ≡ between m.of left right (m.window a)
unfolding P.part_select
part-window of at m left right a = refl

pub slide-window : (of : Layout) (at : ℕ) (m i : S.Meaning) (n : ℕ) (up : Bool) (a : Around) → (P.sliding of at m i n up).window a ≡ slide m.of up n (P.index_of i a) (m.window a)
unfolding P.sliding
slide-window of at m i n up a = refl

-- what their indices name
pub signal-names : (of : Layout) (at n : ℕ) → (P.signal of at n).index_names ≡ []
unfolding P.signal
signal-names of at n = refl

pub local-names : (of : Layout) (at n : ℕ) → (P.local of at n).index_names ≡ []
unfolding P.local
local-names of at n = refl

pub member-names : (of : Layout) (at : ℕ) (m : S.Meaning) (k : ℕ) → (P.member of at m k).index_names ≡ m.index_names
unfolding P.member
member-names of at m k = refl

pub index-names : (of : Layout) (at : ℕ) (m i : S.Meaning) → (P.index of at m i).index_names ≡ m.index_names ++ i.names
unfolding P.index
index-names of at m i = refl

pub part-names : (of : Layout) (at : ℕ) (m : S.Meaning) (left right : ℤ) → (P.part_select of at m left right).index_names ≡ m.index_names
unfolding P.part_select
part-names of at m left right = refl

pub slide-names : (of : Layout) (at : ℕ) (m i : S.Meaning) (n : ℕ) (up : Bool) → (P.sliding of at m i n up).index_names ≡ m.index_names ++ i.names
unfolding P.sliding
slide-names of at m i n up = refl

-- what writes through them change
abbrev pub Puts : S.Meaning → Type 0
Puts m = (a : Around) (bits : List Bit4) → m.puts a bits ≡ written_at m.root (m.window a) (stored m.of.two_state bits)

pub member-puts : (of : Layout) (at : ℕ) (m : S.Meaning) (k : ℕ) → Puts (P.member of at m k)
unfolding P.member
member-puts of at m k a bits = refl

pub index-puts : (of : Layout) (at : ℕ) (m i : S.Meaning) → Puts (P.index of at m i)
unfolding P.index
index-puts of at m i a bits = refl

pub part-puts : (of : Layout) (at : ℕ) (m : S.Meaning) (left right : ℤ) → Puts (P.part_select of at m left right)
unfolding P.part_select
part-puts of at m left right a bits = refl

pub slide-puts : (of : Layout) (at : ℕ) (m i : S.Meaning) (n : ℕ) (up : Bool) → Puts (P.sliding of at m i n up)
unfolding P.sliding
slide-puts of at m i n up a bits = refl

-- typed steps of what is alike are typed
pub local-typed : (of of' : Layout) (at at' n : ℕ) (m i : S.Meaning) → of' ≡ of → (P.index of at m i).misfits ≡ 0 → (P.local of' at' n).misfits ≡ 0
unfolding P.index P.local
local-typed of of' at at' n m i same h = (let e = ap S.without_bits same in omega arith)

pub member-typed : (of of' : Layout) (at at' : ℕ) (m u : S.Meaning) (k : ℕ) → of' ≡ of → u.of ≡ m.of → u.misfits ≡ 0 → (P.member of at m k).misfits ≡ 0 → (P.member of' at' u k).misfits ≡ 0
unfolding P.member
member-typed of of' at at' m u k same alike typed h =
    let e = ap S.without_bits same in
    let f = ap (λ (l : Layout). P.unlike_part l (slice_get u.of.members k)) same in
    let g = ap (λ (l : Layout). P.unlike_part of (slice_get l.members k)) alike in
    omega arith

pub index-typed : (of of' : Layout) (at at' : ℕ) (m u i : S.Meaning) → of' ≡ of → u.of ≡ m.of → u.misfits ≡ 0 → (P.index of at m i).misfits ≡ 0 → (P.index of' at' u i).misfits ≡ 0
unfolding P.index
index-typed of of' at at' m u i same alike typed h =
    let e = ap S.without_bits same in
    let f = ap (λ (l : Layout). P.unlike l u.of.element.two_state u.of.element.signed) same in
    let g = ap (λ (l : Layout). P.unlike of l.element.two_state l.element.signed) alike in
    omega arith

pub part-typed : (of of' : Layout) (at at' : ℕ) (m u : S.Meaning) (left right : ℤ) → of' ≡ of → u.of ≡ m.of → u.misfits ≡ 0 → (P.part_select of at m left right).misfits ≡ 0 → (P.part_select of' at' u left right).misfits ≡ 0
unfolding P.part_select
part-typed of of' at at' m u left right same alike typed h =
    let e = ap S.without_bits same in
    let f = ap (λ (l : Layout). P.unlike l (P.elements_marks u.of (count_of left right)) false) same in
    let g = ap (λ (l : Layout). P.unlike of (P.elements_marks l (count_of left right)) false) alike in
    omega arith

pub slide-typed : (of of' : Layout) (at at' : ℕ) (m u i : S.Meaning) (n : ℕ) (up : Bool) → of' ≡ of → u.of ≡ m.of → u.misfits ≡ 0 → (P.sliding of at m i n up).misfits ≡ 0 → (P.sliding of' at' u i n up).misfits ≡ 0
unfolding P.sliding
slide-typed of of' at at' m u i n up same alike typed h =
    let e = ap S.without_bits same in
    let f = ap (λ (l : Layout). P.unlike l (P.elements_marks u.of n) false) same in
    let g = ap (λ (l : Layout). P.unlike of (P.elements_marks l n) false) alike in
    omega arith
