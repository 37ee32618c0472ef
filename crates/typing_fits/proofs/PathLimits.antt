-- What select paths keep, by what they select from.
use Rattle.std.proofs.Common.{◌≡◌, ℕ, ◌≤◌, Bool, false, ℤ, List, [], length, arith}
use Rattle.std.specs.Prelude.{slice_get}
use Rattle.sv_types.specs.Layouts.{Layout, count_of}
use Rattle.sv_types.specs.declared.statement.Function.{Function}
use Rattle.sv_types.specs.Meanings.{Meaning, wide, without_bits}
use Rattle.sv_types.specs.Paths as P
use Rattle.sv_types.specs.Paths.{unlike, unlike_part, elements_marks}
use Rattle.typing_fits.specs.Sound.{Limited, LimitedAt}

-- a type with a bit, of at most 2^22
pub record HasBits (of : Layout) : Type 0 where
  pub some : without_bits of ≡ 0
  pub narrow : length of.two_state ≤ 4194304

pub signal-limits : (of : Layout) (at n : ℕ) (gs : List Function) → HasBits of → Limited (P.signal of at n) [] gs
unfolding P.signal
signal-limits of at n gs b = record { typed = omega (arith, b.some); narrow = omega (arith, b.narrow); indexing = omega arith; arithmetic = λ fs k w h. omega arith }

pub local-limits : (of : Layout) (at n : ℕ) (gs : List Function) → HasBits of → Limited (P.local of at n) [] gs
unfolding P.local
local-limits of at n gs b = record { typed = omega (arith, b.some); narrow = omega (arith, b.narrow); indexing = omega arith; arithmetic = λ fs k w h. omega arith }

pub member-limits : (of : Layout) (at : ℕ) (m : Meaning) (j : ℕ) (gs : List Function) → HasBits of → unlike_part of (slice_get m.of.members j) ≡ 0 → LimitedAt m (wide m) gs → Limited (P.member of at m j) [] gs
unfolding P.member
member-limits of at m j gs b u x = record {
  typed = omega (arith, b.some, u, x.typed);
  narrow = omega (arith, b.narrow, x.narrow);
  indexing = omega (arith, x.indexing);
  arithmetic = λ fs k w h. omega (arith, x.arithmetic fs k);
}

pub index-limits : (of : Layout) (at : ℕ) (m i : Meaning) (gs : List Function) → HasBits of → unlike of m.of.element.two_state m.of.element.signed ≡ 0 → wide i ≤ 64
    → LimitedAt m (wide m) gs → LimitedAt i (wide i) gs → Limited (P.index of at m i) [] gs
unfolding P.index
index-limits of at m i gs b u short x y = record {
  typed = omega (arith, b.some, u, x.typed, y.typed);
  narrow = omega (arith, b.narrow, x.narrow, y.narrow);
  indexing = omega (arith, short, x.indexing, y.indexing);
  arithmetic = λ fs k w h. omega (arith, x.arithmetic fs k, y.arithmetic fs k);
}

pub part-limits : (of : Layout) (at : ℕ) (m : Meaning) (left right : ℤ) (gs : List Function) → HasBits of → unlike of (elements_marks m.of (count_of left right)) false ≡ 0
    → LimitedAt m (wide m) gs → Limited (P.part_select of at m left right) [] gs
unfolding P.part_select
part-limits of at m left right gs b u x = record {
  typed = omega (arith, b.some, u, x.typed);
  narrow = omega (arith, b.narrow, x.narrow);
  indexing = omega (arith, x.indexing);
  arithmetic = λ fs k w h. omega (arith, x.arithmetic fs k);
}

pub slide-limits : (of : Layout) (at : ℕ) (m i : Meaning) (n : ℕ) (up : Bool) (gs : List Function) → HasBits of → unlike of (elements_marks m.of n) false ≡ 0 → wide i ≤ 64
    → LimitedAt m (wide m) gs → LimitedAt i (wide i) gs → Limited (P.sliding of at m i n up) [] gs
unfolding P.sliding
slide-limits of at m i n up gs b u short x y = record {
  typed = omega (arith, b.some, u, x.typed, y.typed);
  narrow = omega (arith, b.narrow, x.narrow, y.narrow);
  indexing = omega (arith, short, x.indexing, y.indexing);
  arithmetic = λ fs k w h. omega (arith, x.arithmetic fs k, y.arithmetic fs k);
}
