-- Uses, names and windows of several parts.
use Rattle.std.proofs.Common.{◌≡◌, ℕ, zero, suc, ◌+◌, ◌<◌, max, min, Bool, true, false, ◌&&◌, ◌||◌, cond, ℤ, pos, negsuc, ◌+ℤ◌, List, [], ◌∷◌, ◌++◌, Option, Some, None, refl, ap, sym, ◌∙◌, subst, arith}
use Rattle.std.specs.Prelude.{nat_le, nat_lt, leb, ltb, int_le, int_lt, slice_index_or}
use Rattle.std.proofs.lemmas.Bool.{false≢true}
use Rattle.std.proofs.lemmas.Bool.Decides.{nat_tests}
use Rattle.b4_core.specs.declared.bit.Bit4.TheVariants.{X}
use Rattle.row_machine.specs.Valuation.{Place, Valuation}
use Rattle.row_machine.specs.Places.{vector_at, bits_from}
use Rattle.sv_types.specs.Windows.{Window, nowhere, part, within, at_least_0, picked, bit_at, seen, member_of, element_of, between, slide, elements, rank}
use Rattle.sv_types.specs.Layouts.{Layout, Part, count_of}
use Rattle.sv_types.specs.Surroundings.{Around, Use}
use Rattle.sv_types.specs.Flows.{covers, covered}
use Rattle.sv_types.proofs.Picks.{tabulated-same}
use Rattle.flow_laws.specs.Hangs.{Agree, Inside}

or-left : (a b : Bool) → a ≡ true → (a || b) ≡ true
or-left a b h = ap (λ x. x || b) h

or-right : (a b : Bool) → b ≡ true → (a || b) ≡ true
or-right true b h = refl
or-right false b h = h

pub covered-left : (us vs : List Use) (q : Place) → covered us q ≡ true → covered (us ++ vs) q ≡ true
covered-left [] vs q h = absurd (false≢true h)
covered-left (u ∷ us) vs q h = by (covers u q) h (covered-left us vs q)
  where
    by : (b : Bool) → (b || covered us q) ≡ true → (covered us q ≡ true → covered (us ++ vs) q ≡ true) → (b || covered (us ++ vs) q) ≡ true
    by true g f = refl
    by false g f = f g

pub covered-right : (us vs : List Use) (q : Place) → covered vs q ≡ true → covered (us ++ vs) q ≡ true
covered-right [] vs q h = h
covered-right (u ∷ us) vs q h = or-right (covers u q) (covered (us ++ vs) q) (covered-right us vs q h)

pub agree-left : (us vs : List Use) (a b : Around) → Agree (us ++ vs) a b → Agree us a b
agree-left us vs a b h q is = h q (covered-left us vs q is)

pub agree-right : (us vs : List Use) (a b : Around) → Agree (us ++ vs) a b → Agree vs a b
agree-right us vs a b h q is = h q (covered-right us vs q is)

pub agree-none : (us : List Use) (a b : Around) → us ≡ [] → Agree us a b
agree-none us a b none q is = absurd (false≢true (sym (ap (λ vs. covered vs q) none) ∙ is))

pub empty-left : {A : Type 0} (xs ys : List A) → xs ≡ [] → ys ≡ [] → xs ++ ys ≡ []
empty-left xs ys h g = ap (λ zs. zs ++ ys) h ∙ g

-- steps name bits of what they stand on
nowhere-inside : (path : Window) → Inside nowhere path
nowhere-inside path b h = absurd (none b h)
  where
    none : (k : ℕ) → (nat_le 0 k && nat_lt k 0) ≡ true → ⊥
    none k g = grind (arith, nat_tests)

pub part-inside : (o : ℤ) (n : ℕ) (path : Window) → Inside (part o n path) path
part-inside o n path = by (nat_lt low high)
  where
    low : ℕ
    low = max path.low (at_least_0 (path.shift +ℤ o))

    high : ℕ
    high = min path.high (at_least_0 (path.shift +ℤ o +ℤ pos n))

    kept : (a b c d k : ℕ) → (nat_le (max a c) k && nat_lt k (min b d)) ≡ true → (nat_le a k && nat_lt k b) ≡ true
    kept a b c d k h = grind (arith, nat_tests)

    by : (c : Bool) → Inside (cond c (record { shift = path.shift +ℤ o; low = low; high = high }) nowhere) path
    by true b h = kept path.low path.high (at_least_0 (path.shift +ℤ o)) (at_least_0 (path.shift +ℤ o +ℤ pos n)) b h
    by false b h = nowhere-inside path b h

pub member-inside : (m : Option Part) (path : Window) → Inside (member_of m path) path
member-inside None path = nowhere-inside path
member-inside (Some m) path = part-inside _ _ path

pub element-inside : (of : Layout) (i : Option ℤ) (path : Window) → Inside (element_of of i path) path
element-inside of None path = nowhere-inside path
element-inside of (Some k) path = by (int_le (pos 0) (rank of k) && int_lt (rank of k) (pos (count_of of.left of.right)))
  where
    by : (c : Bool) → Inside (cond c (elements of (rank of k) 1 path) nowhere) path
    by true = part-inside _ _ path
    by false = nowhere-inside path

pub between-inside : (of : Layout) (left right : ℤ) (path : Window) → Inside (between of left right path) path
between-inside of left right path = part-inside _ _ path

pub slide-inside : (of : Layout) (up : Bool) (n : ℕ) (i : Option ℤ) (path : Window) → Inside (slide of up n i path) path
slide-inside of up n None path = nowhere-inside path
slide-inside of up n (Some k) path = part-inside _ _ path

-- a bit that is picked lies in the window
picked-some : (t : Bool) (m low high q : ℕ) → (leb low m && ltb m high) ≡ t → cond t (Some m) None ≡ Some q → (leb low q && ltb q high) ≡ true
picked-some true m low high q test is = let e : m ≡ q = cc in subst (λ k. (leb low k && ltb k high) ≡ true) e test
picked-some false m low high q test is = absurd (cc)

picked-by : (k : ℤ) (low high q : ℕ) → cond (int_le (pos low) k && int_lt k (pos high)) (Some (at_least_0 k)) None ≡ Some q → (leb low q && ltb q high) ≡ true
picked-by (negsuc m) low high q is = absurd (cc)
picked-by (pos m) low high q is = picked-some (leb low m && ltb m high) m low high q refl is

pub picked-within : (path : Window) (j q : ℕ) → picked path j ≡ Some q → within path q ≡ true
picked-within path j q is = picked-by (pos j +ℤ path.shift) path.low path.high q is

-- vectors that have the same bits where a window lies are seen the same
same-from : (v u : Valuation) (n k w q : ℕ) → (q < w → v (record { signal = n; bit = k + q }) ≡ u (record { signal = n; bit = k + q })) → slice_index_or (bits_from v n k w) q X ≡ slice_index_or (bits_from u n k w) q X
same-from v u n k zero q h = refl
same-from v u n k (suc w) zero h = let e : k + 0 ≡ k = omega arith in subst (λ b. v (record { signal = n; bit = b }) ≡ u (record { signal = n; bit = b })) e (h (omega arith))
same-from v u n k (suc w) (suc q) h =
    same-from v u n (suc k) w q (λ low. let e : k + suc q ≡ suc k + q = omega arith in subst (λ b. v (record { signal = n; bit = b }) ≡ u (record { signal = n; bit = b })) e (h (omega (arith, low))))

pub same-seen : (v u : Valuation) (n w width : ℕ) (path : Window) → ((q : ℕ) → q < w → within path q ≡ true → v (record { signal = n; bit = q }) ≡ u (record { signal = n; bit = q }))
    → seen (vector_at v n w) path width ≡ seen (vector_at u n w) path width
same-seen v u n w width path h =
    tabulated-same width (λ j. bit_at (vector_at v n w) (picked path j)) (λ j. bit_at (vector_at u n w) (picked path j)) (λ j low. by (picked path j) (λ q is. picked-within path j q is))
  where
    by : (o : Option ℕ) → ((q : ℕ) → o ≡ Some q → within path q ≡ true) → bit_at (vector_at v n w) o ≡ bit_at (vector_at u n w) o
    by None f = refl
    by (Some q) f = same-from v u n 0 w q (λ low. let e : q ≡ 0 + q = omega arith in subst (λ b. v (record { signal = n; bit = b }) ≡ u (record { signal = n; bit = b })) e (h q low (f q refl)))
