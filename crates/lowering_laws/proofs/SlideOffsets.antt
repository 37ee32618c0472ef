-- The offset of an indexed part-select, as a signed number.
use Rattle.std.proofs.Common.{◌≡◌, ℕ, zero, suc, ◌+◌, ◌-◌, ◌*◌, ◌^◌, ◌<◌, ◌≤◌, Bool, true, false, ◌&&◌, cond, if◌then◌else◌, ℤ, pos, negsuc, ◌+ℤ◌, ◌-ℤ◌, ◌*ℤ◌, ◌<ℤ◌, neg_ℤ, length, List, Option, Some, None, refl, arith, sym, ◌∙◌, subst, ap, true≢false}
use Rattle.std.specs.Prelude.{nat_le}
use Rattle.std.proofs.Math.Nat.{pow-suc}
use Rattle.std.proofs.lemmas.Int.{ints}
use Rattle.std.proofs.lemmas.Nat.{mul-le}
use Rattle.std.proofs.lemmas.Bool.Decides.{nat_tests}
use Rattle.b4_core.specs.declared.bit.Bit4.{Bit4}
use Rattle.b4_core.specs.Bits.{is_one}
use Rattle.b4_core.specs.Vectors.{known, unknown, num, snum, vec, ext, top_bit}
use Rattle.b4_core.specs.Binary.{arithmetic}
use Rattle.b4_core.proofs.Numbers.{num_lt}
use Rattle.row_machine.specs.Valuation.{Valuation}
use Rattle.picks.specs.Windows.{Window, nowhere, part}
use Rattle.sv_types.specs.Layouts.{Layout}
use Rattle.sv_types.specs.Windows.{falls, rank, lowest_index, slide}
use Rattle.sv_types.specs.Surroundings.{Around}
use Rattle.sv_types.specs.Meanings as S
use Rattle.sv_types.specs.Paths as P
use Rattle.sv_types.proofs.OperatorLengths.{length-ext}
use Rattle.v_meaning.specs.Scopes.{Scope}
use Rattle.v_meaning.specs.Values as T
use Rattle.v_meaning.specs.Values.{number_of}
use Rattle.lowering_laws.specs.Images.{IsSlide}
use Rattle.lowering_laws.specs.Slid.{bits_below, begins, origin, IsSignedOffset}
use Rattle.lowering_laws.specs.Terms.{above, under, scaled}
use Rattle.lowering_laws.proofs.AnyRank.{IsIndex, difference-above, difference-under, above-known, under-known, above-unknown, under-unknown, braced-bits}
use Rattle.lowering_laws.proofs.Extensions.{ext-at}
use Rattle.lowering_laws.proofs.Offsets.{unknown-bits}
use Rattle.lowering_laws.proofs.SignedNumbers.{snum-of, top-half, snum-ext, known-ext-signed, FitsSigned, literal-signed, known-vec, length-vec}

-- An indexed part-select is a part from its begin on.
slide-begins : (of : Layout) (up : Bool) (n w : ℕ) (z : Option ℤ) (path : Window) → w ≡ n * length of.element.two_state
    → slide of up n z path ≡ elim (begins of up n z) [ None ↦ nowhere | Some k ↦ part k w path ]
slide-begins of up n w None path wide = refl
slide-begins of up n w (Some k) path wide = ap (λ x. part (bits_below of up n k) x path) (sym wide)

pub sliding-is-slide : (of : Layout) (at : ℕ) (from i : S.Meaning) (n : ℕ) (up : Bool) (a : Around) → length of.two_state ≡ n * length from.of.element.two_state
    → IsSlide (P.sliding of at from i n up) from a (begins from.of up n (P.index_of i a))
unfolding P.sliding
sliding-is-slide of at from i n up a wide = record {
  base = refl;
  window = slide-begins from.of up n (length of.two_state) (P.index_of i a) (from.window a) wide;
}

-- Where bounds fall, it begins so far above its origin, and where they rise, so far under it.
rank-falls : (of : Layout) (k : ℤ) → falls of ≡ true → rank of k ≡ k -ℤ of.right
rank-falls of k down = ap (λ b. cond b (k -ℤ of.right) (of.right -ℤ k)) down

rank-rises : (of : Layout) (k : ℤ) → falls of ≡ false → rank of k ≡ of.right -ℤ k
rank-rises of k rise = ap (λ b. cond b (k -ℤ of.right) (of.right -ℤ k)) rise

falling-begin : (of : Layout) (up : Bool) (n : ℕ) (k : ℤ) → falls of ≡ true → rank of (lowest_index of up k n) ≡ k -ℤ origin of up n
falling-begin of true n k down =
    ap (λ b. rank of (cond b k (k +ℤ pos (n - 1)))) down ∙ rank-falls of k down
    ∙ sym (ap (λ b. k -ℤ cond b of.right (of.right -ℤ pos (n - 1))) down)
falling-begin of false n k down =
    ap (λ b. rank of (cond b (k -ℤ pos (n - 1)) k)) down ∙ rank-falls of (k -ℤ pos (n - 1)) down ∙ regroup of.right k (pos (n - 1))
    ∙ sym (ap (λ b. k -ℤ cond b (of.right +ℤ pos (n - 1)) of.right) down)
  where
    regroup : (r x y : ℤ) → (x -ℤ y) -ℤ r ≡ x -ℤ (r +ℤ y)
    regroup r x y = omega (arith, ints)

rising-begin : (of : Layout) (up : Bool) (n : ℕ) (k : ℤ) → falls of ≡ false → rank of (lowest_index of up k n) ≡ origin of up n -ℤ k
rising-begin of true n k rise =
    ap (λ b. rank of (cond b k (k +ℤ pos (n - 1)))) rise ∙ rank-rises of (k +ℤ pos (n - 1)) rise ∙ regroup of.right k (pos (n - 1))
    ∙ sym (ap (λ b. cond b of.right (of.right -ℤ pos (n - 1)) -ℤ k) rise)
  where
    regroup : (r x y : ℤ) → r -ℤ (x +ℤ y) ≡ (r -ℤ y) -ℤ x
    regroup r x y = omega (arith, ints)
rising-begin of false n k rise =
    ap (λ b. rank of (cond b (k -ℤ pos (n - 1)) k)) rise ∙ rank-rises of k rise
    ∙ sym (ap (λ b. cond b (of.right +ℤ pos (n - 1)) of.right -ℤ k) rise)

-- A known vector of so many bits has a signed number that fits them.
fits-by : (q : ℕ) (v : List Bit4) (t : Bool) → known v ≡ true → length v ≡ suc q → is_one (top_bit v) ≡ t → FitsSigned q (snum v)
fits-by q v true k long is =
    let number : snum v ≡ pos (num v) -ℤ pos (2 ^ length v) = snum-of v true is in
    let test : nat_le (2 ^ q) (num v) ≡ true = sym (top-half q v k long) ∙ is in
    let half : 2 ^ q ≤ num v = grind (arith, nat_tests) in
    let less = num_lt v in
    let power : 2 ^ length v ≡ 2 ^ q * 2 = ap (λ x. 2 ^ x) long ∙ pow-suc 2 q in
    subst (FitsSigned q) (sym number) (record { above = omega (arith, ints); below = omega (arith, ints) })
fits-by q v false k long is =
    let number : snum v ≡ pos (num v) = snum-of v false is in
    let test : nat_le (2 ^ q) (num v) ≡ false = sym (top-half q v k long) ∙ is in
    let half : num v < 2 ^ q = grind (arith, nat_tests) in
    subst (FitsSigned q) (sym number) (record { above = omega (arith, ints); below = omega (arith, ints) })

pub snum-fits : (q : ℕ) (v : List Bit4) → length v ≤ suc q → known v ≡ true → FitsSigned q (snum v)
snum-fits q v short k =
    subst (FitsSigned q) (snum-ext (suc q) v short)
    (fits-by q (ext (suc q) true v) _ (known-ext-signed (suc q) v short k) (length-ext (suc q) true v) refl)

-- The difference of two numbers, and so many times it, with room for both.
wider : (p q : ℕ) (n : ℤ) → FitsSigned q n → 2 ^ q ≤ 2 ^ p → FitsSigned p n
wider p q n fits more = (let low = fits.above in let high = fits.below in record { above = omega (arith, ints); below = omega (arith, ints) })

record IsSmall (n : ℤ) (b : ℕ) : Type 0 where
  above : neg_ℤ (pos b) <ℤ n
  below : n <ℤ pos b

difference-small : (q : ℕ) (k c : ℤ) → FitsSigned q k → FitsSigned q c → IsSmall (k -ℤ c) (2 * 2 ^ q)
difference-small q k c f g =
    let a = f.above in
    let b = f.below in
    let x = g.above in
    let y = g.below in
    record { above = omega (arith, ints); below = omega (arith, ints) }

product-pos : (m b item : ℕ) → m < b → 1 ≤ item → m * item < item * b
product-pos m b item less some =
    let step = mul-le (suc m) item b item (omega arith) (omega arith) in
    let spread : suc m * item ≡ m * item + item = grind arith in
    let turn : b * item ≡ item * b = grind arith in
    omega arith

times-pos : (m n : ℕ) → pos m *ℤ pos n ≡ pos (m * n)
times-pos m n = refl

times-neg : (m n : ℕ) → negsuc m *ℤ pos n ≡ neg_ℤ (pos (suc m * n))
times-neg m n = omega (arith, ints)

product-fits : (p b item : ℕ) (d : ℤ) → IsSmall d b → 1 ≤ item → item * b ≤ 2 ^ p → FitsSigned p (d *ℤ pos item)
product-fits p b item (pos m) small some room =
    let low = small.below in
    let less : m < b = omega (arith, ints) in
    let product = product-pos m b item less some in
    subst (FitsSigned p) (sym (times-pos m item)) (record { above = omega (arith, ints); below = omega (arith, ints) })
product-fits p b item (negsuc m) small some room =
    let low = small.above in
    let less : suc m < b = omega (arith, ints) in
    let product = product-pos (suc m) b item less some in
    subst (FitsSigned p) (sym (times-neg m item)) (record { above = omega (arith, ints); below = omega (arith, ints) })

small-fits : (p b item : ℕ) (d : ℤ) → IsSmall d b → 1 ≤ item → item * b ≤ 2 ^ p → FitsSigned p d
small-fits p b item d small some room =
    let low = small.above in
    let high = small.below in
    let most = mul-le 1 b item b some (omega arith) in
    let one : 1 * b ≡ b = omega arith in
    record { above = omega (arith, ints); below = omega (arith, ints) }

-- What a difference of w bits is: a number, or unknown.
record IsDifference (z : Option ℤ) (u : List Bit4) (p : ℕ) : Type 0 where
  long : length u ≡ suc p
  there : known u ≡ true → (d : ℤ) × (z ≡ Some d) × (u ≡ vec (suc p) d) × FitsSigned p d
  lost : known u ≡ false → z ≡ None

-- so many times a number
times : ℕ → Option ℤ → Option ℤ
times item None = None
times item (Some d) = Some (d *ℤ pos item)

length-unknown : (n : ℕ) → length (unknown n) ≡ n
length-unknown zero = refl
length-unknown (suc n) = ap suc (length-unknown n)

module _ (r : T.Meaning) (u : List Bit4) (item p : ℕ) (sc : Scope) (v : Valuation)
    (width : r.width sc ≡ suc p) (unsigned : r.signed ≡ false) (bits : r.value (suc p) false sc v ≡ u) (long : length u ≡ suc p) where
  abbrev o : T.Meaning
  o = scaled r item (suc p)

  abbrev product : List Bit4
  product = arithmetic (λ x y. x *ℤ y) true u (vec (suc p) (pos item))

  scaled-width : o.width sc ≡ suc p
  unfolding T.binary T.signing T.literal
  scaled-width = (let n = length-vec (suc p) (pos item) in omega arith)

  scaled-signed : o.signed ≡ true
  unfolding T.binary T.signing
  scaled-signed = refl

  alone-is : T.alone r sc v ≡ u
  alone-is = (λ d. r.value (width d) (unsigned d) sc v) ∙ bits

  scaled-alone : T.alone o sc v ≡ product
  unfolding T.binary T.signing T.literal
  scaled-alone =
      let c = vec (suc p) (pos item) in
      (λ d. arithmetic (λ x y. x *ℤ y) true (ext (scaled-width d) true (T.alone r sc v)) (ext (scaled-width d) true (ext (length c) false c)))
      ∙ (λ d. arithmetic (λ x y. x *ℤ y) true (ext (suc p) true (alone-is d)) (ext (suc p) true (ext-at (length c) false c refl d)))
      ∙ (λ d. arithmetic (λ x y. x *ℤ y) true (ext-at (suc p) true u long d) (ext-at (suc p) true c (length-vec (suc p) (pos item)) d))

  product-known : (d : ℤ) → known u ≡ true → u ≡ vec (suc p) d → FitsSigned p d → FitsSigned p (pos item) → product ≡ vec (suc p) (d *ℤ pos item)
  product-known d k is fits item_fits =
      (λ j. if k j && known-vec (suc p) (pos item) j then vec (long j) ((ap snum is ∙ literal-signed p d fits) j *ℤ literal-signed p (pos item) item_fits j) else unknown (length u))

  product-unknown : known u ≡ false → product ≡ unknown (suc p)
  product-unknown k =
      ap (λ c. if c && known (vec (suc p) (pos item)) then vec (length u) (snum u *ℤ snum (vec (suc p) (pos item))) else unknown (length u)) k ∙ ap unknown long

  number-known : (x : List Bit4) (n : ℤ) → x ≡ vec (suc p) n → FitsSigned p n → number_of true x ≡ Some n
  number-known x n is fits =
      ap (λ c. cond c (Some (snum x)) None) (ap known is ∙ known-vec (suc p) n) ∙ ap (λ y. Some (snum y)) is ∙ ap Some (literal-signed p n fits)

  number-unknown : (x : List Bit4) → known x ≡ false → number_of true x ≡ None
  number-unknown x k = ap (λ c. cond c (Some (snum x)) None) k

  module _ (z : Option ℤ) (is : IsDifference z u p) (item_fits : FitsSigned p (pos item)) (fits : (d : ℤ) → z ≡ Some d → FitsSigned p (d *ℤ pos item)) where
    by-known : (b : Bool) → known u ≡ b → (length product ≡ suc p) × (number_of true product ≡ times item z)
    unfolding times
    by-known true k =
        let there = is.there k in
        let same = product-known there.0 k (there.2) there.3 item_fits in
        (ap length same ∙ length-vec (suc p) _, number-known product _ same (fits there.0 there.1) ∙ sym (ap (times item) there.1))
    by-known false k =
        let same = product-unknown k in
        (ap length same ∙ length-unknown (suc p), number-unknown product (ap known same ∙ unknown-bits (suc p) (omega arith)) ∙ sym (ap (times item) (is.lost k)))

    scaled-offset : IsSignedOffset (times item z) o (suc p) sc v
    scaled-offset = record {
      width = scaled-width;
      signed = scaled-signed;
      long = ap length scaled-alone ∙ (by-known (known u) refl).0;
      number = (λ d. number_of (scaled-signed d) (scaled-alone d)) ∙ (by-known (known u) refl).1;
    }

-- the distance of an index from the origin, counted upward or downward
distance : Bool → ℤ → Option ℤ → Option ℤ
distance down c None = None
distance true c (Some k) = Some (k -ℤ c)
distance false c (Some k) = Some (c -ℤ k)

begins-by : (of : Layout) (up : Bool) (n : ℕ) (down : Bool) (i : Option ℤ) → falls of ≡ down
    → times (length of.element.two_state) (distance down (origin of up n) i) ≡ begins of up n i
unfolding times distance
begins-by of up n true None is = refl
begins-by of up n false None is = refl
begins-by of up n true (Some k) is = ap (λ r. Some (r *ℤ pos (length of.element.two_state))) (sym (falling-begin of up n k is))
begins-by of up n false (Some k) is = ap (λ r. Some (r *ℤ pos (length of.element.two_state))) (sym (rising-begin of up n k is))

some-same : (x y : ℤ) → Some x ≡ Some y → x ≡ y
some-same x y h = cc

-- An index of at most q + 1 bits, elements of at least one bit, and room for the offset.
module _ (of : Layout) (up : Bool) (n p q : ℕ) (i : Option ℤ) (m : T.Meaning) (sc : Scope) (v : Valuation) (index : IsIndex i m (suc p) sc v)
    (short : length (T.alone m sc v) ≤ suc q) (origin_fits : FitsSigned q (origin of up n))
    (some : 1 ≤ length of.element.two_state) (room : length of.element.two_state * (2 * 2 ^ q) ≤ 2 ^ p) where
  abbrev item : ℕ
  item = length of.element.two_state

  abbrev c : ℤ
  c = origin of up n

  abbrev index_bits : List Bit4
  index_bits = T.alone m sc v

  powers : 2 ^ q ≤ 2 ^ p
  powers = (let most = mul-le 1 (2 * 2 ^ q) item (2 * 2 ^ q) some (omega arith) in omega arith)

  origin-there : snum (vec (suc p) c) ≡ c
  origin-there = literal-signed p c (wider p q c origin_fits powers)

  item-fits : FitsSigned p (pos item)
  item-fits =
      let one = positive q in
      let most = mul-le item 2 item (2 * 2 ^ q) (omega arith) (omega arith) in
      record { above = omega (arith, ints); below = omega (arith, ints) }
    where
      positive : (k : ℕ) → 1 ≤ 2 ^ k
      positive zero = omega arith
      positive (suc k) = (let rest = positive k in let power = pow-suc 2 k in omega arith)

  above-small : known index_bits ≡ true → IsSmall (snum index_bits -ℤ c) (2 * 2 ^ q)
  above-small k = difference-small q (snum index_bits) c (snum-fits q index_bits short k) origin_fits

  under-small : known index_bits ≡ true → IsSmall (c -ℤ snum index_bits) (2 * 2 ^ q)
  under-small k = difference-small q c (snum index_bits) origin_fits (snum-fits q index_bits short k)

  fits-all : (x y d : ℤ) → x ≡ y → x ≡ d → IsSmall y (2 * 2 ^ q) → FitsSigned p (d *ℤ pos item)
  fits-all x y d e f small = subst (λ k. FitsSigned p (k *ℤ pos item)) (sym e ∙ f) (product-fits p (2 * 2 ^ q) item y small some room)

  -- where bounds fall
  abbrev above_bits : List Bit4
  above_bits = arithmetic (λ x y. x -ℤ y) true (ext (suc p) true index_bits) (vec (suc p) c)

  above-difference : (b : Bool) → known index_bits ≡ b → IsDifference (distance true c i) above_bits p × ((d : ℤ) → distance true c i ≡ Some d → FitsSigned p (d *ℤ pos item))
  unfolding distance
  above-difference true k =
      let is = above-known i m (suc p) sc v index c k origin-there in
      let there : distance true c i ≡ Some (snum index_bits -ℤ c) = ap (distance true c) (index.there k) in (
        record {
          long = ap length is ∙ length-vec (suc p) _;
          there = λ g. (snum index_bits -ℤ c, there, is, small-fits p (2 * 2 ^ q) item _ (above-small k) some room);
          lost = λ g. absurd (true≢false (sym (ap known is ∙ known-vec (suc p) _) ∙ g));
        },
        λ d e. fits-all (snum index_bits -ℤ c) (snum index_bits -ℤ c) d refl (some-same _ _ (sym there ∙ e)) (above-small k),
      )
  above-difference false k =
      let is = above-unknown i m (suc p) sc v index c k in
      let none : distance true c i ≡ None = ap (distance true c) (index.lost k) in (
        record {
          long = ap length is ∙ length-unknown (suc p);
          there = λ g. absurd (true≢false (sym g ∙ ap known is ∙ unknown-bits (suc p) (omega arith)));
          lost = λ g. none;
        },
        λ d e. absurd (none-there d (sym none ∙ e)),
      )
    where
      none-there : (d : ℤ) → None ≡ Some d → ⊥
      none-there d e = cc

  pub falling-offset : falls of ≡ true → IsSignedOffset (begins of up n i) (scaled (above (T.signing true m) (suc p) c) item (suc p)) (suc p) sc v
  falling-offset down =
      let d = difference-above i m (suc p) sc v index c in
      let by = above-difference (known index_bits) refl in
      let r = braced-bits _ (suc p) above_bits sc v d.0 d.1 (by.0).long in
      subst (λ z. IsSignedOffset z (scaled (above (T.signing true m) (suc p) c) item (suc p)) (suc p) sc v) (begins-by of up n true i down)
      (scaled-offset (above (T.signing true m) (suc p) c) above_bits item p sc v r.0 r.1 r.2 (by.0).long (distance true c i) by.0 item-fits by.1)

  -- where bounds rise
  abbrev under_bits : List Bit4
  under_bits = arithmetic (λ x y. x -ℤ y) true (vec (suc p) c) (ext (suc p) true index_bits)

  under-difference : (b : Bool) → known index_bits ≡ b → IsDifference (distance false c i) under_bits p × ((d : ℤ) → distance false c i ≡ Some d → FitsSigned p (d *ℤ pos item))
  unfolding distance
  under-difference true k =
      let is = under-known i m (suc p) sc v index c k origin-there in
      let there : distance false c i ≡ Some (c -ℤ snum index_bits) = ap (distance false c) (index.there k) in (
        record {
          long = ap length is ∙ length-vec (suc p) _;
          there = λ g. (c -ℤ snum index_bits, there, is, small-fits p (2 * 2 ^ q) item _ (under-small k) some room);
          lost = λ g. absurd (true≢false (sym (ap known is ∙ known-vec (suc p) _) ∙ g));
        },
        λ d e. fits-all (c -ℤ snum index_bits) (c -ℤ snum index_bits) d refl (some-same _ _ (sym there ∙ e)) (under-small k),
      )
  under-difference false k =
      let is = under-unknown i m (suc p) sc v index c k in
      let none : distance false c i ≡ None = ap (distance false c) (index.lost k) in (
        record {
          long = ap length is ∙ length-unknown (suc p);
          there = λ g. absurd (true≢false (sym g ∙ ap known is ∙ unknown-bits (suc p) (omega arith)));
          lost = λ g. none;
        },
        λ d e. absurd (none-there d (sym none ∙ e)),
      )
    where
      none-there : (d : ℤ) → None ≡ Some d → ⊥
      none-there d e = cc

  pub rising-offset : falls of ≡ false → IsSignedOffset (begins of up n i) (scaled (under (T.signing true m) (suc p) c) item (suc p)) (suc p) sc v
  rising-offset rise =
      let d = difference-under i m (suc p) sc v index c in
      let by = under-difference (known index_bits) refl in
      let r = braced-bits _ (suc p) under_bits sc v d.0 d.1 (by.0).long in
      subst (λ z. IsSignedOffset z (scaled (under (T.signing true m) (suc p) c) item (suc p)) (suc p) sc v) (begins-by of up n false i rise)
      (scaled-offset (under (T.signing true m) (suc p) c) under_bits item p sc v r.0 r.1 r.2 (by.0).long (distance false c i) by.0 item-fits by.1)
