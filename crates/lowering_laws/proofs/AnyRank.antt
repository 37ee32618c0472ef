-- The rank of any index of any array, by signed numbers.
use Rattle.std.proofs.Common.{◌≡◌, ◌⊎◌, inl, inr, ℕ, zero, suc, ◌+◌, ◌<◌, ◌≤◌, ◌^◌, max, Bool, true, false, ◌&&◌, cond, if◌then◌else◌, ℤ, pos, negsuc, ◌-ℤ◌, ◌≤ℤ◌, ◌<ℤ◌, length, List, [], ◌∷◌, Option, Some, refl, arith, sym, ◌∙◌, subst, ap, true≢false}
use Rattle.std.specs.Prelude.{int_le, int_lt, unsigned_abs}
use Rattle.std.proofs.lemmas.Int.{ints}
use Rattle.std.proofs.lemmas.Bool.Decides.{nat_tests}
use Rattle.b4_core.specs.declared.bit.Bit4.{Bit4}
use Rattle.b4_core.specs.declared.bit.Bit4.TheVariants.{X}
use Rattle.b4_core.specs.declared.operators.BinOp.TheVariants.{Sub}
use Rattle.b4_core.specs.declared.operators.OrdOp.{OrdOp}
use Rattle.b4_core.specs.declared.operators.OrdOp.TheVariants.{LessEqual, GreaterEqual}
use Rattle.b4_core.specs.Bits.{is_one, bit_of}
use Rattle.b4_core.specs.Vectors.{known, unknown, num, snum, vec, ext}
use Rattle.b4_core.specs.Binary.{arithmetic}
use Rattle.b4_core.specs.Compare.{order_value, in_order}
use Rattle.b4_core.proofs.TwosComplement.{vec_pos}
use Rattle.row_machine.specs.Valuation.{Valuation}
use Rattle.sv_types.specs.Layouts.{Layout, count_of}
use Rattle.sv_types.specs.Windows.{rank, falls}
use Rattle.sv_types.proofs.OperatorLengths.{length-ext}
use Rattle.v_meaning.specs.Scopes.{Scope}
use Rattle.v_meaning.specs.Values as T
pub use Rattle.lowering_laws.specs.Signed.{IsIndex}
use Rattle.lowering_laws.specs.Terms.{bound}
use Rattle.lowering_laws.specs.Terms as terms
use Rattle.lowering_laws.specs.Placed.{HasRank, NoRank, IsRank, unknown as no_index, outside}
use Rattle.lowering_laws.proofs.Extensions.{ext-at}
use Rattle.lowering_laws.proofs.Numbers.{num-digits}
use Rattle.lowering_laws.proofs.Offsets.{truth-one, and-cases, and-false, both-holds, unknown-bits}
use Rattle.lowering_laws.proofs.SignedNumbers.{snum-ext, known-ext-signed, unknown-ext-signed, FitsSigned, literal-signed, known-vec, length-vec}

module _ (i : Option ℤ) (m : T.Meaning) (w : ℕ) (sc : Scope) (v : Valuation) (index : IsIndex i m w sc v) where
  abbrev bits : List Bit4
  bits = T.alone m sc v

  abbrev z : T.Meaning
  z = T.signing true m

  -- a comparison with a bound of w bits
  compared : (op : OrdOp) (n : ℤ) → is_one (T.truth (T.order op z (bound w n)) sc v) ≡ is_one (order_value op true (ext w true bits) (vec w n))
  unfolding T.order T.signing T.literal
  compared op n =
      let long = length-vec w n in
      let narrow = index.width in
      let larger : max (m.width sc) (length (vec w n)) ≡ w = omega arith in
      truth-one _
      ∙ (λ d. is_one (order_value op true (ext (larger d) true bits) (ext (larger d) true (ext (length (vec w n)) false (vec w n)))))
      ∙ ap (λ u. is_one (order_value op true (ext w true bits) (ext w true u))) (ext-at (length (vec w n)) false (vec w n) refl)
      ∙ ap (λ u. is_one (order_value op true (ext w true bits) u)) (ext-at w true (vec w n) long)

  order-by : (op : OrdOp) (n : ℤ) (b : Bool) → known bits ≡ b → snum (vec w n) ≡ n
      → is_one (order_value op true (ext w true bits) (vec w n)) ≡ (b && in_order op (snum bits) n)
  order-by op n true k is =
      (λ d. is_one (if known-ext-signed w bits index.long k d && known-vec w n d then bit_of (in_order op (snum-ext w bits index.long d) (is d)) else X)) ∙ bit (in_order op (snum bits) n)
    where
      bit : (c : Bool) → is_one (bit_of c) ≡ c
      bit true = refl
      bit false = refl
  order-by op n false k is =
      ap (λ c. is_one (if c && known (vec w n) then bit_of (in_order op (snum (ext w true bits)) (snum (vec w n))) else X)) (unknown-ext-signed w bits index.long k)

  -- between two bounds
  abbrev between : ℤ → ℤ → T.Meaning
  between low high = terms.between z w low high

  pub between-is : (low high : ℤ) → snum (vec w low) ≡ low → snum (vec w high) ≡ high
      → is_one (T.truth (between low high) sc v) ≡ (known bits && (int_le low (snum bits) && int_le (snum bits) high))
  between-is low high l h =
      both-holds (T.order GreaterEqual z (bound w low)) (T.order LessEqual z (bound w high)) sc v
      ∙ (λ d. (compared GreaterEqual low ∙ order-by GreaterEqual low (known bits) refl l) d && (compared LessEqual high ∙ order-by LessEqual high (known bits) refl h) d)
      ∙ together (known bits) (int_le low (snum bits)) (int_le (snum bits) high)
    where
      together : (a b c : Bool) → ((a && b) && (a && c)) ≡ (a && (b && c))
      together true true c = refl
      together true false c = refl
      together false b c = refl

  -- the difference of the index and a bound, either way, in braces
  abbrev above : ℤ → T.Meaning
  above n = terms.above z w n

  abbrev under : ℤ → T.Meaning
  under n = terms.under z w n

  pub difference-above : (n : ℤ) → ((T.binary Sub z (bound w n)).width sc ≡ w) × (T.alone (T.binary Sub z (bound w n)) sc v ≡ arithmetic (λ x y. x -ℤ y) true (ext w true bits) (vec w n))
  unfolding T.binary T.signing T.literal
  difference-above n =
      let long = length-vec w n in
      let narrow = index.width in
      let larger : max (m.width sc) (length (vec w n)) ≡ w = omega arith in (
        larger,
        (λ d. arithmetic (λ x y. x -ℤ y) true (ext (larger d) true bits) (ext (larger d) true (ext (length (vec w n)) false (vec w n))))
            ∙ ap (λ u. arithmetic (λ x y. x -ℤ y) true (ext w true bits) (ext w true u)) (ext-at (length (vec w n)) false (vec w n) refl)
            ∙ ap (λ u. arithmetic (λ x y. x -ℤ y) true (ext w true bits) u) (ext-at w true (vec w n) long),
      )

  pub difference-under : (n : ℤ) → ((T.binary Sub (bound w n) z).width sc ≡ w) × (T.alone (T.binary Sub (bound w n) z) sc v ≡ arithmetic (λ x y. x -ℤ y) true (vec w n) (ext w true bits))
  unfolding T.binary T.signing T.literal
  difference-under n =
      let long = length-vec w n in
      let narrow = index.width in
      let larger : max (length (vec w n)) (m.width sc) ≡ w = omega arith in (
        larger,
        (λ d. arithmetic (λ x y. x -ℤ y) true (ext (larger d) true (ext (length (vec w n)) false (vec w n))) (ext (larger d) true bits))
            ∙ ap (λ u. arithmetic (λ x y. x -ℤ y) true (ext w true u) (ext w true bits)) (ext-at (length (vec w n)) false (vec w n) refl)
            ∙ ap (λ u. arithmetic (λ x y. x -ℤ y) true u (ext w true bits)) (ext-at w true (vec w n) long),
      )

  -- their values where the index is known, and where it isn't
  pub above-known : (n : ℤ) → known bits ≡ true → snum (vec w n) ≡ n → arithmetic (λ x y. x -ℤ y) true (ext w true bits) (vec w n) ≡ vec w (snum bits -ℤ n)
  above-known n k is =
      (λ d. if known-ext-signed w bits index.long k d && known-vec w n d then vec (length-ext w true bits d) (snum-ext w bits index.long d -ℤ is d) else unknown (length-ext w true bits d))

  pub under-known : (n : ℤ) → known bits ≡ true → snum (vec w n) ≡ n → arithmetic (λ x y. x -ℤ y) true (vec w n) (ext w true bits) ≡ vec w (n -ℤ snum bits)
  under-known n k is =
      (λ d. if known-vec w n d && known-ext-signed w bits index.long k d then vec (length-vec w n d) (is d -ℤ snum-ext w bits index.long d) else unknown (length-vec w n d))

  pub above-unknown : (n : ℤ) → known bits ≡ false → arithmetic (λ x y. x -ℤ y) true (ext w true bits) (vec w n) ≡ unknown w
  above-unknown n k =
      ap (λ c. if c && known (vec w n) then vec (length (ext w true bits)) (snum (ext w true bits) -ℤ snum (vec w n)) else unknown (length (ext w true bits))) (unknown-ext-signed w bits index.long k)
      ∙ ap unknown (length-ext w true bits)

  pub under-unknown : (n : ℤ) → known bits ≡ false → arithmetic (λ x y. x -ℤ y) true (vec w n) (ext w true bits) ≡ unknown w
  under-unknown n k =
      (λ d. if known-vec w n d && unknown-ext-signed w bits index.long k d then vec (length (vec w n)) (snum (vec w n) -ℤ snum (ext w true bits)) else unknown (length (vec w n)))
      ∙ ap unknown (length-vec w n)

-- something of w bits in braces
pub braced-bits : (e : T.Meaning) (w : ℕ) (u : List Bit4) (sc : Scope) (v : Valuation) → e.width sc ≡ w → T.alone e sc v ≡ u → length u ≡ w
    → ((T.concatenation (e ∷ [])).width sc ≡ w) × ((T.concatenation (e ∷ [])).signed ≡ false) × ((T.concatenation (e ∷ [])).value w false sc v ≡ u)
unfolding T.concatenation
braced-bits e w u sc v width is long = (omega arith, refl, ap (ext w false) is ∙ ext-at w false u long)

-- comparisons of whole numbers
pub le-yes : (a b : ℤ) → int_le a b ≡ true → a ≤ℤ b
le-yes (pos a) (pos b) h = (let n : a ≤ b = grind (arith, nat_tests) in omega (arith, ints))
le-yes (pos a) (negsuc b) h = absurd (cc)
le-yes (negsuc a) (pos b) h = omega (arith, ints)
le-yes (negsuc a) (negsuc b) h = (let n : b ≤ a = grind (arith, nat_tests) in omega (arith, ints))

pub le-no : (a b : ℤ) → int_le a b ≡ false → b <ℤ a
le-no (pos a) (pos b) h = (let n : b < a = grind (arith, nat_tests) in omega (arith, ints))
le-no (pos a) (negsuc b) h = omega (arith, ints)
le-no (negsuc a) (pos b) h = absurd (cc)
le-no (negsuc a) (negsuc b) h = (let n : a < b = grind (arith, nat_tests) in omega (arith, ints))

-- how far an index lies above the lower of two bounds
pub record IsOffset (low high z : ℤ) (q : ℕ) : Type 0 where
  pub is : z ≡ pos q
  pub below : q < unsigned_abs (high -ℤ low) + 1

offset-by : (low high k d z : ℤ) → high -ℤ low ≡ d → k -ℤ low ≡ z → low ≤ℤ k → k ≤ℤ high → (q : ℕ) × IsOffset low high (k -ℤ low) q
offset-by low high k (pos d) (pos q) e f h g =
    let abs : unsigned_abs (high -ℤ low) ≡ d = ap unsigned_abs e in
    let less : q ≤ d = omega (arith, ints) in
    (q, record { is = f; below = omega arith })
offset-by low high k (negsuc d) (pos q) e f h g = absurd (omega (arith, ints))
offset-by low high k d (negsuc q) e f h g = absurd (omega (arith, ints))

pub offset : (low high k : ℤ) → low ≤ℤ k → k ≤ℤ high → (q : ℕ) × IsOffset low high (k -ℤ low) q
offset low high k h g = offset-by low high k (high -ℤ low) (k -ℤ low) refl refl h g

-- an index outside two bounds has no offset
outside-by : (low high k d z : ℤ) → high -ℤ low ≡ d → k -ℤ low ≡ z → low ≤ℤ high → (k <ℤ low) ⊎ (high <ℤ k)
    → (int_le (pos 0) z && int_lt z (pos (unsigned_abs d + 1))) ≡ false
outside-by low high k d (negsuc q) e f h g = refl
outside-by low high k (pos d) (pos q) e f h (inl g) = absurd (omega (arith, ints))
outside-by low high k (pos d) (pos q) e f h (inr g) = (let far : d < q = omega (arith, ints) in test q d far)
  where
    test : (x y : ℕ) → y < x → (int_le (pos 0) (pos x) && int_lt (pos x) (pos (y + 1))) ≡ false
    test x y less = grind (arith, nat_tests)
outside-by low high k (negsuc d) (pos q) e f h g = absurd (omega (arith, ints))

not-between : (low high k : ℤ) → (int_le low k && int_le k high) ≡ false → (k <ℤ low) ⊎ (high <ℤ k)
not-between low high k h = by (int_le low k) (int_le k high) refl refl h
  where
    by : (p q : Bool) → int_le low k ≡ p → int_le k high ≡ q → (p && q) ≡ false → (k <ℤ low) ⊎ (high <ℤ k)
    by true true e f g = absurd (true≢false g)
    by true false e f g = inr (le-no k high f)
    by false q e f g = inl (le-no low k e)

-- the same of bounds that rise, whose distance is counted from the left one
record IsUnder (low high z : ℤ) (q : ℕ) : Type 0 where
  pub is : z ≡ pos q
  pub below : q < unsigned_abs (low -ℤ high) + 1

under-by : (low high k d z : ℤ) → low -ℤ high ≡ d → high -ℤ k ≡ z → low ≤ℤ k → k ≤ℤ high → (q : ℕ) × IsUnder low high (high -ℤ k) q
under-by low high k (pos d) (pos q) e f h g =
    let abs : unsigned_abs (low -ℤ high) ≡ d = ap unsigned_abs e in
    let less : q ≤ d = omega (arith, ints) in
    (q, record { is = f; below = omega arith })
under-by low high k (negsuc d) (pos q) e f h g =
    let abs : unsigned_abs (low -ℤ high) ≡ suc d = ap unsigned_abs e in
    let less : q ≤ suc d = omega (arith, ints) in
    (q, record { is = f; below = omega arith })
under-by low high k d (negsuc q) e f h g = absurd (omega (arith, ints))

beyond-by : (low high k d z : ℤ) → low -ℤ high ≡ d → high -ℤ k ≡ z → low ≤ℤ high → (k <ℤ low) ⊎ (high <ℤ k)
    → (int_le (pos 0) z && int_lt z (pos (unsigned_abs d + 1))) ≡ false
beyond-by low high k d (negsuc q) e f h g = refl
beyond-by low high k (pos d) (pos q) e f h (inr g) = absurd (omega (arith, ints))
beyond-by low high k (negsuc d) (pos q) e f h (inr g) = absurd (omega (arith, ints))
beyond-by low high k (pos d) (pos q) e f h (inl g) = (let far : d < q = omega (arith, ints) in test q d far)
  where
    test : (x y : ℕ) → y < x → (int_le (pos 0) (pos x) && int_lt (pos x) (pos (y + 1))) ≡ false
    test x y less = grind (arith, nat_tests)
beyond-by low high k (negsuc d) (pos q) e f h (inl g) = (let far : suc d < q = omega (arith, ints) in test q (suc d) far)
  where
    test : (x y : ℕ) → y < x → (int_le (pos 0) (pos x) && int_lt (pos x) (pos (y + 1))) ≡ false
    test x y less = grind (arith, nat_tests)

pub vec-offset : (w q : ℕ) (z : ℤ) → z ≡ pos q → q < 2 ^ w → num (vec w z) ≡ q
vec-offset w q z is few = ap (λ x. num (vec w x)) is ∙ ap num (vec_pos w q) ∙ num-digits w q few

-- Bounds and a number of elements that fit the width.
module _ (of : Layout) (p : ℕ) (i : Option ℤ) (m : T.Meaning) (sc : Scope) (v : Valuation) (index : IsIndex i m (suc p) sc v)
    (left_fits : FitsSigned p of.left) (right_fits : FitsSigned p of.right) (few : count_of of.left of.right < 2 ^ suc p) where
  abbrev index-bits : List Bit4
  index-bits = T.alone m sc v

  none-there : known index-bits ≡ false → NoRank of i
  none-there k = subst (NoRank of) (sym (index.lost k)) no_index

  -- an array whose bounds fall
  module _ (down : falls of ≡ true) where
    abbrev r : T.Meaning
    r = above i m (suc p) sc v index of.right

    abbrev u : List Bit4
    u = arithmetic (λ x y. x -ℤ y) true (ext (suc p) true index-bits) (vec (suc p) of.right)

    down-known : (b : Bool) → known index-bits ≡ b → (length u ≡ suc p) × (known u ≡ b)
    down-known true k =
        let is = above-known i m (suc p) sc v index of.right k (literal-signed p of.right right_fits) in
        (ap length is ∙ length-vec (suc p) _, ap known is ∙ known-vec (suc p) _)
    down-known false k =
        let is = above-unknown i m (suc p) sc v index of.right k in
        (ap length is ∙ length-unknown (suc p), ap known is ∙ unknown-bits (suc p) (omega arith))
      where
        length-unknown : (n : ℕ) → length (unknown n) ≡ n
        length-unknown zero = refl
        length-unknown (suc n) = ap suc (length-unknown n)

    down-braced : (r.width sc ≡ suc p) × (r.signed ≡ false) × (r.value (suc p) false sc v ≡ u)
    down-braced =
        let d = difference-above i m (suc p) sc v index of.right in
        braced-bits _ (suc p) u sc v d.0 d.1 (down-known (known index-bits) refl).0

    abbrev guard : T.Meaning
    guard = between i m (suc p) sc v index of.right of.left

    guard-is : is_one (T.truth guard sc v) ≡ (known index-bits && (int_le of.right (snum index-bits) && int_le (snum index-bits) of.left))
    guard-is = between-is i m (suc p) sc v index of.right of.left (literal-signed p of.right right_fits) (literal-signed p of.left left_fits)

    rank-is : (k : ℤ) → rank of k ≡ k -ℤ of.right
    rank-is k = ap (λ b. cond b (k -ℤ of.right) (of.right -ℤ k)) down

    down-there : known index-bits ≡ true → (int_le of.right (snum index-bits) ≡ true) × (int_le (snum index-bits) of.left ≡ true) → HasRank of i (num (r.value (suc p) false sc v))
    down-there k inside =
        let o = offset of.right of.left (snum index-bits) (le-yes of.right (snum index-bits) inside.0) (le-yes (snum index-bits) of.left inside.1) in
        let below = (o.1).below in
        let number = ap num down-braced.2 ∙ ap num (above-known i m (suc p) sc v index of.right k (literal-signed p of.right right_fits)) ∙ vec-offset (suc p) o.0 _ (o.1).is (omega arith) in
        subst (HasRank of i) (sym number) (record { index = snum index-bits; known_there = index.there k; rank_is = rank-is (snum index-bits) ∙ (o.1).is; below = below })

    down-outside : known index-bits ≡ true → (int_le of.right (snum index-bits) && int_le (snum index-bits) of.left) ≡ false → NoRank of i
    down-outside k out =
        subst (NoRank of) (sym (index.there k))
        (outside (snum index-bits)
        (ap (λ x. int_le (pos 0) x && int_lt x (pos (count_of of.left of.right))) (rank-is (snum index-bits))
        ∙ outside-by of.right of.left (snum index-bits) (of.left -ℤ of.right) (snum index-bits -ℤ of.right) refl refl (le-yes of.right of.left down) (not-between of.right of.left (snum index-bits) out)))

    down-no : (known index-bits ≡ false) ⊎ ((known index-bits ≡ true) × ((int_le of.right (snum index-bits) && int_le (snum index-bits) of.left) ≡ false)) → NoRank of i
    down-no (inl k) = none-there k
    down-no (inr h) = down-outside h.0 h.1

    pub down-rank : IsRank of i (Some guard) r (suc p) sc v
    down-rank = record {
      width = (let x = down-braced.0 in omega arith);
      unsigned = down-braced.1;
      yes = λ h k.
          let parts = and-cases (known index-bits) _ (sym guard-is ∙ h) in
          down-there parts.0 (and-cases (int_le of.right (snum index-bits)) (int_le (snum index-bits) of.left) parts.1);
      no = λ h. down-no (and-false (known index-bits) _ (sym guard-is ∙ h));
      lost = λ h k. none-there (sym (down-known (known index-bits) refl).1 ∙ sym (ap known down-braced.2) ∙ k);
    }

  -- an array whose bounds rise
  module _ (up : falls of ≡ false) where
    abbrev s : T.Meaning
    s = under i m (suc p) sc v index of.right

    abbrev t : List Bit4
    t = arithmetic (λ x y. x -ℤ y) true (vec (suc p) of.right) (ext (suc p) true index-bits)

    up-known : (b : Bool) → known index-bits ≡ b → (length t ≡ suc p) × (known t ≡ b)
    up-known true k =
        let is = under-known i m (suc p) sc v index of.right k (literal-signed p of.right right_fits) in
        (ap length is ∙ length-vec (suc p) _, ap known is ∙ known-vec (suc p) _)
    up-known false k =
        let is = under-unknown i m (suc p) sc v index of.right k in
        (ap length is ∙ length-unknown (suc p), ap known is ∙ unknown-bits (suc p) (omega arith))
      where
        length-unknown : (n : ℕ) → length (unknown n) ≡ n
        length-unknown zero = refl
        length-unknown (suc n) = ap suc (length-unknown n)

    up-braced : (s.width sc ≡ suc p) × (s.signed ≡ false) × (s.value (suc p) false sc v ≡ t)
    up-braced =
        let d = difference-under i m (suc p) sc v index of.right in
        braced-bits _ (suc p) t sc v d.0 d.1 (up-known (known index-bits) refl).0

    abbrev rising_guard : T.Meaning
    rising_guard = between i m (suc p) sc v index of.left of.right

    rising-is : is_one (T.truth rising_guard sc v) ≡ (known index-bits && (int_le of.left (snum index-bits) && int_le (snum index-bits) of.right))
    rising-is = between-is i m (suc p) sc v index of.left of.right (literal-signed p of.left left_fits) (literal-signed p of.right right_fits)

    up-rank-is : (k : ℤ) → rank of k ≡ of.right -ℤ k
    up-rank-is k = ap (λ b. cond b (k -ℤ of.right) (of.right -ℤ k)) up

    in-order : of.left ≤ℤ of.right
    in-order = (let less = le-no of.right of.left up in omega (arith, ints))

    up-there : known index-bits ≡ true → (int_le of.left (snum index-bits) ≡ true) × (int_le (snum index-bits) of.right ≡ true) → HasRank of i (num (s.value (suc p) false sc v))
    up-there k inside =
        let o = under-by of.left of.right (snum index-bits) (of.left -ℤ of.right) (of.right -ℤ snum index-bits) refl refl
        (le-yes of.left (snum index-bits) inside.0) (le-yes (snum index-bits) of.right inside.1) in
        let below = (o.1).below in
        let number = ap num up-braced.2 ∙ ap num (under-known i m (suc p) sc v index of.right k (literal-signed p of.right right_fits)) ∙ vec-offset (suc p) o.0 _ (o.1).is (omega arith) in
        subst (HasRank of i) (sym number) (record { index = snum index-bits; known_there = index.there k; rank_is = up-rank-is (snum index-bits) ∙ (o.1).is; below = below })

    up-outside : known index-bits ≡ true → (int_le of.left (snum index-bits) && int_le (snum index-bits) of.right) ≡ false → NoRank of i
    up-outside k out =
        subst (NoRank of) (sym (index.there k))
        (outside (snum index-bits)
        (ap (λ x. int_le (pos 0) x && int_lt x (pos (count_of of.left of.right))) (up-rank-is (snum index-bits))
        ∙ beyond-by of.left of.right (snum index-bits) (of.left -ℤ of.right) (of.right -ℤ snum index-bits) refl refl in-order (not-between of.left of.right (snum index-bits) out)))

    up-no : (known index-bits ≡ false) ⊎ ((known index-bits ≡ true) × ((int_le of.left (snum index-bits) && int_le (snum index-bits) of.right) ≡ false)) → NoRank of i
    up-no (inl k) = none-there k
    up-no (inr h) = up-outside h.0 h.1

    pub up-rank : IsRank of i (Some rising_guard) s (suc p) sc v
    up-rank = record {
      width = (let x = up-braced.0 in omega arith);
      unsigned = up-braced.1;
      yes = λ h k.
          let parts = and-cases (known index-bits) _ (sym rising-is ∙ h) in
          up-there parts.0 (and-cases (int_le of.left (snum index-bits)) (int_le (snum index-bits) of.right) parts.1);
      no = λ h. up-no (and-false (known index-bits) _ (sym rising-is ∙ h));
      lost = λ h k. none-there (sym (up-known (known index-bits) refl).1 ∙ sym (ap known up-braced.2) ∙ k);
    }
