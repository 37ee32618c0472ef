-- The rank of an unsigned index of an array `[last:0]`, and the guard that it needs.
use Rattle.std.proofs.Common.{◌≡◌, ◌⊎◌, inl, inr, ℕ, ◌+◌, ◌<◌, ◌≤◌, ◌^◌, max, Bool, true, false, ◌&&◌, cond, if◌then◌else◌, ℤ, pos, ◌-ℤ◌, length, List, Some, None, refl, arith, sym, ◌∙◌, subst, ap, true≢false}
use Rattle.std.specs.Prelude.{int_le, int_lt, nat_le, unsigned_abs}
use Rattle.std.proofs.lemmas.Int.{ints}
use Rattle.std.proofs.lemmas.Bool.Decides.{nat_tests}
use Rattle.b4_core.specs.declared.bit.Bit4.{Bit4}
use Rattle.b4_core.specs.declared.bit.Bit4.TheVariants.{X}
use Rattle.b4_core.specs.declared.operators.OrdOp.TheVariants.{LessEqual}
use Rattle.b4_core.specs.Bits.{is_one, bit_of}
use Rattle.b4_core.specs.Vectors.{known, num, number, digits, ext}
use Rattle.b4_core.specs.Compare.{order_value}
use Rattle.b4_core.proofs.Numbers.{num_lt}
use Rattle.row_machine.specs.Valuation.{Valuation}
use Rattle.sv_types.specs.Layouts.{Layout, count_of}
use Rattle.sv_types.specs.Windows.{rank}
use Rattle.sv_types.specs.Surroundings.{Around}
use Rattle.sv_types.specs.Meanings as S
use Rattle.sv_types.specs.Paths as P
use Rattle.v_meaning.specs.Scopes.{Scope}
use Rattle.v_meaning.specs.Values as T
use Rattle.lowering_laws.specs.Same.{SameAlone}
pub use Rattle.lowering_laws.specs.Steps.{CountsDown}
use Rattle.lowering_laws.specs.Placed.{HasRank, NoRank, unknown, outside, IsRank}
use Rattle.lowering_laws.specs.Terms.{braced, at_most}
use Rattle.lowering_laws.proofs.Contexts.{alone-width, alone-value}
use Rattle.lowering_laws.proofs.Extensions.{ext-at}
use Rattle.lowering_laws.proofs.Numbers.{num-ext, known-ext, num-digits, known-digits, length-digits}
use Rattle.lowering_laws.proofs.Offsets.{truth-one, and-cases, and-false}

count-down : (of : Layout) (last : ℕ) → CountsDown of last → count_of of.left of.right ≡ last + 1
count-down of last h = (λ i. count_of (h.left_is i) (h.right_is i)) ∙ down last
  where
    down : (k : ℕ) → unsigned_abs (pos k -ℤ pos 0) + 1 ≡ k + 1
    down k = omega (arith, ints)

rank-down : (of : Layout) (last : ℕ) (k : ℤ) → CountsDown of last → rank of k ≡ k
rank-down of last k h =
    (λ i. cond (int_le (h.right_is i) (h.left_is i)) (k -ℤ h.right_is i) (h.right_is i -ℤ k))
    ∙ ap (λ b. cond b (k -ℤ pos 0) (pos 0 -ℤ k)) (falling last) ∙ same
  where
    falling : (n : ℕ) → int_le (pos 0) (pos n) ≡ true
    falling n = grind (arith, nat_tests)

    same : k -ℤ pos 0 ≡ k
    same = omega (arith, ints)

-- what an unsigned index is
index-known : (i : S.Meaning) (a : Around) → S.signed i ≡ false → known (S.alone i a) ≡ true → P.index_of i a ≡ Some (pos (num (S.alone i a)))
index-known i a unsigned h =
    ap (λ b. cond b (Some (number (S.signed i) (S.alone i a))) None) h ∙ ap (λ s. Some (number s (S.alone i a))) unsigned

index-unknown : (i : S.Meaning) (a : Around) → known (S.alone i a) ≡ false → P.index_of i a ≡ None
index-unknown i a h = ap (λ b. cond b (Some (number (S.signed i) (S.alone i a))) None) h

-- the bit of a comparison with the last index
order-truth : (y : T.Meaning) (w last : ℕ) (sc : Scope) (v : Valuation) → y.width sc ≡ w → y.signed ≡ false
    → is_one (T.truth (at_most y w last) sc v) ≡ is_one (order_value LessEqual false (T.alone y sc v) (digits w last))
unfolding T.order T.literal
order-truth y w last sc v width unsigned =
    let long = length-digits w last in
    let larger : max (y.width sc) (length (digits w last)) ≡ w = omega arith in
    let sign : (y.signed && false) ≡ false = ap (λ b. b && false) unsigned in
    truth-one _
    ∙ (λ i. is_one (order_value LessEqual (sign i) (y.value (larger i) (sign i) sc v) (ext (larger i) (sign i) (digits w last))))
    ∙ ap (λ u. is_one (order_value LessEqual false (y.value w false sc v) u)) (ext-at w false (digits w last) long)
    ∙ sym (λ i. is_one (order_value LessEqual false (y.value (width i) (unsigned i) sc v) (digits w last)))

order-known : (last : ℕ) (u d : List Bit4) (b : Bool) → known d ≡ true → num d ≡ last → known u ≡ b
    → is_one (order_value LessEqual false u d) ≡ (b && nat_le (num u) last)
order-known last u d true known_d number is =
    (λ i. is_one (if is i && known_d i then bit_of (int_le (pos (num u)) (pos (number i))) else X)) ∙ test (num u) last
  where
    test : (k n : ℕ) → is_one (bit_of (int_le (pos k) (pos n))) ≡ nat_le k n
    test k n = by (nat_le k n) refl
      where
        by : (c : Bool) → nat_le k n ≡ c → is_one (bit_of (int_le (pos k) (pos n))) ≡ nat_le k n
        by true h = grind (arith, nat_tests)
        by false h = grind (arith, nat_tests)
order-known last u d false known_d number is =
    (λ i. is_one (if is i && known_d i then bit_of (int_le (pos (num u)) (pos (number i))) else X))

order-bit : (w last : ℕ) (u : List Bit4) → last < 2 ^ w → is_one (order_value LessEqual false u (digits w last)) ≡ (known u && nat_le (num u) last)
order-bit w last u small = order-known last u (digits w last) (known u) (known-digits w last) (num-digits w last small) refl

module _ (of : Layout) (last : ℕ) (down : CountsDown of last) (i : S.Meaning) (a : Around) (y : T.Meaning) (w : ℕ) (sc : Scope) (v : Valuation)
    (unsigned : S.signed i ≡ false) (narrow : S.wide i ≤ w) (long : length (S.alone i a) ≡ S.wide i) (same : SameAlone i a y sc v) where
  abbrev index : List Bit4
  index = S.alone i a

  bits-are : (braced y).value w false sc v ≡ ext w false index
  unfolding T.concatenation
  bits-are = ap (ext w false) (alone-value i a y sc v same)

  width-is : (braced y).width sc ≡ S.wide i
  unfolding T.concatenation
  width-is = (let width = alone-width i a y sc v same in omega arith)

  unsigned-is : (braced y).signed ≡ false
  unfolding T.concatenation
  unsigned-is = refl

  known-is : known ((braced y).value w false sc v) ≡ known index
  known-is = ap known bits-are ∙ known-ext w index (omega arith)

  num-is : num ((braced y).value w false sc v) ≡ num index
  num-is = ap num bits-are ∙ num-ext w index (omega arith)

  has-rank : known index ≡ true → num index ≤ last → HasRank of (P.index_of i a) (num index)
  has-rank h few =
      let count = count-down of last down in
      record { index = pos (num index); known_there = index-known i a unsigned h; rank_is = rank-down of last (pos (num index)) down; below = omega arith }

  -- an index behind the last one has no rank
  no-rank : known index ≡ true → nat_le (num index) last ≡ false → NoRank of (P.index_of i a)
  no-rank h many =
      subst (NoRank of) (sym (index-known i a unsigned h))
      (outside (pos (num index))
      (ap (λ r. int_le (pos 0) r && int_lt r (pos (count_of of.left of.right))) (rank-down of last (pos (num index)) down)
      ∙ ap (λ c. int_le (pos 0) (pos (num index)) && int_lt (pos (num index)) (pos c)) (count-down of last down) ∙ beyond (num index) last many))
    where
      beyond : (k n : ℕ) → nat_le k n ≡ false → (int_le (pos 0) (pos k) && int_lt (pos k) (pos (n + 1))) ≡ false
      beyond k n h = grind (arith, nat_tests)

  no-index : known index ≡ false → NoRank of (P.index_of i a)
  no-index h = subst (NoRank of) (sym (index-unknown i a h)) unknown

  -- An index with too few bits to pass the last one needs no guard.
  pub rank-unguarded : 2 ^ S.wide i ≤ last + 1 → IsRank of (P.index_of i a) None (braced y) w sc v
  rank-unguarded few = record {
    width = (let k = width-is in omega arith);
    unsigned = unsigned-is;
    yes = λ h k. subst (HasRank of (P.index_of i a)) (sym num-is) (has-rank (sym known-is ∙ k) (below (num_lt index)));
    no = λ h. absurd (true≢false h);
    lost = λ h k. no-index (sym known-is ∙ k);
  }
    where
      below : num index < 2 ^ length index → num index ≤ last
      below h = (let same_power : 2 ^ length index ≡ 2 ^ S.wide i = ap (λ k. 2 ^ k) long in omega arith)

  -- the guard is 1 where the index is known and isn't behind the last one
  guard-is : last < 2 ^ S.wide i → is_one (T.truth (at_most y (S.wide i) last) sc v) ≡ (known index && nat_le (num index) last)
  guard-is small =
      order-truth y (S.wide i) last sc v (alone-width i a y sc v same) (same.sign ∙ unsigned)
      ∙ ap (λ u. is_one (order_value LessEqual false u (digits (S.wide i) last))) (alone-value i a y sc v same)
      ∙ order-bit (S.wide i) last index small

  guarded-no : (known index ≡ false) ⊎ ((known index ≡ true) × (nat_le (num index) last ≡ false)) → NoRank of (P.index_of i a)
  guarded-no (inl h) = no-index h
  guarded-no (inr h) = no-rank h.0 h.1

  pub rank-guarded : last < 2 ^ S.wide i → IsRank of (P.index_of i a) (Some (at_most y (S.wide i) last)) (braced y) w sc v
  rank-guarded small = record {
    width = (let k = width-is in omega arith);
    unsigned = unsigned-is;
    yes = λ h k.
        let both = and-cases (known index) (nat_le (num index) last) (sym (guard-is small) ∙ h) in
        subst (HasRank of (P.index_of i a)) (sym num-is) (has-rank both.0 (grind (arith, nat_tests)));
    no = λ h. guarded-no (and-false (known index) (nat_le (num index) last) (sym (guard-is small) ∙ h));
    lost = λ h k. no-index (sym known-is ∙ k);
  }
