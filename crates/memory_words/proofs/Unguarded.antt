-- The number of the word of an index that is only read, without a guard.
use Rattle.std.proofs.Common.{◌≡◌, ◌⊎◌, inl, inr, ℕ, zero, suc, ◌+◌, ◌*◌, ◌^◌, ◌<◌, ◌≤◌, Bool, true, false, ℤ, pos, negsuc, neg_ℤ, ◌+ℤ◌, ◌-ℤ◌, ◌≤ℤ◌, ◌<ℤ◌, length, List, Option, Some, None, refl, arith, ap, sym, ◌∙◌, subst, true≢false}
use Rattle.std.proofs.Math.Nat.{pow-suc}
use Rattle.std.specs.Prelude.{nat_lt, unsigned_abs}
use Rattle.std.proofs.lemmas.Int.{ints}
use Rattle.std.proofs.lemmas.Bool.Decides.{nat_tests}
use Rattle.b4_core.specs.declared.bit.Bit4.{Bit4}
use Rattle.b4_core.specs.Binary.{arithmetic}
use Rattle.b4_core.specs.Vectors.{known, num, snum, vec, ext, unknown as unknown_bits}
use Rattle.b4_core.proofs.TwosComplement.{Wraps, number_wraps}
use Rattle.row_machine.specs.Valuation.{Valuation}
use Rattle.sv_types.specs.declared.types.SvType.{SvType}
use Rattle.sv_types.specs.Layouts.{Layout, layout, count_of}
use Rattle.sv_types.specs.Surroundings.{Around}
use Rattle.sv_types.specs.Meanings as S
use Rattle.sv_types.specs.Paths as P
use Rattle.v_tree.specs.declared.expressions.VExpr.{VExpr}
use Rattle.v_meaning.specs.Scopes.{Scope}
use Rattle.v_meaning.specs.Values as T
use Rattle.v_meaning.specs.Values.{meaning}
use Rattle.lowering_laws.specs.Placed.{NoRank, unknown}
use Rattle.lowering_laws.specs.Signed.{IsIndex, FitsSigned}
use Rattle.lowering_laws.specs.Terms.{above}
use Rattle.lowering_laws.specs.Words.{lower, HasWord, BehindAll, IsWord}
use Rattle.lowering_laws.proofs.AnyRank.{difference-above, above-known, above-unknown, braced-bits}
use Rattle.lowering_laws.proofs.Offsets.{unknown-bits}
use Rattle.lowering_laws.proofs.SignedNumbers.{literal-signed, known-vec, length-vec}
use Rattle.lowering_laws.proofs.SlideOffsets.{snum-fits}
use Rattle.lowering_laws.proofs.Words.{plain-word}
use Rattle.path_flatten.specs.declared.offsets.Index.{Index}
use Rattle.path_flatten.specs.Sliding.{IsIndexOf, IsSignedIndex}
use Rattle.memory_words.specs.Words.{FindsNumber, FindsNumberAbove}
use Rattle.memory_words.proofs.Finding.{IsNear, near-fits, wider, none-beyond}

-- an unsigned index as it is, where the smaller bound is 0
pub plain-number : (x : Index) (t : SvType) → x.signed ≡ false → lower (layout t) ≡ pos 0 → FindsNumber x t x.expr
plain-number x t unsigned zero_based i a sc v is = plain-word (layout t) i a (meaning x.expr) sc v zero_based (is.sign ∙ unsigned) is.same

-- A number of w bits that is how far an index lies above the smaller bound, or 2 to the w more where it lies below.
behind-last : (of : Layout) (k : ℤ) (x last : ℕ) → k -ℤ lower of ≡ pos x → last < x → (lower of +ℤ pos last) <ℤ k
behind-last of k x last is more = by (lower of) is
  where
    by : (low : ℤ) → k -ℤ low ≡ pos x → (low +ℤ pos last) <ℤ k
    by low e = omega (arith, ints)

below-first : (of : Layout) (k : ℤ) (m : ℕ) → k -ℤ lower of ≡ negsuc m → k <ℤ lower of
below-first of k m is = by (lower of) is
  where
    by : (low : ℤ) → k -ℤ low ≡ negsuc m → k <ℤ low
    by low e = omega (arith, ints)

by-count : (of : Layout) (k : ℤ) (x last : ℕ) (b : Bool) → count_of of.left of.right ≡ suc last → k -ℤ lower of ≡ pos x → nat_lt x (suc last) ≡ b → HasWord of (Some k) x ⊎ BehindAll of (Some k) x
by-count of k x last true count is test = (let less : x < suc last = grind (arith, nat_tests) in inl (record { index = k; known_there = refl; word_is = is; below = omega arith }))
by-count of k x last false count is test =
    let many : suc last ≤ x = grind (arith, nat_tests) in
    inr (record { behind = omega arith; none = none-beyond of k last count (inr (behind-last of k x last is (omega arith))) })

by-distance : (of : Layout) (k d : ℤ) (w x last : ℕ) → count_of of.left of.right ≡ suc last → k -ℤ lower of ≡ d → Wraps w d x → ((m : ℕ) → d ≡ negsuc m → suc last + suc m ≤ 2 ^ w)
    → HasWord of (Some k) x ⊎ BehindAll of (Some k) x
by-distance of k d w x last count is (inl e) room = by-count of k x last (nat_lt x (suc last)) count (is ∙ e) refl
by-distance of k d w x last count is (inr (m, e, h)) room =
    let far = room m e in
    inr (record { behind = omega arith; none = none-beyond of k last count (inl (below-first of k m (is ∙ e))) })

record IsNarrow (q : ℕ) (d : ℤ) : Type 0 where
  pub fits : FitsSigned (suc q) d
  pub room : (last : ℕ) → suc last ≤ 2 ^ suc q → (m : ℕ) → d ≡ negsuc m → suc last + suc m ≤ 2 ^ suc (suc q)

difference-narrow : (q : ℕ) (k low d : ℤ) → FitsSigned q k → FitsSigned q low → k -ℤ low ≡ d → IsNarrow q d
difference-narrow q k low d f g is =
    let a = f.above in
    let b = f.below in
    let x = g.above in
    let y = g.below in
    let once = pow-suc 2 q in
    let twice = pow-suc 2 (suc q) in
    record { fits = record { above = omega (arith, ints); below = omega (arith, ints) }; room = λ last few m e. omega (arith, ints) }

module _ (of : Layout) (q : ℕ) (i : Option ℤ) (m : T.Meaning) (low : ℤ) (last : ℕ) (sc : Scope) (v : Valuation) (narrow : IsIndex i m (suc q) sc v) (low_fits : FitsSigned q low) (is_low : lower of ≡ low)
    (count : count_of of.left of.right ≡ suc last) (few : suc last ≤ 2 ^ suc q) where
  abbrev index_bits : List Bit4
  index_bits = T.alone m sc v

  abbrev r : T.Meaning
  r = above (T.signing true m) (suc (suc q)) low

  abbrev u : List Bit4
  u = arithmetic (λ x y. x -ℤ y) true (ext (suc (suc q)) true index_bits) (vec (suc (suc q)) low)

  index : IsIndex i m (suc (suc q)) sc v
  index = wider i m (suc q) (suc (suc q)) sc v (omega arith) narrow

  low-signed : snum (vec (suc (suc q)) low) ≡ low
  low-signed =
      let below = low_fits.below in
      let above_it = low_fits.above in
      let power = pow-suc 2 q in
      literal-signed (suc q) low (record { above = omega (arith, ints); below = omega (arith, ints) })

  length-unknown : (n : ℕ) → length (unknown_bits n) ≡ n
  length-unknown zero = refl
  length-unknown (suc n) = ap suc (length-unknown n)

  bits-known : (b : Bool) → known index_bits ≡ b → (length u ≡ suc (suc q)) × (known u ≡ b)
  bits-known true k =
      let is = above-known i m (suc (suc q)) sc v index low k low-signed in
      (ap length is ∙ length-vec (suc (suc q)) (snum index_bits -ℤ low), ap known is ∙ known-vec (suc (suc q)) (snum index_bits -ℤ low))
  bits-known false k =
      let is = above-unknown i m (suc (suc q)) sc v index low k in
      (ap length is ∙ length-unknown (suc (suc q)), ap known is ∙ unknown-bits (suc (suc q)) (omega arith))

  shape : (r.width sc ≡ suc (suc q)) × (r.signed ≡ false) × (r.value (suc (suc q)) false sc v ≡ u)
  shape =
      let d = difference-above i m (suc (suc q)) sc v index low in
      braced-bits _ (suc (suc q)) u sc v d.0 d.1 (bits-known (known index_bits) refl).0

  alone-u : T.alone r sc v ≡ u
  alone-u = (λ d. r.value (shape.0 d) (shape.1 d) sc v) ∙ shape.2

  known-there : known (T.alone r sc v) ≡ known index_bits
  known-there = ap known alone-u ∙ (bits-known (known index_bits) refl).1

  wraps : (d : ℤ) → FitsSigned (suc q) d → Wraps (suc (suc q)) d (num (vec (suc (suc q)) d))
  wraps d fits =
      subst (λ (x : ℤ). Wraps (suc (suc q)) x (num (vec (suc (suc q)) d))) (literal-signed (suc q) d fits)
      (subst (λ (n : ℕ). Wraps n (snum (vec (suc (suc q)) d)) (num (vec (suc (suc q)) d))) (length-vec (suc (suc q)) d) (number_wraps true (vec (suc (suc q)) d)))

  there : known index_bits ≡ true → HasWord of i (num (T.alone r sc v)) ⊎ BehindAll of i (num (T.alone r sc v))
  there k =
      let far = difference-narrow q (snum index_bits) low (snum index_bits -ℤ low) (snum-fits q index_bits narrow.long k) low_fits refl in
      let number = ap num (alone-u ∙ above-known i m (suc (suc q)) sc v index low k low-signed) in
      subst (λ z. HasWord of z (num (T.alone r sc v)) ⊎ BehindAll of z (num (T.alone r sc v))) (sym (index.there k))
      (subst (λ x. HasWord of (Some (snum index_bits)) x ⊎ BehindAll of (Some (snum index_bits)) x) (sym number)
      (by-distance of (snum index_bits) (snum index_bits -ℤ low) (suc (suc q)) (num (vec (suc (suc q)) (snum index_bits -ℤ low))) last count (ap (λ l. snum index_bits -ℤ l) is_low)
      (wraps (snum index_bits -ℤ low) far.fits) (far.room last few)))

  pub unguarded : IsWord of i None r sc v
  unguarded = record {
    unsigned = shape.1;
    yes = λ h k. there (sym known-there ∙ k);
    no = λ h. absurd (true≢false h);
    lost = λ h k. subst (NoRank of) (sym (index.lost (sym known-there ∙ k))) unknown;
  }

-- any index of at most 65 bits and a sign, by numbers of 66 bits
pub finds-above : (x : Index) (low : ℤ) (m : T.Meaning) (bits : ℕ) (e : VExpr) → IsSignedIndex x m bits → bits ≤ 65 → IsNear low → meaning e ≡ above (T.signing true m) 66 low → FindsNumberAbove x low e
finds-above x low m bits e number few near is of i a sc v is_low count stands =
    let below = near.below in
    let above_it = near.above in
    subst (λ (y : T.Meaning). IsWord of (P.index_of i a) None y sc v) (sym is)
    (unguarded of 64 (P.index_of i a) m low (unsigned_abs (of.left -ℤ of.right)) sc v (wider (P.index_of i a) m bits 65 sc v few (number i a sc v stands))
    (record { above = omega (arith, ints); below = omega (arith, ints) }) is_low (omega arith) (omega arith))
