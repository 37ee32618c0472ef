-- What is written of bits that lie in a run of others.
use Rattle.std.proofs.Common.{◌≡◌, ◌⊎◌, inl, inr, ℕ, ◌+◌, ◌<◌, ◌≤◌, Bool, true, false, ◌&&◌, cond, ℤ, pos, negsuc, ◌+ℤ◌, ◌-ℤ◌, List, Option, Some, None, refl, arith, ap, sym, ◌∙◌, subst, true≢false}
use Rattle.std.specs.Prelude.{int_le, int_lt, nat_lt, slice_index_or}
use Rattle.std.proofs.lemmas.Int.{ints}
use Rattle.std.proofs.lemmas.Bool.Decides.{nat_tests}
use Rattle.b4_core.specs.declared.bit.Bit4.{Bit4}
use Rattle.b4_core.specs.declared.bit.Bit4.TheVariants.{X}
use Rattle.picks.specs.Windows.{Window, whole, part, within, picked, at_least_0}
use Rattle.sv_types.proofs.Picks.{pick, picked-part}
use Rattle.lowering_laws.proofs.Slides.{picked-slide, far}
use Rattle.lowering_laws.proofs.WriteAt.{IsTight, is-picked, tight-picked, part-tight, bit-written}
use Rattle.target_laws.specs.Seeing.{bit_from, through, IsSeen}

-- bit i of a run of w bits from bit o on
whole-there : (all b : ℕ) → b < all → picked (whole all) b ≡ Some b
whole-there all b less =
    let zero_more : pos b +ℤ pos 0 ≡ pos b = omega (arith, ints) in
    let test : (int_le (pos 0) (pos b) && int_lt (pos b) (pos all)) ≡ true = grind (arith, nat_tests) in
    ap (pick 0 all) zero_more ∙ ap (λ c. cond c (Some b) None) test

some-same : (x y : ℕ) → Some x ≡ Some y → x ≡ y
some-same x y e = cc

none-some : (x : ℕ) → None ≡ Some x → ⊥
none-some x e = cc

module _ (run : Window) (o w all : ℕ) (is : run ≡ part (pos o) w (whole all)) (fits : o + w ≤ all) where
  run-there : (i : ℕ) → i < w → picked run i ≡ Some (o + i)
  run-there i less = ap (λ p. picked p i) is ∙ picked-part o w (whole all) i less ∙ whole-there all (o + i) (omega arith)

  run-tight : IsTight run w
  run-tight = subst (λ p. IsTight p w) (sym is) (part-tight (pos o) w (whole all))

  -- a bit of it is one of these
  run-back : (i b : ℕ) → picked run i ≡ Some b → (i < w) × (o + i ≡ b)
  run-back i b h =
      let p = is-picked run i b h in
      let less = run-tight.below b p.inside in
      let small : i < w = subst (λ k. k < w) p.at_it less in
      (small, some-same (o + i) b (sym (run-there i small) ∙ h))

  -- a path of n bits that are bits of it
  module _ (path inner : Window) (n : ℕ) (seen : IsSeen path run inner) (tight : IsTight path n) (inner_tight : IsTight inner n) (bits : List Bit4) where
    inner-back : (j b : ℕ) (y : Option ℕ) → picked inner j ≡ y → picked path j ≡ Some b → (i : ℕ) × ((picked inner j ≡ Some i) × ((i < w) × (o + i ≡ b)))
    inner-back j b None e h = absurd (none-some b (sym (seen (pos j) ∙ ap (through run) e) ∙ h))
    inner-back j b (Some i) e h = (i, (e, run-back i b (sym (seen (pos j) ∙ ap (through run) e) ∙ h)))

    here : (j i : ℕ) → picked inner j ≡ Some i → i < w → picked path j ≡ Some (o + i)
    here j i e less = seen (pos j) ∙ ap (through run) e ∙ run-there i less

    -- what is written of a bit of it
    pub run-written : (i : ℕ) → i < w → bit-written path bits (o + i) ≡ bit-written inner bits i
    run-written i less = by (within inner i) refl
      where
        by-path : (c : Bool) → within path (o + i) ≡ c → within inner i ≡ false → bit-written path bits (o + i) ≡ None
        by-path false h none = ap (λ b. cond b (Some (slice_index_or bits (at_least_0 (pos (o + i) -ℤ path.shift)) X)) None) h
        by-path true h none =
            let j = at_least_0 (pos (o + i) -ℤ path.shift) in
            let back = inner-back j (o + i) (picked inner j) refl (tight-picked path n (o + i) tight h) in
            let same : back.0 ≡ i = (let sums = back.1.1.1 in omega arith) in
            absurd (true≢false (sym (subst (λ k. within inner k ≡ true) same (is-picked inner j back.0 back.1.0).inside) ∙ none))

        by : (c : Bool) → within inner i ≡ c → bit-written path bits (o + i) ≡ bit-written inner bits i
        by true h =
            let j = at_least_0 (pos i -ℤ inner.shift) in
            let p = is-picked path j (o + i) (here j i (tight-picked inner n i inner_tight h) less) in
            ap (λ b. cond b (Some (slice_index_or bits (at_least_0 (pos (o + i) -ℤ path.shift)) X)) None) p.inside
            ∙ ap (λ k. Some (slice_index_or bits k X)) p.at_it
            ∙ sym (ap (λ b. cond b (Some (slice_index_or bits (at_least_0 (pos i -ℤ inner.shift)) X)) None) h)
        by false h = by-path (within path (o + i)) refl h ∙ sym (ap (λ b. cond b (Some (slice_index_or bits (at_least_0 (pos i -ℤ inner.shift)) X)) None) h)

    -- no other bit is written
    pub beside-written : (b : ℕ) → (b < o) ⊎ (o + w ≤ b) → bit-written path bits b ≡ None
    beside-written b out = by (within path b) refl
      where
        apart : (i : ℕ) → (b < o) ⊎ (o + w ≤ b) → i < w → o + i ≡ b → ⊥
        apart i (inl low) less e = omega arith
        apart i (inr high) less e = omega arith

        by : (c : Bool) → within path b ≡ c → bit-written path bits b ≡ None
        by false h = ap (λ x. cond x (Some (slice_index_or bits (at_least_0 (pos b -ℤ path.shift)) X)) None) h
        by true h =
            let j = at_least_0 (pos b -ℤ path.shift) in
            let back = inner-back j b (picked inner j) refl (tight-picked path n b tight h) in
            absurd (apart back.0 out back.1.1.0 back.1.1.1)

-- bits of a path, seen from what it goes on from
data OneOf (n : ℕ) (d : ℤ) : Type 0 where
  inside : (j : ℕ) → d ≡ pos j → j < n → OneOf n d
  outside : ((m : ℕ) → d ≡ pos m → m < n → ⊥) → OneOf n d

one-of : (n : ℕ) (d : ℤ) → OneOf n d
one-of n (negsuc k) = outside (λ m e less. cc)
one-of n (pos j) = by (nat_lt j n) refl
  where
    by : (b : Bool) → nat_lt j n ≡ b → OneOf n (pos j)
    by true is = inside j refl (grind (arith, nat_tests))
    by false is = outside (λ m e less. apart m e less (grind (arith, nat_tests)))
      where
        apart : (m : ℕ) → pos j ≡ pos m → m < n → n ≤ j → ⊥
        apart m e less many = omega (arith, ints)

part-bit : (p : Window) (z : ℤ) (n j : ℕ) → j < n → bit_from (part z n p) (pos j) ≡ bit_from p (pos j +ℤ z)
part-bit p z n j less =
    let moved : pos j +ℤ (p.shift +ℤ z) ≡ (pos j +ℤ z) +ℤ p.shift = omega (arith, ints) in
    picked-slide z n p j less ∙ ap (λ k. pick p.low p.high k) moved

pub seen-part : (p from q : Window) (z : ℤ) (n : ℕ) → IsSeen p from q → IsSeen (part z n p) from (part z n q)
seen-part p from q z n h d = by (one-of n d)
  where
    by : OneOf n d → bit_from (part z n p) d ≡ through from (bit_from (part z n q) d)
    by (inside j e less) =
        ap (bit_from (part z n p)) e ∙ part-bit p z n j less ∙ h (pos j +ℤ z) ∙ ap (through from) (sym (part-bit q z n j less) ∙ sym (ap (bit_from (part z n q)) e))
    by (outside out) = far (part z n p) n d (part-tight z n p) out ∙ sym (ap (through from) (far (part z n q) n d (part-tight z n q) out))
