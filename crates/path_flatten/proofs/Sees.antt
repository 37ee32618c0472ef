-- Paths that see the same bits.
use Rattle.std.proofs.Common.{◌≡◌, ℕ, zero, suc, ◌<◌, ◌≤◌, Bool, true, false, ◌&&◌, cond, ℤ, pos, negsuc, ◌+ℤ◌, List, length, Option, Some, None, refl, arith, ap, sym, ◌∙◌}
use Rattle.std.specs.Prelude.{nat_lt, int_le, int_lt, slice_index_or}
use Rattle.std.proofs.lemmas.Int.{ints}
use Rattle.std.proofs.lemmas.Bool.Decides.{nat_tests}
use Rattle.b4_core.specs.declared.bit.Bit4.{Bit4}
use Rattle.b4_core.specs.declared.bit.Bit4.TheVariants.{X}
use Rattle.picks.specs.Windows.{Window, whole, nowhere, part, picked, bit_at, seen, tabulated}
use Rattle.sv_types.specs.Layouts.{Layout, Part, count_of}
use Rattle.sv_types.specs.Windows.{member_of, element_of, between, slide, rank}
use Rattle.sv_types.proofs.Picks.{pick, nothing-there, tabulated-same}
use Rattle.lowering_laws.proofs.Slides.{picked-slide, far}
use Rattle.lowering_laws.proofs.WriteAt.{IsTight, whole-tight, part-tight}
use Rattle.path_flatten.specs.Reading.{bit_from, Sees, StaysIn}

pub tight-of : (path : Window) (n : ℕ) → StaysIn path n → IsTight path n
tight-of path n h = record { below = h.below; at_it = h.at_it }

pub stays-of : (path : Window) (n : ℕ) → IsTight path n → StaysIn path n
stays-of path n h = record { below = h.below; at_it = h.at_it }

index-tabulated : (n m : ℕ) (f : ℕ → Bit4) → m < n → slice_index_or (tabulated n f) m X ≡ f m
index-tabulated zero m f h = absurd (omega arith)
index-tabulated (suc n) zero f h = refl
index-tabulated (suc n) (suc m) f h = index-tabulated n m (λ k. f (suc k)) (omega arith)

-- n bits of both
pub sees-seen : (held c : List Bit4) (p q : Window) (n : ℕ) → Sees held p c q → seen held p n ≡ seen c q n
sees-seen held c p q n h = tabulated-same n _ _ (λ j less. h (pos j))

pub sees-itself : (held c : List Bit4) (p q : Window) → held ≡ c → p ≡ q → Sees held p c q
sees-itself held c p q is same d = λ i. bit_from (is i) (same i) d

-- an integer is one of n numbers or none of them
data OneOf (n : ℕ) (d : ℤ) : Type 0 where
  inside : (j : ℕ) → d ≡ pos j → j < n → OneOf n d
  outside : ((m : ℕ) → d ≡ pos m → m < n → ⊥) → OneOf n d

one-of : (n : ℕ) (d : ℤ) → OneOf n d
one-of n (negsuc k) = outside (λ m e less. cc)
one-of n (pos j) = by (nat_lt j n) refl
  where
    by : (b : Bool) → nat_lt j n ≡ b → OneOf n (pos j)
    by true is = inside j refl (grind (arith, nat_tests))
    by false is = outside (λ m e less. apart m e less (grind (arith, nat_tests)))
      where
        apart : (m : ℕ) → pos j ≡ pos m → m < n → n ≤ j → ⊥
        apart m e less many = omega (arith, ints)

-- bit j of n bits from z on is bit j + z
part-bit : (held : List Bit4) (p : Window) (z : ℤ) (n j : ℕ) → j < n → bit_from held (part z n p) (pos j) ≡ bit_from held p (pos j +ℤ z)
part-bit held p z n j less =
    let moved : pos j +ℤ (p.shift +ℤ z) ≡ (pos j +ℤ z) +ℤ p.shift = omega (arith, ints) in
    ap (bit_at held) (picked-slide z n p j less) ∙ ap (λ k. bit_at held (pick p.low p.high k)) moved

far-bit : (held : List Bit4) (p : Window) (n : ℕ) (d : ℤ) → IsTight p n → ((m : ℕ) → d ≡ pos m → m < n → ⊥) → bit_from held p d ≡ X
far-bit held p n d tight out = ap (bit_at held) (far p n d tight out)

pub sees-part : (held c : List Bit4) (p q : Window) (z : ℤ) (n : ℕ) → Sees held p c q → Sees held (part z n p) c (part z n q)
sees-part held c p q z n h d = by (one-of n d)
  where
    by : OneOf n d → bit_from held (part z n p) d ≡ bit_from c (part z n q) d
    by (inside j e less) =
        ap (bit_from held (part z n p)) e ∙ part-bit held p z n j less ∙ h (pos j +ℤ z) ∙ sym (part-bit c q z n j less) ∙ sym (ap (bit_from c (part z n q)) e)
    by (outside out) = far-bit held (part z n p) n d (part-tight z n p) out ∙ sym (far-bit c (part z n q) n d (part-tight z n q) out)

pub sees-nowhere : (held c : List Bit4) → Sees held nowhere c nowhere
sees-nowhere held c d = ap (bit_at held) (nothing-there (d +ℤ pos 0)) ∙ sym (ap (bit_at c) (nothing-there (d +ℤ pos 0)))

-- steps
pub sees-member : (held c : List Bit4) (p q : Window) (m : Option Part) → Sees held p c q → Sees held (member_of m p) c (member_of m q)
sees-member held c p q None h = sees-nowhere held c
sees-member held c p q (Some m) h = sees-part held c p q (pos m.below) (length m.two_state) h

pub sees-between : (held c : List Bit4) (p q : Window) (of : Layout) (left right : ℤ) → Sees held p c q → Sees held (between of left right p) c (between of left right q)
sees-between held c p q of left right h = sees-part held c p q _ _ h

sees-test : (held c : List Bit4) (p q r s : Window) (b : Bool) → Sees held p c q → Sees held r c s → Sees held (cond b p r) c (cond b q s)
sees-test held c p q r s true h g = h
sees-test held c p q r s false h g = g

pub sees-element : (held c : List Bit4) (p q : Window) (of : Layout) (z : Option ℤ) → Sees held p c q → Sees held (element_of of z p) c (element_of of z q)
sees-element held c p q of None h = sees-nowhere held c
sees-element held c p q of (Some k) h =
    sees-test held c _ _ nowhere nowhere (int_le (pos 0) (rank of k) && int_lt (rank of k) (pos (count_of of.left of.right))) (sees-part held c p q _ _ h) (sees-nowhere held c)

pub sees-slide : (held c : List Bit4) (p q : Window) (of : Layout) (up : Bool) (n : ℕ) (z : Option ℤ) → Sees held p c q → Sees held (slide of up n z p) c (slide of up n z q)
sees-slide held c p q of up n None h = sees-nowhere held c
sees-slide held c p q of up n (Some k) h = sees-part held c p q _ _ h

-- the bits that a path reads, as a vector of their own
pub sees-value : (held : List Bit4) (p : Window) (n : ℕ) → IsTight p n → Sees held p (seen held p n) (whole n)
sees-value held p n tight d = by (one-of n d)
  where
    there : (j : ℕ) → j < n → bit_from (seen held p n) (whole n) (pos j) ≡ bit_from held p (pos j)
    there j less =
        let zero_more : pos j +ℤ pos 0 ≡ pos j = omega (arith, ints) in
        let test : (int_le (pos 0) (pos j) && int_lt (pos j) (pos n)) ≡ true = grind (arith, nat_tests) in
        ap (λ k. bit_at (seen held p n) (pick 0 n k)) zero_more ∙ ap (λ b. bit_at (seen held p n) (cond b (Some j) None)) test ∙ index-tabulated n j (λ i. bit_at held (picked p i)) less

    by : OneOf n d → bit_from held p d ≡ bit_from (seen held p n) (whole n) d
    by (inside j e less) = ap (bit_from held p) e ∙ sym (there j less) ∙ sym (ap (bit_from (seen held p n) (whole n)) e)
    by (outside out) = far-bit held p n d tight out ∙ sym (far-bit (seen held p n) (whole n) n d (whole-tight n) out)

-- an offset that may be unknown
pub sees-by : (held c : List Bit4) (p q : Window) (z : Option ℤ) (n : ℕ) → Sees held p c q
    → Sees held (elim z [ None ↦ nowhere | Some k ↦ part k n p ]) c (elim z [ None ↦ nowhere | Some k ↦ part k n q ])
sees-by held c p q None n h = sees-nowhere held c
sees-by held c p q (Some k) n h = sees-part held c p q k n h
