-- Targets for the numbers of an index from one on, one after the other.
use Rattle.std.proofs.Common.{◌≡◌, ◌⊎◌, inl, inr, ℕ, zero, suc, ◌<◌, ◌≤◌, ℤ, pos, negsuc, ◌+ℤ◌, ◌<ℤ◌, ◌≤ℤ◌, true, false, List, [], Some, ap, ◌∙◌, arith}
use Rattle.std.proofs.lemmas.Int.{ints}
use Rattle.sv_types.specs.declared.expression.Expr.{Expr}
use Rattle.sv_types.specs.Meanings as S
use Rattle.sv_types.specs.Paths as P
use Rattle.sv_types.specs.Expressions.{meaning}
use Rattle.path_flatten.specs.declared.offsets.Index.{Index}
use Rattle.target_flatten.specs.declared.writes.Write.{Write}
use Rattle.target_walk.specs.declared.given.Given.{Given}
use Rattle.index_cases.proofs.Cases.{none-said}
use Rattle.case_targets.specs.declared.indices.PathIndex.{PathIndex}
use Rattle.case_targets.specs.Spreading.{WritesMore, AddsCase, WritesBelow, SpreadsBelow}

pub below-none : (bits : ℕ) (e : Expr) (gs : List Given) (i : Index) (ps : List PathIndex) (low k : ℤ) → k ≤ℤ low → SpreadsBelow bits e gs i ps low k []
below-none bits e gs i ps low k less vec a sc v h x at = record {
  said = false;
  told = λ j above below is. absurd (omega (arith, ints, less, above, below));
  written = none-said ((meaning e).window a) (S.wide (meaning e)) vec.number sc v;
}

nat-near : (m n : ℕ) → (m ≤ n) ⊎ (n < m)
nat-near zero n = inl (omega arith)
nat-near (suc m) zero = inr (omega arith)
nat-near (suc m) (suc n) = by (nat-near m n)
  where
    by : (m ≤ n) ⊎ (n < m) → (suc m ≤ suc n) ⊎ (suc n < suc m)
    by (inl h) = inl (omega (arith, h))
    by (inr h) = inr (omega (arith, h))

pub near : (x y : ℤ) → (x ≤ℤ y) ⊎ (y <ℤ x)
near (pos m) (pos n) = by (nat-near m n)
  where
    by : (m ≤ n) ⊎ (n < m) → (pos m ≤ℤ pos n) ⊎ (pos n <ℤ pos m)
    by (inl h) = inl (omega (arith, ints, h))
    by (inr h) = inr (omega (arith, ints, h))
near (pos m) (negsuc n) = inr (omega (arith, ints))
near (negsuc m) (pos n) = inl (omega (arith, ints))
near (negsuc m) (negsuc n) = by (nat-near n m)
  where
    by : (n ≤ m) ⊎ (m < n) → (negsuc m ≤ℤ negsuc n) ⊎ (negsuc n <ℤ negsuc m)
    by (inl h) = inl (omega (arith, ints, h))
    by (inr h) = inr (omega (arith, ints, h))

next-or : (j k : ℤ) → j <ℤ (k +ℤ pos 1) → (j <ℤ k) ⊎ (j ≡ k)
next-or j k less = by (near k j)
  where
    by : (k ≤ℤ j) ⊎ (j <ℤ k) → (j <ℤ k) ⊎ (j ≡ k)
    by (inl above) = inr (omega (arith, ints, above, less))
    by (inr below) = inl below

pub below-more : (bits : ℕ) (e : Expr) (gs : List Given) (i : Index) (ps : List PathIndex) (low k : ℤ) (old new : List Write) → SpreadsBelow bits e gs i ps low k old → AddsCase bits e gs i ps k old new
    → SpreadsBelow bits e gs i ps low (k +ℤ pos 1) new
below-more bits e gs i ps low k old new before one vec a sc v h x at =
    let b = before vec a sc v h x at in
    let m = one vec a sc v h x at b.said b.written in
    record { said = m.now; told = λ j above below is. by b m j above is (next-or j k below); written = m.written }
  where
    by : (b : WritesBelow low k (P.index_of (meaning x.index) a) e old vec a sc v) (m : WritesMore b.said (P.index_of (meaning x.index) a) k e new vec a sc v) (j : ℤ) → low ≤ℤ j → P.index_of (meaning x.index) a ≡ Some j
        → (j <ℤ k) ⊎ (j ≡ k) → m.now ≡ true
    by b m j above is (inl less) = m.kept (b.told j above less is)
    by b m j above is (inr same) = m.more (is ∙ ap (λ (n : ℤ). Some n) same)
