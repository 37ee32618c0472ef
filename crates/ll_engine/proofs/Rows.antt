-- Which row of a head is read, by what is kept of the heads.
use Rattle.std.proofs.Common.{◌≡◌, ℕ, List, Option, Some, None, sym, subst}
use Rattle.ll_engine.specs.declared.table.Row.{Row}
use Rattle.ll_engine.specs.declared.tables.Head.{Head}
use Rattle.ll_engine.specs.Grammar.{IsRowOf, IsBlank, IsBegun}
use Rattle.ll_engine.specs.Class.{Keeps}
use Rattle.ll_engine.specs.Knows.{Knows, row_next}

pub same_row : {t : List Row} {h i j : ℕ} {r s : Row} → IsRowOf t h i r → IsRowOf t h j s → j ≡ i → s ≡ r
same_row {i = i} a b e = let f = a.is_there in let g = b.is_there in cc (f, g, e)

pub keeps : {t : List Row} {heads : List Head} {h i : ℕ} {row : Row} → Knows t heads → IsRowOf t h i row → Keeps t row
keeps {h = h} {i = i} {row = row} k r = k.is_fit.keeps i h row r

-- a head's own row, at the head's number
pub at_own : {t : List Row} {h i j : ℕ} {r s : Row} → IsRowOf t h i r → IsRowOf t h j s → IsRowOf t r.head j s
at_own {t} {j = j} {s = s} a b = subst (λ q. IsRowOf t q j s) (sym a.is_of) b

module _ (t : List Row) (heads : List Head) (k : Knows t heads) where
  pub begun : (h i : ℕ) (x : Option ℕ) → row_next heads h x ≡ Some i
      → (row : Row) × IsRowOf t h i row × IsBegun t row.parts x
  begun h i None e = cc
  begun h i (Some a) e = k.begun h a i e

  pub only_begun : (h i j : ℕ) (x : Option ℕ) (row r : Row) → IsRowOf t h i row → IsBegun t row.parts x
      → IsRowOf t h j r → IsBegun t r.parts x → (j ≡ i) × (r ≡ row)
  only_begun h i j None row r a b c d = absurd b
  only_begun h i j (Some a) row r is_row b other d =
      let e = (keeps k is_row).one_begins j i a r row (at_own is_row other) (at_own is_row is_row) d b in
      (e, same_row is_row other e)

  pub none_begun : (h i : ℕ) (x : Option ℕ) (row : Row) → row_next heads h x ≡ None → IsRowOf t h i row
      → IsBegun t row.parts x → ⊥
  none_begun h i None row e r b = b
  none_begun h i (Some a) row e r b = k.not_begun h a i row e r b

  pub only_blank : (h i j : ℕ) (row r : Row) → IsRowOf t h i row → IsBlank t row.parts
      → IsRowOf t h j r → IsBlank t r.parts → (j ≡ i) × (r ≡ row)
  only_blank h i j row r is_row b other d =
      let e = (keeps k is_row).one_blank j i r row (at_own is_row other) (at_own is_row is_row) d b in
      (e, same_row is_row other e)
