-- A list of symbols has at most one derivation.
use Rattle.std.proofs.Common.{◌≡◌, ℕ, suc, List, [], ◌∷◌, Option, Some, None, refl, sym, ◌∙◌, ap, subst, map}
use Rattle.ll_engine.specs.declared.table.Part.{Part}
use Rattle.ll_engine.specs.declared.table.Part.TheVariants.{Non}
use Rattle.ll_engine.specs.declared.table.Row.{Row}
use Rattle.ll_engine.specs.declared.tree.Tree.{Tree}
use Rattle.ll_engine.specs.declared.tree.Tree.TheVariants.{Leaf, Node}
use Rattle.ll_engine.specs.Grammar.{IsRowOf, IsBlank, IsBegun}
use Rattle.ll_engine.specs.Class.{IsFit}
use Rattle.ll_engine.specs.Reading.{Nested, at_nesting, next, level, inside, left_after, Reads}
use Rattle.ll_engine.specs.Texts.{symbol_of, IsText, IsReading}
use Rattle.ll_engine.proofs.Shapes as Shapes
use Rattle.ll_engine.proofs.Rows.{same_row, at_own}

module _ (t : List Row) (k : IsFit t) where
  only_begun : (h i j : ℕ) (x : Option ℕ) (row r : Row) → IsRowOf t h i row → IsBegun t row.parts x
      → IsRowOf t h j r → IsBegun t r.parts x → (j ≡ i) × (r ≡ row)
  only_begun h i j None row r a b c d = absurd b
  only_begun h i j (Some a) row r is_row b other d =
      let e = (k.keeps i h row is_row).one_begins j i a r row (at_own is_row other) (at_own is_row is_row) d b in
      (e, same_row is_row other e)

  only_blank : (h i j : ℕ) (row r : Row) → IsRowOf t h i row → IsBlank t row.parts
      → IsRowOf t h j r → IsBlank t r.parts → (j ≡ i) × (r ≡ row)
  only_blank h i j row r is_row b other d =
      let e = (k.keeps i h row is_row).one_blank j i r row (at_own is_row other) (at_own is_row is_row) d b in
      (e, same_row is_row other e)

  -- two lists of one spelling that were read, and what is left of them
  record Agree (w v : List Nested) (ts us : List Tree) (to end : ℕ) (rest left : List Nested) : Type 0 where
    trees : ts ≡ us
    same_to : to ≡ end
    spelled : map symbol_of rest ≡ map symbol_of left
    same : rest ≡ left → w ≡ v

  next_same : (w v : List Nested) → map symbol_of w ≡ map symbol_of v → next w ≡ next v
  next_same [] [] e = refl
  next_same [] (at_nesting s n ∷ v) e = cc
  next_same (at_nesting s n ∷ w) [] e = cc
  next_same (at_nesting s n ∷ w) (at_nesting r m ∷ v) e = let h : s ≡ r = cc in ap Some h

  agree : (g : ℕ → ℕ) {d e at to : ℕ} {ps : List Part} {w rest : List Nested} {ts : List Tree}
      → Reads t g d e ps at w ts to rest
      → (v left : List Nested) (us : List Tree) (end : ℕ) → map symbol_of w ≡ map symbol_of v
      → Reads t g d e ps at v us end left → Agree w v ts us to end rest left
  agree g (Reads.ended a b) v left us end m r =
      let s = Shapes.ended t g r in
      record { trees = sym s.nothing; same_to = sym a ∙ s.same_at; spelled = cc; same = λ z. b ∙ (z ∙ sym s.same) }
  agree g {at = at} (Reads.symbol {around = d} {s = c} {n = n} {ps = ps} {w = w} {x = x} {ts = ts} f nd l r) v left us end m q =
      let s = Shapes.symbol t g f q in
      let z : map symbol_of w ≡ map symbol_of s.v = tail (map symbol_of w) (map symbol_of s.v) (m ∙ ap (map symbol_of) s.text) in
      let o = agree g r s.v left s.us end z s.reads in
      record {
        trees = ap (λ y. y ∷ ts) l ∙ (ap (λ y. Leaf at ∷ y) o.trees ∙ sym s.trees);
        same_to = o.same_to;
        spelled = o.spelled;
        same = λ y. ap (λ j. at_nesting c j ∷ w) nd ∙ (ap (λ j. at_nesting c d ∷ j) (o.same y) ∙ sym s.text);
      }
    where
      tail : (xs ys : List ℕ) → c ∷ xs ≡ c ∷ ys → xs ≡ ys
      tail xs ys e = cc
  agree g {d} {e} {at} {to} {ps} {w} {rest} (Reads.taken {n = n} {h = h} {i = i} {mid = mid} {p = p} {ps = qs} {row = row} {u = u} {kids = kids} {ts = ts} nm s b l x inner behind) v left us end m q =
      let nx = next_same w v m in
      let y = Shapes.taken t g (λ j r z c. only_begun h i j (next w) row r s b z (subst (λ a. IsBegun t r.parts a) (sym nx) c))
      nm s (subst (λ a. IsBegun t row.parts a) nx b) q in
      let o = agree g inner v y.u y.kids y.mid m
      (subst (λ a. Reads t g (inside g row a) (inside g row a) row.parts at v y.kids y.mid y.u) (sym l) y.within) in
      let c = agree g behind y.u left y.us end o.spelled
      (subst (λ a. Reads t g d a (left_after p qs) mid y.u y.us end left) (sym l)
      (subst (λ a. Reads t g d (level g p d e) (left_after p qs) a y.u y.us end left) (sym o.same_to) y.reads)) in
      record {
        trees = ap (λ a. a ∷ ts) x ∙ (ap (λ a. Node i a ∷ ts) o.trees ∙ (ap (λ a. Node i y.kids ∷ a) c.trees ∙ sym y.trees));
        same_to = c.same_to;
        spelled = c.spelled;
        same = λ z. o.same (c.same z);
      }
  agree g {w = w} (Reads.left_out {p = p} o n r) v left us end m q =
      let nx = next_same w v m in
      agree g r v left us end m (Shapes.left_out t g o (λ b. n (subst (λ a. IsBegun t (p ∷ []) a) (sym nx) b)) q)
  agree g {d} {e} {at} {to} {ps} {w} {rest} (Reads.empty {h = h} {i = i} {mid = mid} {p = p} {ps = qs} {row = row} {u = u} {kids = kids} {ts = ts} f nm n s b x inner behind) v left us end m q =
      let nx = next_same w v m in
      let y = Shapes.empty t g (λ j r z c. only_blank h i j row r s b z c) f nm
      (λ c. n (subst (λ a. IsBegun t (p ∷ []) a) (sym nx) c)) q in
      let o = agree g inner v y.u y.kids y.mid m y.within in
      let c = agree g behind y.u left y.us end o.spelled
      (subst (λ a. Reads t g d d qs a y.u y.us end left) (sym o.same_to) y.reads) in
      record {
        trees = ap (λ a. a ∷ ts) x ∙ (ap (λ a. Node i a ∷ ts) o.trees ∙ (ap (λ a. Node i y.kids ∷ a) c.trees ∙ sym y.trees));
        same_to = c.same_to;
        spelled = c.spelled;
        same = λ z. o.same (c.same z);
      }

  first_same : (h j : ℕ) (r s : Row) → IsRowOf t h 0 r → IsRowOf t j 0 s → h ≡ j
  first_same h j r s a b = let x = a.is_there in let y = b.is_there in let u = a.is_of in let v = b.is_of in let e : r ≡ s = cc in cc

  one_of : (x y : Tree) → x ∷ [] ≡ y ∷ [] → x ≡ y
  one_of x y e = ap (λ q. first q) e
    where
      first : List Tree → Tree
      first [] = x
      first (z ∷ zs) = z

  pub one_text : (w v : List Nested) (x y : Tree) → map symbol_of w ≡ map symbol_of v → IsText t w x → IsText t v y
      → (w ≡ v) × (x ≡ y)
  one_text w v x y e a b =
      let h = first_same b.head a.head b.row a.row b.is_first a.is_first in
      let o = agree suc a.reads v [] (y ∷ []) b.to e (subst (λ q. Reads t suc 0 0 (Non q ∷ []) 0 v (y ∷ []) b.to []) h b.reads) in
      (o.same refl, one_of x y o.trees)

  pub one_reading : (symbols : List ℕ) (limit bound : ℕ) (x y : Tree) → IsReading t symbols limit x → IsReading t symbols bound y
      → x ≡ y
  one_reading symbols limit bound x y a b = (one_text a.text b.text x y (a.spells ∙ sym b.spells) a.is_text b.is_text).1
