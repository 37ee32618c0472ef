-- Steps by an index that is known only when the text runs.
use Rattle.std.proofs.Common.{◌≡◌, ℕ, zero, suc, ◌+◌, ◌*◌, ◌<◌, ◌≤◌, Bool, true, false, ◌&&◌, cond, ℤ, pos, negsuc, ◌+ℤ◌, ◌-ℤ◌, ◌*ℤ◌, List, [], ◌∷◌, length, Option, Some, None, refl, arith, ap, sym, ◌∙◌, subst}
use Rattle.std.specs.Prelude.{int_le, int_lt}
use Rattle.std.proofs.lemmas.Int.{ints}
use Rattle.std.proofs.lemmas.Nat.{mul-le}
use Rattle.std.proofs.lemmas.Bool.Decides.{nat_tests}
use Rattle.b4_core.specs.declared.bit.Bit4.{Bit4}
use Rattle.row_machine.specs.Valuation.{Valuation}
use Rattle.picks.specs.Windows.{Window, whole, nowhere, part, picked, bit_at, seen}
use Rattle.sv_types.specs.declared.types.SvType.{SvType}
use Rattle.sv_types.specs.Layouts.{Layout, layout, count_of, width_of}
use Rattle.sv_types.specs.Windows.{elements, element_of, slide, rank, falls, lowest_index}
use Rattle.sv_types.specs.Surroundings.{Around}
use Rattle.sv_types.specs.Meanings as S
use Rattle.sv_types.specs.Paths as P
use Rattle.sv_types.proofs.Picks.{pick, nothing-there, tabulated-same, length-tabulated}
use Rattle.v_tree.specs.Names.{Name}
use Rattle.v_tree.specs.declared.expressions.VExpr.{VExpr}
use Rattle.v_tree.specs.declared.names.Helper.{Helper}
use Rattle.v_meaning.specs.Scopes.{Scope, named}
use Rattle.v_meaning.specs.Values as T
use Rattle.v_meaning.specs.Values.{meaning, number_of}
use Rattle.eval_parts.specs.Places.{window_of}
use Rattle.lowering_laws.specs.Same.{HasBits}
use Rattle.lowering_laws.specs.Slid.{begins}
use Rattle.lowering_laws.specs.Terms as terms
use Rattle.lowering_laws.proofs.Paths.{one-window, one-width}
use Rattle.lowering_laws.proofs.Slides.{picked-slide, far, slide-read}
use Rattle.lowering_laws.proofs.Wholes.{IsWhole, type-whole}
use Rattle.lowering_laws.proofs.WriteAt.{IsTight, nowhere-tight, whole-tight, part-tight}
use Rattle.path_flatten.specs.declared.offsets.Index.{Index}
use Rattle.path_flatten.specs.declared.offsets.Offset.{Offset}
use Rattle.path_flatten.specs.declared.offsets.Argument.{Argument}
use Rattle.path_flatten.specs.declared.readings.Root.TheVariants as R
use Rattle.path_flatten.specs.declared.readings.Reading.{Reading}
use Rattle.path_flatten.specs.declared.readings.Slice.{Slice}
use Rattle.path_flatten.specs.Helping.{EachHelps, Grows}
use Rattle.path_flatten.specs.Reading.{IsVector, HasRoot, Reads, Sees}
use Rattle.path_flatten.specs.Selecting.{ReadsAll, IsSelectCall}
use Rattle.path_flatten.specs.Sliding.{IsOffset, IsOffsetOf, IsBase, IsArgument, slid, Slides, ReadsSlide, ReadsIndex}
use Rattle.path_flatten.specs.Stepping.{IsStep}
use Rattle.path_flatten.proofs.Helping.{helps-before}
use Rattle.path_flatten.proofs.Sees.{tight-of, stays-of, sees-seen, sees-element, sees-slide, sees-value}
use Rattle.path_flatten.proofs.Selecting.{name-bits, seen-whole, select-bits}
use Rattle.path_flatten.proofs.Stepping.{element-stays}

-- `name[offset +: n]`
pub name-slides : (name : Name) (r : Reading) (w n : ℕ) (o : Offset) (b : T.Meaning) (hs : List Helper) (m : T.Meaning) → r.root ≡ R.Name name → r.width ≡ w → window_of r.window ≡ whole w
    → IsBase o b → m ≡ T.reference name (terms.slide b n ∷ []) → Slides r w n o hs m
name-slides name r w n o b hs m root width window base is c z sc v has long inside stays some few one offset helps =
    let vector : IsVector (named sc.names name) w c v = subst (λ k. IsVector (named sc.names name) k c v) width (subst (λ x. HasRoot x r.width c sc v) root has) in
    let s = terms.slide b n in
    let kept = named sc.names name in
    let all : seen c (window_of r.window) w ≡ c = ap (λ p. seen c p w) window ∙ seen-whole c w (long ∙ width) in
    let path : (T.path_of kept (s ∷ []) sc v).window ≡ elim z [ None ↦ nowhere | Some k ↦ part k n (whole w) ] =
    one-window kept s sc v vector.vector ∙ (λ j. elim (base z sc v offset j) [ None ↦ nowhere | Some k ↦ part k n (whole (vector.width j)) ]) in
    subst (λ (y : T.Meaning). HasBits y (slid (seen c (window_of r.window) w) w n z) sc v) (sym is)
    (subst (λ x. HasBits (T.reference name (s ∷ [])) (slid x w n z) sc v) (sym all)
    (name-bits name w c sc v vector (s ∷ []) _ n (one-width kept s vector.vector) path))

-- a call with all bits
pub call-slides : (r : Reading) (s : Slice) (w n : ℕ) (o : Offset) (x : Argument) (old hs : List Helper) (all m : T.Meaning) → s.of ≡ w → s.part ≡ n → s.index ≡ x.bits
    → ReadsAll r w old all → Grows old hs → IsArgument o x → IsSelectCall s all (meaning x.expr) hs m → Slides r w n o hs m
call-slides r s w n o x old hs all m of_is part_is index reads grows argument call c z sc v has long inside stays some few one offset helps =
    let bits = reads c sc v has long inside some few stays (helps-before old hs sc grows helps) in
    let passed = argument z sc v offset in
    let given : ℕ = s.index in
    let same : T.given (meaning x.expr) s.index sc v ≡ T.given (meaning x.expr) x.bits sc v = ap (λ k. T.given (meaning x.expr) k sc v) index in
    let whole_long : length (seen c (window_of r.window) w) ≡ s.of = length-tabulated w _ ∙ sym of_is in
    let one_there = passed.some in
    subst (λ u. HasBits m u sc v) (λ j. seen (seen c (window_of r.window) w) (elim (passed.passed j) [ None ↦ nowhere | Some k ↦ part k (part_is j) (whole (of_is j)) ]) (part_is j))
    (select-bits s all (meaning x.expr) hs m (seen c (window_of r.window) w) (T.given (meaning x.expr) x.bits sc v) sc v call helps bits whole_long (omega arith) (omega arith) (omega arith) same (passed.long ∙ sym index))

-- An element by its index is an element by its rank, where the path is tight.
next-row : (k w : ℕ) → negsuc k *ℤ pos w ≡ pos 0 -ℤ pos (k * w + w)
next-row k w = grind (arith, ints)

row-of : (q w : ℕ) → pos q *ℤ pos w ≡ pos (q * w)
row-of q w = grind (arith, ints)

outside-row : (r : ℤ) (w n j m : ℕ) → j < w → (int_le (pos 0) r && int_lt r (pos n)) ≡ false → pos j +ℤ r *ℤ pos w ≡ pos m → m < n * w → ⊥
outside-row (negsuc k) w n j m h out is less =
    let same : pos j +ℤ (pos 0 -ℤ pos (k * w + w)) ≡ pos m = ap (λ z. pos j +ℤ z) (sym (next-row k w)) ∙ is in
    apart j (k * w) m h same
  where
    apart : (x y z : ℕ) → x < w → pos x +ℤ (pos 0 -ℤ pos (y + w)) ≡ pos z → ⊥
    apart x y z f g = omega (arith, ints)
outside-row (pos q) w n j m h out is less =
    let many : n ≤ q = grind (arith, nat_tests) in
    let rows = mul-le n w q w many (omega arith) in
    let same : j + q * w ≡ m = numbers j (q * w) m (ap (λ z. pos j +ℤ z) (sym (row-of q w)) ∙ is) in
    absurd (omega arith)
  where
    numbers : (x y z : ℕ) → pos x +ℤ pos y ≡ pos z → x + y ≡ z
    numbers x y z g = omega (arith, ints)

module _ (of : Layout) (path : Window) (tight : IsTight path (count_of of.left of.right * length of.element.two_state)) where
  abbrev w : ℕ
  w = length of.element.two_state

  none-there : (r : ℤ) (j : ℕ) → j < w → (int_le (pos 0) r && int_lt r (pos (count_of of.left of.right))) ≡ false → picked (part (r *ℤ pos w) w path) j ≡ None
  none-there r j h out =
      let same : pos j +ℤ (path.shift +ℤ r *ℤ pos w) ≡ (pos j +ℤ r *ℤ pos w) +ℤ path.shift = omega (arith, ints) in
      picked-slide (r *ℤ pos w) w path j h ∙ ap (pick path.low path.high) same
      ∙ far path (count_of of.left of.right * w) (pos j +ℤ r *ℤ pos w) tight (λ m is less. outside-row r w (count_of of.left of.right) j m h out is less)

  one-element : (r : ℤ) (j : ℕ) → j < w → picked (elements of r 1 path) j ≡ picked (part (r *ℤ pos w) w path) j
  one-element r j h = (let one : 1 * w ≡ w = omega arith in ap (λ k. picked (part (r *ℤ pos w) k path) j) one)

  rank-by : (r : ℤ) (j : ℕ) (b : Bool) → j < w → (int_le (pos 0) r && int_lt r (pos (count_of of.left of.right))) ≡ b → picked (cond b (elements of r 1 path) nowhere) j ≡ picked (part (r *ℤ pos w) w path) j
  rank-by r j true h is = one-element r j h
  rank-by r j false h is = nothing-there (pos j +ℤ pos 0) ∙ sym (none-there r j h is)

  -- `[k +: 1]` begins at the element with index k
  first-rank : (k : ℤ) → lowest_index of true k 1 ≡ k
  first-rank k = by (falls of)
    where
      by : (b : Bool) → cond b k (k +ℤ pos 0) ≡ k
      by true = refl
      by false = omega (arith, ints)

  pub element-bits : (c : List Bit4) (z : Option ℤ) → seen c (element_of of z path) w ≡ seen c (elim (begins of true 1 z) [ None ↦ nowhere | Some k ↦ part k w path ]) w
  element-bits c None = refl
  element-bits c (Some k) =
      tabulated-same w _ _ (λ j less. ap (bit_at c) (rank-by (rank of k) j (int_le (pos 0) (rank of k) && int_lt (rank of k) (pos (count_of of.left of.right))) less refl))
      ∙ ap (λ x. seen c (part (rank of x *ℤ pos w) w path) w) (sym (first-rank k))

slide-bits : (of : Layout) (path : Window) (up : Bool) (n : ℕ) (c : List Bit4) (z : Option ℤ)
    → seen c (slide of up n z path) (n * length of.element.two_state) ≡ seen c (elim (begins of up n z) [ None ↦ nowhere | Some k ↦ part k (n * length of.element.two_state) path ]) (n * length of.element.two_state)
slide-bits of path up n c None = refl
slide-bits of path up n c (Some k) = refl

slide-stays : (of : Layout) (up : Bool) (n : ℕ) (z : Option ℤ) (path : Window) → IsTight (slide of up n z path) (n * length of.element.two_state)
slide-stays of up n None path = nowhere-tight (n * length of.element.two_state)
slide-stays of up n (Some k) path = part-tight (rank of (lowest_index of up k n) *ℤ pos (length of.element.two_state)) (n * length of.element.two_state) path

-- a part of a reading's path is the same part of its bits
part-slid : (c : List Bit4) (path : Window) (w n : ℕ) (z : Option ℤ) → IsTight path w → seen c (elim z [ None ↦ nowhere | Some k ↦ part k n path ]) n ≡ slid (seen c path w) w n z
part-slid c path w n None tight = tabulated-same n _ _ (λ j h. ap (bit_at c) (nothing-there (pos j +ℤ pos 0)) ∙ sym (ap (bit_at (seen c path w)) (nothing-there (pos j +ℤ pos 0))))
part-slid c path w n (Some k) tight = slide-read c path w tight k n

-- A new root has all bits of the path.
module _ (old r : Reading) (e from : S.Meaning) (a : Around) (x : VExpr) (n : ℕ) (z : Option ℤ) (hs : List Helper) (o : Offset) (sc : Scope) (v : Valuation) (step : Window → Window)
    (root : r.root ≡ R.Value x) (width : r.width ≡ n) (window : window_of r.window ≡ whole n) (is : IsStep e from a step) (wide : S.wide e ≡ n) (some : 1 ≤ n) (from_some : 1 ≤ S.wide from) (few : S.wide from ≤ 4194304)
    (sees : (held c : List Bit4) (p q : Window) → Sees held p c q → Sees held (step p) c (step q)) (tight : (p : Window) → IsTight (step p) n)
    (bits : (c : List Bit4) (p : Window) → IsTight p (S.wide from) → seen c (step p) n ≡ seen c (elim z [ None ↦ nowhere | Some k ↦ part k n p ]) n)
    (offset : IsOffset o z sc v) (slides : Slides old (S.wide from) n o hs (meaning x)) (helps : EachHelps hs sc) where
  pub reads-slid : Reads old from a sc v → Reads r e a sc v
  reads-slid reads =
      let c = reads.bits in
      let q = window_of old.window in
      let path = step (from.window a) in
      let value : seen (from.base a) path n ≡ slid (seen c q (S.wide from)) (S.wide from) n z =
      sees-seen (from.base a) c path (step q) n (sees (from.base a) c (from.window a) q reads.sees)
      ∙ bits c q (tight-of q (S.wide from) reads.stays) ∙ part-slid c q (S.wide from) n z (tight-of q (S.wide from) reads.stays) in
      let has : HasBits (meaning x) (seen (from.base a) path n) sc v =
      subst (λ u. HasBits (meaning x) u sc v) (sym value) (slides c z sc v reads.root reads.long reads.inside reads.stays from_some few some offset helps) in
      let same_end : r.window.high ≡ n = ap (λ (p : Window). p.high) window in
      record {
        bits = seen (from.base a) path n;
        root = subst (λ y. HasRoot y r.width (seen (from.base a) path n) sc v) (sym root) has;
        long = length-tabulated n _ ∙ sym width;
        sees = subst (λ p. Sees (e.base a) (e.window a) (seen (from.base a) path n) p) (sym window)
            (subst (λ p. Sees (e.base a) p (seen (from.base a) path n) (whole n)) (sym is.window)
            (subst (λ held. Sees held path (seen (from.base a) path n) (whole n)) (sym is.base)
            (sees-value (from.base a) path n (tight (from.window a)))));
        stays = stays-of (window_of r.window) (S.wide e) (subst (λ p. IsTight p (S.wide e)) (sym window) (subst (IsTight (whole n)) (sym wide) (whole-tight n)));
        inside = omega arith;
      }

item-some : (n k : ℕ) → 1 ≤ n * k → 1 ≤ k
item-some n zero h = (let none : n * 0 ≡ 0 = grind arith in absurd (omega arith))
item-some n (suc k) h = omega arith

pub slide-reads : (old r : Reading) (t : SvType) (up : Bool) (n bits w : ℕ) (x : Index) (hs : List Helper) (o : Offset) (value : VExpr) → r.root ≡ R.Value value → r.width ≡ bits
    → window_of r.window ≡ whole bits → IsOffsetOf x t up n o → Slides old w bits o hs (meaning value) → w ≡ width_of t → width_of t ≤ 4194304
    → bits ≡ n * length (layout t).element.two_state → ReadsSlide old t up n x hs r
slide-reads old r t up n bits w x hs o value root width window offset slides all narrow size e from i a sc v of is wide some from_some index helps reads =
    let item : length from.of.element.two_state ≡ length (layout t).element.two_state = ap (λ (l : Layout). length l.element.two_state) of in
    let from_wide : S.wide from ≡ width_of t = ap (λ (l : Layout). length l.two_state) of in
    let same : S.wide e ≡ bits = wide ∙ ap (λ k. n * k) item ∙ sym size in
    let back : n * length from.of.element.two_state ≡ bits = sym wide ∙ same in
    let one : 1 ≤ n * length (layout t).element.two_state = omega arith in
    reads-slid old r e from a value bits (begins from.of up n (P.index_of i a)) hs o sc v (slide from.of up n (P.index_of i a))
    root width window is same (omega arith) from_some (omega arith)
    (λ held c p q h. sees-slide held c p q from.of up n (P.index_of i a) h)
    (λ p. subst (IsTight (slide from.of up n (P.index_of i a) p)) back (slide-stays from.of up n (P.index_of i a) p))
    (λ c p tight. subst (λ k. seen c (slide from.of up n (P.index_of i a) p) k ≡ seen c (elim (begins from.of up n (P.index_of i a)) [ None ↦ nowhere | Some z ↦ part z k p ]) k) back
    (slide-bits from.of p up n c (P.index_of i a)))
    (subst (λ (l : Layout). IsOffset o (begins l up n (P.index_of i a)) sc v) (sym of) (offset i a sc v index (item-some n (length (layout t).element.two_state) one)))
    (subst (λ k. Slides old k bits o hs (meaning value)) (all ∙ sym from_wide) slides) helps reads

pub index-reads : (old r : Reading) (t : SvType) (bits w : ℕ) (x : Index) (hs : List Helper) (o : Offset) (value : VExpr) → r.root ≡ R.Value value → r.width ≡ bits
    → window_of r.window ≡ whole bits → IsOffsetOf x t true 1 o → Slides old w bits o hs (meaning value) → w ≡ width_of t → width_of t ≤ 4194304
    → bits ≡ length (layout t).element.two_state → ReadsIndex old t x hs r
index-reads old r t bits w x hs o value root width window offset slides all narrow size e from i a sc v of is wide some from_some index helps reads =
    let item : length from.of.element.two_state ≡ length (layout t).element.two_state = ap (λ (l : Layout). length l.element.two_state) of in
    let from_wide : S.wide from ≡ width_of t = ap (λ (l : Layout). length l.two_state) of in
    let same : S.wide e ≡ bits = wide ∙ item ∙ sym size in
    let back : length from.of.element.two_state ≡ bits = sym wide ∙ same in
    let whole_of : IsWhole (layout t) = type-whole t (omega arith) in
    let rows : count_of from.of.left from.of.right * length from.of.element.two_state ≡ S.wide from =
    (λ j. count_of (of j).left (of j).right * length (of j).element.two_state) ∙ whole_of.elements ∙ sym from_wide in
    reads-slid old r e from a value bits (begins from.of true 1 (P.index_of i a)) hs o sc v (element_of from.of (P.index_of i a))
    root width window is same (omega arith) from_some (omega arith)
    (λ held c p q h. sees-element held c p q from.of (P.index_of i a) h)
    (λ p. subst (IsTight (element_of from.of (P.index_of i a) p)) back (element-stays from.of (P.index_of i a) p))
    (λ c p tight. subst (λ k. seen c (element_of from.of (P.index_of i a) p) k ≡ seen c (elim (begins from.of true 1 (P.index_of i a)) [ None ↦ nowhere | Some z ↦ part z k p ]) k) back
    (element-bits from.of p (subst (IsTight p) (sym rows) tight) c (P.index_of i a)))
    (subst (λ (l : Layout). IsOffset o (begins l true 1 (P.index_of i a)) sc v) (sym of) (offset i a sc v index (omega arith)))
    (subst (λ k. Slides old k bits o hs (meaning value)) (all ∙ sym from_wide) slides) helps reads
