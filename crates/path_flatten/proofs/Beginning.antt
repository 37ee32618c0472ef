-- Where elements begin, by the index.
use Rattle.std.proofs.Common.{◌≡◌, ℕ, zero, suc, ◌+◌, ◌-◌, ◌*◌, ◌^◌, ◌<◌, ◌≤◌, max, Bool, true, false, cond, ℤ, pos, negsuc, ◌+ℤ◌, ◌-ℤ◌, ◌*ℤ◌, List, [], ◌∷◌, ◌++◌, length, length-append, Option, Some, None, refl, arith, ap, sym, ◌∙◌, subst}
use Rattle.std.specs.Prelude.{unsigned_abs, int_le}
use Rattle.std.proofs.Math.Nat.{pow-suc}
use Rattle.std.proofs.lemmas.Int.{ints}
use Rattle.std.proofs.lemmas.Nat.{mul-le, pow-add}
use Rattle.b4_core.specs.declared.bit.Bit4.{Bit4}
use Rattle.b4_core.specs.declared.bit.Bit4.TheVariants.{Zero}
use Rattle.b4_core.specs.Vectors.{known, snum, ext}
use Rattle.row_machine.specs.Valuation.{Valuation}
use Rattle.sv_types.specs.declared.types.SvType.{SvType}
use Rattle.sv_types.specs.Layouts.{Layout, layout}
use Rattle.sv_types.specs.Windows.{falls, rank, lowest_index}
use Rattle.sv_types.specs.Surroundings.{Around}
use Rattle.sv_types.specs.Meanings as S
use Rattle.sv_types.specs.Paths as P
use Rattle.v_tree.specs.declared.expressions.VExpr.{VExpr}
use Rattle.v_meaning.specs.Scopes.{Scope}
use Rattle.v_meaning.specs.Values as T
use Rattle.v_meaning.specs.Values.{meaning, number_of}
use Rattle.lowering_laws.specs.Same.{HasBits}
use Rattle.lowering_laws.specs.Signed.{IsIndex, FitsSigned}
use Rattle.lowering_laws.specs.Slid.{begins, origin, IsSignedOffset}
use Rattle.lowering_laws.specs.Terms as terms
use Rattle.lowering_laws.proofs.Assigned.{given-alone}
use Rattle.lowering_laws.proofs.Constants.{bits-alone}
use Rattle.lowering_laws.proofs.Contexts.{alone-width, alone-value}
use Rattle.lowering_laws.proofs.Indices.{signed-index, unsigned-index}
use Rattle.lowering_laws.proofs.SlideOffsets.{falling-offset, rising-offset}
use Rattle.path_flatten.specs.declared.offsets.Index.{Index}
use Rattle.path_flatten.specs.declared.offsets.Offset.{Offset}
use Rattle.path_flatten.specs.declared.offsets.Offset.TheVariants as O
use Rattle.path_flatten.specs.declared.offsets.Argument.{Argument}
use Rattle.path_flatten.specs.Distances.{distance_term, origin_by}
use Rattle.path_flatten.specs.Reading.{IsPassed}
use Rattle.path_flatten.specs.Sliding.{IsIndexOf, IsSignedIndex, IsOffset, IsOffsetOf, IsBase, IsArgument}

-- a lowered index as a signed number
pub as-signed : (x : Index) (m : T.Meaning) (w : ℕ) → x.signed ≡ true → m ≡ meaning x.expr → w ≡ x.width → IsSignedIndex x m w
as-signed x m w sign is width i a sc v h =
    let wide = h.width in
    subst (λ (y : T.Meaning). IsIndex (P.index_of i a) y w sc v) (sym is)
    (signed-index i a (meaning x.expr) w sc v h.long h.same (h.sign ∙ sign) (omega arith))

pub as-unsigned : (x : Index) (m : T.Meaning) (w : ℕ) → x.signed ≡ false → m ≡ T.concatenation (T.literal (Zero ∷ []) ∷ meaning x.expr ∷ []) → w ≡ suc x.width → IsSignedIndex x m w
as-unsigned x m w sign is width i a sc v h =
    let wide = h.width in
    subst (λ (y : T.Meaning). IsIndex (P.index_of i a) y w sc v) (sym is)
    (unsigned-index i a (meaning x.expr) w sc v h.long h.same (h.sign ∙ sign) (omega arith))

-- one that needs fewer bits
wider-index : (i : Option ℤ) (m : T.Meaning) (w z : ℕ) (sc : Scope) (v : Valuation) → w ≤ z → IsIndex i m w sc v → IsIndex i m z sc v
wider-index i m w z sc v more h = (let x = h.width in let y = h.long in record { width = omega arith; long = omega arith; there = h.there; lost = h.lost })

-- a vector of known bits has its number
passed-known : (c : List Bit4) (z : Option ℤ) (b : Bool) → known c ≡ b → (known c ≡ true → z ≡ Some (snum c)) → (known c ≡ false → z ≡ None) → cond (known c) (Some (snum c)) None ≡ z
passed-known c z true is there lost = ap (λ k. cond k (Some (snum c)) None) is ∙ sym (there is)
passed-known c z false is there lost = ap (λ k. cond k (Some (snum c)) None) is ∙ sym (lost is)

-- a signed number as an argument
pub sum-passed : (m : T.Meaning) (w : ℕ) (z : Option ℤ) (sc : Scope) (v : Valuation) → IsSignedOffset z m w sc v → 1 ≤ w → IsPassed m w z sc v
sum-passed m w z sc v h some =
    let given : T.given m w sc v ≡ T.alone m sc v = given-alone m w (T.alone m sc v) sc v h.width refl h.long in
    record {
      long = ap length given ∙ h.long;
      passed = (λ j. cond (known (given j)) (Some (snum (given j))) None) ∙ sym (ap (λ s. number_of s (T.alone m sc v)) h.signed) ∙ h.number;
      some = some;
    }

-- an index that has as many bits as an argument
index-passed : (m : T.Meaning) (c : List Bit4) (w : ℕ) (z : Option ℤ) (sc : Scope) (v : Valuation) → T.given m w sc v ≡ c → length c ≡ w → 1 ≤ w
    → (known c ≡ true → z ≡ Some (snum c)) → (known c ≡ false → z ≡ None) → IsPassed m w z sc v
index-passed m c w z sc v given long some there lost = record {
  long = ap length given ∙ long;
  passed = ap (λ u. cond (known u) (Some (snum u)) None) given ∙ passed-known c z (known c) refl there lost;
  some = some;
}

-- a 0 above an index
above-has : (y : T.Meaning) (c : List Bit4) (sc : Scope) (v : Valuation) → y.width sc ≡ length c → T.alone y sc v ≡ c
    → HasBits (T.concatenation (T.literal (Zero ∷ []) ∷ y ∷ [])) (c ++ Zero ∷ []) sc v
unfolding T.concatenation T.literal
above-has y c sc v width bits =
    let long = length-append c (Zero ∷ []) in
    record {
      width = omega arith;
      unsigned = refl;
      value = λ w s. ap (λ u. ext w s (u ++ Zero ∷ [])) bits;
    }

module _ (x : Index) (i : S.Meaning) (a : Around) (sc : Scope) (v : Valuation) (h : IsIndexOf x i a sc v) where
  abbrev y : T.Meaning
  y = meaning x.expr

  index-width : y.width sc ≡ S.wide i
  index-width = alone-width i a y sc v h.same

  index-bits : T.alone y sc v ≡ S.alone i a
  index-bits = alone-value i a y sc v h.same

  pub index-base : number_of y.signed (T.alone y sc v) ≡ P.index_of i a
  index-base = λ j. number_of (h.same.sign j) (index-bits j)

  pub signed-passed : (w : ℕ) → x.signed ≡ true → w ≡ x.width → IsPassed y w (P.index_of i a) sc v
  signed-passed w sign is =
      let wide : w ≡ S.wide i = is ∙ h.width in
      let some = h.some in
      let index = signed-index i a y w sc v h.long h.same (h.sign ∙ sign) (omega arith) in
      index-passed y (S.alone i a) w (P.index_of i a) sc v (given-alone y w (S.alone i a) sc v (index-width ∙ sym wide) index-bits (h.long ∙ sym wide))
      (h.long ∙ sym wide) (omega arith)
      (λ k. index.there (ap known index-bits ∙ k) ∙ ap (λ u. Some (snum u)) index-bits) (λ k. index.lost (ap known index-bits ∙ k))

  pub unsigned-passed : (w : ℕ) → x.signed ≡ false → w ≡ suc x.width → IsPassed (T.concatenation (T.literal (Zero ∷ []) ∷ y ∷ [])) w (P.index_of i a) sc v
  unsigned-passed w sign is =
      let m = T.concatenation (T.literal (Zero ∷ []) ∷ y ∷ []) in
      let c = S.alone i a ++ Zero ∷ [] in
      let wide = h.width in
      let all = length-append (S.alone i a) (Zero ∷ []) in
      let bits = h.long in
      let long : length c ≡ w = omega arith in
      let has = above-has y (S.alone i a) sc v (index-width ∙ sym h.long) index-bits in
      let index = unsigned-index i a y w sc v h.long h.same (h.sign ∙ sign) (omega arith) in
      let alone : T.alone m sc v ≡ c = bits-alone m c sc v has in
      index-passed m c w (P.index_of i a) sc v (given-alone m w c sc v (has.width ∙ long) alone long) long (omega arith)
      (λ k. index.there (ap known alone ∙ k) ∙ ap (λ u. Some (snum u)) alone) (λ k. index.lost (ap known alone ∙ k))

-- an index that is taken as it is
pub plain-base : (x : Index) (o : Offset) (m : T.Meaning) → o ≡ O.Index x → m ≡ meaning x.expr → IsBase o m
plain-base x o m is same z sc v has =
    let h = subst (λ y. IsOffset y z sc v) is has in
    ap (λ (y : T.Meaning). number_of y.signed (T.alone y sc v)) same ∙ index-base x h.index h.around sc v h.is ∙ h.number

pub sum-base : (e : VExpr) (bits : ℕ) (o : Offset) (m : T.Meaning) → o ≡ O.Sum e bits → m ≡ meaning e → IsBase o m
sum-base e bits o m is same z sc v has =
    let h = subst (λ y. IsOffset y z sc v) is has in
    ap (λ (y : T.Meaning). number_of y.signed (T.alone y sc v)) same ∙ h.0.number

passed-by : (m n : T.Meaning) (w : ℕ) (y z : Option ℤ) (sc : Scope) (v : Valuation) → m ≡ n → y ≡ z → IsPassed n w y sc v → IsPassed m w z sc v
passed-by m n w y z sc v is same h = subst (λ k. IsPassed m w k sc v) same (subst (λ k. IsPassed k w y sc v) (sym is) h)

pub signed-argument : (x : Index) (o : Offset) (r : Argument) → o ≡ O.Index x → x.signed ≡ true → meaning r.expr ≡ meaning x.expr → r.bits ≡ x.width → IsArgument o r
signed-argument x o r is sign same bits z sc v has =
    let h = subst (λ y. IsOffset y z sc v) is has in
    passed-by (meaning r.expr) (meaning x.expr) r.bits (P.index_of h.index h.around) z sc v same h.number (signed-passed x h.index h.around sc v h.is r.bits sign bits)

pub unsigned-argument : (x : Index) (o : Offset) (r : Argument) → o ≡ O.Index x → x.signed ≡ false → meaning r.expr ≡ T.concatenation (T.literal (Zero ∷ []) ∷ meaning x.expr ∷ []) → r.bits ≡ suc x.width
    → IsArgument o r
unsigned-argument x o r is sign same bits z sc v has =
    let h = subst (λ y. IsOffset y z sc v) is has in
    passed-by (meaning r.expr) _ r.bits (P.index_of h.index h.around) z sc v same h.number (unsigned-passed x h.index h.around sc v h.is r.bits sign bits)

pub sum-argument : (e : VExpr) (bits : ℕ) (o : Offset) (r : Argument) → o ≡ O.Sum e bits → r.expr ≡ e → r.bits ≡ bits → IsArgument o r
sum-argument e bits o r is same size z sc v has =
    let h = subst (λ y. IsOffset y z sc v) is has in
    subst (λ w. IsPassed (meaning r.expr) w z sc v) (sym size) (passed-by (meaning r.expr) (meaning e) bits z z sc v (ap meaning same) refl (sum-passed (meaning e) bits z sc v h.0 h.1))

-- elements begin where an index says
plain-rank : (of : Layout) (up : Bool) (n : ℕ) (k : ℤ) → falls of ≡ true → origin of up n ≡ pos 0 → rank of (lowest_index of up k n) ≡ k
plain-rank of true n k down start =
    let zero : of.right ≡ pos 0 = sym (ap (λ b. cond b of.right (of.right -ℤ pos (n - 1))) down) ∙ start in
    ap (λ b. rank of (cond b k (k +ℤ pos (n - 1)))) down ∙ ap (λ b. cond b (k -ℤ of.right) (of.right -ℤ k)) down ∙ ap (λ r. k -ℤ r) zero ∙ nothing k
  where
    nothing : (x : ℤ) → x -ℤ pos 0 ≡ x
    nothing x = omega (arith, ints)
plain-rank of false n k down start =
    let zero : of.right +ℤ pos (n - 1) ≡ pos 0 = sym (ap (λ b. cond b (of.right +ℤ pos (n - 1)) of.right) down) ∙ start in
    ap (λ b. rank of (cond b (k -ℤ pos (n - 1)) k)) down ∙ ap (λ b. cond b ((k -ℤ pos (n - 1)) -ℤ of.right) (of.right -ℤ (k -ℤ pos (n - 1)))) down ∙ regroup k (pos (n - 1)) of.right zero
  where
    regroup : (x y r : ℤ) → r +ℤ y ≡ pos 0 → (x -ℤ y) -ℤ r ≡ x
    regroup x y r e = omega (arith, ints)

times-one : (k : ℤ) → k *ℤ pos 1 ≡ k
times-one k = grind (arith, ints)

pub plain-begins : (of : Layout) (up : Bool) (n : ℕ) → falls of ≡ true → length of.element.two_state ≡ 1 → origin of up n ≡ pos 0 → (z : Option ℤ) → begins of up n z ≡ z
plain-begins of up n down one start None = refl
plain-begins of up n down one start (Some k) =
    ap (λ r. Some (r *ℤ pos (length of.element.two_state))) (plain-rank of up n k down start) ∙ ap (λ w. Some (k *ℤ pos w)) one ∙ ap Some (times-one k)

pub plain-offset : (x : Index) (t : SvType) (up : Bool) (n : ℕ) (o : Offset) → o ≡ O.Index x → ((z : Option ℤ) → begins (layout t) up n z ≡ z) → IsOffsetOf x t up n o
plain-offset x t up n o is plain i a sc v h some =
    subst (λ y. IsOffset y (begins (layout t) up n (P.index_of i a)) sc v) (sym is)
    (record { index = i; around = a; is = h; number = sym (plain (P.index_of i a)) })

-- a number that fits so many bits and a sign
pub fits-abs : (w : ℕ) (n : ℤ) → unsigned_abs n < 2 ^ w → FitsSigned w n
fits-abs w (pos m) h = record { above = omega (arith, ints); below = omega (arith, ints) }
fits-abs w (negsuc m) h = record { above = omega (arith, ints); below = omega (arith, ints) }

pub ruleset fitting = (fits-abs)

pub above-term : (b : Bool) (m e : T.Meaning) (w : ℕ) (n : ℤ) → b ≡ true → e ≡ terms.above m w n → e ≡ distance_term b m w n
above-term b m e w n is same = same ∙ sym (ap (λ x. distance_term x m w n) is)

pub under-term : (b : Bool) (m e : T.Meaning) (w : ℕ) (n : ℤ) → b ≡ false → e ≡ terms.under m w n → e ≡ distance_term b m w n
under-term b m e w n is same = same ∙ sym (ap (λ x. distance_term x m w n) is)

-- by arithmetic: room for so many times the distance from where elements begin at the lowest one
room-for : (item q j p : ℕ) → item ≤ 2 ^ j → p ≡ (q + 1) + j → item * (2 * 2 ^ q) ≤ 2 ^ p
room-for item q j p few is =
    let most = mul-le item (2 * 2 ^ q) (2 ^ j) (2 * 2 ^ q) few (omega arith) in
    let sum : 2 ^ p ≡ 2 ^ suc q * 2 ^ j = ap (λ k. 2 ^ k) (is ∙ ap (λ k. k + j) (omega arith)) ∙ pow-add 2 (suc q) j in
    let one = pow-suc 2 q in
    let turn : 2 ^ j * (2 * 2 ^ q) ≡ 2 ^ suc q * 2 ^ j = grind arith in
    omega arith

power-more : (m n : ℕ) → m ≤ n → 2 ^ m ≤ 2 ^ n
power-more m n less =
    let k = n - m in
    let same : 2 ^ n ≡ 2 ^ m * 2 ^ (n - m) = ap (λ x. 2 ^ x) (omega arith) ∙ pow-add 2 m (n - m) in
    let most = mul-le (2 ^ m) 1 (2 ^ m) (2 ^ (n - m)) (omega arith) (positive (n - m)) in
    omega arith
  where
    positive : (x : ℕ) → 1 ≤ 2 ^ x
    positive zero = omega arith
    positive (suc x) = (let rest = positive x in let power = pow-suc 2 x in omega arith)

fits-more : (m n : ℕ) (k : ℤ) → m ≤ n → FitsSigned m k → FitsSigned n k
fits-more m n k less h = (let more = power-more m n less in let low = h.above in let high = h.below in record { above = omega (arith, ints); below = omega (arith, ints) })

module _ (t : SvType) (up : Bool) (n : ℕ) (x : Index) (y : Argument) (item r q j bits : ℕ) (start : ℤ) (expr : T.Meaning) (number : IsSignedIndex x (meaning y.expr) y.bits)
    (item_is : item ≡ length (layout t).element.two_state) (start_is : start ≡ origin (layout t) up n) (fits : FitsSigned r start) (few : item ≤ 2 ^ j)
    (q_is : q ≡ max r y.bits) (bits_is : bits ≡ (q + 2) + j) where
  sum-by : (b : Bool) (i : Option ℤ) (p : ℕ) (sc : Scope) (v : Valuation) → falls (layout t) ≡ b → bits ≡ suc p → IsIndex i (meaning y.expr) y.bits sc v → 1 ≤ item
      → IsSignedOffset (begins (layout t) up n i) (terms.scaled (distance_term b (T.signing true (meaning y.expr)) (suc p) (origin (layout t) up n)) (length (layout t).element.two_state) (suc p)) (suc p) sc v
  sum-by true i p sc v down wide index some =
      let long = index.long in
      falling-offset (layout t) up n p q i (meaning y.expr) sc v (wider-index i (meaning y.expr) y.bits (suc p) sc v (omega arith) index) (omega arith)
      (subst (FitsSigned q) start_is (fits-more r q start (omega arith) fits)) (subst (λ k. 1 ≤ k) item_is some)
      (subst (λ k. k * (2 * 2 ^ q) ≤ 2 ^ p) item_is (room-for item q j p few (omega arith))) down
  sum-by false i p sc v rise wide index some =
      let long = index.long in
      rising-offset (layout t) up n p q i (meaning y.expr) sc v (wider-index i (meaning y.expr) y.bits (suc p) sc v (omega arith) index) (omega arith)
      (subst (FitsSigned q) start_is (fits-more r q start (omega arith) fits)) (subst (λ k. 1 ≤ k) item_is some)
      (subst (λ k. k * (2 * 2 ^ q) ≤ 2 ^ p) item_is (room-for item q j p few (omega arith))) rise

  pub sum-offset : (e : VExpr) (o : Offset) (b : Bool) → b ≡ falls (layout t) → o ≡ O.Sum e bits
      → meaning e ≡ terms.scaled (distance_term b (T.signing true (meaning y.expr)) bits start) item bits → IsOffsetOf x t up n o
  sum-offset e o b falls_is is same i a sc v h some =
      let p = (q + 1) + j in
      let wide : bits ≡ suc ((q + 1) + j) = omega arith in
      let many : 1 ≤ item = omega arith in
      let made = sum-by b (P.index_of i a) p sc v (sym falls_is) wide (number i a sc v h) many in
      let term : meaning e ≡ terms.scaled (distance_term b (T.signing true (meaning y.expr)) (suc p) (origin (layout t) up n)) (length (layout t).element.two_state) (suc p) =
      same ∙ (λ d. terms.scaled (distance_term b (T.signing true (meaning y.expr)) (wide d) (start_is d)) (item_is d) (wide d)) in
      subst (λ z. IsOffset z (begins (layout t) up n (P.index_of i a)) sc v) (sym is)
      (subst (λ k. IsSignedOffset (begins (layout t) up n (P.index_of i a)) (meaning e) k sc v) (sym wide) (subst (λ u. IsSignedOffset (begins (layout t) up n (P.index_of i a)) u (suc p) sc v) (sym term) made), omega arith)

-- by bounds
pub origin-is : (of : Layout) (left right : ℤ) (up : Bool) (n : ℕ) → left ≡ of.left → right ≡ of.right → origin_by right (int_le right left) up n ≡ origin of up n
origin-is of left right true n l r = λ i. cond (int_le (r i) (l i)) (r i) (r i -ℤ pos (n - 1))
origin-is of left right false n l r = λ i. cond (int_le (r i) (l i)) (r i +ℤ pos (n - 1)) (r i)

pub falls-by : (of : Layout) (left right : ℤ) (b c : Bool) → left ≡ of.left → right ≡ of.right → b ≡ int_le right left → b ≡ c → falls of ≡ c
falls-by of left right b c l r is same = (λ i. int_le (sym r i) (sym l i)) ∙ sym is ∙ same
