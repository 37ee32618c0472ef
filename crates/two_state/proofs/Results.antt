-- The value of each kind of helper.
use Rattle.std.proofs.Common.{◌≡◌, ℕ, zero, suc, ◌+◌, ◌-◌, ◌<◌, ◌≤◌, true, false, ◌&&◌, pos, length, map, replicate, List, [], ◌∷◌, ◌++◌, Some, None, refl, arith, sym, ◌∙◌, subst, ap, append_assoc}
use Rattle.std.specs.Prelude.{slice_index_or}
use Rattle.b4_core.specs.declared.bit.Bit4.{Bit4}
use Rattle.b4_core.specs.declared.bit.Bit4.TheVariants.{Zero, One, X, Z}
use Rattle.b4_core.specs.declared.operators.BinOp.TheVariants as B
use Rattle.b4_core.specs.declared.operators.EqOp.TheVariants.{Case, Wild}
use Rattle.b4_core.specs.declared.operators.RedOp.TheVariants as R
use Rattle.b4_core.specs.declared.operators.UnOp.TheVariants as U
use Rattle.b4_core.specs.Bits.{two_state4, not4, or4, xnor4}
use Rattle.b4_core.specs.Bitwise.{all4}
use Rattle.b4_core.specs.Compare.{equality, wild4}
use Rattle.b4_core.specs.Vectors.{ext, bitwise}
use Rattle.row_machine.specs.Valuation.{Valuation}
use Rattle.picks.specs.Windows.{whole, nowhere, part, picked, bit_at, tabulated, seen}
use Rattle.sv_types.specs.Layouts.{stored}
use Rattle.sv_types.proofs.Picks.{picked-part, tabulated-same, length-tabulated}
use Rattle.sv_types.proofs.ReadLaws.{tabulated-list}
use Rattle.v_build.specs.Trees.{meanings}
use Rattle.v_tree.specs.Names.{Name}
use Rattle.v_tree.specs.declared.expressions.VExpr.{VExpr}
use Rattle.v_tree.specs.declared.expressions.VExtent.TheVariants.{Up}
use Rattle.v_meaning.specs.Scopes.{Scope, Named}
use Rattle.v_meaning.specs.Selects.{SelMeaning}
use Rattle.v_meaning.specs.Values as T
use Rattle.v_meaning.specs.Values.{Meaning, decimal_base, expression_base, number_of}
use Rattle.lowering_laws.specs.Helpers.{from_offset}
use Rattle.lowering_laws.proofs.Extensions.{ext-at}
use Rattle.lowering_laws.proofs.Held.{picked-in}
use Rattle.two_state.specs.Kinds.{vector, other, bit, each, is_set, matching}
use Rattle.two_state.proofs.Calls.{IsBound}

-- an expression's width and value alone
pub record IsAlone (m : Meaning) (c : List Bit4) (sc : Scope) (u : Valuation) : Type 0 where
  pub width : m.width sc ≡ length c
  pub value : T.alone m sc u ≡ c

-- A name that is bound.
module _ (name : Name) (w : ℕ) (x : List Bit4) (sc : Scope) (u : Valuation) (b : IsBound name w x sc u) where
  abbrev own : Named
  own = record { name = b.own; number = b.number; width = w; words = None }

  pub reference-width : (sels : List SelMeaning) → (T.reference name sels).width sc ≡ T.width_of own sels
  unfolding T.reference
  reference-width sels = ap (λ (n : Named). T.width_of n sels) b.is

  pub reference-value : (sels : List SelMeaning) → T.alone (T.reference name sels) sc u ≡ T.value_of own sels sc u
  unfolding T.reference
  reference-value sels =
      ap (λ (n : Named). ext (T.width_of n sels) false (T.value_of n sels sc u)) b.is ∙ ext-at (T.width_of own sels) false (T.value_of own sels sc u) (length-tabulated (T.width_of own sels) _)

  pub reference-unsigned : (sels : List SelMeaning) → (T.reference name sels).signed ≡ false
  unfolding T.reference
  reference-unsigned sels = refl

  whole-seen : (y : List Bit4) (k : ℕ) → length y ≡ k → seen y (whole k) k ≡ y
  whole-seen y k long =
      tabulated-same k _ (λ j. slice_index_or y j X) (λ j h. ap (bit_at y) (at j h))
      ∙ sym (ap (λ n. tabulated n (λ j. slice_index_or y j X)) long) ∙ tabulated-list y
    where
      at : (j : ℕ) → j < k → picked (whole k) j ≡ Some j
      at j h = (let e : 0 + j ≡ j = omega arith in sym (ap (picked (whole k)) e) ∙ picked-in 0 k j (omega arith) ∙ ap Some e)

  -- all of it
  pub whole-alone : IsAlone (T.reference name []) x sc u
  whole-alone = record {
    width = reference-width [] ∙ sym b.long;
    value = reference-value [] ∙ ap (λ y. seen y (whole w) w) b.holds ∙ whole-seen x w b.long;
  }

  -- one bit
  pub bit-alone : (i : ℕ) → i < w → IsAlone (bit name i) (slice_index_or x i X ∷ []) sc u
  bit-alone i h =
      let at : picked (part (pos i) 1 (whole w)) 0 ≡ Some i = picked-part i 1 (whole w) 0 (omega arith) ∙ picked-in i w 0 (omega arith) ∙ (let e : i + 0 ≡ i = omega arith in ap Some e) in
      record {
        width = reference-width (decimal_base i None ∷ []);
        value = reference-value (decimal_base i None ∷ []) ∙ (λ k. bit_at (b.holds k) (at k) ∷ []);
      }

-- An offset of another name.
pub slide-alone : (n w d : ℕ) (x o : List Bit4) (sc : Scope) (u : Valuation) → IsBound vector w x sc u → IsBound other d o sc u
    → IsAlone (T.reference vector (expression_base (T.signing true (T.reference other [])) (Some (Up n)) ∷ [])) (from_offset n w x o) sc u
unfolding T.signing
slide-alone n w d x o sc u b c =
    let sel = expression_base (T.signing true (T.reference other [])) (Some (Up n)) in
    record {
      width = reference-width vector w x sc u b (sel ∷ []) ∙ sym (length-tabulated n _);
      value =
          reference-value vector w x sc u b (sel ∷ [])
          ∙ (λ i. seen (b.holds i) (elim (number_of true (offset i)) [ None ↦ nowhere | Some k ↦ part k n (whole w) ]) n);
    }
  where
    offset : T.alone (T.signing true (T.reference other [])) sc u ≡ o
    offset =
        let a = whole-alone other d o sc u c in
        let long = c.long in
        (λ i. ext (a.width i) true (a.value i)) ∙ ext-at (length o) true o refl

-- Bits of one bit.
module _ (m n : Meaning) (p q : Bit4) (sc : Scope) (u : Valuation) (h : IsAlone m (p ∷ []) sc u) (g : IsAlone n (q ∷ []) sc u) (m_unsigned : m.signed ≡ false) (n_unsigned : n.signed ≡ false) where
  wide : T.larger m n sc ≡ 1
  wide = (let x = h.width in let y = g.width in omega arith)

  first : m.value 1 false sc u ≡ p ∷ []
  first = sym (λ i. m.value (h.width i) (m_unsigned i) sc u) ∙ h.value

  second : n.value 1 false sc u ≡ q ∷ []
  second = sym (λ i. n.value (g.width i) (n_unsigned i) sc u) ∙ g.value

  unsigned : (m.signed && n.signed) ≡ false
  unsigned = ap (λ b. b && n.signed) m_unsigned

  pub case-alone : IsAlone (T.equal Case m n) (equality Case (p ∷ []) (q ∷ []) ∷ []) sc u
  unfolding T.equal
  case-alone = record {
    width = refl;
    value =
        (λ i. ext 1 false (equality Case (m.value (wide i) (unsigned i) sc u) (n.value (wide i) (unsigned i) sc u) ∷ []))
        ∙ (λ i. ext 1 false (equality Case (first i) (second i) ∷ [])) ∙ ext-at 1 false (equality Case (p ∷ []) (q ∷ []) ∷ []) refl;
  }

  pub or-alone : IsAlone (T.binary B.Or m n) (or4 p q ∷ []) sc u
  unfolding T.binary
  or-alone = record {
    width = wide;
    value = (λ i. bitwise or4 (m.value (wide i) (unsigned i) sc u) (n.value (wide i) (unsigned i) sc u)) ∙ (λ i. bitwise or4 (first i) (second i));
  }

  pub xnor-alone : IsAlone (T.binary B.Xnor m n) (xnor4 p q ∷ []) sc u
  unfolding T.binary
  xnor-alone = record {
    width = wide;
    value = (λ i. bitwise xnor4 (m.value (wide i) (unsigned i) sc u) (n.value (wide i) (unsigned i) sc u)) ∙ (λ i. bitwise xnor4 (first i) (second i));
  }

pub not-alone : (m : Meaning) (p : Bit4) (sc : Scope) (u : Valuation) → IsAlone m (p ∷ []) sc u → IsAlone (T.unary U.Not m) (not4 p ∷ []) sc u
unfolding T.unary
not-alone m p sc u h = record { width = h.width; value = ap (map not4) h.value }

literal-alone : (b : Bit4) (sc : Scope) (u : Valuation) → IsAlone (T.literal (b ∷ [])) (b ∷ []) sc u
unfolding T.literal
literal-alone b sc u = record { width = refl; value = ext-at 1 false (b ∷ []) refl }

literal-unsigned : (b : Bit4) → (T.literal (b ∷ [])).signed ≡ false
unfolding T.literal
literal-unsigned b = refl

equal-unsigned : (m n : Meaning) → (T.equal Case m n).signed ≡ false
unfolding T.equal
equal-unsigned m n = refl

binary-unsigned : (m n : Meaning) → m.signed ≡ false → (T.binary B.Xnor m n).signed ≡ false
unfolding T.binary
binary-unsigned m n h = ap (λ b. b && n.signed) h

unary-unsigned : (m : Meaning) → m.signed ≡ false → (T.unary U.Not m).signed ≡ false
unfolding T.unary
unary-unsigned m h = h

-- Lists of one bit each.
tabulated-last : (n : ℕ) (f : ℕ → Bit4) → tabulated n f ++ f n ∷ [] ≡ tabulated (suc n) f
tabulated-last zero f = refl
tabulated-last (suc n) f = ap (λ v. f 0 ∷ v) (tabulated-last n (λ k. f (suc k)))

each-joined : (f : ℕ → Meaning) (g : ℕ → Bit4) (n k : ℕ) (sc : Scope) (u : Valuation) → k ≤ n → ((i : ℕ) → i < n → IsAlone (f i) (g i ∷ []) sc u)
    → (T.joined_width (each f k) sc ≡ k) × (T.joined (each f k) sc u ≡ tabulated k g)
each-joined f g n zero sc u h all = (refl, refl)
each-joined f g n (suc k) sc u h all =
    let rest = each-joined f g n k sc u (omega arith) all in
    let one = all k (omega arith) in
    let width = one.width in
    let before = rest.0 in
    (omega arith, (λ i. rest.1 i ++ one.value i) ∙ tabulated-last k g)

pub each-alone : (f : ℕ → Meaning) (g : ℕ → Bit4) (n : ℕ) (sc : Scope) (u : Valuation) → ((i : ℕ) → i < n → IsAlone (f i) (g i ∷ []) sc u) → IsAlone (T.concatenation (each f n)) (tabulated n g) sc u
unfolding T.concatenation
each-alone f g n sc u all =
    let j = each-joined f g n n sc u (omega arith) all in
    let long = length-tabulated n g in
    record {
      width = j.0 ∙ sym long;
      value = (λ i. ext (j.0 i) false (j.1 i)) ∙ ext-at n false (tabulated n g) long;
    }

-- `v[i] === 1'b1` is 1 just where the bit is
set-bit : (b : Bit4) → equality Case (b ∷ []) (One ∷ []) ≡ two_state4 b
set-bit Zero = refl
set-bit One = refl
set-bit X = refl
set-bit Z = refl

stored-all : (w : ℕ) (x : List Bit4) → length x ≡ w → tabulated w (λ i. two_state4 (slice_index_or x i X)) ≡ stored (replicate w true) x
stored-all zero x h = refl
stored-all (suc w) [] h = absurd (omega arith)
stored-all (suc w) (b ∷ x) h = ap (λ v. two_state4 b ∷ v) (stored-all w x (omega arith))

pub two-state-alone : (w : ℕ) (x : List Bit4) (sc : Scope) (u : Valuation) → IsBound vector w x sc u → IsAlone (T.concatenation (each is_set w)) (stored (replicate w true) x) sc u
two-state-alone w x sc u b =
    subst (λ c. IsAlone (T.concatenation (each is_set w)) c sc u) (stored-all w x b.long)
    (each-alone is_set (λ i. two_state4 (slice_index_or x i X)) w sc u
    (λ i h. subst (λ (p : Bit4). IsAlone (is_set i) (p ∷ []) sc u) (set-bit (slice_index_or x i X))
    (case-alone (bit vector i) (T.literal (One ∷ [])) (slice_index_or x i X) One sc u (bit-alone vector w x sc u b i h) (literal-alone One sc u)
    (reference-unsigned vector w x sc u b (decimal_base i None ∷ [])) (literal-unsigned One))))

-- one bit of a wildcard comparison
wild-bit : (p q : Bit4) → or4 (equality Case (not4 q ∷ []) (X ∷ [])) (xnor4 p q) ≡ wild4 p q
wild-bit Zero Zero = refl
wild-bit Zero One = refl
wild-bit Zero X = refl
wild-bit Zero Z = refl
wild-bit One Zero = refl
wild-bit One One = refl
wild-bit One X = refl
wild-bit One Z = refl
wild-bit X Zero = refl
wild-bit X One = refl
wild-bit X X = refl
wild-bit X Z = refl
wild-bit Z Zero = refl
wild-bit Z One = refl
wild-bit Z X = refl
wild-bit Z Z = refl

wild-all : (w : ℕ) (x y : List Bit4) → length x ≡ w → length y ≡ w → tabulated w (λ i. wild4 (slice_index_or x i X) (slice_index_or y i X)) ≡ bitwise wild4 x y
wild-all zero [] [] h g = refl
wild-all zero [] (c ∷ y) h g = absurd (omega arith)
wild-all zero (b ∷ x) y h g = absurd (omega arith)
wild-all (suc w) [] y h g = absurd (omega arith)
wild-all (suc w) (b ∷ x) [] h g = absurd (omega arith)
wild-all (suc w) (b ∷ x) (c ∷ y) h g = ap (λ v. wild4 b c ∷ v) (wild-all w x y (omega arith) (omega arith))

match-alone : (w i : ℕ) (x y : List Bit4) (sc : Scope) (u : Valuation) → IsBound vector w x sc u → IsBound other w y sc u → i < w
    → IsAlone (matching i) (wild4 (slice_index_or x i X) (slice_index_or y i X) ∷ []) sc u
match-alone w i x y sc u b c h =
    let p = slice_index_or x i X in
    let q = slice_index_or y i X in
    let v_bit = bit-alone vector w x sc u b i h in
    let o_bit = bit-alone other w y sc u c i h in
    let v_plain = reference-unsigned vector w x sc u b (decimal_base i None ∷ []) in
    let o_plain = reference-unsigned other w y sc u c (decimal_base i None ∷ []) in
    let wild = case-alone (T.unary U.Not (bit other i)) (T.literal (X ∷ [])) (not4 (slice_index_or y i X)) X sc u (not-alone (bit other i) (slice_index_or y i X) sc u o_bit) (literal-alone X sc u)
    (unary-unsigned (bit other i) o_plain) (literal-unsigned X) in
    let same = xnor-alone (bit vector i) (bit other i) (slice_index_or x i X) (slice_index_or y i X) sc u v_bit o_bit v_plain o_plain in
    subst (λ (r : Bit4). IsAlone (matching i) (r ∷ []) sc u) (wild-bit (slice_index_or x i X) (slice_index_or y i X))
    (or-alone (T.equal Case (T.unary U.Not (bit other i)) (T.literal (X ∷ []))) (T.binary B.Xnor (bit vector i) (bit other i))
    (equality Case (not4 (slice_index_or y i X) ∷ []) (X ∷ [])) (xnor4 (slice_index_or x i X) (slice_index_or y i X)) sc u wild same
    (equal-unsigned (T.unary U.Not (bit other i)) (T.literal (X ∷ []))) (binary-unsigned (bit vector i) (bit other i) v_plain))

pub wild-alone : (w : ℕ) (x y : List Bit4) (sc : Scope) (u : Valuation) → IsBound vector w x sc u → IsBound other w y sc u
    → IsAlone (T.reduce R.And (T.concatenation (each matching w))) (equality Wild x y ∷ []) sc u
unfolding T.reduce
wild-alone w x y sc u b c =
    let all = each-alone matching (λ i. wild4 (slice_index_or x i X) (slice_index_or y i X)) w sc u (λ i h. match-alone w i x y sc u b c h) in
    record {
      width = refl;
      value = (λ i. ext 1 false (all4 ((all.value ∙ wild-all w x y b.long c.long) i) ∷ [])) ∙ ext-at 1 false (equality Wild x y ∷ []) refl;
    }

-- a list that gets the expressions of all bits, from the top down
meanings-both : (xs ys : List VExpr) → meanings (xs ++ ys) ≡ meanings xs ++ meanings ys
meanings-both [] ys = refl
meanings-both (x ∷ xs) ys = ap (λ ms. T.meaning x ∷ ms) (meanings-both xs ys)

each-next : (f : ℕ → Meaning) (n r : ℕ) → n ≡ suc r → each f n ≡ f r ∷ each f r
each-next f n r h = ap (each f) h

pub each-step : (f : ℕ → Meaning) (made new : List VExpr) (x : VExpr) (r w : ℕ) → 0 < r → new ≡ made ++ x ∷ [] → T.meaning x ≡ f (r - 1) → meanings made ++ each f r ≡ each f w
    → meanings new ++ each f (r - 1) ≡ each f w
each-step f made new x r w some grown is before =
    ap (λ l. meanings l ++ each f (r - 1)) grown
    ∙ ap (λ l. l ++ each f (r - 1)) (meanings-both made (x ∷ []))
    ∙ append_assoc (meanings made) (T.meaning x ∷ []) (each f (r - 1))
    ∙ ap (λ m. meanings made ++ m ∷ each f (r - 1)) is
    ∙ sym (ap (λ l. meanings made ++ l) (each-next f r (r - 1) (omega arith)))
    ∙ before
