-- The meaning of a lowered expression is that of the expression, name for number.
use Rattle.std.proofs.Common.{◌≡◌, ℕ, zero, suc, ◌+◌, ◌<◌, Bool, true, false, ◌&&◌, cond, pos, int_le, int_lt, max, List, [], ◌∷◌, ◌++◌, map, length, slice_index_or, Some, None, refl, sym, ap, subst, ◌∙◌, inl, arith, append-nil}
use Rattle.std.proofs.lemmas.Bool.Decides.{nat_tests}
use Rattle.b4_core.specs.declared.bit.Bit4.{Bit4}
use Rattle.b4_core.specs.declared.bit.Bit4.TheVariants.{X}
use Rattle.b4_core.specs.declared.operators.BinOp.{BinOp}
use Rattle.b4_core.specs.declared.operators.BinOp.TheVariants as O
use Rattle.b4_core.specs.declared.operators.UnOp.TheVariants.{Not}
use Rattle.b4_core.specs.Vectors.{ext}
use Rattle.b4_core.specs.Unary.{unary_value}
use Rattle.b4_core.specs.Binary.{binary_value}
use Rattle.row_machine.specs.Valuation.{Member, Valuation}
use Rattle.row_machine.specs.Places.{bits_from, vector_at}
use Rattle.row_machine.proofs.Members.{member-front, member-back}
use Rattle.picks.specs.Windows.{whole, picked, bit_at, tabulated, seen}
use Rattle.sv_types.proofs.OperatorLengths.{length-ext, length-unary, length-binary}
use Rattle.sv_types.proofs.Picks.{tabulated-same}
use Rattle.sv_core.specs.declared.design.Signal.{Signal}
use Rattle.sv_core.specs.declared.design.Primary.{Primary}
use Rattle.sv_core.specs.declared.design.Primary.TheVariants as P
use Rattle.sv_core.specs.declared.design.Expr.{Expr}
use Rattle.sv_core.specs.declared.design.Expr.TheVariants as D
use Rattle.sv_core.specs.Value.{primary_width, primary_value, inverted_if, operand_value, width_alone, value_at}
use Rattle.sv_core.specs.Statements.{width_of, held_at, primary_signals, expr_signals}
use Rattle.v_tree.specs.Names.{Name}
use Rattle.v_tree.specs.declared.expressions.VPrim.{VPrim, fold-VPrim}
use Rattle.v_tree.specs.declared.expressions.VExpr.TheVariants as E
use Rattle.v_tree.specs.declared.operators.VUnaryOp.TheVariants as V
use Rattle.v_meaning.specs.Scopes.{Named, Scope, Use, named}
use Rattle.v_meaning.specs.Selects.{SelMeaning}
use Rattle.v_meaning.specs.Values as T
use Rattle.v_meaning.specs.Values.{Meaning, meaning, expr_step, prim_step, sel_step}
use Rattle.lower_design.specs.Shape.{name_of, whole_of}
use Rattle.lower_design.specs.Lowered.{parenthesized, alone, operator_of, lowered_primary, lowered_operand, lowered_expr}
use Rattle.lower_design.proofs.Levels.{number-level, name-level, paren-level, prim-level, unary-level, binary-level}

abbrev pub prim_means : VPrim → Meaning
prim_means = fold-VPrim Meaning Meaning SelMeaning expr_step prim_step sel_step

-- all bits of a vector are the vector
bits-tabulated : (v : Valuation) (n k w : ℕ) → bits_from v n k w ≡ tabulated w (λ j. v (record { signal = n; bit = k + j }))
bits-tabulated v n k zero = refl
bits-tabulated v n k (suc w) =
    let first : k ≡ k + 0 = omega arith in
    (λ i. v (record { signal = n; bit = first i }) ∷ bits-tabulated v n (suc k) w i)
    ∙ ap (λ bs. v (record { signal = n; bit = k + 0 }) ∷ bs) (tabulated-same w _ _ (λ j h. let next : suc k + j ≡ k + suc j = omega arith in ap (λ b. v (record { signal = n; bit = b })) next))

bit-of-bits : (v : Valuation) (n k w j : ℕ) → j < w → slice_index_or (bits_from v n k w) j X ≡ v (record { signal = n; bit = k + j })
bit-of-bits v n k zero j h = absurd (omega arith)
bit-of-bits v n k (suc w) zero h = let first : k ≡ k + 0 = omega arith in ap (λ b. v (record { signal = n; bit = b })) first
bit-of-bits v n k (suc w) (suc j) h =
    let next : suc k + j ≡ k + suc j = omega arith in
    bit-of-bits v n (suc k) w j (omega arith) ∙ ap (λ b. v (record { signal = n; bit = b })) next

picked-whole : (w j : ℕ) → j < w → picked (whole w) j ≡ Some j
picked-whole w j h = (let e : j + 0 ≡ j = omega arith in ap (λ c. cond c (Some (j + 0)) None) (test j w h) ∙ ap Some e)
  where
    test : (k n : ℕ) → k < n → (int_le (pos 0) (pos (k + 0)) && int_lt (pos (k + 0)) (pos n)) ≡ true
    test k n less = (let e : k + 0 < n = omega arith in grind (arith, nat_tests))

seen-whole : (v : Valuation) (n w : ℕ) → seen (vector_at v n w) (whole w) w ≡ vector_at v n w
seen-whole v n w =
    tabulated-same w _ _ (λ j h. ap (bit_at (vector_at v n w)) (picked-whole w j h) ∙ bit-of-bits v n 0 w j h)
    ∙ sym (bits-tabulated v n 0 w)

-- a value has the width of its context
length-primary : (held : ℕ → List Bit4) (w : ℕ) (p : Primary) → length (primary_value held w p) ≡ w
length-primary held w (P.Signal n) = length-ext w false (held n)
length-primary held w (P.Literal bits) = length-ext w false bits

length-operand : (held : ℕ → List Bit4) (w : ℕ) (inverted : Bool) (p : Primary) → length (inverted_if inverted (primary_value held w p)) ≡ w
length-operand held w true p = length-unary Not (primary_value held w p) ∙ length-primary held w p
length-operand held w false p = length-primary held w p

pub length-value : (held : ℕ → List Bit4) (w : ℕ) (x : Expr) → length (value_at held w x) ≡ w
length-value held w (D.Single a) = length-operand held w a.inverted a.primary
length-value held w (D.Binary op a b) =
    length-binary op false (operand_value held w a) (operand_value held w b) w (length-operand held w a.inverted a.primary) (length-operand held w b.inverted b.primary)

pub map-append : {A B : Type 0} (f : A → B) (xs ys : List A) → map f (xs ++ ys) ≡ map f xs ++ map f ys
map-append f [] ys = refl
map-append f (x ∷ xs) ys = ap (λ zs. f x ∷ zs) (map-append f xs ys)

operator-means : (op : BinOp) → T.binary_meaning (operator_of op) ≡ T.binary op
operator-means O.And = refl
operator-means O.Or = refl
operator-means O.Xor = refl
operator-means O.Xnor = refl
operator-means O.Add = refl
operator-means O.Sub = refl
operator-means O.Mul = refl
operator-means O.Div = refl
operator-means O.Rem = refl

module _ (ss : List Signal) (sc : Scope) where
  abbrev pub name : ℕ → Name
  name n = name_of ss n

  -- the look-up of a signal's name finds the image of its number
  abbrev pub image : ℕ → Named
  image n = record { name = name n; number = n; width = width_of ss n; words = None }

  abbrev pub Found : ℕ → Type 0
  Found n = named sc.names (name n) ≡ image n

  abbrev pub AllFound : List ℕ → Type 0
  AllFound ns = (n : ℕ) → Member ns n → Found n

  pub found-front : (xs ys : List ℕ) → AllFound (xs ++ ys) → AllFound xs
  found-front xs ys f n m = f n (member-front xs ys n m)

  pub found-back : (xs ys : List ℕ) → AllFound (xs ++ ys) → AllFound ys
  found-back xs ys f n m = f n (member-back xs ys n m)

  -- the numbers that the names of signals stand for, and all their bits
  abbrev pub number_named : ℕ → ℕ
  number_named n = (named sc.names (name n)).number

  abbrev pub use_named : ℕ → Use
  use_named n = whole_of sc (name n)

  -- an unsigned meaning that names these signals, and has this width and value where they are found
  pub record Means (m : Meaning) (ns : List ℕ) (w : ℕ) (gives : ℕ → Valuation → List Bit4) : Type 0 where
    pub signed : m.signed ≡ false
    pub names : m.names sc ≡ map number_named ns
    pub reads : m.reads sc ≡ map use_named ns
    pub width : AllFound ns → m.width sc ≡ w
    pub value : AllFound ns → (k : ℕ) (v : Valuation) → m.value k false sc v ≡ gives k v

  literal-means : (bits : List Bit4) → Means (T.literal bits) [] (length bits) (λ k v. ext k false bits)
  unfolding T.literal
  literal-means bits = record { signed = refl; names = refl; reads = refl; width = λ f. refl; value = λ f k v. refl }

  reference-means : (n : ℕ) → Means (T.reference (name n) []) (n ∷ []) (width_of ss n) (λ k v. ext k false (held_at ss v n))
  unfolding T.reference
  reference-means n = record {
    signed = refl;
    names = refl;
    reads = refl;
    width = λ f. ap (λ x. T.width_of x []) (f n (inl refl));
    value = λ f k v. ap (λ x. ext k false (T.value_of x [] sc v)) (f n (inl refl)) ∙ ap (ext k false) (seen-whole v n (width_of ss n));
  }

  inverse-means : (m : Meaning) (ns : List ℕ) (w : ℕ) (value : ℕ → Valuation → List Bit4) → Means m ns w value
      → Means (T.unary Not m) ns w (λ k v. unary_value Not (value k v))
  unfolding T.unary
  inverse-means m ns w value h = record {
    signed = h.signed;
    names = append-nil (m.names sc) ∙ h.names;
    reads = append-nil (m.reads sc) ∙ h.reads;
    width = h.width;
    value = λ f k v. ap (unary_value Not) (h.value f k v);
  }

  binary-means : (op : BinOp) (m n : Meaning) (ns ks : List ℕ) (w u : ℕ) (value value' : ℕ → Valuation → List Bit4) → Means m ns w value → Means n ks u value'
      → Means (T.binary op m n) (ns ++ ks) (max w u) (λ k v. binary_value op false (value k v) (value' k v))
  unfolding T.binary
  binary-means op m n ns ks w u value value' h g = record {
    signed = (λ i. h.signed i && g.signed i);
    names = (λ i. h.names i ++ (append-nil (n.names sc) ∙ g.names) i) ∙ sym (map-append number_named ns ks);
    reads = (λ i. h.reads i ++ (append-nil (n.reads sc) ∙ g.reads) i) ∙ sym (map-append use_named ns ks);
    width = λ f. (λ i. max (h.width (found-front ns ks f) i) (g.width (found-back ns ks f) i));
    value = λ f k v. (λ i. binary_value op false (h.value (found-front ns ks f) k v i) (g.value (found-back ns ks f) k v i));
  }

  abbrev operand_means : Bool → Primary → Meaning → Type 0
  operand_means inverted p m = Means m (primary_signals p) (primary_width (width_of ss) p) (λ k v. inverted_if inverted (primary_value (held_at ss v) k p))

  by : (m n : Meaning) (ns : List ℕ) (w : ℕ) (value : ℕ → Valuation → List Bit4) → n ≡ m → Means m ns w value → Means n ns w value
  by m n ns w value e h = subst (λ x. Means x ns w value) (sym e) h

  primary-means : (p : Primary) → operand_means false p (prim_means (lowered_primary ss p))
  primary-means (P.Signal n) = by _ _ _ _ _ (name-level Meaning Meaning SelMeaning expr_step prim_step sel_step (name n)) (reference-means n)
  primary-means (P.Literal bits) = by _ _ _ _ _ (number-level Meaning Meaning SelMeaning expr_step prim_step sel_step bits) (literal-means bits)

  inverted-means : (p : Primary) → operand_means true p (T.unary Not (prim_means (lowered_primary ss p)))
  inverted-means p = inverse-means (prim_means (lowered_primary ss p)) _ _ _ (primary-means p)

  unary-is : (p : VPrim) → meaning (E.Unary V.Not p) ≡ T.unary Not (prim_means p)
  unary-is p = unary-level Meaning Meaning SelMeaning expr_step prim_step sel_step V.Not p

  operand-means : (inverted : Bool) (p : Primary) → operand_means inverted p (prim_means (parenthesized inverted (lowered_primary ss p)))
  operand-means true p =
      by _ _ _ _ _ (paren-level Meaning Meaning SelMeaning expr_step prim_step sel_step (E.Unary V.Not (lowered_primary ss p)) ∙ unary-is (lowered_primary ss p)) (inverted-means p)
  operand-means false p = primary-means p

  alone-means : (inverted : Bool) (p : Primary) → operand_means inverted p (meaning (alone inverted (lowered_primary ss p)))
  alone-means true p = by _ _ _ _ _ (unary-is (lowered_primary ss p)) (inverted-means p)
  alone-means false p = by _ _ _ _ _ (prim-level Meaning Meaning SelMeaning expr_step prim_step sel_step (lowered_primary ss p)) (primary-means p)

  pub lowered-means : (x : Expr) → Means (meaning (lowered_expr ss x)) (expr_signals x) (width_alone (width_of ss) x) (λ k v. value_at (held_at ss v) k x)
  lowered-means (D.Single a) = alone-means a.inverted a.primary
  lowered-means (D.Binary op a b) =
      by _ _ _ _ _ (binary-level Meaning Meaning SelMeaning expr_step prim_step sel_step (operator_of op) (lowered_operand ss a) (lowered_operand ss b)
      ∙ ap (λ f. f (prim_means (lowered_operand ss a)) (prim_means (lowered_operand ss b))) (operator-means op))
      (binary-means op _ _ _ _ _ _ _ _ (operand-means a.inverted a.primary) (operand-means b.inverted b.primary))
