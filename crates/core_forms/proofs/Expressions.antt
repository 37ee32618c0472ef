-- The meaning of an expression is that of its core form.
use Rattle.std.proofs.Common.{◌≡◌, ℕ, zero, suc, ◌+◌, ◌-◌, ◌<◌, ◌≤◌, Bool, true, false, ◌&&◌, cond, pos, int_le, int_lt, max, take, List, [], ◌∷◌, ◌++◌, map, length, replicate, zip, slice_index_or, Option, Some, None, refl, sym, ap, subst, ◌∙◌, arith, append-nil}
use Rattle.std.proofs.lemmas.Bool.Decides.{nat_tests}
use Rattle.b4_core.specs.declared.bit.Bit4.{Bit4}
use Rattle.b4_core.specs.declared.bit.Bit4.TheVariants.{Zero, X}
use Rattle.b4_core.specs.declared.operators.UnOp.{UnOp}
use Rattle.b4_core.specs.declared.operators.UnOp.TheVariants as U
use Rattle.b4_core.specs.declared.operators.BinOp.{BinOp}
use Rattle.b4_core.specs.Vectors.{ext}
use Rattle.b4_core.specs.Unary.{unary_value}
use Rattle.b4_core.specs.Binary.{binary_value}
use Rattle.row_machine.specs.Valuation.{Place, Valuation}
use Rattle.row_machine.specs.Places.{bits_from, vector_at}
use Rattle.picks.specs.Windows.{whole, picked, bit_at, tabulated, seen}
use Rattle.sv_types.proofs.OperatorLengths.{length-ext, length-unary, length-binary}
use Rattle.sv_types.proofs.Picks.{tabulated-same}
use Rattle.sv_types.proofs.ReadLaws.{tabulated-list}
use Rattle.sv_types.proofs.Heads.{heads}
use Rattle.sv_types.proofs.Levels as L
use Rattle.sv_types.proofs.Levels.{form_meaning, meaning-form}
use Rattle.sv_types.specs.declared.types.SvType.{SvType}
use Rattle.sv_types.specs.declared.expression.Expr as X
use Rattle.sv_types.specs.declared.expression.Form.{Form, Form-F, out-Form, roll-Form, roll-out-Form}
use Rattle.sv_types.specs.declared.expression.Form.TheVariants as V
use Rattle.sv_types.specs.Layouts.{Layout, layout, stored, stored_bit}
use Rattle.sv_types.specs.Layouts as Layouts
use Rattle.sv_types.specs.Surroundings.{Around, Sight, Use}
use Rattle.sv_types.specs.Meanings.{Meaning, wide, signed, use_of}
use Rattle.sv_types.specs.Expressions.{meaning}
use Rattle.sv_types.specs.Operators as O
use Rattle.sv_types.specs.Paths as P
use Rattle.sv_core.specs.declared.design.Signal.{Signal}
use Rattle.sv_core.specs.declared.design.Primary.{Primary}
use Rattle.sv_core.specs.declared.design.Primary.TheVariants as PV
use Rattle.sv_core.specs.declared.design.Operand.{Operand}
use Rattle.sv_core.specs.declared.design.Expr.{Expr}
use Rattle.sv_core.specs.declared.design.Expr.TheVariants.{Single, Binary}
use Rattle.sv_core.specs.Value.{primary_width, primary_value, inverted_if, operand_value, width_alone, value_at}
use Rattle.sv_core.specs.Statements.{width_of, held_at, primary_signals, expr_signals}
use Rattle.core_forms.specs.Forms.{FormLayer, then_one, then_two, literal_of, primary_in, primary_of, operand_with, inverted_of, operand_in, operand_of, binary_with, expr_in, expr_of}
use Rattle.core_forms.specs.Typing.{IsVector, PrimaryIn, PrimaryTyped, OperandIn, OperandTyped, ExprIn, ExprTyped}

-- what is made of something is made of what is there
pub one-some : {A B : Type 0} (f : A → B) (o : Option A) (y : B) → then_one f o ≡ Some y → (x : A) × (o ≡ Some x) × (f x ≡ y)
one-some f None y e = cc
one-some f (Some x) y e = (x, refl, cc)

pub record TwoThere {A B C : Type 0} (f : A → B → C) (o : Option A) (p : Option B) (z : C) : Type 0 where
  pub first : A
  pub second : B
  pub first_is : o ≡ Some first
  pub second_is : p ≡ Some second
  pub made : f first second ≡ z

pub two-some : {A B C : Type 0} (f : A → B → C) (o : Option A) (p : Option B) (z : C) → then_two f o p ≡ Some z → TwoThere f o p z
two-some f None p z e = cc
two-some f (Some x) None z e = cc
two-some f (Some x) (Some y) z e = record { first = x; second = y; first_is = refl; second_is = refl; made = cc }

pub none-some : {A : Type 0} (x : A) → None ≡ Some x → ⊥
none-some x e = cc

-- vectors of four-state bits
pub length-alike : (w : ℕ) → length (replicate w false) ≡ w
length-alike zero = refl
length-alike (suc w) = ap suc (length-alike w)

pub length-vector : (v : Valuation) (n k w : ℕ) → length (bits_from v n k w) ≡ w
length-vector v n k zero = refl
length-vector v n k (suc w) = ap suc (length-vector v n (suc k) w)

pub stored-plain : (w : ℕ) (b : List Bit4) → length b ≡ w → stored (replicate w false) b ≡ b
stored-plain zero [] h = refl
stored-plain zero (x ∷ b) h = absurd (omega arith)
stored-plain (suc w) [] h = absurd (omega arith)
stored-plain (suc w) (x ∷ b) h = ap (λ c. x ∷ c) (stored-plain w b (omega arith))

picked-whole : (held : List Bit4) (n j : ℕ) → j < n → bit_at held (picked (whole n) j) ≡ slice_index_or held j X
picked-whole held n j h =
    let e : j + 0 ≡ j = omega arith in
    let test : (int_le (pos 0) (pos (j + 0)) && int_lt (pos (j + 0)) (pos n)) ≡ true = grind (arith, nat_tests) in
    ap (λ b. bit_at held (cond b (Some (j + 0)) None)) test ∙ ap (λ k. slice_index_or held k X) e

seen-all : (xs : List Bit4) → seen xs (whole (length xs)) (length xs) ≡ xs
seen-all xs =
    tabulated-same (length xs) (λ j. bit_at xs (picked (whole (length xs)) j)) (λ j. slice_index_or xs j X) (picked-whole xs (length xs))
    ∙ tabulated-list xs

pub seen-vector : (v : Valuation) (n w : ℕ) → seen (vector_at v n w) (whole w) w ≡ vector_at v n w
seen-vector v n w = (λ i. seen (vector_at v n w) (whole (sym (length-vector v n 0 w) i)) (sym (length-vector v n 0 w) i)) ∙ seen-all (vector_at v n w)

-- a value has the width of its context
length-primary : (held : ℕ → List Bit4) (w : ℕ) (p : Primary) → length (primary_value held w p) ≡ w
length-primary held w (PV.Signal n) = length-ext w false (held n)
length-primary held w (PV.Literal bits) = length-ext w false bits

length-operand : (held : ℕ → List Bit4) (w : ℕ) (inverted : Bool) (p : Primary) → length (inverted_if inverted (primary_value held w p)) ≡ w
length-operand held w true p = length-unary U.Not (primary_value held w p) ∙ length-primary held w p
length-operand held w false p = length-primary held w p

pub length-value : (held : ℕ → List Bit4) (w : ℕ) (x : Expr) → length (value_at held w x) ≡ w
length-value held w (Single a) = length-operand held w a.inverted a.primary
length-value held w (Binary op a b) =
    length-binary op false (operand_value held w a) (operand_value held w b) w (length-operand held w a.inverted a.primary) (length-operand held w b.inverted b.primary)

-- a vector that is long enough is cut, once or twice, and its extension cuts it
take-whole : {A : Type 0} (n : ℕ) (v : List A) → length v ≤ n → take n v ≡ v
take-whole zero [] h = refl
take-whole (suc n) [] h = refl
take-whole zero (b ∷ v) h = absurd (omega arith)
take-whole (suc n) (b ∷ v) h = ap (λ x. b ∷ x) (take-whole n v (omega arith))

length-take : {A : Type 0} (n : ℕ) (v : List A) → n ≤ length v → length (take n v) ≡ n
length-take zero v h = refl
length-take (suc n) [] h = absurd (omega arith)
length-take (suc n) (b ∷ v) h = ap suc (length-take n v (omega arith))

pub take-long : (w : ℕ) (v : List Bit4) → w ≤ length v → (length (take w v) ≡ w) × (take w (take w v) ≡ take w v) × (ext w false v ≡ take w v)
take-long w v h =
    let l = length-take w v h in
    let none : w - length v ≡ 0 = omega arith in
    (l, take-whole w (take w v) (omega (arith, l)), ap (λ k. take w v ++ replicate k Zero) none ∙ append-nil (take w v))

-- no signal is known
abbrev pub Unsure : Sight → Type 0
Unsure k = (q : Place) → k.sure q ≡ false

abbrev pub numbers_of : List Use → List ℕ
numbers_of us = map (λ (u : Use). u.number) us

pub numbers-append : (us vs : List Use) → numbers_of (us ++ vs) ≡ numbers_of us ++ numbers_of vs
numbers-append [] vs = refl
numbers-append (u ∷ us) vs = ap (λ ns. u.number ∷ ns) (numbers-append us vs)

-- a layout of w four-state bits without a sign
pub record IsFlat (of : Layout) (w : ℕ) : Type 0 where
  pub four_state : of.two_state ≡ replicate w false
  pub unsigned : of.signed ≡ false

pub flat : (of : SvType) (w : ℕ) → IsVector of w → IsFlat (layout of) w
flat of w v = record { four_state = v.four_state; unsigned = v.unsigned }

pub flat-width : (of : Layout) (w : ℕ) → IsFlat of w → length of.two_state ≡ w
flat-width of w f = ap length f.four_state ∙ length-alike w

-- the width of an expression's type is that of its meaning
wide-is : (e : X.Expr) → Layouts.width_of e.of ≡ wide (meaning e)
wide-is e = ap (λ (y : Layout). length y.two_state) (sym (heads e).kind)

module _ (ss : List Signal) where
  -- what surroundings hold in each signal
  abbrev pub Looks : Around → Valuation → Type 0
  Looks a v = (n : ℕ) → vector_at a.now n (width_of ss n) ≡ held_at ss v n

  -- a meaning of w bits, which reads signals and has a value by what they hold
  pub record Means (m : Meaning) (w : ℕ) (ns : List ℕ) (value : (ℕ → List Bit4) → ℕ → List Bit4) : Type 0 where
    pub width : wide m ≡ w
    pub unsigned : signed m ≡ false
    pub no_stream : m.streams ≡ false
    pub value_is : (k : ℕ) (a : Around) (v : Valuation) → Looks a v → m.value k false a ≡ value (held_at ss v) k
    pub given_is : (k : ℕ) (a : Around) → m.given k a ≡ take k (m.value (max k (wide m)) (signed m) a)
    pub reads_are : (k : Sight) → Unsure k → numbers_of (m.reads k) ≡ ns

  signal-means : (of : Layout) (at n : ℕ) → IsFlat of (width_of ss n) → Means (P.signal of at n) (width_of ss n) (n ∷ []) (λ held k. ext k false (held n))
  unfolding P.signal
  signal-means of at n f =
      let w = width_of ss n in
      let long : length of.two_state ≡ w = flat-width of w f in
      record {
        width = long;
        unsigned = f.unsigned;
        no_stream = refl;
        value_is = λ k a v look.
            (λ i. ext k false (stored (f.four_state i) (seen (vector_at a.now n (long i)) (whole (long i)) (long i))))
            ∙ ap (λ b. ext k false (stored (replicate w false) b)) (seen-vector a.now n w)
            ∙ ap (ext k false) (stored-plain w (vector_at a.now n w) (length-vector a.now n 0 w))
            ∙ ap (ext k false) (look n);
        given_is = λ k a. refl;
        reads_are = λ k u. ap (λ b. numbers_of (cond b [] (use_of (Some n) at (record { window = whole (length of.two_state); exact = true })) ++ [])) (u (record { signal = n; bit = 0 }));
      }

  literal-means : (of : Layout) (at : ℕ) (bits : List Bit4) → IsFlat of (length bits) → Means (O.literal of at false bits) (length bits) [] (λ held k. ext k false bits)
  unfolding O.literal
  literal-means of at bits f = record {
    width = flat-width of (length bits) f;
    unsigned = f.unsigned;
    no_stream = refl;
    value_is = λ k a v look. refl;
    given_is = λ k a. refl;
    reads_are = λ k u. refl;
  }

  inverted-means : (of : Layout) (at : ℕ) (m : Meaning) (w : ℕ) (ns : List ℕ) (value : (ℕ → List Bit4) → ℕ → List Bit4) → IsFlat of w → Means m w ns value
      → Means (O.unary of at U.Not m) w ns (λ held k. unary_value U.Not (value held k))
  unfolding O.unary
  inverted-means of at m w ns value f h = record {
    width = flat-width of w f;
    unsigned = f.unsigned;
    no_stream = refl;
    value_is = λ k a v look. ap (unary_value U.Not) (h.value_is k a v look);
    given_is = λ k a. refl;
    reads_are = λ k u. ap numbers_of (append-nil (m.reads k)) ∙ h.reads_are k u;
  }

  binary-means : (of : Layout) (at : ℕ) (op : BinOp) (l r : Meaning) (w x : ℕ) (ns ks : List ℕ) (f g : (ℕ → List Bit4) → ℕ → List Bit4) → IsFlat of (max w x) → Means l w ns f → Means r x ks g
      → Means (O.binary of at op l r) (max w x) (ns ++ ks) (λ held k. binary_value op false (f held k) (g held k))
  unfolding O.binary
  binary-means of at op l r w x ns ks f g flat h j = record {
    width = flat-width of (max w x) flat;
    unsigned = flat.unsigned;
    no_stream = refl;
    value_is = λ k a v look i. binary_value op false (h.value_is k a v look i) (j.value_is k a v look i);
    given_is = λ k a. refl;
    reads_are = λ k u.
        numbers-append (l.reads k) (r.reads k ++ [])
        ∙ (λ i. h.reads_are k u i ++ (ap numbers_of (append-nil (r.reads k)) ∙ j.reads_are k u) i);
  }

  abbrev PrimaryMeans : Meaning → Primary → Type 0
  PrimaryMeans m p = Means m (primary_width (width_of ss) p) (primary_signals p) (λ held k. primary_value held k p)

  abbrev OperandMeans : Meaning → Operand → Type 0
  OperandMeans m a = Means m (primary_width (width_of ss) a.primary) (primary_signals a.primary) (λ held k. operand_value held k a)

  abbrev pub ExprMeans : Meaning → Expr → Type 0
  ExprMeans m x = Means m (width_alone (width_of ss) x) (expr_signals x) (λ held k. value_at held k x)

  -- an expression by the layer of its form
  pub by-form : (e : X.Expr) (x : FormLayer) (f : Form) (g : Layout → ℕ → Meaning) → out-Form e.form ≡ x → roll-Form x ≡ f → form_meaning f ≡ g → meaning e ≡ g (layout e.of) e.spot.at
  by-form e x f g out rolls is =
      meaning-form e ∙ ap (λ y. form_meaning y (layout e.of) e.spot.at) (sym (roll-out-Form e.form) ∙ ap roll-Form out ∙ rolls) ∙ ap (λ y. y (layout e.of) e.spot.at) is

  primary-means : (e : X.Expr) (p : Primary) → primary_of e ≡ Some p → PrimaryTyped (width_of ss) e → PrimaryMeans (meaning e) p
  primary-means e p is typed = by_layer (out-Form e.form) refl is typed
    where
      literal : (bits : List Bit4) (goes_on : Bool) → out-Form e.form ≡ Form-F.Literal bits goes_on → literal_of bits goes_on ≡ Some p → IsVector e.of (length bits) → PrimaryMeans (meaning e) p
      literal bits true out h t = absurd (none-some p h)
      literal bits false out h t =
          let same : PV.Literal bits ≡ p = cc in
          subst (PrimaryMeans (meaning e)) same
          (subst (λ m. PrimaryMeans m (PV.Literal bits)) (sym (by-form e _ _ _ out (V.rolls-Literal bits false) (L.form-Literal bits false)))
          (literal-means (layout e.of) e.spot.at bits (flat e.of (length bits) t)))

      by_layer : (x : FormLayer) → out-Form e.form ≡ x → primary_in x ≡ Some p → PrimaryIn (width_of ss) e.of x → PrimaryMeans (meaning e) p
      by_layer (Form-F.Signal n) out h t =
          let same : PV.Signal n ≡ p = cc in
          subst (PrimaryMeans (meaning e)) same
          (subst (λ m. PrimaryMeans m (PV.Signal n)) (sym (by-form e _ _ _ out (V.rolls-Signal n) (L.form-Signal n)))
          (signal-means (layout e.of) e.spot.at n (flat e.of (width_of ss n) t)))
      by_layer (Form-F.Literal bits goes_on) out h t = literal bits goes_on out h t
      by_layer _ out h t = absurd (none-some p h)

  operand-means : (e : X.Expr) (a : Operand) → operand_of e ≡ Some a → OperandTyped (width_of ss) e → OperandMeans (meaning e) a
  operand-means e a is typed = by_layer (out-Form e.form) refl is typed
    where
      alone : (x : FormLayer) → out-Form e.form ≡ x → then_one (operand_with false) (primary_of e) ≡ Some a → PrimaryIn (width_of ss) e.of x → OperandMeans (meaning e) a
      alone x out h t =
          let r = one-some (operand_with false) (primary_of e) a h in
          subst (OperandMeans (meaning e)) r.2 (primary-means e r.0 r.1 (subst (PrimaryIn (width_of ss) e.of) (sym out) t))

      inverted : (op : UnOp) (b : X.Expr) → out-Form e.form ≡ Form-F.Unary op b → inverted_of op b ≡ Some a → IsVector e.of (Layouts.width_of b.of) × PrimaryTyped (width_of ss) b → OperandMeans (meaning e) a
      inverted U.Neg b out h t = absurd (none-some a h)
      inverted U.Not b out h t =
          let r = one-some (operand_with true) (primary_of b) a h in
          let inner = primary-means b r.0 r.1 t.1 in
          let wide-b : Layouts.width_of b.of ≡ primary_width (width_of ss) r.0 = wide-is b ∙ inner.width in
          subst (OperandMeans (meaning e)) r.2
          (subst (λ m. OperandMeans m (operand_with true r.0)) (sym (by-form e _ _ _ out (V.rolls-Unary U.Not b) (L.form-Unary U.Not b)))
          (inverted-means (layout e.of) e.spot.at (meaning b) _ _ _ (subst (IsFlat (layout e.of)) wide-b (flat e.of (Layouts.width_of b.of) t.0)) inner))

      by_layer : (x : FormLayer) → out-Form e.form ≡ x → operand_in e x ≡ Some a → OperandIn (width_of ss) e.of x → OperandMeans (meaning e) a
      by_layer (Form-F.Unary op b) out h t = inverted op b out h t
      by_layer x out h t = alone x out h t

  pub expr-means : (e : X.Expr) (y : Expr) → expr_of e ≡ Some y → ExprTyped (width_of ss) e → ExprMeans (meaning e) y
  expr-means e y is typed = by_layer (out-Form e.form) refl is typed
    where
      single : (x : FormLayer) → out-Form e.form ≡ x → then_one Single (operand_of e) ≡ Some y → OperandIn (width_of ss) e.of x → ExprMeans (meaning e) y
      single x out h t =
          let r = one-some Single (operand_of e) y h in
          subst (ExprMeans (meaning e)) r.2 (operand-means e r.0 r.1 (subst (OperandIn (width_of ss) e.of) (sym out) t))

      between : (op : BinOp) (a b : X.Expr) → out-Form e.form ≡ Form-F.Binary op a b → then_two (binary_with op) (operand_of a) (operand_of b) ≡ Some y
          → IsVector e.of (max (Layouts.width_of a.of) (Layouts.width_of b.of)) × OperandTyped (width_of ss) a × OperandTyped (width_of ss) b → ExprMeans (meaning e) y
      between op a b out h t =
          let r = two-some (binary_with op) (operand_of a) (operand_of b) y h in
          let left = operand-means a r.first r.first_is t.1 in
          let right = operand-means b r.second r.second_is t.2 in
          let wide-both : max (Layouts.width_of a.of) (Layouts.width_of b.of) ≡ max (primary_width (width_of ss) (r.first).primary) (primary_width (width_of ss) (r.second).primary) =
          (λ i. max ((wide-is a ∙ left.width) i) ((wide-is b ∙ right.width) i)) in
          subst (ExprMeans (meaning e)) r.made
          (subst (λ m. ExprMeans m (Binary op r.first r.second)) (sym (by-form e _ _ _ out (V.rolls-Binary op a b) (L.form-Binary op a b)))
          (binary-means (layout e.of) e.spot.at op (meaning a) (meaning b) _ _ _ _ _ _ (subst (IsFlat (layout e.of)) wide-both (flat e.of _ t.0)) left right))

      by_layer : (x : FormLayer) → out-Form e.form ≡ x → expr_in e x ≡ Some y → ExprIn (width_of ss) e.of x → ExprMeans (meaning e) y
      by_layer (Form-F.Binary op a b) out h t = between op a b out h t
      by_layer x out h t = single x out h t
