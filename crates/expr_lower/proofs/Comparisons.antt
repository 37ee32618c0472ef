-- `$clog2` stands for the least power of two that its operand isn't above, found by halves.
use Rattle.std.proofs.Common.{◌≡◌, ◌⊎◌, inl, inr, ℕ, zero, suc, ◌+◌, ◌^◌, max, Bool, true, false, ◌&&◌, cond, pos, length, List, [], ◌∷◌, ◌++◌, append-nil, Result, Ok, Err, IfOk, refl, arith, sym, ◌∙◌, subst, ap, ◌≤◌}
use Rattle.std.specs.Prelude.{nat_le, not, fold}
use Rattle.std.proofs.Math.Nat.{pow-le-pow_right}
use Rattle.std.proofs.lemmas.Bool.Decides.{nat_tests}
use Rattle.b4_core.specs.declared.bit.Bit4.{Bit4}
use Rattle.b4_core.specs.declared.bit.Bit4.TheVariants.{Zero, One, X, Z}
use Rattle.b4_core.specs.declared.operators.EqOp.TheVariants.{Case}
use Rattle.b4_core.specs.Bits.{bit_of, xor4}
use Rattle.b4_core.specs.Bitwise.{truth_of, parity4}
use Rattle.b4_core.specs.Compare.{equality}
use Rattle.b4_core.specs.Vectors.{known, unknown, num, digits, vec, ext}
use Rattle.b4_core.proofs.TwosComplement.{vec_pos}
use Rattle.row_machine.specs.Valuation.{Valuation, Member}
use Rattle.sv_types.specs.declared.expression.Expr.{Expr}
use Rattle.sv_types.specs.declared.expression.Form.{Form-F}
use Rattle.sv_types.specs.declared.expression.Form.TheVariants as V
use Rattle.sv_types.specs.Layouts.{Layout, layout}
use Rattle.sv_types.specs.Surroundings.{Around}
use Rattle.sv_types.specs.Meanings as M
use Rattle.sv_types.specs.Operators as O
use Rattle.sv_types.specs.Operators.{log_from, clog2_of}
use Rattle.sv_types.specs.Expressions.{meaning}
use Rattle.sv_types.proofs.OperatorLengths.{length-vec, length-unknown}
use Rattle.sv_types.proofs.ValueLengths.{length-value}
use Rattle.v_tree.specs.declared.names.Helper.{Helper}
use Rattle.v_tree.specs.declared.expressions.VExpr.{VExpr}
use Rattle.v_meaning.specs.Scopes.{Scope}
use Rattle.v_meaning.specs.Values as T
use Rattle.eval_parts.proofs.Steps as S
use Rattle.eval_forms.specs.Callees.{formals_in}
use Rattle.eval_forms.proofs.Strict as K
use Rattle.lowering_laws.specs.NamedImages.{AreImages, SameNames}
use Rattle.lowering_laws.specs.Same.{Same, SameAlone, HasBits}
use Rattle.lowering_laws.proofs.Constants.{bits-alone}
use Rattle.lowering_laws.proofs.Contexts.{typed-four, alone-width, alone-value}
use Rattle.lowering_laws.proofs.Extensions.{ext-at}
use Rattle.lowering_laws.proofs.Naming.{each-image, no-images}
use Rattle.lowering_laws.proofs.Numbers.{length-digits}
use Rattle.lowering_laws.proofs.Pieces.{literal-bits}
use Rattle.path_flatten.specs.Naming.{SameNumbers}
use Rattle.path_flatten.proofs.Naming.{same-itself}
use Rattle.path_steps.specs.Known.{HasFixedBits}
use Rattle.expr_lower.specs.Lowering.{CombinesAnywhere}
use Rattle.expr_lower.specs.Logarithms.{lost, LogSteps, IsLogarithm, IsAtMost}
use Rattle.expr_lower.specs.Numbers.{signed_as}
use Rattle.expr_lower.proofs.Forms.{asked-is, names-are}
use Rattle.expr_lower.proofs.Standing.{by-helped, images-like}
use Rattle.expr_lower.proofs.Values.{signed-as-same, signed-names}
use Rattle.expr_lower.proofs.Powers.{bit-truth, in-one}

-- a choice by a condition that is 1 or 0
pick-bits : (b : Bool) (p q : List Bit4) (n : ℕ) → length p ≡ n → length q ≡ n → length (cond b p q) ≡ n
pick-bits true p q n h g = h
pick-bits false p q n h g = g

choose-bits : (on m k : T.Meaning) (b : Bool) (p q : List Bit4) (sc : Scope) (v : Valuation) → T.truth on sc v ≡ bit_of b → HasBits m p sc v → HasBits k q sc v → length p ≡ length q
    → HasBits (T.choose on m k) (cond b p q) sc v
unfolding T.choose
choose-bits on m k b p q sc v truth h g same =
    let m_width = h.width in
    let k_width = g.width in
    let long = pick-bits b p q (length p) refl (sym same) in
    record {
      width = omega arith;
      unsigned = ap (λ s. s && k.signed) h.unsigned;
      value = λ w s. (λ i. T.chosen (truth i) (h.value w s i) (g.value w s i)) ∙ by b (ext w s p) (ext w s q) ∙ move b w s p q;
    }
  where
    by : (c : Bool) (x y : List Bit4) → T.chosen (bit_of c) x y ≡ cond c x y
    by true x y = refl
    by false x y = refl

    move : (c : Bool) (w : ℕ) (s : Bool) (x y : List Bit4) → cond c (ext w s x) (ext w s y) ≡ ext w s (cond c x y)
    move true w s x y = refl
    move false w s x y = refl

first-bits : (on m k : T.Meaning) (p : List Bit4) (sc : Scope) (v : Valuation) → T.truth on sc v ≡ One → HasBits m p sc v → k.width sc ≡ 32 → k.signed ≡ false → length p ≡ 32
    → HasBits (T.choose on m k) p sc v
unfolding T.choose
first-bits on m k p sc v truth h wide plain long =
    let width = h.width in
    record {
      width = omega arith;
      unsigned = ap (λ s. s && k.signed) h.unsigned;
      value = λ w s. ap (λ t. T.chosen t (m.value w s sc v) (k.value w s sc v)) truth ∙ h.value w s;
    }

-- the least power by its halves
log-halves : (m n k x : ℕ) → cond (nat_le x (2 ^ (k + m))) (log_from m k x) (log_from n (suc (k + m)) x) ≡ log_from (m + suc n) k x
log-halves zero n k x =
    let none : k + 0 ≡ k = omega arith in
    let all : suc n ≡ 0 + suc n = omega arith in
    ap (λ j. cond (nat_le x (2 ^ j)) k (log_from n (suc j) x)) none ∙ ap (λ j. log_from j k x) all
log-halves (suc m) n k x = by (nat_le x (2 ^ k)) refl (log-halves m n (suc k) x) ∙ ap (λ j. log_from j k x) all
  where
    all : suc (m + suc n) ≡ suc m + suc n
    all = omega arith

    next : k + suc m ≡ suc k + m
    next = omega arith

    by : (b : Bool) → nat_le x (2 ^ k) ≡ b → cond (nat_le x (2 ^ (suc k + m))) (log_from m (suc k) x) (log_from n (suc (suc k + m)) x) ≡ log_from (m + suc n) (suc k) x
        → cond (nat_le x (2 ^ (k + suc m))) (log_from (suc m) k x) (log_from n (suc (k + suc m)) x) ≡ log_from (suc (m + suc n)) k x
    by true h rest =
        let more : 2 ^ k ≤ 2 ^ (k + suc m) = pow-le-pow_right {n = 2} (omega arith) (omega arith) in
        let small : nat_le x (2 ^ (k + suc m)) ≡ true = grind (arith, nat_tests) in
        ap (λ b. cond b (log_from (suc m) k x) (log_from n (suc (k + suc m)) x)) small ∙ ap (λ b. cond b k (log_from m (suc k) x)) h ∙ sym (ap (λ b. cond b k (log_from (m + suc n) (suc k) x)) h)
    by false h rest =
        ap (λ b. cond (nat_le x (2 ^ (k + suc m))) (cond b k (log_from m (suc k) x)) (log_from n (suc (k + suc m)) x)) h
        ∙ ap (λ j. cond (nat_le x (2 ^ j)) (log_from m (suc k) x) (log_from n (suc j) x)) next ∙ rest ∙ sym (ap (λ b. cond b k (log_from (m + suc n) (suc k) x)) h)

word-either : (b : Bool) (p q : ℕ) → cond b (vec 32 (pos p)) (vec 32 (pos q)) ≡ vec 32 (pos (cond b p q))
word-either true p q = refl
word-either false p q = refl

-- names
in-left : (xs ys : List ℕ) (q : ℕ) → Member xs q → Member (xs ++ ys) q
in-left [] ys q h = absurd h
in-left (x ∷ xs) ys q (inl e) = inl e
in-left (x ∷ xs) ys q (inr h) = inr (in-left xs ys q h)

lost-named : (y : T.Meaning) (sc : Scope) → (lost y).names sc ≡ y.names sc
unfolding T.equal T.reduce T.literal
lost-named y sc = append-nil (y.names sc ++ []) ∙ append-nil (y.names sc)

choice-named : (on m k : T.Meaning) (sc : Scope) → (T.choose on m k).names sc ≡ on.names sc ++ (m.names sc ++ k.names sc)
unfolding T.choose
choice-named on m k sc = ap (λ l. on.names sc ++ (m.names sc ++ l)) (append-nil (k.names sc))

literal-named : (c : List Bit4) (sc : Scope) → (T.literal c).names sc ≡ []
unfolding T.literal
literal-named c sc = refl

choice-width : (on m k : T.Meaning) (sc : Scope) → (T.choose on m k).width sc ≡ max (m.width sc) (k.width sc)
unfolding T.choose
choice-width on m k sc = refl

choice-plain : (on m k : T.Meaning) → m.signed ≡ false → (T.choose on m k).signed ≡ false
unfolding T.choose
choice-plain on m k h = ap (λ s. s && k.signed) h

literal-width : (c : List Bit4) (sc : Scope) → (T.literal c).width sc ≡ length c
unfolding T.literal
literal-width c sc = refl

literal-plain : (c : List Bit4) → (T.literal c).signed ≡ false
unfolding T.literal
literal-plain c = refl

word-bits : (k : ℕ) (sc : Scope) (v : Valuation) → HasBits (T.literal (digits 32 k)) (vec 32 (pos k)) sc v
word-bits k sc v = subst (λ c. HasBits (T.literal (digits 32 k)) c sc v) (sym (vec_pos 32 k)) (literal-bits (digits 32 k) sc v)

-- the last power alone, and a choice of halves
pub only-power : (y : T.Meaning) (w k : ℕ) (r : T.Meaning) → r ≡ T.literal (digits 32 k) → LogSteps y w 0 k r
only-power y w k r is = record {
  bits = λ c sc v h long knows. subst (λ (m : T.Meaning). HasBits m (vec 32 (pos k)) sc v) (sym is) (word-bits k sc v);
  width = λ sc. ap (λ (m : T.Meaning). m.width sc) is ∙ literal-width (digits 32 k) sc ∙ length-digits 32 k;
  unsigned = ap (λ (m : T.Meaning). m.signed) is ∙ literal-plain (digits 32 k);
  names = λ sc q h. absurd (subst (λ l. Member l q) (ap (λ (m : T.Meaning). m.names sc) is ∙ literal-named (digits 32 k) sc) h);
}

pub by-halves : (y : T.Meaning) (w m n k : ℕ) (test lower upper r : T.Meaning) → IsAtMost y w (k + m) test → LogSteps y w m k lower → LogSteps y w n (suc (k + m)) upper → r ≡ T.choose test lower upper
    → LogSteps y w (m + suc n) k r
by-halves y w m n k test lower upper r at_most low high is = record {
  bits = λ c sc v has long knows.
      let x = num c in
      let p = log_from m k x in
      let q = log_from n (suc (k + m)) x in
      subst (λ (t : T.Meaning). HasBits t (vec 32 (pos (log_from (m + suc n) k x))) sc v) (sym is)
      (subst (λ u. HasBits (T.choose test lower upper) u sc v) (word-either (nat_le x (2 ^ (k + m))) p q ∙ ap (λ j. vec 32 (pos j)) (log-halves m n k x))
      (choose-bits test lower upper (nat_le x (2 ^ (k + m))) (vec 32 (pos p)) (vec 32 (pos q)) sc v (at_most.test c sc v has long knows) (low.bits c sc v has long knows) (high.bits c sc v has long knows)
      (length-vec 32 (pos p) ∙ sym (length-vec 32 (pos q)))));
  width = λ sc.
      let one = low.width sc in
      let more = high.width sc in
      ap (λ (t : T.Meaning). t.width sc) is ∙ choice-width test lower upper sc ∙ omega arith;
  unsigned = ap (λ (t : T.Meaning). t.signed) is ∙ choice-plain test lower upper low.unsigned;
  names = λ sc q g. named sc q (in-one (test.names sc) (lower.names sc ++ upper.names sc) q (subst (λ l. Member l q) (ap (λ (t : T.Meaning). t.names sc) is ∙ choice-named test lower upper sc) g));
}
  where
    arm : (sc : Scope) (q : ℕ) → Member (lower.names sc) q ⊎ Member (upper.names sc) q → Member (y.names sc) q
    arm sc q (inl h) = low.names sc q h
    arm sc q (inr h) = high.names sc q h

    named : (sc : Scope) (q : ℕ) → Member (test.names sc) q ⊎ Member (lower.names sc ++ upper.names sc) q → Member (y.names sc) q
    named sc q (inl h) = at_most.names sc q h
    named sc q (inr h) = arm sc q (in-one (lower.names sc) (upper.names sc) q h)

-- the parity of what isn't known is x
parity-lost : (v : List Bit4) → fold xor4 X v ≡ X
parity-lost [] = refl
parity-lost (b ∷ v) = parity-lost v

parity-is : (b : Bool) (v : List Bit4) → equality Case (fold xor4 (bit_of b) v ∷ []) (X ∷ []) ≡ bit_of (not (known v))
parity-is true [] = refl
parity-is false [] = refl
parity-is true (Zero ∷ v) = parity-is true v
parity-is false (Zero ∷ v) = parity-is false v
parity-is true (One ∷ v) = parity-is false v
parity-is false (One ∷ v) = parity-is true v
parity-is true (X ∷ v) = ap (λ b. equality Case (b ∷ []) (X ∷ [])) (parity-lost v)
parity-is false (X ∷ v) = ap (λ b. equality Case (b ∷ []) (X ∷ [])) (parity-lost v)
parity-is true (Z ∷ v) = ap (λ b. equality Case (b ∷ []) (X ∷ [])) (parity-lost v)
parity-is false (Z ∷ v) = ap (λ b. equality Case (b ∷ []) (X ∷ [])) (parity-lost v)

lost-truth : (y : T.Meaning) (c : List Bit4) (sc : Scope) (v : Valuation) → HasBits y c sc v → T.truth (lost y) sc v ≡ bit_of (not (known c))
unfolding T.equal T.reduce T.literal
lost-truth y c sc v h =
    let own = bits-alone y c sc v h in
    (λ i. truth_of (ext 1 false (equality Case (ext 1 false (parity4 (own i) ∷ [])) (ext 1 false (X ∷ [])) ∷ [])))
    ∙ (λ i. truth_of (ext 1 false (equality Case (ext-at 1 false (parity4 c ∷ []) refl i) (ext-at 1 false (X ∷ []) refl i) ∷ [])))
    ∙ ap (λ b. truth_of (ext 1 false (b ∷ []))) (parity-is false c) ∙ bit-truth (not (known c))

logarithm-bits : (y : T.Meaning) (w : ℕ) (steps : T.Meaning) (c : List Bit4) (sc : Scope) (v : Valuation) → LogSteps y w w 0 steps → HasBits y c sc v → length c ≡ w
    → HasBits (T.choose (lost y) (T.literal (unknown 32)) steps) (clog2_of c) sc v
logarithm-bits y w steps c sc v all h is = by (known c) refl
  where
    lit : HasBits (T.literal (unknown 32)) (unknown 32) sc v
    lit = literal-bits (unknown 32) sc v

    by : (b : Bool) → known c ≡ b → HasBits (T.choose (lost y) (T.literal (unknown 32)) steps) (clog2_of c) sc v
    by true k =
        let truth = lost-truth y c sc v h ∙ ap (λ b. bit_of (not b)) k in
        subst (λ u. HasBits (T.choose (lost y) (T.literal (unknown 32)) steps) u sc v)
        (ap (λ n. vec 32 (pos (log_from n 0 (num c)))) (sym is) ∙ sym (ap (λ b. cond b (vec 32 (pos (log_from (length c) 0 (num c)))) (unknown 32)) k))
        (choose-bits (lost y) (T.literal (unknown 32)) steps false (unknown 32) (vec 32 (pos (log_from w 0 (num c)))) sc v truth lit (all.bits c sc v h is k)
        (length-unknown 32 ∙ sym (length-vec 32 (pos (log_from w 0 (num c))))))
    by false k =
        let truth = lost-truth y c sc v h ∙ ap (λ b. bit_of (not b)) k in
        subst (λ u. HasBits (T.choose (lost y) (T.literal (unknown 32)) steps) u sc v) (sym (ap (λ b. cond b (vec 32 (pos (log_from (length c) 0 (num c)))) (unknown 32)) k))
        (first-bits (lost y) (T.literal (unknown 32)) steps (unknown 32) sc v truth lit (all.width sc) all.unsigned (length-unknown 32))

pub is-logarithm : (y : T.Meaning) (w : ℕ) (steps r : T.Meaning) → LogSteps y w w 0 steps → r ≡ T.choose (lost y) (T.literal (unknown 32)) steps → IsLogarithm y w r
is-logarithm y w steps r all is = record {
  bits = λ c sc v h long. subst (λ (m : T.Meaning). HasBits m (clog2_of c) sc v) (sym is) (logarithm-bits y w steps c sc v all h long);
  names = λ sc.
      let same : r.names sc ≡ y.names sc ++ steps.names sc =
      ap (λ (m : T.Meaning). m.names sc) is ∙ choice-named (lost y) (T.literal (unknown 32)) steps sc ∙ (λ i. lost-named y sc i ++ (literal-named (unknown 32) sc i ++ steps.names sc)) in
      record {
        there = λ q h. subst (λ l. Member l q) (sym same) (in-left (y.names sc) (steps.names sc) q h);
        back = λ q h. elim (in-one (y.names sc) (steps.names sc) q (subst (λ l. Member l q) same h)) [ inl i ↦ i | inr i ↦ all.names sc q i ];
      };
}

-- an operand in braces
braced-has : (e : M.Meaning) (a : Around) (m : T.Meaning) (sc : Scope) (v : Valuation) → SameAlone e a m sc v → length (M.alone e a) ≡ M.wide e → HasBits (T.concatenation (m ∷ [])) (M.alone e a) sc v
unfolding T.concatenation
braced-has e a m sc v h long =
    let width = alone-width e a m sc v h in
    record { width = omega arith; unsigned = refl; value = λ w s. ap (ext w s) (alone-value e a m sc v h) }

braced-named : (ms : List T.Meaning) (sc : Scope) → (T.concatenation ms).names sc ≡ T.all_names ms sc
unfolding T.concatenation
braced-named ms sc = refl

length-clog2 : (c : List Bit4) → length (clog2_of c) ≡ 32
length-clog2 c = by (known c)
  where
    by : (b : Bool) → length (cond b (vec 32 (pos (log_from (length c) 0 (num c)))) (unknown 32)) ≡ 32
    by true = length-vec 32 (pos (log_from (length c) 0 (num c)))
    by false = length-unknown 32

clog2-in : (of : Layout) (at w : ℕ) (s : Bool) (e : M.Meaning) (a : Around) (b : Bool) (m : T.Meaning) (sc : Scope) (v : Valuation) → (O.clog2 of at e).misfits ≡ 0 → b ≡ M.signed (O.clog2 of at e)
    → HasBits m (clog2_of (M.alone e a)) sc v → Same (O.clog2 of at e) w s a (signed_as b m) sc v
unfolding O.clog2
clog2-in of at w s e a b m sc v fits sign has =
    let t = typed-four of 32 true _ _ fits in
    let width = t.width in
    let long = length-clog2 (M.alone e a) in
    signed-as-same (O.clog2 of at e) (clog2_of (M.alone e a)) w s a m sc v has (omega arith) (omega arith) refl b sign

clog2-named : (image : ℕ → ℕ) (of : Layout) (at : ℕ) (e : M.Meaning) (n m : T.Meaning) (sc : Scope) → SameNames image e n sc → SameNumbers (T.all_names (n ∷ []) sc) (m.names sc) → SameNames image (O.clog2 of at e) m sc
unfolding O.clog2
clog2-named image of at e n m sc h names = images-like image _ (T.all_names (n ∷ []) sc) (m.names sc) (each-image image (e ∷ []) (n ∷ []) sc (h, tt)) names

pub combines-Clog2 : (e x : Expr) (parts : List T.Meaning) (mx : T.Meaning) (b : Bool) (k m : T.Meaning) → e.form ≡ V.Clog2 x → parts ≡ mx ∷ [] → IsLogarithm (T.concatenation parts) (M.wide (meaning x)) k
    → b ≡ M.signed (meaning e) → m ≡ signed_as b k → (hs : List Helper) → CombinesAnywhere hs e parts m
combines-Clog2 e x parts mx b k m is are logarithm sign made hs names fs w s =
    let level = S.same-Clog2 e x is in
    let asked = K.asked-by e (V.Clog2 x) (Form-F.Clog2 x) (formals_in fs) w s is (K.out-Clog2 x) in
    by-helped names fs hs e w s parts m (λ im a sc all helps fits. record {
      same = λ now v h.
          let c = record a { now = now } in
          let g = asked-is e (formals_in fs) w s _ c parts (mx ∷ []) sc v asked are h in
          let long = length-value x (M.wide (meaning x)) (M.signed (meaning x)) c in
          let has = subst (λ l. HasBits (T.concatenation l) (M.alone (meaning x) c) sc v) (sym are) (braced-has (meaning x) c mx sc v g.0 long) in
          subst (λ (y : M.Meaning). Same y w s c m sc v) (sym level)
          (subst (λ (y : T.Meaning). Same (O.clog2 (layout e.of) e.spot.at (meaning x)) w s c y sc v) (sym made)
          (clog2-in (layout e.of) e.spot.at w s (meaning x) c b k sc v (subst (λ (y : M.Meaning). y.misfits ≡ 0) level fits.typed) (sign ∙ ap (λ (y : M.Meaning). M.signed y) level)
          (logarithm.bits (M.alone (meaning x) c) sc v has long)));
      named = λ h.
          let g = names-are im.number e (formals_in fs) w s _ parts (mx ∷ []) sc asked are h in
          let like : k.names sc ≡ m.names sc = sym (ap (λ (y : T.Meaning). y.names sc) made ∙ signed-names b k sc) in
          let back = logarithm.names sc in
          let whole : SameNumbers (T.all_names (mx ∷ []) sc) (m.names sc) = subst (λ l. SameNumbers (T.all_names l sc) (m.names sc)) are (subst (λ l. SameNumbers l (m.names sc)) (braced-named parts sc)
          (subst (SameNumbers ((T.concatenation parts).names sc)) like back)) in
          subst (λ (y : M.Meaning). SameNames im.number y m sc) (sym level) (clog2-named im.number (layout e.of) e.spot.at (meaning x) mx m sc g.0 whole);
    })

-- an operand that has the same bits everywhere
fixed-has : (x : Expr) (bits : List Bit4) (k : T.Meaning) (c : Around) (sc : Scope) (v : Valuation) → HasFixedBits x bits → k ≡ T.literal (ext 32 false (clog2_of bits)) → HasBits k (clog2_of (M.alone (meaning x) c)) sc v
fixed-has x bits k c sc v fixed number =
    subst (λ (y : T.Meaning). HasBits y (clog2_of (M.alone (meaning x) c)) sc v) (sym number)
    (subst (λ u. HasBits (T.literal (ext 32 false (clog2_of bits))) u sc v) (ext-at 32 false (clog2_of bits) (length-clog2 bits) ∙ ap clog2_of (sym (fixed.alone c))) (literal-bits (ext 32 false (clog2_of bits)) sc v))

fixed-named : (image : ℕ → ℕ) (x : Expr) (bits : List Bit4) (k : T.Meaning) (sc : Scope) → HasFixedBits x bits → k ≡ T.literal (ext 32 false (clog2_of bits)) → SameNames image (meaning x) k sc
fixed-named image x bits k sc fixed number =
    subst (λ ns. AreImages image ns (k.names sc)) (sym fixed.none)
    (subst (λ qs. AreImages image [] qs) (sym (ap (λ (y : T.Meaning). y.names sc) number ∙ literal-named (ext 32 false (clog2_of bits)) sc)) (no-images image))

pub combines-fixed : (e x : Expr) (parts : List T.Meaning) (bits : List Bit4) (b : Bool) (k m : T.Meaning) → e.form ≡ V.Clog2 x → HasFixedBits x bits → k ≡ T.literal (ext 32 false (clog2_of bits))
    → b ≡ M.signed (meaning e) → m ≡ signed_as b k → (hs : List Helper) → CombinesAnywhere hs e parts m
combines-fixed e x parts bits b k m is fixed number sign made hs names fs w s =
    let level = S.same-Clog2 e x is in
    by-helped names fs hs e w s parts m (λ im a sc all helps fits. record {
      same = λ now v h.
          let c = record a { now = now } in
          subst (λ (y : M.Meaning). Same y w s c m sc v) (sym level)
          (subst (λ (y : T.Meaning). Same (O.clog2 (layout e.of) e.spot.at (meaning x)) w s c y sc v) (sym made)
          (clog2-in (layout e.of) e.spot.at w s (meaning x) c b k sc v (subst (λ (y : M.Meaning). y.misfits ≡ 0) level fits.typed) (sign ∙ ap (λ (y : M.Meaning). M.signed y) level)
          (fixed-has x bits k c sc v fixed number)));
      named = λ h.
          let like : k.names sc ≡ m.names sc = sym (ap (λ (y : T.Meaning). y.names sc) made ∙ signed-names b k sc) in
          let same : SameNumbers (T.all_names (k ∷ []) sc) (m.names sc) = subst (SameNumbers (T.all_names (k ∷ []) sc)) (append-nil (k.names sc) ∙ like) (same-itself (T.all_names (k ∷ []) sc)) in
          subst (λ (y : M.Meaning). SameNames im.number y m sc) (sym level) (clog2-named im.number (layout e.of) e.spot.at (meaning x) k m sc (fixed-named im.number x bits k sc fixed number) same);
    })

pub if-ok : {A E : Type 0} (r : Result A E) (P Q : A → Type 0) → ((x : A) → P x → Q x) → IfOk r P → IfOk r Q
if-ok (Ok x) P Q more h = more x h
if-ok (Err e) P Q more h = h

pub only-part : (xs : List VExpr) → length xs ≡ 1 → (x : VExpr) × (xs ≡ x ∷ [])
only-part [] h = absurd (omega arith)
only-part (x ∷ []) h = (x, refl)
only-part (x ∷ y ∷ xs) h = absurd (omega arith)
