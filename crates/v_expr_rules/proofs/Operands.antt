-- Operations tell what the rules tell, where their operands do.
use Rattle.std.proofs.Common.{◌≡◌, ℕ, suc, ◌+◌, Bool, true, false, ◌&&◌, List, ◌++◌, length, Option, None, refl, sym, ap, ◌∙◌, max, if◌then◌else◌, arith}
use Rattle.b4_core.specs.declared.bit.Bit4.{Bit4}
use Rattle.v_tree.specs.ExprRules.{Around, Rules, alone, only_if, prim_rules, binary_rules, expr_rules, spreads, is_negative, Operation, arithmetic, power, shift, order, equality, bitwise, logical, operation_width, left_width, right_width, too_wide}
use Rattle.v_tree.specs.declared.expressions.VExpr.{VExpr-F}
use Rattle.v_tree.specs.declared.expressions.VPrim.{VPrim-F}
use Rattle.v_tree.specs.declared.operators.VUnaryOp.{VUnaryOp}
use Rattle.v_expr_rules.specs.declared.seen.Seen.{Seen}
use Rattle.v_expr_rules.specs.Seen as S
use Rattle.v_expr_rules.specs.Seen.{plus, earlier, mark, bits_capped, is_wide, in_context, operand, number_seen, paren_seen, sign_seen, binary_first, binary_seen, unary_first, unary_seen, choose_seen}
use Rattle.v_expr_rules.specs.Least.{cap, first}
use Rattle.v_expr_rules.specs.Exact.{Fits}
use Rattle.v_expr_rules.proofs.Saturation.{plus-cap, max-capped, is_wide-capped, is_wide-max, first-append, first-if}

-- what is kept in a context of any width
pub in-operand : (size width : ℕ) (f : Bool → Option ℕ) (w : Bool) → in_context (operand size width (f false) (f true)) w ≡ f w
in-operand size width f true = refl
in-operand size width f false = refl

pub wide-of : (s : Seen) (r : Rules) (a : Around) (at : ℕ) → Fits s r a at → is_wide s.width ≡ is_wide (r.width a)
wide-of s r a at f = ap is_wide f.width ∙ is_wide-capped (r.width a)

pub alone-of : (s : Seen) (r : Rules) (a : Around) (at : ℕ) → Fits s r a at → S.alone s ≡ first (alone r a at)
alone-of s r a at f = ap (in_context s) (wide-of s r a at f) ∙ f.broken (r.width a)

-- numbers of tokens
pub one-more : (s n : ℕ) → s ≡ cap n → plus 1 s ≡ cap (suc n)
one-more s n e = ap (plus 1) e ∙ plus-cap 1 n ∙ ap cap (omega arith)

pub next-token : (at : ℕ) → plus (cap at) 1 ≡ cap (suc at)
next-token at = plus-cap at 1 ∙ ap cap (omega arith)

pub sum-of : (s t m n : ℕ) → s ≡ cap m → t ≡ cap n → plus s t ≡ cap (m + n)
sum-of s t m n e f = (λ i. plus (e i) (f i)) ∙ plus-cap m n

pub number-fits : (bits : List Bit4) (a : Around) (at : ℕ) → Fits (number_seen bits) (prim_rules (VPrim-F.Number bits)) a at
number-fits bits a at = record { size = refl; width = refl; broken = λ w. in-operand 1 (bits_capped (length bits)) (λ b. None) (is_wide w); target = refl; driven = refl }

pub paren-fits : (s : Seen) (r : Rules) (a : Around) (at : ℕ) → Fits s r a (suc at) → Fits (paren_seen s) (prim_rules (VPrim-F.Paren r)) a at
paren-fits s r a at f = record {
  size = sum-of 2 s.size 2 r.size refl f.size;
  width = f.width;
  broken = λ w. in-operand (plus 2 s.size) s.width (in_context s) (is_wide w) ∙ f.broken w;
  target = refl;
  driven = refl;
}

pub sign-fits : (s : Seen) (r : Rules) (a : Around) (at : ℕ) (signed : Bool) → Fits s r a (at + 2) → Fits (sign_seen s) (prim_rules (VPrim-F.Sign signed r)) a at
sign-fits s r a at signed f = record {
  size = sum-of 3 s.size 3 r.size refl f.size;
  width = f.width;
  broken = λ w. in-operand (plus 3 s.size) s.width (λ b. S.alone s) (is_wide w) ∙ alone-of s r a (at + 2) f;
  target = refl;
  driven = refl;
}

-- widths of operations
one_bit : 1 ≡ bits_capped 1
unfolding bits_capped
one_bit = refl

bits-of : (o : Operation) (l r : ℕ) → S.operation_bits o (bits_capped l) (bits_capped r) ≡ bits_capped (operation_width o l r)
bits-of arithmetic l r = max-capped l r
bits-of power l r = refl
bits-of shift l r = refl
bits-of order l r = one_bit
bits-of equality l r = one_bit
bits-of bitwise l r = max-capped l r
bits-of logical l r = one_bit

left-of : (o : Operation) (w l r : ℕ) → S.left_wide o (is_wide w) (is_wide l) (is_wide r) ≡ is_wide (left_width o w l r)
left-of arithmetic w l r = refl
left-of power w l r = refl
left-of shift w l r = refl
left-of order w l r = sym (is_wide-max l r)
left-of equality w l r = sym (is_wide-max l r)
left-of bitwise w l r = refl
left-of logical w l r = refl

right-of : (o : Operation) (w l r : ℕ) → S.right_wide o (is_wide w) (is_wide l) (is_wide r) ≡ is_wide (right_width o w l r)
right-of arithmetic w l r = refl
right-of power w l r = refl
right-of shift w l r = refl
right-of order w l r = sym (is_wide-max l r)
right-of equality w l r = sym (is_wide-max l r)
right-of bitwise w l r = refl
right-of logical w l r = refl

too-of : (o : Operation) (w l r : ℕ) → S.is_too_wide o (is_wide w) (is_wide l) (is_wide r) ≡ too_wide o w l r
too-of arithmetic w l r = refl
too-of power w l r = sym (is_wide-max w r)
too-of shift w l r = refl
too-of order w l r = sym (is_wide-max l r)
too-of equality w l r = refl
too-of bitwise w l r = refl
too-of logical w l r = refl

pub binary-fits : (o : Operation) (s t : Seen) (r q : Rules) (a : Around) (at : ℕ) → Fits s r a at → Fits t q a (at + suc r.size)
    → Fits (binary_seen o s t (cap at)) (binary_rules o r q) a at
binary-fits o s t r q a at f g = record {
  size = sum-of s.size (plus 1 t.size) r.size (suc q.size) f.size (one-more t.size q.size g.size);
  width = (λ i. S.operation_bits o (f.width i) (g.width i)) ∙ bits-of o (r.width a) (q.width a);
  broken = λ w.
      in-operand (plus s.size (plus 1 t.size)) (S.operation_bits o s.width t.width) (λ b. binary_first o b s t token) (is_wide w)
      ∙ (λ i. earlier (left w i) (earlier (mark (too w i) (token-is i)) (right w i)))
      ∙ sym (first-append (r.broken a (left_width o w (r.width a) (q.width a)) at) (only_if (too_wide o w (r.width a) (q.width a)) (at + r.size) ++ q.broken a (right_width o w (r.width a) (q.width a)) (at + suc r.size))
      ∙ ap (earlier (first (r.broken a (left_width o w (r.width a) (q.width a)) at))) (first-append (only_if (too_wide o w (r.width a) (q.width a)) (at + r.size)) (q.broken a (right_width o w (r.width a) (q.width a)) (at + suc r.size))
      ∙ ap (λ x. earlier x (first (q.broken a (right_width o w (r.width a) (q.width a)) (at + suc r.size)))) (first-if (too_wide o w (r.width a) (q.width a)) (at + r.size))));
  target = refl;
  driven = refl;
}
  where
    token : ℕ
    token = plus (cap at) s.size

    token-is : token ≡ cap (at + r.size)
    token-is = sum-of (cap at) s.size at r.size refl f.size

    l-is : is_wide s.width ≡ is_wide (r.width a)
    l-is = wide-of s r a at f

    r-is : is_wide t.width ≡ is_wide (q.width a)
    r-is = wide-of t q a (at + suc r.size) g

    left : (w : ℕ) → in_context s (S.left_wide o (is_wide w) (is_wide s.width) (is_wide t.width)) ≡ first (r.broken a (left_width o w (r.width a) (q.width a)) at)
    left w = ap (in_context s) ((λ i. S.left_wide o (is_wide w) (l-is i) (r-is i)) ∙ left-of o w (r.width a) (q.width a)) ∙ f.broken (left_width o w (r.width a) (q.width a))

    right : (w : ℕ) → in_context t (S.right_wide o (is_wide w) (is_wide s.width) (is_wide t.width)) ≡ first (q.broken a (right_width o w (r.width a) (q.width a)) (at + suc r.size))
    right w = ap (in_context t) ((λ i. S.right_wide o (is_wide w) (l-is i) (r-is i)) ∙ right-of o w (r.width a) (q.width a)) ∙ g.broken (right_width o w (r.width a) (q.width a))

    too : (w : ℕ) → S.is_too_wide o (is_wide w) (is_wide s.width) (is_wide t.width) ≡ too_wide o w (r.width a) (q.width a)
    too w = (λ i. S.is_too_wide o (is_wide w) (l-is i) (r-is i)) ∙ too-of o w (r.width a) (q.width a)

-- an operand that takes the width of the context, or its own
spread-in : (spread : Bool) (s : Seen) (r : Rules) (a : Around) (at w : ℕ) → Fits s r a at
    → in_context s (if spread then is_wide w else is_wide s.width) ≡ first (r.broken a (if spread then w else r.width a) at)
spread-in true s r a at w f = f.broken w
spread-in false s r a at w f = alone-of s r a at f

spread-bits : (spread : Bool) (s : Seen) (r : Rules) (a : Around) (at : ℕ) → Fits s r a at
    → (if spread then s.width else 1) ≡ bits_capped (if spread then r.width a else 1)
unfolding bits_capped
spread-bits true s r a at f = f.width
spread-bits false s r a at f = refl

pub unary-fits : (op : VUnaryOp) (s : Seen) (r : Rules) (a : Around) (at : ℕ) → Fits s r a (suc at) → Fits (unary_seen (spreads op) (is_negative op) s (cap at)) (expr_rules (VExpr-F.Unary op r)) a at
unary-fits op s r a at f = record {
  size = one-more s.size r.size f.size;
  width = spread-bits (spreads op) s r a (suc at) f;
  broken = λ w.
      in-operand (plus 1 s.size) (if spreads op then s.width else 1) (λ b. unary_first (spreads op) (is_negative op) b s (cap at)) (is_wide w)
      ∙ (λ i. earlier (sym (first-if (is_negative op && is_wide w) at) i) (spread-in (spreads op) s r a (suc at) w f i))
      ∙ sym (first-append (only_if (is_negative op && is_wide w) at) (r.broken a (if spreads op then w else r.width a) (suc at)));
  target = refl;
  driven = refl;
}

pub choose-fits : (u s t : Seen) (o r q : Rules) (a : Around) (at : ℕ) → Fits u o a at → Fits s r a (at + suc o.size) → Fits t q a (at + (suc o.size + suc r.size))
    → Fits (choose_seen u s t) (expr_rules (VExpr-F.Choose o r q)) a at
choose-fits u s t o r q a at e f g = record {
  size = sum-of u.size (plus (plus 1 s.size) (plus 1 t.size)) o.size (suc r.size + suc q.size) e.size
      (sum-of (plus 1 s.size) (plus 1 t.size) (suc r.size) (suc q.size) (one-more s.size r.size f.size) (one-more t.size q.size g.size)) ∙ ap (λ n. cap (o.size + n)) same_size;
  width = (λ i. max (f.width i) (g.width i)) ∙ max-capped (r.width a) (q.width a);
  broken = λ w.
      in-operand (plus u.size (plus (plus 1 s.size) (plus 1 t.size))) (max s.width t.width) (λ b. earlier (S.alone u) (earlier (in_context s b) (in_context t b))) (is_wide w)
      ∙ (λ i. earlier (alone-of u o a at e i) (earlier (f.broken w i) (g.broken w i)))
      ∙ sym (first-append (alone o a at) (r.broken a w (at + suc o.size) ++ q.broken a w (at + (suc o.size + suc r.size)))
      ∙ ap (earlier (first (alone o a at))) (first-append (r.broken a w (at + suc o.size)) (q.broken a w (at + (suc o.size + suc r.size)))));
  target = refl;
  driven = refl;
}
  where
    same_size : suc r.size + suc q.size ≡ suc (r.size + suc q.size)
    same_size = omega arith
