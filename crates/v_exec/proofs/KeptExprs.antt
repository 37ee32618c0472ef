-- An expression that breaks no rule of the grammar does no arithmetic on over 128 bits.
use Rattle.std.proofs.Common.{◌≡◌, ℕ, suc, ◌+◌, ◌*◌, ◌≤◌, ◌==◌, max, Bool, true, false, not, ◌&&◌, List, [], ◌∷◌, ◌++◌, length, map, Option, Some, None, refl, arith, ap, sym, ◌∙◌, subst}
use Rattle.std.specs.Prelude.{nat_le, nat_lt, is_some, if◌then◌else◌}
use Rattle.std.proofs.lemmas.Bool.Decides.{nat_tests}
use Rattle.v_tree.specs.Names.{Name}
use Rattle.v_tree.specs.Scopes.{Thing, value, memory, function, result, part, Selected, part_bits, selected_bits, word_bits, named_bits, called_bits}
use Rattle.v_tree.specs.ExprRules as R
use Rattle.v_tree.specs.ExprRules.{Around, Rules, SelRules, only_if, alone, total, listed_size, each_from, widths, selected_of, sels_broken, more_than, is_index, has_index, name_broken, sels_on, second_sel, args_broken, call_broken, inputs_of, Operation, kind_of, operation_width, too_wide, binary_rules, spreads, is_negative, expr_rules, prim_rules, sel_rules, rules_of, sel_rules_of}
use Rattle.v_tree.specs.declared.expressions.VExpr.{VExpr-F}
use Rattle.v_tree.specs.declared.expressions.VExtent.{VExtent}
use Rattle.v_tree.specs.declared.expressions.VExtent.TheVariants.{Down, Up}
use Rattle.v_tree.specs.declared.expressions.VPrim.{VPrim-F}
use Rattle.v_tree.specs.declared.expressions.VSel.{VSel-F}
use Rattle.v_tree.specs.declared.operators.VBinaryOp.{VBinaryOp}
use Rattle.v_tree.specs.declared.operators.VBinaryOp.TheVariants as B
use Rattle.v_tree.specs.declared.operators.VUnaryOp.{VUnaryOp}
use Rattle.v_tree.specs.declared.operators.VUnaryOp.TheVariants as U
use Rattle.v_meaning.specs.Scopes as M
use Rattle.v_meaning.specs.Selects.{taken}
use Rattle.v_meaning.specs.Values.{width_of}
use Rattle.v_eval.specs.Limits.{Limits, SelLimits, expr_limits, prim_limits, sel_limits, most_alone, most_given, most_of_all, most_of_sels, most_of_args, joined_wide}
use Rattle.v_eval.specs.Operators as V
use Rattle.v_eval.specs.Operators.{prefix_of, infix_of, prefix_width, operand_width, prefix_most, infix_width, infix_most}
use Rattle.v_eval.specs.Paths.{selecting}
use Rattle.v_exec.specs.Agreeing.{ThingAgrees, Agrees}

-- lists without an element
pub left-none : {A : Type 0} (xs ys : List A) → xs ++ ys ≡ [] → xs ≡ []
left-none [] ys h = refl
left-none (x ∷ xs) ys h = absurd (cc)

pub right-none : {A : Type 0} (xs ys : List A) → xs ++ ys ≡ [] → ys ≡ []
right-none [] ys h = h
right-none (x ∷ xs) ys h = absurd (cc)

pub not-if : (b : Bool) (t : ℕ) → only_if b t ≡ [] → b ≡ false
not-if true t h = absurd (cc)
not-if false t h = refl

pub both-yes : (a b : Bool) → (a && b) ≡ true → (a ≡ true) × (b ≡ true)
both-yes true b h = (refl, h)
both-yes false b h = absurd (cc)

not-wide : (n : ℕ) → nat_lt 128 n ≡ false → n ≤ 128
not-wide n h = grind (arith, nat_tests)

-- an expression by its rules and its limits
abbrev pub Kept : Around → M.Scope → Rules → Limits → Type 0
Kept around sc r l = (w at : ℕ) → r.broken around w at ≡ [] → (l.wide sc ≡ r.width around) × (l.most w sc ≤ 128)

pub record SelKept (around : Around) (sc : M.Scope) (s : SelRules) (l : SelLimits) : Type 0 where
  pub base : s.selected.base ≡ l.decimal
  pub extent : s.selected.extent ≡ l.extent
  pub narrow : (at : ℕ) → s.broken around at ≡ [] → l.most sc ≤ 128

-- operators
unary-wide : (op : VUnaryOp) (a : ℕ) → prefix_width (prefix_of op) a ≡ (if spreads op then a else 1)
unary-wide U.Not a = refl
unary-wide U.LogicalNot a = refl
unary-wide U.Neg a = refl
unary-wide U.And a = refl
unary-wide U.Nand a = refl
unary-wide U.Or a = refl
unary-wide U.Nor a = refl
unary-wide U.Xor a = refl
unary-wide U.Xnor a = refl

unary-operand : (op : VUnaryOp) (w a : ℕ) → operand_width (prefix_of op) w a ≡ (if spreads op then w else a)
unary-operand U.Not w a = refl
unary-operand U.LogicalNot w a = refl
unary-operand U.Neg w a = refl
unary-operand U.And w a = refl
unary-operand U.Nand w a = refl
unary-operand U.Or w a = refl
unary-operand U.Nor w a = refl
unary-operand U.Xor w a = refl
unary-operand U.Xnor w a = refl

unary-narrow : (op : VUnaryOp) (w a : ℕ) → (is_negative op && nat_lt 128 w) ≡ false → prefix_most (prefix_of op) (operand_width (prefix_of op) w a) ≤ 128
unary-narrow U.Not w a h = omega arith
unary-narrow U.LogicalNot w a h = omega arith
unary-narrow U.Neg w a h = not-wide w h
unary-narrow U.And w a h = omega arith
unary-narrow U.Nand w a h = omega arith
unary-narrow U.Or w a h = omega arith
unary-narrow U.Nor w a h = omega arith
unary-narrow U.Xor w a h = omega arith
unary-narrow U.Xnor w a h = omega arith

pub record Infixes (op : VBinaryOp) : Type 0 where
  pub wide : (l r : ℕ) → infix_width (infix_of op) l r ≡ operation_width (kind_of op) l r
  pub left : (w l r : ℕ) → V.left_width (infix_of op) w l r ≡ R.left_width (kind_of op) w l r
  pub right : (w l r : ℕ) → V.right_width (infix_of op) w l r ≡ R.right_width (kind_of op) w l r
  pub narrow : (w l r : ℕ) → too_wide (kind_of op) w l r ≡ false → infix_most (infix_of op) (V.left_width (infix_of op) w l r) (V.right_width (infix_of op) w l r) ≤ 128

infixes : (op : VBinaryOp) → Infixes op
infixes B.Add = record { wide = λ l r. refl; left = λ w l r. refl; right = λ w l r. refl; narrow = λ w l r h. not-wide w h }
infixes B.Sub = record { wide = λ l r. refl; left = λ w l r. refl; right = λ w l r. refl; narrow = λ w l r h. not-wide w h }
infixes B.Mul = record { wide = λ l r. refl; left = λ w l r. refl; right = λ w l r. refl; narrow = λ w l r h. not-wide w h }
infixes B.Div = record { wide = λ l r. refl; left = λ w l r. refl; right = λ w l r. refl; narrow = λ w l r h. not-wide w h }
infixes B.Rem = record { wide = λ l r. refl; left = λ w l r. refl; right = λ w l r. refl; narrow = λ w l r h. not-wide w h }
infixes B.Power = record { wide = λ l r. refl; left = λ w l r. refl; right = λ w l r. refl; narrow = λ w l r h. not-wide (max w r) h }
infixes B.ShiftLeft = record { wide = λ l r. refl; left = λ w l r. refl; right = λ w l r. refl; narrow = λ w l r h. omega arith }
infixes B.ShiftRight = record { wide = λ l r. refl; left = λ w l r. refl; right = λ w l r. refl; narrow = λ w l r h. omega arith }
infixes B.ArithmeticLeft = record { wide = λ l r. refl; left = λ w l r. refl; right = λ w l r. refl; narrow = λ w l r h. omega arith }
infixes B.ArithmeticRight = record { wide = λ l r. refl; left = λ w l r. refl; right = λ w l r. refl; narrow = λ w l r h. omega arith }
infixes B.Less = record { wide = λ l r. refl; left = λ w l r. refl; right = λ w l r. refl; narrow = λ w l r h. not-wide (max l r) h }
infixes B.LessEqual = record { wide = λ l r. refl; left = λ w l r. refl; right = λ w l r. refl; narrow = λ w l r h. not-wide (max l r) h }
infixes B.Greater = record { wide = λ l r. refl; left = λ w l r. refl; right = λ w l r. refl; narrow = λ w l r h. not-wide (max l r) h }
infixes B.GreaterEqual = record { wide = λ l r. refl; left = λ w l r. refl; right = λ w l r. refl; narrow = λ w l r h. not-wide (max l r) h }
infixes B.Equal = record { wide = λ l r. refl; left = λ w l r. refl; right = λ w l r. refl; narrow = λ w l r h. omega arith }
infixes B.NotEqual = record { wide = λ l r. refl; left = λ w l r. refl; right = λ w l r. refl; narrow = λ w l r h. omega arith }
infixes B.CaseEqual = record { wide = λ l r. refl; left = λ w l r. refl; right = λ w l r. refl; narrow = λ w l r h. omega arith }
infixes B.CaseNotEqual = record { wide = λ l r. refl; left = λ w l r. refl; right = λ w l r. refl; narrow = λ w l r h. omega arith }
infixes B.And = record { wide = λ l r. refl; left = λ w l r. refl; right = λ w l r. refl; narrow = λ w l r h. omega arith }
infixes B.Or = record { wide = λ l r. refl; left = λ w l r. refl; right = λ w l r. refl; narrow = λ w l r h. omega arith }
infixes B.Xor = record { wide = λ l r. refl; left = λ w l r. refl; right = λ w l r. refl; narrow = λ w l r h. omega arith }
infixes B.Xnor = record { wide = λ l r. refl; left = λ w l r. refl; right = λ w l r. refl; narrow = λ w l r h. omega arith }
infixes B.LogicalAnd = record { wide = λ l r. refl; left = λ w l r. refl; right = λ w l r. refl; narrow = λ w l r h. omega arith }
infixes B.LogicalOr = record { wide = λ l r. refl; left = λ w l r. refl; right = λ w l r. refl; narrow = λ w l r h. omega arith }

-- forms of operators
pub unary-kept : (around : Around) (sc : M.Scope) (op : VUnaryOp) (r : Rules) (l : Limits) → Kept around sc r l → Kept around sc (expr_rules (VExpr-F.Unary op r)) (expr_limits (VExpr-F.Unary op l))
unary-kept around sc op r l h w at none =
    let own = not-if (is_negative op && nat_lt 128 w) at (left-none (only_if (is_negative op && nat_lt 128 w) at) (r.broken around (if spreads op then w else r.width around) (suc at)) none) in
    let k = h (if spreads op then w else r.width around) (suc at) (right-none (only_if (is_negative op && nat_lt 128 w) at) (r.broken around (if spreads op then w else r.width around) (suc at)) none) in
    let n : operand_width (prefix_of op) w (l.wide sc) ≡ (if spreads op then w else r.width around) = ap (operand_width (prefix_of op) w) k.0 ∙ unary-operand op w (r.width around) in
    let inner : l.most (operand_width (prefix_of op) w (l.wide sc)) sc ≤ 128 = subst (λ m. l.most m sc ≤ 128) (sym n) k.1 in
    let outer = unary-narrow op w (l.wide sc) own in
    (ap (prefix_width (prefix_of op)) k.0 ∙ unary-wide op (r.width around), omega (arith, inner, outer))

pub binary-kept : (around : Around) (sc : M.Scope) (op : VBinaryOp) (r s : Rules) (l m : Limits) → Kept around sc r l → Kept around sc s m → Kept around sc (binary_rules (kind_of op) r s) (expr_limits (VExpr-F.Binary op l m))
binary-kept around sc op r s l m h g w at none =
    let o = kind_of op in
    let x = r.width around in
    let y = s.width around in
    let first = r.broken around (R.left_width o w x y) at in
    let own = only_if (too_wide o w x y) (at + r.size) in
    let last = s.broken around (R.right_width o w x y) (at + suc r.size) in
    let rest = right-none first (own ++ last) none in
    let k = h (R.left_width o w x y) at (left-none first (own ++ last) none) in
    let j = g (R.right_width o w x y) (at + suc r.size) (right-none own last rest) in
    let f = infixes op in
    let left : V.left_width (infix_of op) w (l.wide sc) (m.wide sc) ≡ R.left_width o w x y = ap (λ a. V.left_width (infix_of op) w a (m.wide sc)) k.0 ∙ ap (V.left_width (infix_of op) w x) j.0 ∙ f.left w x y in
    let right : V.right_width (infix_of op) w (l.wide sc) (m.wide sc) ≡ R.right_width o w x y = ap (λ a. V.right_width (infix_of op) w a (m.wide sc)) k.0 ∙ ap (V.right_width (infix_of op) w x) j.0 ∙ f.right w x y in
    let a : l.most (V.left_width (infix_of op) w (l.wide sc) (m.wide sc)) sc ≤ 128 = subst (λ n. l.most n sc ≤ 128) (sym left) k.1 in
    let b : m.most (V.right_width (infix_of op) w (l.wide sc) (m.wide sc)) sc ≤ 128 = subst (λ n. m.most n sc ≤ 128) (sym right) j.1 in
    let c : infix_most (infix_of op) (V.left_width (infix_of op) w (l.wide sc) (m.wide sc)) (V.right_width (infix_of op) w (l.wide sc) (m.wide sc)) ≤ 128 =
    subst (λ n. infix_most (infix_of op) n (V.right_width (infix_of op) w (l.wide sc) (m.wide sc)) ≤ 128) (f.left w x y ∙ sym left)
    (subst (λ n. infix_most (infix_of op) (V.left_width (infix_of op) w x y) n ≤ 128) (f.right w x y ∙ sym right) (f.narrow w x y (not-if (too_wide o w x y) (at + r.size) (left-none own last rest)))) in
    (ap (λ n. infix_width (infix_of op) n (m.wide sc)) k.0 ∙ ap (infix_width (infix_of op) x) j.0 ∙ f.wide x y, omega (arith, a, b, c))

pub choose-kept : (around : Around) (sc : M.Scope) (q r s : Rules) (k l m : Limits) → Kept around sc q k → Kept around sc r l → Kept around sc s m → Kept around sc (expr_rules (VExpr-F.Choose q r s)) (expr_limits (VExpr-F.Choose k l m))
choose-kept around sc q r s k l m f g h w at none =
    let first = alone q around at in
    let second = r.broken around w (at + suc q.size) in
    let third = s.broken around w (at + (suc q.size + suc r.size)) in
    let rest = right-none first (second ++ third) none in
    let a = f (q.width around) at (left-none first (second ++ third) none) in
    let b = g w (at + suc q.size) (left-none second third rest) in
    let c = h w (at + (suc q.size + suc r.size)) (right-none second third rest) in
    let n : most_alone k sc ≤ 128 = subst (λ u. k.most u sc ≤ 128) (sym a.0) a.1 in
    (let x = b.0 in let y = c.0 in omega (arith, x, y), let x = b.1 in let y = c.1 in omega (arith, n, x, y))

-- names with selects
taken-bits : (d : Option ℕ) (e : Option VExtent) → taken d e ≡ part_bits (record { base = d; extent = e })
taken-bits d None = refl
taken-bits None (Some (Down right)) = refl
taken-bits (Some left) (Some (Down right)) = refl
taken-bits None (Some (Up width)) = refl
taken-bits (Some left) (Some (Up width)) = refl

abbrev pub selects : List SelLimits → List Selected
selects ls = map (λ (l : SelLimits). record { base = l.decimal; extent = l.extent }) ls

vector-wide : (n : M.Named) (ls : List SelLimits) → n.words ≡ None → nat_lt 1 (length ls) ≡ false → width_of n (map (λ (l : SelLimits). selecting l.decimal l.extent) ls) ≡ selected_bits n.width (selects ls)
vector-wide n [] is few = ap (λ (o : Option ℕ). elim o [ None ↦ n.width | Some count ↦ M.all_bits n ]) is
vector-wide n (l ∷ []) is few =
    ap (λ (o : Option ℕ). width_of (record n { words = o }) (selecting l.decimal l.extent ∷ [])) is ∙ taken-bits l.decimal l.extent
vector-wide n (l ∷ k ∷ ls) is few = absurd (let g : nat_lt 1 (length (l ∷ k ∷ ls)) ≡ true = grind (arith, nat_tests) in let f : true ≡ false = sym g ∙ few in cc)

memory-wide : (n : M.Named) (o : Option ℕ) (ls : List SelLimits) → is_some o ≡ true → has_index (selects ls) ≡ true → nat_le (length ls) 2 ≡ true
    → width_of (record n { words = o }) (map (λ (l : SelLimits). selecting l.decimal l.extent) ls) ≡ word_bits n.width (selects ls)
memory-wide n None ls some index few = absurd (cc)
memory-wide n (Some count) [] some index few = absurd (cc)
memory-wide n (Some count) (l ∷ []) some index few = refl
memory-wide n (Some count) (l ∷ k ∷ []) some index few = taken-bits k.decimal k.extent
memory-wide n (Some count) (l ∷ k ∷ j ∷ ls) some index few = absurd (let g : nat_le (length (l ∷ k ∷ j ∷ ls)) 2 ≡ false = grind (arith, nat_tests) in let f : true ≡ false = sym few ∙ g in cc)

abbrev pub SelsKept : Around → M.Scope → List SelRules → List SelLimits → Type 0
SelsKept around sc [] [] = Unit {0}
SelsKept around sc [] (l ∷ ls) = ⊥
SelsKept around sc (s ∷ ss) [] = ⊥
SelsKept around sc (s ∷ ss) (l ∷ ls) = SelKept around sc s l × SelsKept around sc ss ls

pub sels-alike : (around : Around) (sc : M.Scope) (ss : List SelRules) (ls : List SelLimits) → SelsKept around sc ss ls → selected_of ss ≡ selects ls
sels-alike around sc [] [] h = refl
sels-alike around sc [] (l ∷ ls) h = absurd h
sels-alike around sc (s ∷ ss) [] h = absurd h
sels-alike around sc (s ∷ ss) (l ∷ ls) h =
    ap (λ (b : Option ℕ). record { base = b; extent = s.selected.extent } ∷ selected_of ss) h.0.base
    ∙ ap (λ (e : Option VExtent). record { base = l.decimal; extent = e } ∷ selected_of ss) h.0.extent ∙ ap (λ (xs : List Selected). record { base = l.decimal; extent = l.extent } ∷ xs) (sels-alike around sc ss ls h.1)

pub sels-long : (around : Around) (sc : M.Scope) (ss : List SelRules) (ls : List SelLimits) → SelsKept around sc ss ls → length ss ≡ length ls
sels-long around sc [] [] h = refl
sels-long around sc [] (l ∷ ls) h = absurd h
sels-long around sc (s ∷ ss) [] h = absurd h
sels-long around sc (s ∷ ss) (l ∷ ls) h = ap suc (sels-long around sc ss ls h.1)

pub sels-narrow : (around : Around) (sc : M.Scope) (ss : List SelRules) (ls : List SelLimits) (at : ℕ) → SelsKept around sc ss ls → sels_broken ss around at ≡ [] → most_of_sels ls sc ≤ 128
sels-narrow around sc [] [] at h none = omega arith
sels-narrow around sc [] (l ∷ ls) at h none = absurd h
sels-narrow around sc (s ∷ ss) [] at h none = absurd h
sels-narrow around sc (s ∷ ss) (l ∷ ls) at h none =
    let a = h.0.narrow at (left-none (s.broken around at) (sels_broken ss around (at + s.size)) none) in
    let b = sels-narrow around sc ss ls (at + s.size) h.1 (right-none (s.broken around at) (sels_broken ss around (at + s.size)) none) in
    omega (arith, a, b)

few-sels : (ss : List SelRules) (ls : List SelLimits) (ranged : Bool) (at : ℕ) → length ss ≡ length ls → sels_on ranged ss at ≡ [] → nat_lt 1 (length ls) ≡ false
few-sels ss ls ranged at long none =
    sym (ap (λ n. nat_lt 1 n) long) ∙ not-if (more_than 1 ss) (second_sel ss at) (right-none (only_if (more_than 0 ss && not ranged) at) (only_if (more_than 1 ss) (second_sel ss at)) none)

not-false : (b : Bool) → not b ≡ false → b ≡ true
not-false true h = refl
not-false false h = absurd (cc)

pub thing-wide : (t : Option Thing) (n : M.Named) (c : M.Callee) (ss : List SelRules) (ls : List SelLimits) (at : ℕ) → ThingAgrees t n c → selected_of ss ≡ selects ls → length ss ≡ length ls → nat_le (length ls) 2 ≡ true → name_broken t ss at ≡ []
    → width_of n (map (λ (l : SelLimits). selecting l.decimal l.extent) ls) ≡ named_bits t (selected_of ss)
thing-wide None n c ss ls at agree same long few none = absurd (cc)
thing-wide (Some (value kind width ranged)) n c ss ls at agree same long few none =
    vector-wide n ls agree.1 (few-sels ss ls ranged (suc at) long none) ∙ ap (λ w. selected_bits w (selects ls)) agree.0 ∙ ap (selected_bits width) (sym same)
thing-wide (Some (memory width ranged)) n c ss ls at agree same long few none =
    let index = ap has_index (sym same) ∙ not-false (has_index (selected_of ss)) (not-if (not (has_index (selected_of ss))) at (left-none (only_if (not (has_index (selected_of ss))) at) (only_if (more_than 1 ss && not ranged) (second_sel ss (suc at))) none)) in
    memory-wide n n.words ls agree.1 index few ∙ ap (λ w. word_bits w (selects ls)) agree.0 ∙ ap (word_bits width) (sym same)
thing-wide (Some (function width inputs)) n c ss ls at agree same long few none = absurd (cc)
thing-wide (Some (result width ranged inputs)) n c ss ls at agree same long few none =
    vector-wide n ls agree.0.1 (few-sels ss ls ranged (suc at) long none) ∙ ap (λ w. selected_bits w (selects ls)) agree.0.0 ∙ ap (selected_bits width) (sym same)
thing-wide (Some part) n c ss ls at agree same long few none = absurd (cc)

pub name-kept : (around : Around) (sc : M.Scope) (name : Name) (ss : List SelRules) (ls : List SelLimits) → Agrees around sc → nat_le (length ls) 2 ≡ true → SelsKept around sc ss ls
    → Kept around sc (prim_rules (VPrim-F.Name name ss)) (prim_limits (VPrim-F.Name name ls))
name-kept around sc name ss ls agree few h w at none =
    let first = name_broken (around.scope name) ss at in
    let second = sels_broken ss around (suc at) in (
      thing-wide (around.scope name) (M.named sc.names name) (sc.callee name) ss ls at (agree name) (sels-alike around sc ss ls h) (sels-long around sc ss ls h) few (left-none first second none),
      sels-narrow around sc ss ls (suc at) h (right-none first second none),
    )

-- lists of expressions
abbrev pub AllKept : Around → M.Scope → List Rules → List Limits → Type 0
AllKept around sc [] [] = Unit {0}
AllKept around sc [] (l ∷ ls) = ⊥
AllKept around sc (r ∷ rs) [] = ⊥
AllKept around sc (r ∷ rs) (l ∷ ls) = Kept around sc r l × AllKept around sc rs ls

joined-kept : (around : Around) (sc : M.Scope) (rs : List Rules) (ls : List Limits) (at : ℕ) → AllKept around sc rs ls → each_from (λ r from. alone r around from) rs at ≡ [] → (joined_wide ls sc ≡ total (widths rs around)) × (most_of_all ls sc ≤ 128)
joined-kept around sc [] [] at h none = (refl, omega arith)
joined-kept around sc [] (l ∷ ls) at h none = absurd h
joined-kept around sc (r ∷ rs) [] at h none = absurd h
joined-kept around sc (r ∷ rs) (l ∷ ls) at h none =
    let first = alone r around at in
    let rest = each_from (λ x from. alone x around from) rs (at + suc r.size) in
    let a = h.0 (r.width around) at (left-none first rest none) in
    let b = joined-kept around sc rs ls (at + suc r.size) h.1 (right-none first rest none) in
    let n : most_alone l sc ≤ 128 = subst (λ u. l.most u sc ≤ 128) (sym a.0) a.1 in
    (let x = a.0 in let y = b.0 in omega (arith, x, y), let y = b.1 in omega (arith, n, y))

args-kept : (around : Around) (sc : M.Scope) (ns : List ℕ) (rs : List Rules) (ls : List Limits) (at : ℕ) → AllKept around sc rs ls → args_broken ns rs around at ≡ [] → most_of_args ns ls sc ≤ 128
args-kept around sc [] rs ls at h none = omega arith
args-kept around sc (n ∷ ns) [] [] at h none = omega arith
args-kept around sc (n ∷ ns) [] (l ∷ ls) at h none = absurd h
args-kept around sc (n ∷ ns) (r ∷ rs) [] at h none = absurd h
args-kept around sc (n ∷ ns) (r ∷ rs) (l ∷ ls) at h none =
    let first = r.broken around (max n (r.width around)) at in
    let rest = args_broken ns rs around (at + suc r.size) in
    let a = h.0 (max n (r.width around)) at (left-none first rest none) in
    let b = args-kept around sc ns rs ls (at + suc r.size) h.1 (right-none first rest none) in
    let m : most_given n l sc ≤ 128 = subst (λ u. l.most (max n u) sc ≤ 128) (sym a.0) a.1 in
    omega (arith, m, b)

called-wide : (t : Option Thing) (n : M.Named) (c : M.Callee) (rs : List Rules) (at : ℕ) → ThingAgrees t n c → call_broken t rs at ≡ [] → (c.width ≡ called_bits t) × (c.inputs ≡ inputs_of t)
called-wide None n c rs at agree none = absurd (cc)
called-wide (Some (value kind width ranged)) n c rs at agree none = absurd (cc)
called-wide (Some (memory width ranged)) n c rs at agree none = absurd (cc)
called-wide (Some (function width inputs)) n c rs at agree none = agree
called-wide (Some (result width ranged inputs)) n c rs at agree none = agree.1
called-wide (Some part) n c rs at agree none = absurd (cc)

pub call-kept : (around : Around) (sc : M.Scope) (name : Name) (rs : List Rules) (ls : List Limits) → Agrees around sc → AllKept around sc rs ls → Kept around sc (prim_rules (VPrim-F.Call name rs)) (prim_limits (VPrim-F.Call name ls))
call-kept around sc name rs ls agree h w at none =
    let first = call_broken (around.scope name) rs at in
    let second = only_if (around.leads_back name) at in
    let third = args_broken (inputs_of (around.scope name)) rs around (at + 2) in
    let c = called-wide (around.scope name) (M.named sc.names name) (sc.callee name) rs at (agree name) (left-none first (second ++ third) none) in
    let a = args-kept around sc (inputs_of (around.scope name)) rs ls (at + 2) h (right-none second third (right-none first (second ++ third) none)) in
    (c.0, subst (λ ns. most_of_args ns ls sc ≤ 128) (sym c.1) a)

pub repeat-kept : (around : Around) (sc : M.Scope) (count : ℕ) (rs : List Rules) (ls : List Limits) → AllKept around sc rs ls → Kept around sc (prim_rules (VPrim-F.Repeat count rs)) (prim_limits (VPrim-F.Repeat count ls))
repeat-kept around sc count rs ls h w at none =
    let first = only_if (count == 0) (suc at) in
    let rest = each_from (λ r from. alone r around from) rs (at + 3) in
    let k = joined-kept around sc rs ls (at + 3) h (right-none first rest none) in
    (ap (λ n. count * n) k.0, k.1)

pub concat-kept : (around : Around) (sc : M.Scope) (rs : List Rules) (ls : List Limits) → AllKept around sc rs ls → Kept around sc (prim_rules (VPrim-F.Concat rs)) (prim_limits (VPrim-F.Concat ls))
concat-kept around sc rs ls h w at none = joined-kept around sc rs ls (suc at) h none

pub sign-kept : (around : Around) (sc : M.Scope) (signed : Bool) (r : Rules) (l : Limits) → Kept around sc r l → Kept around sc (prim_rules (VPrim-F.Sign signed r)) (prim_limits (VPrim-F.Sign signed l))
sign-kept around sc signed r l h w at none =
    let k = h (r.width around) (at + 2) none in
    (k.0, subst (λ u. l.most u sc ≤ 128) (sym k.0) k.1)

pub moving-kept : (around : Around) (sc : M.Scope) (r : Rules) (l : Limits) (e : Option VExtent) → Kept around sc r l → SelKept around sc (sel_rules (VSel-F.Expr r e)) (sel_limits (VSel-F.Expr l e))
moving-kept around sc r l e h = record {
  base = refl;
  extent = refl;
  narrow = λ at none.
      (
      let k = h (r.width around) (suc at) (right-none (R.moving_extent e (suc at)) (alone r around (suc at)) none) in
      subst (λ u. l.most u sc ≤ 128) (sym k.0) k.1
      );
}
