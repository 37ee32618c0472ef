-- What selects make of paths, and what paths read.
use Rattle.std.proofs.Common.{◌≡◌, ℕ, zero, suc, ◌+◌, ◌≤◌, ◌<◌, max, min, Bool, true, false, ◌&&◌, cond, ℤ, pos, negsuc, ◌+ℤ◌, ◌*ℤ◌, List, [], ◌∷◌, map, Option, Some, None, refl, arith, ap, sym, ◌∙◌}
use Rattle.std.specs.Prelude.{slice_index_or, int_le, int_lt, nat_lt}
use Rattle.std.proofs.lemmas.Bool.Decides.{nat_tests}
use Rattle.b4_core.specs.declared.bit.Bit4.{Bit4}
use Rattle.b4_core.specs.declared.bit.Bit4.TheVariants.{X}
use Rattle.b4_core.specs.Vectors.{known, number, ext}
use Rattle.row_machine.specs.Valuation.{Valuation}
use Rattle.row_machine.specs.Places.{bits_from}
use Rattle.picks.specs.Windows.{Window, nowhere, part, picked, bit_at, tabulated, at_least_0}
use Rattle.sv_types.proofs.Picks.{tabulated-same}
use Rattle.v_tree.specs.Names.{Name}
use Rattle.v_tree.specs.declared.expressions.VExpr.{VExpr}
use Rattle.v_tree.specs.declared.expressions.VExtent.{VExtent}
use Rattle.v_tree.specs.declared.expressions.VPrim.{VPrim}
use Rattle.v_tree.specs.declared.expressions.VPrim.TheVariants as O
use Rattle.v_tree.specs.declared.expressions.VSel.{VSel}
use Rattle.v_tree.specs.declared.expressions.VSel.TheVariants as S
use Rattle.v_expr_rules.proofs.Levels as L
use Rattle.v_meaning.specs.Scopes.{Named, Scope, all_bits, named}
use Rattle.v_meaning.specs.Selects as T
use Rattle.v_meaning.specs.Values.{Meaning, meaning, sel_meaning, expr_step, prim_step, sel_step, decimal_base, expression_base, number_of, reference, value_of, width_of}
use Rattle.v_eval.specs.declared.operators.Context.{Context}
use Rattle.v_eval.specs.declared.paths.Path.{Path}
use Rattle.v_eval.specs.declared.paths.Named as N
use Rattle.v_eval.specs.declared.held.Slot.{Slot}
use Rattle.v_eval.specs.declared.scopes.Scope as C
use Rattle.v_eval.specs.Holding.{holding, bits_in, bit_or_x}
use Rattle.v_eval.specs.Indices.{clamped}
use Rattle.v_eval.specs.Names.{nameless, names_of}
use Rattle.v_eval.specs.Paths.{path_of, selecting, IsShort, named_or_not}
use Rattle.v_eval.specs.Scopes.{own, scope_of, prim_meaning}
use Rattle.v_eval.specs.Windows.{window_of}
use Rattle.v_eval.proofs.Clamping.{select-clamped, clamped_base, based}
use Rattle.v_eval.proofs.Levels.{is-name}
use Rattle.v_eval.proofs.Valued.{at}

pub is-decimal : (x : VSel) (base : ℕ) (e : Option VExtent) → x ≡ S.Decimal base e → sel_meaning x ≡ decimal_base base e
is-decimal x base e is = ap sel_meaning is ∙ L.at-decimal expr_step prim_step sel_step base e

pub is-moving : (x : VSel) (b : VExpr) (e : Option VExtent) → x ≡ S.Expr b e → sel_meaning x ≡ expression_base (meaning b) e
is-moving x b e is = ap sel_meaning is ∙ L.at-moving expr_step prim_step sel_step b e

pub step-decimal : (r q : Path) (x : VSel) (base : ℕ) (e : Option VExtent) (sc : Scope) (v : Valuation) → x ≡ S.Decimal base e → path_of r ≡ T.select (selecting (Some base) e) (Some (pos base)) (path_of q)
    → path_of r ≡ T.select (sel_meaning x) ((sel_meaning x).base sc v) (path_of q)
step-decimal r q x base e sc v is of = of ∙ sym (ap (λ (m : T.SelMeaning). T.select m (m.base sc v) (path_of q)) (is-decimal x base e is))

-- an index that is valued alone
index-is : (i : Option ℤ) (u : List Bit4) (c : Context) (m : Meaning) (sc : Scope) (v : Valuation) → c ≡ own m sc → u ≡ at m c sc v → i ≡ cond (known u) (Some (clamped (number c.signed u))) None
    → i ≡ clamped_base (number_of m.signed (at m (own m sc) sc v))
index-is i u c m sc v of value is =
    is ∙ based (known u) (number c.signed u) ∙ ap (λ b. clamped_base (cond (known u) (Some (number b u)) None)) (ap (λ (d : Context). d.signed) of)
    ∙ ap (λ w. clamped_base (number_of m.signed w)) (value ∙ ap (λ d. at m d sc v) of)

pub step-moving : (r q : Path) (x : VSel) (b : VExpr) (e : Option VExtent) (i : Option ℤ) (u : List Bit4) (c : Context) (sc : Scope) (v : Valuation) → x ≡ S.Expr b e → c ≡ own (meaning b) sc → u ≡ at (meaning b) c sc v
    → i ≡ cond (known u) (Some (clamped (number c.signed u))) None → path_of r ≡ T.select (selecting None e) i (path_of q) → IsShort q → IsShort r → path_of r ≡ T.select (sel_meaning x) ((sel_meaning x).base sc v) (path_of q)
step-moving r q x b e i u c sc v is of value index path h g =
    let k = number_of (meaning b).signed (at (meaning b) (own (meaning b) sc) sc v) in
    select-clamped r q None e k (path ∙ ap (λ j. T.select (selecting None e) j (path_of q)) (index-is i u c (meaning b) sc v of value index)) h g
    ∙ sym (ap (λ (m : T.SelMeaning). T.select m (m.base sc v) (path_of q)) (is-moving x b e is))

-- no select reaches above what it selects from
trimmed-high : (b : Bool) (p : Window) → (cond b p nowhere).high ≤ p.high
trimmed-high true p = omega arith
trimmed-high false p = omega arith

part-high : (o : ℤ) (w : ℕ) (p : Window) → (part o w p).high ≤ p.high
part-high o w p =
    let h = trimmed-high (nat_lt (max p.low (at_least_0 (p.shift +ℤ o))) (min p.high (at_least_0 (p.shift +ℤ o +ℤ pos w)))) (record {
      shift = p.shift +ℤ o;
      low = max p.low (at_least_0 (p.shift +ℤ o));
      high = min p.high (at_least_0 (p.shift +ℤ o +ℤ pos w));
    }) in
    omega arith

word-high : (b : Bool) (o : ℤ) (w : ℕ) (p : Window) → (cond b (part o w p) nowhere).high ≤ p.high
word-high true o w p = part-high o w p
word-high false o w p = omega arith

bits-high : (s : T.SelMeaning) (k : Option ℤ) (p : T.Path) → (T.bits_at s k p).window.high ≤ p.window.high
bits-high s None p = omega arith
bits-high s (Some k) p = part-high (T.lowest s.extent k) (T.taken s.decimal s.extent) p.window

at-word-high : (count : ℕ) (k : Option ℤ) (p : T.Path) → (T.word_at count k p).window.high ≤ p.window.high
at-word-high count None p = omega arith
at-word-high count (Some k) p = word-high (int_le (pos 0) k && int_lt k (pos count)) (k *ℤ pos p.width) p.width p.window

select-high-by : (o : Option ℕ) (s : T.SelMeaning) (k : Option ℤ) (p : T.Path) → (elim o as (λ x. T.Path) [ None ↦ T.bits_at s k p | Some count ↦ T.word_at count k p ]).window.high ≤ p.window.high
select-high-by None s k p = bits-high s k p
select-high-by (Some count) s k p = at-word-high count k p

path-high : (sc : Scope) (v : Valuation) (ss : List T.SelMeaning) (p : T.Path) → (T.path_from sc v ss p).window.high ≤ p.window.high
path-high sc v [] p = omega arith
path-high sc v (s ∷ ss) p =
    let h = path-high sc v ss (T.select s (s.base sc v) p) in
    let g = select-high-by p.words s (s.base sc v) p in
    omega (arith, h, g)

-- a bit that is in range lies below the upper end
abbrev IsBelow : ℕ → Option ℕ → Type 0
IsBelow high None = Unit {0}
IsBelow high (Some k) = k < high

below-by : (b : Bool) (low high : ℕ) (k : ℤ) → (int_le (pos low) k && int_lt k (pos high)) ≡ b → IsBelow high (cond b (Some (at_least_0 k)) None)
below-by true low high (pos n) is = grind (arith, nat_tests)
below-by true low high (negsuc n) is = absurd (cc)
below-by false low high k is = tt

picked-below : (p : Window) (j : ℕ) → IsBelow p.high (picked p j)
picked-below p j = below-by _ p.low p.high (pos j +ℤ p.shift) refl

index-bits : (v : Valuation) (n from w k : ℕ) → k < w → slice_index_or (bits_from v n from w) k X ≡ v (record { signal = n; bit = from + k })
index-bits v n from zero k h = absurd (omega arith)
index-bits v n from (suc w) zero h = ap (λ j. v (record { signal = n; bit = j })) (omega arith)
index-bits v n from (suc w) (suc k) h = index-bits v n (suc from) w k (omega arith) ∙ ap (λ j. v (record { signal = n; bit = j })) (omega arith)

bit-same : (v : Valuation) (n w : ℕ) (bits : List Bit4) (o : Option ℕ) (high : ℕ) → ((k : ℕ) → v (record { signal = n; bit = k }) ≡ slice_index_or bits k X) → IsBelow high o → high ≤ w → bit_or_x bits o ≡ bit_at (bits_from v n 0 w) o
bit-same v n w bits None high same below h = refl
bit-same v n w bits (Some k) high same below h = sym (index-bits v n 0 w k (omega (arith, below, h)) ∙ ap (λ j. v (record { signal = n; bit = j })) (omega arith) ∙ same k)

-- what a name with selects reads
name-read : (n : Named) (ss : List T.SelMeaning) (sc : Scope) (v : Valuation) (bits : List Bit4) → ((k : ℕ) → v (record { signal = n.number; bit = k }) ≡ slice_index_or bits k X)
    → tabulated (width_of n ss) (λ j. bit_or_x bits (picked (T.path_from sc v ss (T.start n)).window j)) ≡ value_of n ss sc v
name-read n ss sc v bits same =
    let w = (T.path_from sc v ss (T.start n)).window in
    tabulated-same (width_of n ss) (λ j. bit_or_x bits (picked w j)) (λ j. bit_at (bits_from v n.number 0 (all_bits n)) (picked w j))
    (λ j h. bit-same v n.number (all_bits n) bits (picked w j) w.high same (picked-below w j) (path-high sc v ss (T.start n)))

name-means : (name : Name) (ss : List T.SelMeaning) (n : Named) (c : Context) (sc : Scope) (v : Valuation) → n ≡ nameless (named sc.names name) → ext c.width c.signed (value_of n ss sc v) ≡ at (reference name ss) c sc v
unfolding reference
name-means name ss n c sc v is = ap (λ m. ext c.width c.signed (value_of m ss sc v)) is

pub name-valued : (r u : List Bit4) (p : VPrim) (name : Name) (ss : List VSel) (o : Option N.Named) (q : Path) (c : Context) (s : C.Scope) (signals : List (List Bit4)) (over : List Slot) (locals : List (List Bit4)) → p ≡ O.Name name ss
    → named_or_not o ≡ nameless (named (names_of s) name) → path_of q ≡ T.path_from (scope_of s) (holding signals over locals) (map sel_meaning ss) (T.start (named_or_not o))
    → u ≡ tabulated (width_of (named_or_not o) (map sel_meaning ss)) (λ j. bit_or_x (bits_in signals over locals (named_or_not o).number) (picked (window_of q.window) j))
    → r ≡ ext c.width c.signed u → r ≡ at (prim_meaning p) c (scope_of s) (holding signals over locals)
name-valued r u p name ss o q c s signals over locals is found path read outer =
    let n = named_or_not o in
    let v = holding signals over locals in
    let bits = bits_in signals over locals n.number in
    outer
    ∙ ap (ext c.width c.signed) (read ∙ ap (λ (x : T.Path). tabulated (width_of n (map sel_meaning ss)) (λ j. bit_or_x bits (picked x.window j))) path ∙ name-read n (map sel_meaning ss) (scope_of s) v bits (λ k. refl))
    ∙ name-means name (map sel_meaning ss) n c (scope_of s) v found ∙ sym (ap (λ m. at m c (scope_of s) v) (is-name p name ss is))
