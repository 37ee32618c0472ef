-- Loops over selects, items and arguments.
use Rattle.std.proofs.Common.{◌≡◌, ℕ, ◌+◌, ◌≤◌, ◌<◌, max, min, List, [], ◌∷◌, ◌++◌, append_assoc, length, take, drop, map, get_or, refl, arith, ap, sym, ◌∙◌}
use Rattle.std.proofs.lemmas.List.{append-nil, length-map, length-drop, drop_more}
use Rattle.b4_core.specs.declared.bit.Bit4.{Bit4}
use Rattle.row_machine.specs.Valuation.{Valuation}
use Rattle.v_tree.specs.declared.expressions.VExpr.{VExpr}
use Rattle.v_tree.specs.declared.items.VLocal.{VLocal}
use Rattle.v_meaning.specs.Scopes.{Scope, bits_of_range}
use Rattle.v_meaning.specs.Values.{Meaning, meaning, joined, arguments, given, alone}
use Rattle.v_eval.specs.declared.operators.Context.{Context}
use Rattle.v_eval.specs.Scopes.{own}
use Rattle.v_eval.specs.Vectors.{stacked}
use Rattle.v_eval.proofs.Valued.{at}

pub at-front : {A : Type 0} (xs : List A) (i : ℕ) (x : A) → i < length xs → x ≡ get_or xs i x → drop i xs ≡ x ∷ drop (i + 1) xs
at-front xs i x h is = drop_more xs i x h ∙ ap (λ y. y ∷ drop (i + 1) xs) (sym is)

-- all of these are small where the largest one is
pub head-narrow : (m n : ℕ) → max m n ≤ 128 → m ≤ 128
head-narrow m n h = omega (arith, h)

pub rest-narrow : (m n : ℕ) → max m n ≤ 128 → n ≤ 128
rest-narrow m n h = omega (arith, h)

-- concatenations
pub stacked-more : (pieces : List (List Bit4)) (x : List Bit4) → stacked (pieces ++ x ∷ []) ≡ x ++ stacked pieces
stacked-more [] x = sym (append-nil x)
stacked-more (p ∷ ps) x = ap (λ u. u ++ p) (stacked-more ps x) ∙ append_assoc x (stacked ps) p

pub joined-next : (m : Meaning) (ms : List Meaning) (pieces : List (List Bit4)) (x all : List Bit4) (c : Context) (sc : Scope) (v : Valuation) → c ≡ own m sc → x ≡ at m c sc v → joined (m ∷ ms) sc v ++ stacked pieces ≡ all
    → joined ms sc v ++ stacked (pieces ++ x ∷ []) ≡ all
joined-next m ms pieces x all c sc v of is before =
    ap (λ u. joined ms sc v ++ u) (stacked-more pieces x ∙ ap (λ u. u ++ stacked pieces) (is ∙ ap (λ d. at m d sc v) of))
    ∙ sym (append_assoc (joined ms sc v) (alone m sc v) (stacked pieces)) ∙ before

-- arguments
pub given-is : (m : Meaning) (n : ℕ) (c d : Context) (u x : List Bit4) (sc : Scope) (v : Valuation) → c ≡ own m sc → ◌≡◌ {A = Context} d (record { width = max n c.width; signed = c.signed }) → u ≡ at m d sc v → x ≡ take n u → x ≡ given m n sc v
given-is m n c d u x sc v of ctx is cut =
    cut ∙ ap (take n) (is ∙ ap (λ y. at m y sc v) (ctx ∙ ap (λ (y : Context). record { width = max n y.width; signed = y.signed }) of))

pub args-next : (n : ℕ) (ns : List ℕ) (m : Meaning) (ms : List Meaning) (made all : List (List Bit4)) (x : List Bit4) (sc : Scope) (v : Valuation) → x ≡ given m n sc v → made ++ arguments (n ∷ ns) (m ∷ ms) sc v ≡ all
    → (made ++ x ∷ []) ++ arguments ns ms sc v ≡ all
args-next n ns m ms made all x sc v is before =
    append_assoc made (x ∷ []) (arguments ns ms sc v) ∙ ap (λ y. made ++ y ∷ arguments ns ms sc v) is ∙ before

none-passed : (ns : List ℕ) (ms : List Meaning) (sc : Scope) (v : Valuation) → min (length ns) (length ms) ≡ 0 → arguments ns ms sc v ≡ []
none-passed [] ms sc v h = refl
none-passed (n ∷ ns) [] sc v h = refl
none-passed (n ∷ ns) (m ∷ ms) sc v h = absurd (omega (arith, h))

pub args-done : (ns : List ℕ) (ms : List Meaning) (made all : List (List Bit4)) (sc : Scope) (v : Valuation) → min (length ns) (length ms) ≡ 0 → made ++ arguments ns ms sc v ≡ all → made ≡ all
args-done ns ms made all sc v h is = sym (append-nil made) ∙ ap (λ u. made ++ u) (sym (none-passed ns ms sc v h)) ∙ is

pub args-end : (inputs : List VLocal) (args : List VExpr) (i n : ℕ) (made all : List (List Bit4)) (sc : Scope) (v : Valuation) → n ≡ min (length inputs) (length args) → n ≤ i
    → made ++ arguments (map (λ (l : VLocal). bits_of_range l.range) (drop i inputs)) (map meaning (drop i args)) sc v ≡ all → made ≡ all
args-end inputs args i n made all sc v is h before =
    let f = length-map (drop i inputs) (λ (l : VLocal). bits_of_range l.range) in
    let g = length-map (drop i args) meaning in
    args-done (map (λ (l : VLocal). bits_of_range l.range) (drop i inputs)) (map meaning (drop i args)) made all sc v (omega (arith, is, h, f, g, length-drop i inputs, length-drop i args)) before
