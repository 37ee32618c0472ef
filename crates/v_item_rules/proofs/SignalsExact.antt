-- What is found in declarations of signals is what the rules tell.
use Rattle.std.proofs.Common.{◌≡◌, ℕ, zero, suc, ◌+◌, ◌-◌, ◌==◌, Bool, true, false, not, List, [], ◌∷◌, ◌++◌, map, length, Option, Some, None, refl, sym, ap, ◌∙◌, nat_lt, min, if◌then◌else◌, arith}
use Rattle.std.proofs.lemmas.Bool.Decides.{nat_tests}
use Rattle.std.proofs.lemmas.Bool.{ltb-true, ltb-false}
use Rattle.b4_core.specs.declared.bit.Bit4.{Bit4}
use Rattle.v_tree.specs.Scopes.{bits_of}
use Rattle.v_tree.specs.ExprRules.{only_if, total}
use Rattle.v_tree.specs.StmtRules.{range_size}
use Rattle.v_tree.specs.Rules.{listed_tokens, init_size, init_bits, optional_size, rest_size, signal_size, value_broken, width_broken, rest_broken, signal_broken, most_bits}
use Rattle.v_tree.specs.declared.items.VInit.{VInit}
use Rattle.v_tree.specs.declared.items.VInit.TheVariants as V
use Rattle.v_tree.specs.declared.items.VRegRest.{VRegRest}
use Rattle.v_tree.specs.declared.items.VRegRest.TheVariants as R
use Rattle.v_tree.specs.declared.items.VSignal.{VSignal}
use Rattle.v_tree.specs.declared.items.VSignal.TheVariants.{Input, Output, OutputReg, Wire, Reg}
use Rattle.v_expr_rules.specs.Seen.{last_token, plus, earlier, mark}
use Rattle.v_expr_rules.specs.Least.{cap, first}
use Rattle.v_expr_rules.proofs.Saturation.{plus-cap, first-append, first-if}
use Rattle.v_expr_rules.proofs.Operands.{sum-of}
use Rattle.v_item_rules.specs.Signals.{range_tokens, token_count, listed, init_tokens, optional_tokens, rest_tokens, signal_tokens, fills, init_fills, init_first, optional_first, width_first, rest_first, signal_first}

-- numbers of tokens
pub range-of : (r : Option ℕ) → range_tokens r ≡ range_size r
range-of None = refl
range-of (Some left) = refl

three-more : (r : Option ℕ) → 3 + range_tokens r ≡ cap (3 + range_size r)
three-more None = refl
three-more (Some left) = refl

four-more : (r : Option ℕ) → 4 + range_tokens r ≡ cap (4 + range_size r)
four-more None = refl
four-more (Some left) = refl

suc-test : (n : ℕ) → (suc n == 0) ≡ false
suc-test n = grind (arith, nat_tests)

suc-less : (n : ℕ) → suc n - 1 ≡ n
suc-less n = omega arith

pub listed-of : (n : ℕ) → listed n ≡ cap (listed_tokens n)
listed-of zero = refl
listed-of (suc n) =
    ap (λ b. if b then 0 else plus (token_count (suc n - 1)) (token_count (suc n))) (suc-test n)
    ∙ ap (λ m. plus (token_count m) (token_count (suc n))) (suc-less n)
    ∙ plus-cap n (suc n)

init-of : (v : VInit) → init_tokens v ≡ cap (init_size v)
init-of (V.Number bits) = refl
init-of (V.Concat pieces) = sum-of 3 (listed (length pieces)) 3 (listed_tokens (length pieces)) refl (listed-of (length pieces))

optional-of : (v : Option VInit) → optional_tokens v ≡ cap (optional_size v)
optional-of None = refl
optional-of (Some v) = init-of v

rest-of : (r : Option VRegRest) → rest_tokens r ≡ cap (rest_size r)
rest-of None = refl
rest-of (Some (R.Memory left)) = refl
rest-of (Some (R.Initial v)) = init-of v

both-of : (n k m : ℕ) (a b : ℕ) → a ≡ cap (n + k) → b ≡ cap m → plus a b ≡ cap (n + (k + m))
both-of n k m a b e f = sum-of a b (n + k) m e f ∙ ap cap (omega arith)

pub signal-size : (s : VSignal) → signal_tokens s ≡ cap (signal_size s)
signal-size (Input range name) = three-more range
signal-size (Output range name) = three-more range
signal-size (OutputReg range name initial) = both-of 4 (range_size range) (optional_size initial) (4 + range_tokens range) (optional_tokens initial) (four-more range) (optional-of initial)
signal-size (Wire range name) = three-more range
signal-size (Reg range name rest) = both-of 3 (range_size range) (rest_size rest) (3 + range_tokens range) (rest_tokens rest) (three-more range) (rest-of rest)

-- numbers that have so many bits
zero-equal : (n : ℕ) → (n == 0) ≡ (0 == n)
zero-equal n = grind (arith, nat_tests)

too-many : (n p t : ℕ) → nat_lt n p ≡ true → false ≡ (p + t == n)
too-many n p t e = let h = ltb-true n p e in grind (arith, nat_tests, h)

enough : (n p t : ℕ) → nat_lt n p ≡ false → (t == n - p) ≡ (p + t == n)
enough n p t e = let h = ltb-false n p e in grind (arith, nat_tests, h)

fills-by : (ps : List (List Bit4)) (n p : ℕ) (b : Bool) → nat_lt n p ≡ b → fills ps (n - p) ≡ (total (map length ps) == n - p)
    → (if b then false else fills ps (n - p)) ≡ (p + total (map length ps) == n)
fills-by ps n p true e h = too-many n p (total (map length ps)) e
fills-by ps n p false e h = h ∙ enough n p (total (map length ps)) e

fills-of : (ps : List (List Bit4)) (n : ℕ) → fills ps n ≡ (total (map length ps) == n)
fills-of [] n = zero-equal n
fills-of (p ∷ ps) n = fills-by ps n (length p) (nat_lt n (length p)) refl (fills-of ps (n - length p))

init-fills : (v : VInit) (n : ℕ) → init_fills v n ≡ (init_bits v == n)
init-fills (V.Number bits) n = refl
init-fills (V.Concat pieces) n = fills-of pieces n

init-found : (range : Option ℕ) (v : VInit) (token : ℕ) → init_first range v (cap token) ≡ first (value_broken range (Some v) token)
init-found range v token =
    (λ i. mark (not (init-fills v (bits_of range) i)) (plus-cap token 2 i)) ∙ sym (first-if (not (init_bits v == bits_of range)) (token + 2))

optional-found : (range : Option ℕ) (v : Option VInit) (token : ℕ) → optional_first range v (cap token) ≡ first (value_broken range v token)
optional-found range None token = refl
optional-found range (Some v) token = init-found range v token

width-found : (range : Option ℕ) (token : ℕ) → width_first range (cap token) ≡ first (width_broken range token)
width-found range token = sym (first-if (nat_lt most_bits (bits_of range)) token)

rest-found : (range : Option ℕ) (r : Option VRegRest) (token : ℕ) → rest_first range r (cap token) ≡ first (rest_broken range r token)
rest-found range None token = refl
rest-found range (Some (R.Memory left)) token = sym (first-if (nat_lt most_bits (suc left)) token)
rest-found range (Some (R.Initial v)) token = init-found range v token

one-more : (r : Option ℕ) → 1 + range_tokens r ≡ cap (1 + range_size r)
one-more None = refl
one-more (Some left) = refl

two-more : (r : Option ℕ) → 2 + range_tokens r ≡ cap (2 + range_size r)
two-more None = refl
two-more (Some left) = refl

pub name-token : (r : Option ℕ) (at : ℕ) → plus (cap at) (1 + range_tokens r) ≡ cap (suc at + range_size r)
name-token r at = sum-of (cap at) (1 + range_tokens r) at (1 + range_size r) refl (one-more r) ∙ ap cap (omega arith)

pub reg-token : (r : Option ℕ) (at : ℕ) → plus (cap at) (2 + range_tokens r) ≡ cap (2 + (at + range_size r))
reg-token r at = sum-of (cap at) (2 + range_tokens r) at (2 + range_size r) refl (two-more r) ∙ ap cap (omega arith)

pub signal-found : (s : VSignal) (at : ℕ) → signal_first s (cap at) ≡ first (signal_broken s at)
signal-found (Input range name) at = ap (width_first range) (name-token range at) ∙ width-found range (suc at + range_size range)
signal-found (Output range name) at = ap (width_first range) (name-token range at) ∙ width-found range (suc at + range_size range)
signal-found (OutputReg range name initial) at =
    ap (λ token. earlier (width_first range token) (optional_first range initial token)) (reg-token range at)
    ∙ (λ i. earlier (width-found range (2 + (at + range_size range)) i) (optional-found range initial (2 + (at + range_size range)) i))
    ∙ sym (first-append (width_broken range (2 + (at + range_size range))) (value_broken range initial (2 + (at + range_size range))))
signal-found (Wire range name) at = ap (width_first range) (name-token range at) ∙ width-found range (suc at + range_size range)
signal-found (Reg range name rest) at =
    ap (λ token. earlier (width_first range token) (rest_first range rest token)) (name-token range at)
    ∙ (λ i. earlier (width-found range (suc at + range_size range) i) (rest-found range rest (suc at + range_size range) i))
    ∙ sym (first-append (width_broken range (suc at + range_size range)) (rest_broken range rest (suc at + range_size range)))
