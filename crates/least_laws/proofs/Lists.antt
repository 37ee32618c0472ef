-- Lists and optional parts that are read from the parts of a node.
use Rattle.std.proofs.Common.{◌≡◌, ℕ, suc, ◌≤◌, false, List, [], ◌∷◌, ◌++◌, map, drop, Option, Some, None, refl, sym, ap, ◌∙◌, subst, append_assoc, arith}
use Rattle.std.specs.Prelude.{slice_get}
use Rattle.std.specs.Option.{option_map}
use Rattle.ll_engine.specs.declared.tree.Tree.{Tree}
use Rattle.expr_build.specs.Nodes.{kids_of, kid, tree_or, optional, is_none, is_blank, separated, behind_marks}
use Rattle.expr_type.specs.Placed.{Ascend}
use Rattle.expr_type.proofs.Ordering.{ascend-append}
use Rattle.order_laws.specs.Ordered.{Tokens, in_row, if_there}
use Rattle.least_laws.proofs.Tests.{by-test}
use Rattle.least_laws.proofs.Spans.{Spans, AllSpan, Facts}
use Rattle.least_laws.proofs.Spans.Shape.{Token, One, Each}

-- what is read from each node of a head ascends where the node stands
abbrev pub Ordered : {A : Type 0} → ℕ → ℕ → (A → Tokens) → (Tree → A) → Type 0
Ordered h n w read = (t : Tree) (at to lo hi : ℕ) → Spans h n at t to → lo ≤ at → to ≤ hi → Ascend lo hi (w (read t))

-- and likewise where it isn't empty
abbrev pub OrderedIf : {A : Type 0} → ℕ → ℕ → (A → Tokens) → (Tree → A) → Type 0
OrderedIf h n w read = (t : Tree) (at to lo hi : ℕ) → Spans h n at t to → is_blank t ≡ false → lo ≤ at → to ≤ hi → Ascend lo hi (w (read t))

pub append : {lo hi : ℕ} (ts us : List ℕ) (between : ℕ) → lo ≤ between → between ≤ hi → Ascend lo between ts → Ascend between hi us → Ascend lo hi (ts ++ us)
append {lo} {hi} ts us between h k a b = ascend-append ts us lo between hi h k a b

pub all-rise : (h n : ℕ) (ts : List Tree) (at to : ℕ) → AllSpan h n at ts to → at ≤ to
all-rise h n [] at to s = omega (arith, s)
all-rise h n (t ∷ ts) at to s = let k = all-rise h n ts s.0 to s.3 in omega arith

-- a node that ends where the text does
pub end-at : {h n at mid to : ℕ} {t : Tree} → mid ≡ to → Spans h n at t mid → Spans h n at t to
end-at {h} {n} {at} {t = t} e s = subst (λ m. Spans h n at t m) e s

-- a first node, and those behind it, if there are any
abbrev pub Behind : ℕ → ℕ → ℕ → ℕ → Tree → List Tree → ℕ → Type 0
Behind h m n at t ts to = (mid : ℕ) × (at ≤ mid) × Spans h n at (tree_or t (slice_get ts 0)) mid × AllSpan m n mid (drop 1 ts) to

module _ {A : Type 0} (h n : ℕ) (w : A → Tokens) (read : Tree → A) (ok : Ordered h n w read) where
  pub each : (ts : List Tree) (at to lo hi : ℕ) → AllSpan h n at ts to → lo ≤ at → to ≤ hi → Ascend lo hi (in_row (map w (map read ts)))
  each [] at to lo hi s a b = tt
  each (t ∷ ts) at to lo hi s a b =
      let k = all-rise h n ts s.0 to s.3 in
      append _ _ s.0 (omega arith) (omega arith) (ok t at s.0 lo s.0 s.2 a (omega arith)) (each ts s.0 to s.0 hi s.3 (omega arith) b)

  -- nodes behind a mark each
  module _ (m : ℕ) (next : (from end : ℕ) (t : Tree) → Spans m n from t end → Facts (Token ∷ One h ∷ []) 0 n t from end) where
    pub behind : (ts : List Tree) (at to lo hi : ℕ) → AllSpan m n at ts to → lo ≤ at → to ≤ hi → Ascend lo hi (in_row (map w (behind_marks read ts)))
    behind [] at to lo hi s a b = tt
    behind (t ∷ ts) at to lo hi s a b =
        let k = all-rise m n ts s.0 to s.3 in
        let f = next at s.0 t s.2 in
        append _ _ s.0 (omega arith) (omega arith) (ok (kid 1 t) (suc at) f.2.0 lo s.0 f.2.2 (omega arith) (let e = f.2.3 in omega (arith, e)))
        (behind ts s.0 to s.0 hi s.3 (omega arith) b)

    apart : (t : Tree) (ts : List Tree) (at to lo hi : ℕ) → (is_none ts ≡ false → Behind h m n at t ts to) → lo ≤ at → to ≤ hi → Ascend lo hi (in_row (map w (separated read ts)))
    apart t [] at to lo hi s a b = tt
    apart t (x ∷ xs) at to lo hi s a b =
        let f = s refl in
        let k = all-rise m n xs f.0 to f.3 in
        append _ _ f.0 (omega arith) (omega arith) (ok x at f.0 lo f.0 f.2 a (omega arith)) (behind xs f.0 to f.0 hi f.3 (omega arith) b)

    pub items-if : (t : Tree) (at to lo hi : ℕ) → (is_blank t ≡ false → Facts (One h ∷ Each m ∷ []) 0 n t at to) → lo ≤ at → to ≤ hi → Ascend lo hi (in_row (map w (separated read (kids_of t))))
    items-if t at to lo hi s a b = apart t (kids_of t) at to lo hi s a b

  -- a first node and as many of the same head as there are
  gathered : (t : Tree) (ts : List Tree) (at to lo hi : ℕ) → (is_none ts ≡ false → Behind h h n at t ts to) → lo ≤ at → to ≤ hi → Ascend lo hi (in_row (map w (map read ts)))
  gathered t [] at to lo hi s a b = tt
  gathered t (x ∷ xs) at to lo hi s a b =
      let f = s refl in
      let k = all-rise h n xs f.0 to f.3 in
      append _ _ f.0 (omega arith) (omega arith) (ok x at f.0 lo f.0 f.2 a (omega arith)) (each xs f.0 to f.0 hi f.3 (omega arith) b)

  pub items-whole : (t : Tree) (at to lo hi : ℕ) → Facts (One h ∷ Each h ∷ []) 0 n t at to → lo ≤ at → to ≤ hi → Ascend lo hi (in_row (map w (map read (kids_of t))))
  items-whole t at to lo hi f a b = gathered t (kids_of t) at to lo hi (λ e. f) a b

module _ {A : Type 0} (h n : ℕ) (w : A → Tokens) (read : Tree → A) (ok : OrderedIf h n w read) where
  pub if-read : (t : Tree) (at to lo hi : ℕ) → Spans h n at t to → lo ≤ at → to ≤ hi → Ascend lo hi (if_there (option_map w (optional read t)))
  if-read t at to lo hi s a b = by-test (λ (o : Option A). Ascend lo hi (if_there (option_map w o))) (is_blank t) None (Some (read t)) (λ e. tt) (λ e. ok t at to lo hi s e a b)

-- two lists, one behind the other
module _ {A : Type 0} (w : A → Tokens) where
  pub joined-row : (xs ys : List A) → in_row (map w (xs ++ ys)) ≡ in_row (map w xs) ++ in_row (map w ys)
  joined-row [] ys = refl
  joined-row (x ∷ xs) ys = ap (λ (ts : Tokens). w x ++ ts) (joined-row xs ys) ∙ sym (append_assoc (w x) (in_row (map w xs)) (in_row (map w ys)))
