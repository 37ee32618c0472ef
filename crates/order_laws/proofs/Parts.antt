-- Trees whose tokens ascend in a part of a text, and what stands behind one another in it.
use Rattle.std.proofs.Common.{ℕ, suc, ◌≤◌, ◌<◌, ◌++◌, List, [], ◌∷◌, map, Option, Some, None, arith}
use Rattle.sv_tree.specs.Extents.{qualified_first, scoped_first}
use Rattle.sv_tree.specs.declared.expressions.Dimension.{Dimension}
use Rattle.sv_tree.specs.declared.expressions.Expr.{Expr}
use Rattle.sv_tree.specs.declared.expressions.Select.{Select}
use Rattle.sv_tree.specs.declared.expressions.SliceSize.{SliceSize}
use Rattle.sv_tree.specs.declared.names.PackageScope.{PackageScope}
use Rattle.sv_tree.specs.declared.names.QualifiedName.{QualifiedName}
use Rattle.sv_tree.specs.declared.types.TypeText.{TypeText}
use Rattle.expr_type.specs.Names.{Context}
use Rattle.expr_type.specs.Expressions.{meaning, select_meaning, slice_meaning, type_of_name}
use Rattle.expr_type.specs.Types.{dims, typed_text}
use Rattle.expr_type.specs.Targets.{simple_name}
use Rattle.expr_type.specs.Placed.{Ascend, PlacedTyping, RoutinesInOrder, SelectsInOrder}
use Rattle.order_laws.specs.Meanings.{ExprInOrder, DimsTyping, TypeIf}
use Rattle.order_laws.specs.Ordered.{Tokens, in_row, scope_tokens, name_tokens, expr_tokens, selects_tokens, slice_tokens, dims_tokens, type_tokens}
use Rattle.order_laws.proofs.Tokens.{split}
use Rattle.order_laws.proofs.Typings.{Each}

-- where the tokens of a tree ascend it is so
abbrev pub Ordered : {A : Type 0} → (A → Tokens) → (ℕ → ℕ → A → Type 0) → A → Type 0
Ordered tokens P a = (low high : ℕ) → low ≤ high → Ascend low high (tokens a) → P low high a

-- what statements take of expressions and types
pub record PartsInOrder : Type 0 where
  pub expr : (e : Expr) → Ordered expr_tokens (λ low high e. ExprInOrder low high (meaning e)) e
  pub selects : (ss : List Select) → Ordered selects_tokens (λ low high ss. SelectsInOrder low high (map select_meaning ss)) ss
  pub slice : (z : SliceSize) → Ordered slice_tokens (λ low high z. (k : Context) → RoutinesInOrder k → PlacedTyping k.source.instance low high (slice_meaning z k)) z
  pub dims : (ds : List Dimension) → Ordered dims_tokens (λ low high ds. (k : Context) → RoutinesInOrder k → DimsTyping k.source.instance low high (dims k ds)) ds
  pub text : (t : TypeText) → Ordered type_tokens (λ low high t. (k : Context) → RoutinesInOrder k → PlacedTyping k.source.instance low high (typed_text t k)) t
  -- a name with selects as a type with dimensions
  pub named : (at : ℕ) (ss : List Select) → Ordered selects_tokens (λ low high ss. (k : Context) → RoutinesInOrder k → TypeIf k.source.instance low high (type_of_name k (simple_name at) (map select_meaning ss))) ss

-- what is made of things that stand behind one another
pub each-of : {A B : Type 0} (f : A → B) (P : ℕ → ℕ → A → Type 0) (Q : ℕ → ℕ → B → Type 0) → ((low high : ℕ) (a : A) → P low high a → Q low high (f a))
    → (as' : List A) (low high : ℕ) → Each P low high as' → Each Q low high (map f as')
each-of f P Q ok [] low high p = p
each-of f P Q ok (a ∷ as') low high p = (p.0, p.1, p.2, ok low p.0 a p.3, each-of f P Q ok as' p.0 high p.4)

-- trees in a row
pub each-in-row : {A : Type 0} (tokens : A → Tokens) (P : ℕ → ℕ → A → Type 0) → ((a : A) → Ordered tokens P a) → (as' : List A) (low high : ℕ) → low ≤ high
    → Ascend low high (in_row (map tokens as')) → Each P low high as'
each-in-row tokens P ok [] low high h a = h
each-in-row tokens P ok (x ∷ xs) low high h a =
    let s = split (tokens x) (in_row (map tokens xs)) low high h a in
    (s.between, s.from, s.to, ok x low s.between s.from s.before, each-in-row tokens P ok xs s.between high s.to s.behind)

-- trees of which it is known already
pub each-known : {A : Type 0} (tokens : A → Tokens) (P : ℕ → ℕ → A → Type 0) (ys : List ((a : A) × Ordered tokens P a)) (low high : ℕ) → low ≤ high
    → Ascend low high (in_row (map tokens (map (λ y. y.0) ys))) → Each P low high (map (λ y. y.0) ys)
each-known tokens P [] low high h a = h
each-known tokens P (y ∷ ys) low high h a =
    let s = split (tokens y.0) (in_row (map tokens (map (λ z. z.0) ys))) low high h a in
    (s.between, s.from, s.to, y.1 low s.between s.from s.before, each-known tokens P ys s.between high s.to s.behind)

-- a name, and what stands behind it
pub record Named (low high : ℕ) (of : QualifiedName) (ts : List ℕ) : Type 0 where
  pub begins : low ≤ qualified_first of
  pub ends : qualified_first of < high
  pub from : low ≤ of.name
  pub before : of.name < high
  pub behind : Ascend (suc of.name) high ts

pub named : (of : QualifiedName) (ts : List ℕ) (low high : ℕ) → Ascend low high (name_tokens of ++ ts) → Named low high of ts
named of ts low high a =
    let n = by of.scope a in
    record { begins = n.0; ends = n.1; from = n.2; before = n.3; behind = n.4 }
  where
    by : (o : Option PackageScope) → Ascend low high ((scope_tokens o ++ (of.name ∷ [])) ++ ts)
        → (low ≤ scoped_first o of.name) × (scoped_first o of.name < high) × (low ≤ of.name) × (of.name < high) × Ascend (suc of.name) high ts
    by None b = (b.0, b.1, b.0, b.1, b.2)
    by (Some s) b = let c = b.0 in let d = b.2.0 in (c, b.1, omega arith, b.2.1, b.2.2)
