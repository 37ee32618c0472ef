-- There are statements in each half of some statements.
use Rattle.std.proofs.Common.{◌≡◌, ℕ, ◌+◌, ◌<◌, ◌≤◌, Bool, List, [], ◌∷◌, ◌++◌, map, length, get_or, arith, ap, ◌∙◌, rules}
use Rattle.sv_source.specs.declared.token.Spot.{Spot}
use Rattle.sv_types.specs.declared.expression.Expr.{Expr}
use Rattle.sv_types.specs.declared.statement.CaseItem.{CaseItem}
use Rattle.sv_types.specs.declared.statement.Stmt.{Stmt, the_lemmas}
use Rattle.sv_types.specs.declared.statement.Stmt.TheVariants as V
use Rattle.sv_types.specs.Meanings.{total}
use Rattle.eval_stmts.proofs.Sizes as N
use Rattle.eval_stmts.proofs.Sizes.{nodes, item_nodes}
use Rattle.flow_laws.proofs.Terms.{by-stmt}

nodes-Assign : (to : List Expr) (value : Expr) (later : Bool) (spot : Spot) → nodes (V.Assign to value later spot) ≡ 1
nodes-Assign to value later spot = search (rules, the_lemmas)

nodes-Call : (f : ℕ) (es : List Expr) (spot : Spot) → nodes (V.Call f es spot) ≡ 1
nodes-Call f es spot = search (rules, the_lemmas)

nodes-Break : nodes V.Break ≡ 1
nodes-Break = search (rules, the_lemmas)

nodes-Continue : nodes V.Continue ≡ 1
nodes-Continue = search (rules, the_lemmas)

nodes-Return : nodes V.Return ≡ 1
nodes-Return = search (rules, the_lemmas)

pub some-node : (s : Stmt) → 1 ≤ nodes s
some-node = by-stmt (λ s. 1 ≤ nodes s) (λ i. Unit {0}) (record {
  item = λ i h. tt;
  block = λ ls ss h. omega (arith, N.nodes-Block ls ss);
  branch = λ on body other h g. omega (arith, N.nodes-If on body other);
  select = λ kind on is other h g. omega (arith, N.nodes-Case kind on is other);
  loop = λ n first test step body spot h. omega (arith, N.nodes-Loop n first test step body spot);
  assign = λ to value later spot. omega (arith, nodes-Assign to value later spot);
  call = λ f es spot. omega (arith, nodes-Call f es spot);
  made = λ ls ss body h g. omega (arith, N.nodes-Made ls ss body);
  breaks = omega (arith, nodes-Break);
  continues = omega (arith, nodes-Continue);
  returns = omega (arith, nodes-Return);
})

some-item : (i : CaseItem) → 1 ≤ item_nodes i
some-item i = omega (arith, N.item-nodes i, some-node i.body)

module _ (A : Type 0) (size : A → ℕ) (some : (x : A) → 1 ≤ size x) where
  size-append : (xs ys : List A) → total (map size (xs ++ ys)) ≡ total (map size xs) + total (map size ys)
  size-append [] ys = omega arith
  size-append (x ∷ xs) ys = omega (arith, size-append xs ys)

  size-some : (xs : List A) → length xs ≤ total (map size xs)
  size-some [] = omega arith
  size-some (x ∷ xs) = omega (arith, some x, size-some xs)

  pub size-one : (xs : List A) (x : A) → length xs ≡ 1 → x ≡ get_or xs 0 x → total (map size xs) ≡ size x
  size-one [] x one is = absurd (omega arith)
  size-one (y ∷ []) x one is = omega (arith, ap size is)
  size-one (y ∷ (z ∷ zs)) x one is = absurd (omega arith)

  pub front-less : (a b all : List A) → a ++ b ≡ all → 1 ≤ length b → total (map size a) < total (map size all)
  front-less a b all is some_ = omega (arith, ap (λ xs. total (map size xs)) is, size-append a b, size-some b)

  pub back-less : (a b all : List A) → a ++ b ≡ all → 1 ≤ length a → total (map size b) < total (map size all)
  back-less a b all is some_ = omega (arith, ap (λ xs. total (map size xs)) is, size-append a b, size-some a)

pub stmt-halves : (a b all : List Stmt) → a ++ b ≡ all → 1 ≤ length a → 1 ≤ length b → (total (map nodes a) < total (map nodes all)) × (total (map nodes b) < total (map nodes all))
stmt-halves a b all is la lb = (front-less Stmt nodes some-node a b all is lb, back-less Stmt nodes some-node a b all is la)

pub item-halves : (a b all : List CaseItem) → a ++ b ≡ all → 1 ≤ length a → 1 ≤ length b → (total (map item_nodes a) < total (map item_nodes all)) × (total (map item_nodes b) < total (map item_nodes all))
item-halves a b all is la lb = (front-less CaseItem item_nodes some-item a b all is lb, back-less CaseItem item_nodes some-item a b all is la)

pub one-stmt : (xs : List Stmt) (x : Stmt) → length xs ≡ 1 → x ≡ get_or xs 0 x → total (map nodes xs) ≡ nodes x
one-stmt = size-one Stmt nodes some-node

pub one-item : (xs : List CaseItem) (x : CaseItem) → length xs ≡ 1 → x ≡ get_or xs 0 x → total (map item_nodes xs) ≡ nodes x.body
one-item xs x one is = size-one CaseItem item_nodes some-item xs x one is ∙ N.item-nodes x
