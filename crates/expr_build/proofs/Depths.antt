-- Expressions one level deeper, and operations of one level of precedence more.
use Rattle.std.proofs.Common.{◌≡◌, ◌+◌, ◌-◌, ℕ, zero, suc, Bool, true, drop, refl, ap, ◌∙◌, arith}
use Rattle.std.proofs.lemmas.Bool.{ne_eqb}
use Rattle.std.proofs.lemmas.Bool.Decides.{nat_tests}
use Rattle.std.specs.Prelude.{◌==◌, if◌then◌else◌}
use Rattle.ll_engine.specs.declared.tree.Tree.{Tree}
use Rattle.sv_tree.specs.declared.expressions.Expr.{Expr}
use Rattle.sv_tree.specs.declared.expressions.Expr.TheVariants as E
use Rattle.expr_build.specs.declared.rows.TheConstants as R
use Rattle.expr_build.specs.Nodes.{kid, kids_of, row_of}
use Rattle.expr_build.specs.Types.{type_within, type_around, no_type}
use Rattle.expr_build.specs.Expressions.{unary_within, operation_within, expr_within, expr_around, level_of, chain_of, operated_of, primary_of, nesting_limit}

eqb-is : (a b : ℕ) → a ≡ b → (a == b) ≡ true
eqb-is a b e = grind (arith, nat_tests, e)

pub expr-zero : (d : ℕ) (t : Tree) → d ≡ 0 → expr_within d t ≡ E.Decimal 0
unfolding expr_within
expr-zero zero t e = refl
expr-zero (suc d) t e = absurd (omega (arith, e))

pub expr-deeper : (d n : ℕ) (t : Tree) → d ≡ n + 1 → expr_within d t ≡ expr_around (expr_within n) t
unfolding expr_within
expr-deeper zero n t e = absurd (omega (arith, e))
expr-deeper (suc d) n t e = let same : d ≡ n = omega (arith, e) in ap (λ m. expr_around (expr_within m) t) same

pub level-zero : (inner : Tree → Expr) (l : ℕ) (t : Tree) → l ≡ 0 → level_of inner l t ≡ unary_within inner nesting_limit t
unfolding operation_within
level-zero inner zero t e = refl
level-zero inner (suc l) t e = absurd (omega (arith, e))

pub level-more : (inner : Tree → Expr) (l n : ℕ) (t : Tree) → l ≡ n + 1
    → level_of inner l t ≡ chain_of inner (level_of inner n) (level_of inner n (kid 0 t)) (drop 1 (kids_of t))
unfolding operation_within
level-more inner zero n t e = absurd (omega (arith, e))
level-more inner (suc l) n t e =
    let same : l ≡ n = omega (arith, e) in
    ap (λ m. chain_of inner (level_of inner m) (level_of inner m (kid 0 t)) (drop 1 (kids_of t))) same

pub unary-zero : (inner : Tree → Expr) (n : ℕ) (t : Tree) → n ≡ 0 → unary_within inner n t ≡ primary_of inner (kid 0 t)
unfolding unary_within
unary-zero inner zero t e = refl
unary-zero inner (suc n) t e = absurd (omega (arith, e))

pub unary-other : (inner : Tree → Expr) (n : ℕ) (t : Tree) → (row_of t ≡ R.UNARY_OPERATION → ⊥) → unary_within inner n t ≡ primary_of inner (kid 0 t)
unfolding unary_within
unary-other inner zero t e = refl
unary-other inner (suc n) t e =
    ap (λ (b : Bool). if b then operated_of (unary_within inner n) t else primary_of inner (kid 0 t)) (ne_eqb (row_of t) R.UNARY_OPERATION e)

pub unary-more : (inner : Tree → Expr) (n m : ℕ) (t : Tree) → n ≡ m + 1 → row_of t ≡ R.UNARY_OPERATION
    → unary_within inner n t ≡ operated_of (unary_within inner m) t
unfolding unary_within
unary-more inner zero m t l e = absurd (omega (arith, l))
unary-more inner (suc n) m t l e =
    let same : n ≡ m = omega (arith, l) in
    ap (λ k. if row_of t == R.UNARY_OPERATION then operated_of (unary_within inner k) t else primary_of inner (kid 0 t)) same
    ∙ ap (λ (b : Bool). if b then operated_of (unary_within inner m) t else primary_of inner (kid 0 t)) (eqb-is (row_of t) R.UNARY_OPERATION e)

pub type-zero : (d : ℕ) (t : Tree) → d ≡ 0 → type_within d t ≡ no_type
unfolding type_within
type-zero zero t e = refl
type-zero (suc d) t e = absurd (omega (arith, e))

pub type-deeper : (d n : ℕ) (t : Tree) → d ≡ n + 1 → type_within d t ≡ type_around (type_within n) t
unfolding type_within
type-deeper zero n t e = absurd (omega (arith, e))
type-deeper (suc d) n t e = let same : d ≡ n = omega (arith, e) in ap (λ m. type_around (type_within m) t) same
