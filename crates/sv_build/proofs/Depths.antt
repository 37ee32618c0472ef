-- Targets, statements and items one level deeper.
use Rattle.std.proofs.Common.{◌≡◌, ◌+◌, ℕ, zero, suc, [], refl, ap, arith}
use Rattle.ll_engine.specs.declared.tree.Tree.{Tree}
use Rattle.sv_tree.specs.declared.items.Item.{Item}
use Rattle.sv_tree.specs.declared.items.Item.TheVariants as I
use Rattle.sv_tree.specs.declared.statements.BlockItem.{BlockItem}
use Rattle.sv_tree.specs.declared.statements.BlockItem.TheVariants as B
use Rattle.sv_tree.specs.declared.statements.Lvalue.{Lvalue}
use Rattle.sv_tree.specs.declared.statements.Lvalue.TheVariants as L
use Rattle.sv_tree.specs.declared.statements.Stmt.{Stmt}
use Rattle.sv_tree.specs.declared.statements.Stmt.TheVariants as S
use Rattle.expr_build.specs.Nodes.{kid, token}
use Rattle.sv_build.specs.Statements.{concatenated_within, concatenated_from, inside, statement_of, block_item_of}
use Rattle.sv_build.specs.Items.{item_within, item_around}

pub concatenated-zero : (d : ℕ) (t : Tree) → d ≡ 0 → concatenated_within d t ≡ L.Name 0 []
unfolding concatenated_within
concatenated-zero zero t e = refl
concatenated-zero (suc d) t e = absurd (omega (arith, e))

pub concatenated-deeper : (d n : ℕ) (t : Tree) → d ≡ n + 1 → concatenated_within d t ≡ concatenated_from (concatenated_within n) (token 0 t) (kid 1 t)
unfolding concatenated_within
concatenated-deeper zero n t e = absurd (omega (arith, e))
concatenated-deeper (suc d) n t e = let same : d ≡ n = omega (arith, e) in ap (λ m. concatenated_from (concatenated_within m) (token 0 t) (kid 1 t)) same

pub stmt-zero : (d : ℕ) (t : Tree) → d ≡ 0 → (inside d).stmt t ≡ S.Empty 0
unfolding inside
stmt-zero zero t e = refl
stmt-zero (suc d) t e = absurd (omega (arith, e))

pub stmt-deeper : (d n : ℕ) (t : Tree) → d ≡ n + 1 → (inside d).stmt t ≡ statement_of (inside n).stmt (inside n).item t
unfolding inside
stmt-deeper zero n t e = absurd (omega (arith, e))
stmt-deeper (suc d) n t e = let same : d ≡ n = omega (arith, e) in ap (λ m. statement_of (inside m).stmt (inside m).item t) same

pub block-item-zero : (d : ℕ) (t : Tree) → d ≡ 0 → (inside d).item t ≡ B.Statement (S.Empty 0)
unfolding inside
block-item-zero zero t e = refl
block-item-zero (suc d) t e = absurd (omega (arith, e))

pub block-item-deeper : (d n : ℕ) (t : Tree) → d ≡ n + 1 → (inside d).item t ≡ block_item_of (inside n).stmt (inside n).item t
unfolding inside
block-item-deeper zero n t e = absurd (omega (arith, e))
block-item-deeper (suc d) n t e = let same : d ≡ n = omega (arith, e) in ap (λ m. block_item_of (inside m).stmt (inside m).item t) same

pub item-zero : (d : ℕ) (t : Tree) → d ≡ 0 → item_within d t ≡ I.Empty 0
unfolding item_within
item-zero zero t e = refl
item-zero (suc d) t e = absurd (omega (arith, e))

pub item-deeper : (d n : ℕ) (t : Tree) → d ≡ n + 1 → item_within d t ≡ item_around (item_within n) t
unfolding item_within
item-deeper zero n t e = absurd (omega (arith, e))
item-deeper (suc d) n t e = let same : d ≡ n = omega (arith, e) in ap (λ m. item_around (item_within m) t) same
