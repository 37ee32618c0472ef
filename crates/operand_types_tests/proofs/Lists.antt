-- Narrow parts, and narrow items, with one more.
use Rattle.std.proofs.Common.{List, [], ◌∷◌, ◌++◌}
use Rattle.operand_types.specs.Allowed.{AllNarrow, IsNarrowExpr}
use Rattle.sv_types.specs.declared.expression.Expr.{Expr}
use Rattle.inside_types.specs.Alternatives.{AllNarrowIn, IsNarrowIn}
use Rattle.inside_types.specs.declared.alternatives.Alternative.{Alternative}

pub all-push : (ps : List Expr) (e : Expr) → AllNarrow ps → IsNarrowExpr e → AllNarrow (ps ++ e ∷ [])
all-push [] e k n = (n, tt)
all-push (p ∷ ps) e k n = (k.0, all-push ps e k.1 n)

pub in-push : (items : List Alternative) (a : Alternative) → AllNarrowIn items → IsNarrowIn a → AllNarrowIn (items ++ a ∷ [])
in-push [] a k n = (n, tt)
in-push (i ∷ rest) a k n = (k.0, in-push rest a k.1 n)

pub ruleset lists = (all-push, in-push)
