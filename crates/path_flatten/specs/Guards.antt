-- What a guard means, if there is one.
use Rattle.std.specs.Prelude.{Option, Some, None}
use Rattle.v_tree.specs.declared.expressions.VExpr.{VExpr}
use Rattle.v_meaning.specs.Values.{Meaning, meaning}

abbrev pub guard_meaning : Option VExpr → Option Meaning
guard_meaning None = None
guard_meaning (Some g) = Some (meaning g)
