-- The expressions that stand in a type.
use Rattle.std.specs.Prelude.{List, [], Option, Some, None}
use Rattle.sv_tree.specs.declared.expressions.Cast.{Cast}
use Rattle.sv_tree.specs.declared.expressions.Expr.{Expr, Expr-F, out-Expr}
use Rattle.typing_paths.specs.TypingValues.{in_dimensions, in_selects}

-- a word or a name with something cast to it is no type
abbrev pub uncast : Option Cast → List Expr → List Expr
uncast None es = es
uncast (Some c) es = []

abbrev pub in_type : Expr → List Expr
in_type e = elim (out-Expr e) [
  | Expr-F.Type of packed cast ↦ uncast cast (in_dimensions packed)
  | Expr-F.«Expr::Name» of selects cast ↦ uncast cast (in_selects selects)
  | _ ↦ []
]
