-- Casts to sizes that are named.
use Rattle.std.specs.Prelude.{List, Ok}
use Rattle.sv_tree.specs.Extents.{qualified_first}
use Rattle.sv_tree.specs.declared.expressions.Cast.{Cast}
use Rattle.sv_tree.specs.declared.expressions.Select.{Select}
use Rattle.sv_tree.specs.declared.names.QualifiedName.{QualifiedName}
use Rattle.sv_types.specs.declared.statement.Function.{Function}
use Rattle.expr_type.specs.declared.operand.Valued.{Valued}
use Rattle.expr_type.specs.Forms.{plain}
use Rattle.expr_type.specs.Names.{Context}
use Rattle.expr_type.specs.Typings.{Typing}
use Rattle.typing_steps.specs.Steps.{TypesTo}
use Rattle.typing_values.specs.Numbers.{CanBeValued}
use Rattle.typing_values.specs.Parts.{by_size, named_path}

abbrev pub size_named : Context → QualifiedName → List Select → Cast → Typing Valued
size_named k of ss c = by_size k (qualified_first of) (plain (named_path k of ss)) c

-- what a name with selects behind it gives can be valued as a constant, where these functions are known before it
pub record PathFits (k : Context) (of : QualifiedName) (ss : List Select) (fs : List Function) : Type 0 where
  pub fits : (v : Valued) (gs : List Function) → TypesTo (Ok v) (named_path k of ss fs) gs → CanBeValued gs v
