-- Which expressions are types.
use Rattle.std.specs.Prelude.{◌≡◌, List, map, Some, None}
use Rattle.sv_tree.specs.declared.expressions.Dimension.{Dimension}
use Rattle.sv_tree.specs.declared.expressions.Expr.{Expr}
use Rattle.sv_tree.specs.declared.expressions.Select.{Select}
use Rattle.sv_tree.specs.declared.names.QualifiedName.{QualifiedName}
use Rattle.sv_tree.specs.declared.types.KeywordType.{KeywordType}
use Rattle.expr_type.specs.Expressions.{meaning, select_meaning, type_of_name}
use Rattle.expr_type.specs.Names.{Context}
use Rattle.typing_paths.specs.TypingValues.{in_dimensions, in_selects}
use Rattle.typing_paths.specs.TypingValuesParts as part
use Rattle.typing_paths.specs.Children.{in_type}
use Rattle.typing_paths.specs.declared.asked_types.TypeForm.{TypeForm}
use Rattle.typing_paths.specs.declared.asked_types.TypeForm.TheVariants as T

pub record IsWord (of : KeywordType) (ds : List Dimension) (e : Expr) : Type 0 where
  pub is : (k : Context) → (meaning e).as_type k ≡ Some (part.type_of_word k of ds)
  pub children : in_type e ≡ in_dimensions ds

pub record IsName (of : QualifiedName) (ss : List Select) (e : Expr) : Type 0 where
  pub is : (k : Context) → (meaning e).as_type k ≡ type_of_name k of (map select_meaning ss)
  pub children : in_type e ≡ in_selects ss

abbrev pub HasForm : TypeForm → Expr → Type 0
HasForm (T.Word of ds) e = IsWord of ds.now e
HasForm (T.Name of ss) e = IsName of ss.now e
HasForm T.Other e = (k : Context) → (meaning e).as_type k ≡ None
