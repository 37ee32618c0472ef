-- How expressions may be targets.
use Rattle.std.specs.Prelude.{◌≡◌, ℕ, suc, true, List, map, Some, None}
use Rattle.sv_tree.specs.declared.expressions.Expr.{Expr}
use Rattle.sv_tree.specs.declared.expressions.Select.{Select}
use Rattle.sv_tree.specs.declared.names.QualifiedName.{QualifiedName}
use Rattle.expr_type.specs.Expressions.{joined_targets, meaning, select_meaning}
use Rattle.expr_type.specs.Names.{Context}
use Rattle.expr_type.specs.TargetNames.{actual_target}
use Rattle.typing_values.specs.Children.{in_selects}
use Rattle.typing_walks.specs.Written.{is_written}
use Rattle.typing_operators.specs.Children.{AllWritten, nodes, sum}
use Rattle.typing_actions.specs.declared.actual_forms.TargetForm.{TargetForm}
use Rattle.typing_actions.specs.declared.actual_forms.TargetForm.TheVariants as T

-- a name with selects behind it
pub record IsName (of : QualifiedName) (ss : List Select) (e : Expr) : Type 0 where
  pub target : (k : Context) → (meaning e).as_target k ≡ Some (actual_target k of (map select_meaning ss))
  pub written : is_written e ≡ true → AllWritten (in_selects ss)

-- a concatenation
pub record IsConcatenation (opening : ℕ) (es : List Expr) (e : Expr) : Type 0 where
  pub target : (k : Context) → (meaning e).as_target k ≡ joined_targets k opening (map meaning es)
  pub written : is_written e ≡ true → AllWritten es
  pub larger : nodes e ≡ suc (sum (map nodes es))

abbrev pub HasForm : TargetForm → Expr → Type 0
HasForm (T.Name of ss) e = IsName of ss.now e
HasForm (T.Concatenation opening es) e = IsConcatenation opening es.now e
HasForm T.Other e = (k : Context) → (meaning e).as_target k ≡ None
