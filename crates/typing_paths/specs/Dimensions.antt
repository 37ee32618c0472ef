-- Dimensions, and types with them, over expressions.
use Rattle.std.specs.Prelude.{◌≡◌, ℕ, pos, ◌-ℤ◌, List, [], ◌∷◌, ◌++◌, map, Result, Ok, Err}
use Rattle.sv_tree.specs.declared.expressions.Dimension.{Dimension}
use Rattle.sv_tree.specs.declared.expressions.Expr.{Expr}
use Rattle.sv_tree.specs.declared.expressions.Select.{Select}
use Rattle.expr_type.specs.declared.halt.Halt.{Halt}
use Rattle.expr_type.specs.declared.operand.Number.{Number}
use Rattle.expr_type.specs.Answers.{Gives}
use Rattle.expr_type.specs.Expressions as E
use Rattle.expr_type.specs.Expressions.{dimension_meaning, meaning, most_of_unpacked, select_meaning}
use Rattle.expr_type.specs.Forms as F
use Rattle.expr_type.specs.KeywordTypes.{Dim}
use Rattle.expr_type.specs.Names.{Context}
use Rattle.expr_type.specs.Typings.{Typing, beside, checked, whole}
use Rattle.typing_values.specs.Numbers.{bound_of, number_of}

abbrev pub bounds_of : Context → Expr → Expr → Typing (Number × Number)
bounds_of k left right = beside (bound_of k left) (bound_of k right)

abbrev pub dimension_of : Context → Dimension → Typing Dim
dimension_of k d = dimension_meaning d k

-- a select behind the name of a type
abbrev pub select_dimension_of : Context → Select → Typing Dim
select_dimension_of k s = (select_meaning s).dimension k

abbrev pub select_dimensions_of : Context → List Select → Typing (List Dim)
select_dimensions_of k ss = F.dimensions k (map select_meaning ss)

-- a dimension between two bounds, and one of so many elements, from 0 on
abbrev pub range_of : Context → ℕ → Expr → Expr → Typing Dim
range_of k opening left right = E.bounds k opening (meaning left) (meaning right)

abbrev pub size_of : Context → ℕ → Expr → Typing Dim
size_of k opening size =
    checked (number_of k (pos 1) most_of_unpacked size) (λ n. whole (record { opening = opening; left = pos 0; right = n.number -ℤ pos 1 }))

-- one more behind others
abbrev pub AddsTo : List Dim → Result Dim Halt → Result (List Dim) Halt → Type 0
AddsTo ds (Ok d) r = Gives r (Ok (ds ++ d ∷ []))
AddsTo ds (Err h) r = r ≡ Err h
