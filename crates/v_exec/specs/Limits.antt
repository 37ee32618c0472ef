-- On how many bits the arithmetic in statements is done.
use Rattle.std.specs.Prelude.{ℕ, max, List, [], ◌∷◌, ◌++◌, map, Option, Some, None}
use Rattle.v_tree.specs.declared.items.VItem.{VItem}
use Rattle.v_tree.specs.declared.items.VItem.TheVariants as I
use Rattle.v_tree.specs.declared.statements.VBranch.{VBranch, VBranch-F, fold-VBranch}
use Rattle.v_tree.specs.declared.statements.VCaseItem.{VCaseItem, VCaseItem-F, fold-VCaseItem}
use Rattle.v_tree.specs.declared.statements.VStmt.{VStmt, VStmt-F, fold-VStmt}
use Rattle.v_meaning.specs.Scopes.{Scope}
use Rattle.v_meaning.specs.Statements.{target, inside, locals_of}
use Rattle.v_meaning.specs.Functions.{scope_in}
use Rattle.v_eval.specs.Limits.{Limits, limits, most_alone, most_given}
use Rattle.v_run.specs.Limits.{target_most}

-- the width of the widest of these expressions
abbrev pub widest_of : List Limits → Scope → ℕ
widest_of [] sc = 0
widest_of (l ∷ ls) sc = max (l.wide sc) (widest_of ls sc)

-- all of them valued at a width
abbrev pub most_at : ℕ → List Limits → Scope → ℕ
most_at w [] sc = 0
most_at w (l ∷ ls) sc = max (l.most w sc) (most_at w ls sc)

-- the selector of a `case` and the values of its items
abbrev pub most_compared : List Limits → Scope → ℕ
most_compared ls sc = most_at (widest_of ls sc) ls sc

-- statements one behind the other
abbrev pub most_in_turn : List (Scope → ℕ) → Scope → ℕ
most_in_turn [] sc = 0
most_in_turn (m ∷ ms) sc = max (m sc) (most_in_turn ms sc)

abbrev pub or_zero : Option (Scope → ℕ) → Scope → ℕ
or_zero None sc = 0
or_zero (Some m) sc = m sc

-- an item of a `case`: its values, and what it runs
pub record ItemLimits : Type 0 where
  pub values : List Limits
  pub body : Scope → ℕ

abbrev pub values_in : List ItemLimits → List Limits
values_in [] = []
values_in (i ∷ is) = i.values ++ values_in is

abbrev pub bodies_in : List ItemLimits → List (Scope → ℕ)
bodies_in [] = []
bodies_in (i ∷ is) = i.body ∷ bodies_in is

abbrev pub branch_limits : VBranch-F (Scope → ℕ) ItemLimits (Scope → ℕ) → Scope → ℕ
branch_limits (VBranch-F.Statement m) = m
branch_limits VBranch-F.Empty = λ sc. 0

abbrev pub item_limits : VCaseItem-F (Scope → ℕ) ItemLimits (Scope → ℕ) → ItemLimits
item_limits (VCaseItem-F.Item values body) = record { values = map limits values; body = body }
item_limits (VCaseItem-F.Default body) = record { values = []; body = body }

abbrev pub stmt_limits : VStmt-F (Scope → ℕ) ItemLimits (Scope → ℕ) → Scope → ℕ
stmt_limits (VStmt-F.Block label ms) sc = most_in_turn ms (inside (locals_of label) sc)
stmt_limits (VStmt-F.If on then other) sc = max (most_alone (limits on) sc) (max (then sc) (or_zero other sc))
stmt_limits (VStmt-F.Case kind on items) sc = max (most_compared (limits on ∷ values_in items) sc) (most_in_turn (bodies_in items) sc)
stmt_limits (VStmt-F.Assign to value later) sc = max (target_most to sc) (most_given ((target to).width sc) (limits value) sc)

abbrev pub stmt_most : VStmt → Scope → ℕ
stmt_most = fold-VStmt (Scope → ℕ) ItemLimits (Scope → ℕ) branch_limits item_limits stmt_limits

abbrev pub branch_most : VBranch → Scope → ℕ
branch_most = fold-VBranch (Scope → ℕ) ItemLimits (Scope → ℕ) branch_limits item_limits stmt_limits

abbrev pub limits_of_item : VCaseItem → ItemLimits
limits_of_item = fold-VCaseItem (Scope → ℕ) ItemLimits (Scope → ℕ) branch_limits item_limits stmt_limits

-- the functions of a module
abbrev pub functions_most : List VItem → Scope → ℕ
functions_most [] sc = 0
functions_most (I.Signal s ∷ is) sc = functions_most is sc
functions_most (I.Initial i ∷ is) sc = functions_most is sc
functions_most (I.Process p ∷ is) sc = functions_most is sc
functions_most (I.Function f ∷ is) sc = max (stmt_most f.body (scope_in f sc)) (functions_most is sc)
functions_most (I.Instance i ∷ is) sc = functions_most is sc
