-- What folds make of each form of a statement.
use Rattle.std.proofs.Common.{◌≡◌, Bool, List, map, Option, Some, None, ap, sym, ◌∙◌}
use Rattle.v_tree.specs.declared.expressions.VExpr.{VExpr}
use Rattle.v_tree.specs.declared.statements.VBranch.{VBranch, VBranch-F, fold-VBranch, fold-roll-VBranch}
use Rattle.v_tree.specs.declared.statements.VBranch.TheVariants as G
use Rattle.v_tree.specs.declared.statements.VCaseItem.{VCaseItem, VCaseItem-F, fold-VCaseItem, fold-roll-VCaseItem}
use Rattle.v_tree.specs.declared.statements.VCaseItem.TheVariants as C
use Rattle.v_tree.specs.declared.statements.VCaseKind.{VCaseKind}
use Rattle.v_tree.specs.declared.statements.VLabel.{VLabel}
use Rattle.v_tree.specs.declared.statements.VLval.{VLval}
use Rattle.v_tree.specs.declared.statements.VStmt.{VStmt, VStmt-F, fold-VStmt, fold-roll-VStmt}
use Rattle.v_tree.specs.declared.statements.VStmt.TheVariants as T

module _ {A B D : Type 0} (b : VBranch-F A B D → A) (c : VCaseItem-F A B D → B) (s : VStmt-F A B D → D) where
  abbrev of_branch : VBranch → A
  of_branch = fold-VBranch A B D b c s

  abbrev of_case : VCaseItem → B
  of_case = fold-VCaseItem A B D b c s

  abbrev of_stmt : VStmt → D
  of_stmt = fold-VStmt A B D b c s

  pub at-statement : (x : VStmt) → of_branch (G.Statement x) ≡ b (VBranch-F.Statement (of_stmt x))
  at-statement x = ap of_branch (sym (G.rolls-Statement x)) ∙ fold-roll-VBranch A B D b c s (VBranch-F.Statement x)

  pub at-empty : of_branch G.Empty ≡ b VBranch-F.Empty
  at-empty = ap of_branch (sym G.rolls-Empty) ∙ fold-roll-VBranch A B D b c s VBranch-F.Empty

  pub at-item : (xs : List VExpr) (x : VBranch) → of_case (C.Item xs x) ≡ c (VCaseItem-F.Item xs (of_branch x))
  at-item xs x = ap of_case (sym (C.rolls-Item xs x)) ∙ fold-roll-VCaseItem A B D b c s (VCaseItem-F.Item xs x)

  pub at-default : (x : VBranch) → of_case (C.Default x) ≡ c (VCaseItem-F.Default (of_branch x))
  at-default x = ap of_case (sym (C.rolls-Default x)) ∙ fold-roll-VCaseItem A B D b c s (VCaseItem-F.Default x)

  pub at-block : (l : Option VLabel) (xs : List VStmt) → of_stmt (T.Block l xs) ≡ s (VStmt-F.Block l (map of_stmt xs))
  at-block l xs = ap of_stmt (sym (T.rolls-Block l xs)) ∙ fold-roll-VStmt A B D b c s (VStmt-F.Block l xs)

  pub at-if : (on : VExpr) (x : VBranch) → of_stmt (T.If on x None) ≡ s (VStmt-F.If on (of_branch x) None)
  at-if on x = ap of_stmt (sym (T.rolls-If on x None)) ∙ fold-roll-VStmt A B D b c s (VStmt-F.If on x None)

  pub at-else : (on : VExpr) (x y : VBranch) → of_stmt (T.If on x (Some y)) ≡ s (VStmt-F.If on (of_branch x) (Some (of_branch y)))
  at-else on x y = ap of_stmt (sym (T.rolls-If on x (Some y))) ∙ fold-roll-VStmt A B D b c s (VStmt-F.If on x (Some y))

  pub at-case : (kind : VCaseKind) (on : VExpr) (xs : List VCaseItem) → of_stmt (T.Case kind on xs) ≡ s (VStmt-F.Case kind on (map of_case xs))
  at-case kind on xs = ap of_stmt (sym (T.rolls-Case kind on xs)) ∙ fold-roll-VStmt A B D b c s (VStmt-F.Case kind on xs)

  pub at-assign : (t : VLval) (x : VExpr) (later : Bool) → of_stmt (T.Assign t x later) ≡ s (VStmt-F.Assign t x later)
  at-assign t x later = ap of_stmt (sym (T.rolls-Assign t x later)) ∙ fold-roll-VStmt A B D b c s (VStmt-F.Assign t x later)
