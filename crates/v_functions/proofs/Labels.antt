-- The blocks that a statement declares are those of the other walks.
use Rattle.std.proofs.Common.{◌≡◌, List, [], ◌∷◌, map, Option, Some, None, refl, sym, ap, ◌∙◌}
use Rattle.v_tree.specs.declared.expressions.VExpr.{VExpr}
use Rattle.v_tree.specs.declared.statements.VBranch.{VBranch, VBranch-F}
use Rattle.v_tree.specs.declared.statements.VCaseItem.{VCaseItem, VCaseItem-F}
use Rattle.v_tree.specs.declared.statements.VLabel.{VLabel}
use Rattle.v_tree.specs.declared.statements.VStmt.{VStmt, VStmt-F}
use Rattle.v_tree.specs.declared.statements.VStmt.TheVariants as T
use Rattle.v_tree.proofs.Induction as I
use Rattle.v_stmt_rules.specs.Labels.{in_turn}
use Rattle.v_stmt_rules.specs.Stmts as S
use Rattle.v_stmt_rules.specs.Stmts.{StmtTold, ItemTold}
use Rattle.v_call_sites.proofs.Levels.{at-statement, at-empty, at-item, at-default, at-block, at-if, at-else, at-case, at-assign}
use Rattle.v_functions.specs.Walks.{StmtStep, labels_of, block_step, branch_step, case_step, stmt_step, branch_walked, case_walked, stmt_walked}

abbrev P : VBranch → Type 0
P x = (branch_walked x).labels ≡ (S.branch_told x).labels

abbrev Q : VCaseItem → Type 0
Q x = (case_walked x).labels ≡ (S.item_told x).labels

abbrev R : VStmt → Type 0
R x = (stmt_walked x).labels ≡ (S.stmt_told x).labels

labels-all : (xs : List VStmt) → I.Each R xs → labels_of (map stmt_walked xs) ≡ S.stmt_labels (map S.stmt_told xs)
labels-all [] hs = refl
labels-all (x ∷ xs) hs = λ i. hs.0 i ∷ labels-all xs hs.1 i

cases-all : (xs : List VCaseItem) → I.Each Q xs → labels_of (map case_walked xs) ≡ S.item_labels (map S.item_told xs)
cases-all [] hs = refl
cases-all (x ∷ xs) hs = λ i. hs.0 i ∷ cases-all xs hs.1 i

both : {s : StmtStep} {t : StmtTold} (u : StmtStep) (v : StmtTold) → s ≡ u → t ≡ v → u.labels ≡ v.labels → s.labels ≡ t.labels
both u v e f h = ap (λ (x : StmtStep). x.labels) e ∙ h ∙ sym (ap (λ (x : StmtTold). x.labels) f)

item-both : {s : StmtStep} {t : ItemTold} (u : StmtStep) (v : ItemTold) → s ≡ u → t ≡ v → u.labels ≡ v.labels → s.labels ≡ t.labels
item-both u v e f h = ap (λ (x : StmtStep). x.labels) e ∙ h ∙ sym (ap (λ (x : ItemTold). x.labels) f)

block-labels : (l : Option VLabel) (xs : List VStmt) → I.Each R xs → (block_step l (map stmt_walked xs)).labels ≡ (S.block_step l (map S.stmt_told xs)).labels
block-labels None xs hs = ap in_turn (labels-all xs hs)
block-labels (Some l) xs hs = refl

if-labels : (on : VExpr) (x : VBranch) (other : Option VBranch) → P x → I.Perhaps P other → R (T.If on x other)
if-labels on x None h k =
    both (stmt_step (VStmt-F.If on (branch_walked x) None)) (S.stmt_step (VStmt-F.If on (S.branch_told x) None))
    (at-if branch_step case_step stmt_step on x) (at-if S.branch_step S.item_step S.stmt_step on x)
    (λ i to. h i to)
if-labels on x (Some y) h k =
    both (stmt_step (VStmt-F.If on (branch_walked x) (Some (branch_walked y)))) (S.stmt_step (VStmt-F.If on (S.branch_told x) (Some (S.branch_told y))))
    (at-else branch_step case_step stmt_step on x y) (at-else S.branch_step S.item_step S.stmt_step on x y)
    (λ i to. k i (h i to))

steps : I.StmtSteps P Q R
steps = record {
  branch-statement = λ x h.
      both (stmt_walked x) (S.stmt_told x) (at-statement branch_step case_step stmt_step x) (at-statement S.branch_step S.item_step S.stmt_step x) h;
  branch-empty =
      both (branch_step VBranch-F.Empty) (S.branch_step VBranch-F.Empty) (at-empty branch_step case_step stmt_step) (at-empty S.branch_step S.item_step S.stmt_step) refl;
  case-item = λ xs x h.
      item-both (case_step (VCaseItem-F.Item xs (branch_walked x))) (S.item_step (VCaseItem-F.Item xs (S.branch_told x)))
      (at-item branch_step case_step stmt_step xs x) (at-item S.branch_step S.item_step S.stmt_step xs x) h;
  case-default = λ x h.
      item-both (case_step (VCaseItem-F.Default (branch_walked x))) (S.item_step (VCaseItem-F.Default (S.branch_told x)))
      (at-default branch_step case_step stmt_step x) (at-default S.branch_step S.item_step S.stmt_step x) h;
  stmt-block = λ l xs hs.
      both (block_step l (map stmt_walked xs)) (S.block_step l (map S.stmt_told xs))
      (at-block branch_step case_step stmt_step l xs) (at-block S.branch_step S.item_step S.stmt_step l xs) (block-labels l xs hs);
  stmt-if = if-labels;
  stmt-case = λ kind on xs hs.
      both (stmt_step (VStmt-F.Case kind on (map case_walked xs))) (S.stmt_step (VStmt-F.Case kind on (map S.item_told xs)))
      (at-case branch_step case_step stmt_step kind on xs) (at-case S.branch_step S.item_step S.stmt_step kind on xs) (ap in_turn (cases-all xs hs));
  stmt-assign = λ t x later.
      both (stmt_step (VStmt-F.Assign t x later)) (S.stmt_step (VStmt-F.Assign t x later))
      (at-assign branch_step case_step stmt_step t x later) (at-assign S.branch_step S.item_step S.stmt_step t x later) refl;
}

stmt-labels : (x : VStmt) → R x
stmt-labels = I.ind-stmt P Q R steps

all-stmts : (xs : List VStmt) → I.Each R xs
all-stmts [] = tt
all-stmts (x ∷ xs) = (stmt-labels x, all-stmts xs)

pub labels_same : (xs : List VStmt) → labels_of (map stmt_walked xs) ≡ S.stmt_labels (map S.stmt_told xs)
labels_same xs = labels-all xs (all-stmts xs)
