-- The calls of functions that are found in a walk over a function, by the numbers of the functions and by what names stand for.
use Rattle.std.specs.Prelude.{ℕ, suc, ◌+◌, ◌==◌, List, [], ◌∷◌, ◌++◌, map, Option, Some, None, if◌then◌else◌}
use Rattle.v_tree.specs.Names.{Name}
use Rattle.v_tree.specs.declared.expressions.VExpr.{VExpr, VExpr-F, fold-VExpr}
use Rattle.v_tree.specs.declared.expressions.VPrim.{VPrim, VPrim-F, fold-VPrim}
use Rattle.v_tree.specs.declared.expressions.VSel.{VSel, VSel-F, fold-VSel}
use Rattle.v_tree.specs.declared.items.VFunction.{VFunction}
use Rattle.v_tree.specs.declared.items.VLocal.{VLocal}
use Rattle.v_tree.specs.declared.statements.VBranch.{VBranch, VBranch-F, fold-VBranch}
use Rattle.v_tree.specs.declared.statements.VCaseItem.{VCaseItem, VCaseItem-F, fold-VCaseItem}
use Rattle.v_tree.specs.declared.statements.VLabel.{VLabel}
use Rattle.v_tree.specs.declared.statements.VLval.{VLval, VLval-F, fold-VLval}
use Rattle.v_tree.specs.declared.statements.VStmt.{VStmt, VStmt-F, fold-VStmt}
use Rattle.v_scopes.specs.Env.{Env}
use Rattle.v_expr_rules.specs.Seen.{plus, extent_tokens, is_function}
use Rattle.v_stmt_rules.specs.Labels.{Adds, in_turn, else_labels}
use Rattle.v_stmt_rules.specs.Stmts.{block_given}
use Rattle.v_item_rules.specs.Signals.{range_tokens}
use Rattle.v_item_rules.specs.Functions.{function_given}
use Rattle.v_rules.specs.Tables.{Numbers}
use Rattle.v_functions.specs.declared.walk.Walk.{Walk}

abbrev pub skipped : ℕ → Walk → Walk
skipped tokens w = record { from = w.from; at = plus w.at tokens; calls = w.calls }

abbrev pub comma : ℕ → Walk → Walk
comma number w = if number == 0 then w else skipped 1 w

abbrev pub locals_skipped : List VLocal → Walk → Walk
locals_skipped [] w = w
locals_skipped (l ∷ ls) w = locals_skipped ls (skipped (3 + range_tokens l.range) w)

abbrev pub call_to : Option ℕ → Walk → Walk
call_to None w = w
call_to (Some to) w = record { from = w.from; at = w.at; calls = w.calls ++ (record { from = Some w.from; to = to; at = w.at } ∷ []) }

-- what a part of a function adds to a walk
abbrev pub Step : Type 0
Step = Numbers → Env → Walk → Walk

abbrev pub name_called : Name → Step
name_called name ns env w = if is_function (env name) then call_to (ns name) w else w

-- parts one behind the other, and with commas
abbrev pub each_walked : List Step → Step
each_walked [] ns env w = w
each_walked (s ∷ ss) ns env w = each_walked ss ns env (s ns env w)

abbrev pub listed_walked : ℕ → List Step → Step
listed_walked number [] ns env w = w
listed_walked number (s ∷ ss) ns env w = listed_walked (suc number) ss ns env (s ns env (comma number w))

abbrev pub sel_step : VSel-F Step Step Step → Step
sel_step (VSel-F.Decimal base extent) ns env w = skipped (3 + extent_tokens extent) w
sel_step (VSel-F.Expr base extent) ns env w = skipped (1 + extent_tokens extent) (base ns env (skipped 1 w))

abbrev pub prim_step : VPrim-F Step Step Step → Step
prim_step (VPrim-F.Number bits) ns env w = skipped 1 w
prim_step (VPrim-F.Paren inner) ns env w = skipped 1 (inner ns env (skipped 1 w))
prim_step (VPrim-F.Name name sels) ns env w = each_walked sels ns env (skipped 1 w)
prim_step (VPrim-F.Call name args) ns env w = skipped 1 (listed_walked 0 args ns env (skipped 2 (name_called name ns env w)))
prim_step (VPrim-F.Repeat count items) ns env w = skipped 2 (listed_walked 0 items ns env (skipped 3 w))
prim_step (VPrim-F.Concat items) ns env w = skipped 1 (listed_walked 0 items ns env (skipped 1 w))
prim_step (VPrim-F.Sign signed of) ns env w = skipped 1 (of ns env (skipped 2 w))

abbrev pub expr_step : VExpr-F Step Step Step → Step
expr_step (VExpr-F.Prim a) ns env w = a ns env w
expr_step (VExpr-F.Unary op a) ns env w = a ns env (skipped 1 w)
expr_step (VExpr-F.Binary op a b) ns env w = b ns env (skipped 1 (a ns env w))
expr_step (VExpr-F.Choose on a b) ns env w = b ns env (skipped 1 (a ns env (skipped 1 (on ns env w))))

abbrev pub expr_walked : VExpr → Step
expr_walked = fold-VExpr Step Step Step expr_step prim_step sel_step

abbrev pub prim_walked : VPrim → Step
prim_walked = fold-VPrim Step Step Step expr_step prim_step sel_step

abbrev pub sel_walked : VSel → Step
sel_walked = fold-VSel Step Step Step expr_step prim_step sel_step

abbrev pub target_step : VLval-F Step → Step
target_step (VLval-F.Name name sels) ns env w = each_walked (map sel_walked sels) ns env (skipped 1 w)
target_step (VLval-F.Concat parts) ns env w = skipped 1 (listed_walked 0 parts ns env (skipped 1 w))

abbrev pub target_walked : VLval → Step
target_walked = fold-VLval Step target_step

-- a statement, with the names of the blocks that it declares in the scope around it
pub record StmtStep : Type 0 where
  pub labels : Adds
  pub walk : Step

abbrev pub walks_of : List StmtStep → List Step
walks_of ss = map (λ (s : StmtStep). s.walk) ss

abbrev pub labels_of : List StmtStep → List Adds
labels_of ss = map (λ (s : StmtStep). s.labels) ss

abbrev pub labels_if : Option StmtStep → Option Adds
labels_if None = None
labels_if (Some s) = Some s.labels

abbrev pub else_walked : Option StmtStep → Step
else_walked None ns env w = w
else_walked (Some s) ns env w = s.walk ns env (skipped 1 w)

abbrev pub named_walked : VLabel → List StmtStep → Step
named_walked l ss ns env w =
    skipped 1 (each_walked (walks_of ss) ns (block_given l.locals (labels_of ss) env) (locals_skipped l.locals (skipped 3 w)))

abbrev pub block_step : Option VLabel → List StmtStep → StmtStep
block_step None ss = record { labels = in_turn (labels_of ss); walk = λ ns env w. skipped 1 (each_walked (walks_of ss) ns env (skipped 1 w)) }
block_step (Some l) ss = record { labels = λ to. to ++ (l.name ∷ []); walk = named_walked l ss }

abbrev pub branch_step : VBranch-F StmtStep StmtStep StmtStep → StmtStep
branch_step (VBranch-F.Statement s) = s
branch_step VBranch-F.Empty = record { labels = λ to. to; walk = λ ns env w. skipped 1 w }

abbrev pub case_step : VCaseItem-F StmtStep StmtStep StmtStep → StmtStep
case_step (VCaseItem-F.Item values body) = record {
  labels = body.labels;
  walk = λ ns env w. body.walk ns env (skipped 1 (listed_walked 0 (map expr_walked values) ns env w));
}
case_step (VCaseItem-F.Default body) = record { labels = body.labels; walk = λ ns env w. body.walk ns env (skipped 2 w) }

abbrev pub stmt_step : VStmt-F StmtStep StmtStep StmtStep → StmtStep
stmt_step (VStmt-F.Block label ss) = block_step label ss
stmt_step (VStmt-F.If on taken other) = record {
  labels = λ to. else_labels (labels_if other) (taken.labels to);
  walk = λ ns env w. else_walked other ns env (taken.walk ns env (skipped 1 (expr_walked on ns env (skipped 2 w))));
}
stmt_step (VStmt-F.Case kind on cases) = record {
  labels = in_turn (labels_of cases);
  walk = λ ns env w. skipped 1 (each_walked (walks_of cases) ns env (skipped 1 (expr_walked on ns env (skipped 2 w))));
}
stmt_step (VStmt-F.Assign target value later) = record {
  labels = λ to. to;
  walk = λ ns env w. skipped 1 (expr_walked value ns env (skipped 1 (target_walked target ns env w)));
}

abbrev pub branch_walked : VBranch → StmtStep
branch_walked = fold-VBranch StmtStep StmtStep StmtStep branch_step case_step stmt_step

abbrev pub case_walked : VCaseItem → StmtStep
case_walked = fold-VCaseItem StmtStep StmtStep StmtStep branch_step case_step stmt_step

abbrev pub stmt_walked : VStmt → StmtStep
stmt_walked = fold-VStmt StmtStep StmtStep StmtStep branch_step case_step stmt_step

abbrev pub branch_if : Option VBranch → Option StmtStep
branch_if None = None
branch_if (Some b) = Some (branch_walked b)

-- a function, which is the item with this number
abbrev pub function_walked : VFunction → ℕ → Step
function_walked f number ns env w =
    let start : Walk = record { from = number; at = plus w.at (plus 3 (range_tokens f.range)); calls = w.calls } in
    skipped 1 ((stmt_walked f.body).walk ns (function_given f number env) (locals_skipped f.locals (locals_skipped f.inputs start)))
