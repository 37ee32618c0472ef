-- What lists of targets and statements, and the items of a `case`, mean.
use Rattle.std.specs.Prelude.{List, map}
use Rattle.v_tree.specs.declared.expressions.VSel.{VSel}
use Rattle.v_tree.specs.declared.statements.VCaseItem.{VCaseItem, fold-VCaseItem}
use Rattle.v_tree.specs.declared.statements.VLval.{VLval}
use Rattle.v_tree.specs.declared.statements.VStmt.{VStmt}
use Rattle.v_meaning.specs.Selects.{SelMeaning}
use Rattle.v_meaning.specs.Values.{sel_meaning}
use Rattle.v_meaning.specs.Statements.{Target, Doing, Item, target, doing, branch_step, item_step, stmt_step}

abbrev pub sel_meanings : List VSel → List SelMeaning
sel_meanings sels = map sel_meaning sels

abbrev pub targets : List VLval → List Target
targets parts = map target parts

abbrev pub doings : List VStmt → List Doing
doings stmts = map doing stmts

abbrev pub item_of : VCaseItem → Item
item_of = fold-VCaseItem Doing Item Doing branch_step item_step stmt_step

abbrev pub items_of : List VCaseItem → List Item
items_of items = map item_of items
