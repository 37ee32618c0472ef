-- Items of `case` statements and what stands behind `else`, as the definition of statements has them.
use Rattle.sv_tree.specs.declared.statements.CaseItem.{CaseItem, fold-CaseItem}
use Rattle.sv_tree.specs.declared.statements.Else.{Else, fold-Else}
use Rattle.expr_type.specs.Statements.{CaseMeaning, PartMeaning, StmtMeaning, case_step, else_step, item_step, stmt_step}

abbrev pub case_meaning : CaseItem → CaseMeaning
case_meaning = fold-CaseItem PartMeaning CaseMeaning StmtMeaning StmtMeaning item_step case_step stmt_step else_step

abbrev pub else_meaning : Else → StmtMeaning
else_meaning = fold-Else PartMeaning CaseMeaning StmtMeaning StmtMeaning item_step case_step stmt_step else_step
