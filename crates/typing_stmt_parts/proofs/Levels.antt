-- Items of `case` statements by their forms.
use Rattle.std.proofs.Common.{◌≡◌, ap, ◌∙◌}
use Rattle.sv_tree.specs.declared.statements.BlockItem.{BlockItem}
use Rattle.sv_tree.specs.declared.statements.CaseItem.{CaseItem, CaseItem-F, roll-CaseItem, map-CaseItem, fold-roll-CaseItem}
use Rattle.sv_tree.specs.declared.statements.Else.{Else}
use Rattle.sv_tree.specs.declared.statements.Stmt.{Stmt}
use Rattle.expr_type.specs.Names.{Context}
use Rattle.expr_type.specs.Statements as D
use Rattle.expr_type.specs.Statements.{CaseMeaning, PartMeaning, StmtMeaning, item_meaning, stmt_meaning}
use Rattle.typing_stmt_parts.specs.Meanings.{case_meaning, else_meaning}

abbrev pub CaseLevel : Type 0
CaseLevel = CaseItem-F BlockItem CaseItem Stmt Else

abbrev pub case_level : CaseLevel → CaseMeaning
case_level z = D.case_step (map-CaseItem BlockItem CaseItem Stmt Else PartMeaning CaseMeaning StmtMeaning StmtMeaning item_meaning case_meaning stmt_meaning else_meaning z)

pub case-meant : (z : CaseLevel) (k : Context) (x : CaseItem) → x ≡ roll-CaseItem z → case_meaning x k ≡ case_level z k
case-meant z k x is = ap (λ (m : CaseMeaning). m k) (ap case_meaning is ∙ fold-roll-CaseItem PartMeaning CaseMeaning StmtMeaning StmtMeaning D.item_step D.case_step D.stmt_step D.else_step z)
