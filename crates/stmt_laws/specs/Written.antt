-- Declarations and statements in which each concatenation, replication and stream has a part, and each struct and union a member with a
-- name, as those that are read from a text.
use Rattle.std.specs.Prelude.{Bool, true, ◌&&◌, List, map}
use Rattle.std.specs.Option.{option_map}
use Rattle.sv_tree.specs.declared.declarations.Declarator.{Declarator}
use Rattle.sv_tree.specs.declared.declarations.ParameterBody.{ParameterBody}
use Rattle.sv_tree.specs.declared.declarations.ParameterBody.TheVariants as P
use Rattle.sv_tree.specs.declared.expressions.Expr.{Expr}
use Rattle.sv_tree.specs.declared.expressions.Select.{Select}
use Rattle.sv_tree.specs.declared.statements.BlockItem.{BlockItem, BlockItem-F, fold-BlockItem}
use Rattle.sv_tree.specs.declared.statements.CaseItem.{CaseItem, CaseItem-F, fold-CaseItem}
use Rattle.sv_tree.specs.declared.statements.Else.{Else, Else-F, fold-Else}
use Rattle.sv_tree.specs.declared.statements.LoopStart.{LoopStart}
use Rattle.sv_tree.specs.declared.statements.LoopStep.{LoopStep}
use Rattle.sv_tree.specs.declared.statements.LoopStep.TheVariants as L
use Rattle.sv_tree.specs.declared.statements.Stmt.{Stmt, Stmt-F, fold-Stmt}
use Rattle.typing_walks.specs.Written.{all, if_there, is_written, select_written}
use Rattle.typing_walks.specs.WrittenTypes.{dims_written, initial_written, type_written}
use Rattle.stmt_walks.specs.Written.{lvalue_written}

-- declarations
abbrev pub declarator_written : Declarator → Bool
declarator_written d = dims_written d.unpacked && initial_written d.initial

abbrev pub declarators_written : List Declarator → Bool
declarators_written ds = all (map declarator_written ds)

abbrev pub body_written : ParameterBody → Bool
body_written (P.Type keyword name initial) = initial_written initial
body_written (P.Value of d) = type_written of && declarator_written d

abbrev pub bodies_written : List ParameterBody → Bool
bodies_written bs = all (map body_written bs)

-- parts of statements
abbrev pub selects_written : List Select → Bool
selects_written ss = all (map select_written ss)

abbrev pub exprs_written : List Expr → Bool
exprs_written es = all (map is_written es)

abbrev pub start_written : LoopStart → Bool
start_written l = type_written l.of && is_written l.value

abbrev pub step_written : LoopStep → Bool
step_written (L.Assign name op at e) = is_written e
step_written (L.Postfix name op at) = true
step_written (L.Prefix op at name) = true

-- statements
abbrev pub item_step : BlockItem-F Bool Bool Bool Bool → Bool
item_step (BlockItem-F.Statement s) = s
item_step (BlockItem-F.Parameters p) = bodies_written p.bodies
item_step (BlockItem-F.Variables automatic «var» of ds semicolon) = type_written of && declarators_written ds
item_step (BlockItem-F.NamedVariables of ss ds semicolon) = selects_written ss && declarators_written ds

abbrev pub case_step : CaseItem-F Bool Bool Bool Bool → Bool
case_step (CaseItem-F.Values es colon body) = exprs_written es && body
case_step (CaseItem-F.Default keyword colon body) = body

abbrev pub else_step : Else-F Bool Bool Bool Bool → Bool
else_step e = e.body

abbrev pub stmt_step : Stmt-F Bool Bool Bool Bool → Bool
stmt_step (Stmt-F.Block begin label items end end_label) = all items
stmt_step (Stmt-F.If promise keyword opening test closing body other) = is_written test && (body && if_there other)
stmt_step (Stmt-F.Case promise keyword opening sought closing items end) = is_written sought && all items
stmt_step (Stmt-F.For keyword opening first first_semicolon test test_semicolon step closing body) =
    start_written first && (is_written test && (step_written step && body))
stmt_step (Stmt-F.Break keyword semicolon) = true
stmt_step (Stmt-F.Continue keyword semicolon) = true
stmt_step (Stmt-F.Return keyword e semicolon) = if_there (option_map is_written e)
stmt_step (Stmt-F.Call of opening arguments closing semicolon) = exprs_written arguments
stmt_step (Stmt-F.Assign to op at e semicolon) = lvalue_written to && is_written e
stmt_step (Stmt-F.Postfix name ss op at semicolon) = selects_written ss
stmt_step (Stmt-F.Prefix op at name ss semicolon) = selects_written ss
stmt_step (Stmt-F.Empty semicolon) = true

abbrev pub stmt_written : Stmt → Bool
stmt_written = fold-Stmt Bool Bool Bool Bool item_step case_step stmt_step else_step

abbrev pub item_written : BlockItem → Bool
item_written = fold-BlockItem Bool Bool Bool Bool item_step case_step stmt_step else_step

abbrev pub case_written : CaseItem → Bool
case_written = fold-CaseItem Bool Bool Bool Bool item_step case_step stmt_step else_step

abbrev pub else_written : Else → Bool
else_written = fold-Else Bool Bool Bool Bool item_step case_step stmt_step else_step

abbrev pub items_written : List BlockItem → Bool
items_written is = all (map item_written is)
