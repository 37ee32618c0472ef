-- Targets and actuals whose names find no signal and no interface, as those in functions and tasks, which name nothing of a module (E610).
use Rattle.std.specs.Prelude.{ℕ, Bool, true, ◌&&◌, not, List, Option, Some, None, is_none, map}
use Rattle.sv_tree.specs.declared.expressions.Cast.{Cast-F}
use Rattle.sv_tree.specs.declared.expressions.Dimension.{Dimension-F}
use Rattle.sv_tree.specs.declared.expressions.Expr.{Expr, Expr-F, fold-Expr}
use Rattle.sv_tree.specs.declared.expressions.Pattern.{Pattern-F}
use Rattle.sv_tree.specs.declared.expressions.PatternItem.{PatternItem-F}
use Rattle.sv_tree.specs.declared.expressions.Select.{Select-F}
use Rattle.sv_tree.specs.declared.expressions.SliceSize.{SliceSize-F}
use Rattle.sv_tree.specs.declared.expressions.ValueRange.{ValueRange-F}
use Rattle.sv_tree.specs.declared.names.QualifiedName.{QualifiedName}
use Rattle.sv_tree.specs.declared.statements.BlockItem.{BlockItem, BlockItem-F, fold-BlockItem}
use Rattle.sv_tree.specs.declared.statements.CaseItem.{CaseItem, CaseItem-F, fold-CaseItem}
use Rattle.sv_tree.specs.declared.statements.Else.{Else, Else-F, fold-Else}
use Rattle.sv_tree.specs.declared.statements.Lvalue.{Lvalue, Lvalue-F, fold-Lvalue}
use Rattle.sv_tree.specs.declared.statements.Stmt.{Stmt, Stmt-F, fold-Stmt}
use Rattle.sv_types.specs.declared.frame.SignalId.{SignalId}
use Rattle.expr_type.specs.Names.{Context, signal_in}
use Rattle.expr_type.specs.Targets.{simple_name}
use Rattle.typing_walks.specs.Written.{all, if_there}

-- what the names of a text find, and which declarations are signals and interfaces
pub record Signals : Type 0 where
  pub finds : QualifiedName → Option ℕ
  pub signals : List SignalId
  pub is_interface : ℕ → Bool

abbrev pub signals_of : Context → Signals
signals_of k = record { finds = k.finds; signals = k.signals; is_interface = k.is_interface }

abbrev pub is_no_signal : Signals → Option ℕ → Bool
is_no_signal s None = true
is_no_signal s (Some n) = is_none (signal_in n s.signals) && not (s.is_interface n)

abbrev pub finds_no_signal : Signals → QualifiedName → Bool
finds_no_signal s of = is_no_signal s (s.finds of)

-- targets
abbrev pub lvalue_step : Signals → Lvalue-F Bool → Bool
lvalue_step s (Lvalue-F.Name name selects) = finds_no_signal s (simple_name name)
lvalue_step s (Lvalue-F.Concatenation opening targets closing) = all targets
lvalue_step s (Lvalue-F.Stream opening operator at size inner_opening targets inner_closing closing) = all targets

abbrev pub lvalue_local : Signals → Lvalue → Bool
lvalue_local s = fold-Lvalue Bool (lvalue_step s)

-- actuals, as far as they are in the form of a target
abbrev pub cast_step : Cast-F Bool Bool Bool Bool Bool Bool Bool Bool → Bool
cast_step c = true

abbrev pub dimension_step : Dimension-F Bool Bool Bool Bool Bool Bool Bool Bool → Bool
dimension_step d = true

abbrev pub expr_step : Signals → Expr-F Bool Bool Bool Bool Bool Bool Bool Bool → Bool
expr_step s (Expr-F.«Expr::Name» of selects cast) = finds_no_signal s of
expr_step s (Expr-F.Concatenation opening items closing) = all items
expr_step s _ = true

abbrev pub pattern_step : Pattern-F Bool Bool Bool Bool Bool Bool Bool Bool → Bool
pattern_step p = true

abbrev pub pattern_item_step : PatternItem-F Bool Bool Bool Bool Bool Bool Bool Bool → Bool
pattern_item_step i = true

abbrev pub select_step : Select-F Bool Bool Bool Bool Bool Bool Bool Bool → Bool
select_step s = true

abbrev pub slice_step : SliceSize-F Bool Bool Bool Bool Bool Bool Bool Bool → Bool
slice_step z = true

abbrev pub range_step : ValueRange-F Bool Bool Bool Bool Bool Bool Bool Bool → Bool
range_step r = true

abbrev pub actual_local : Signals → Expr → Bool
actual_local s = fold-Expr Bool Bool Bool Bool Bool Bool Bool Bool cast_step dimension_step (expr_step s) pattern_step pattern_item_step select_step slice_step range_step

-- statements
abbrev pub item_step : BlockItem-F Bool Bool Bool Bool → Bool
item_step (BlockItem-F.Statement s) = s
item_step (BlockItem-F.Parameters p) = true
item_step (BlockItem-F.Variables automatic «var» of ds semicolon) = true
item_step (BlockItem-F.NamedVariables of ss ds semicolon) = true

abbrev pub case_step : CaseItem-F Bool Bool Bool Bool → Bool
case_step (CaseItem-F.Values es colon body) = body
case_step (CaseItem-F.Default keyword colon body) = body

abbrev pub else_step : Else-F Bool Bool Bool Bool → Bool
else_step e = e.body

abbrev pub stmt_step : Signals → Stmt-F Bool Bool Bool Bool → Bool
stmt_step s (Stmt-F.Block begin label items end end_label) = all items
stmt_step s (Stmt-F.If promise keyword opening test closing body other) = body && if_there other
stmt_step s (Stmt-F.Case promise keyword opening sought closing items end) = all items
stmt_step s (Stmt-F.For keyword opening first first_semicolon test test_semicolon step closing body) = body
stmt_step s (Stmt-F.Break keyword semicolon) = true
stmt_step s (Stmt-F.Continue keyword semicolon) = true
stmt_step s (Stmt-F.Return keyword e semicolon) = true
stmt_step s (Stmt-F.Call of opening arguments closing semicolon) = all (map (actual_local s) arguments)
stmt_step s (Stmt-F.Assign to op at e semicolon) = lvalue_local s to
stmt_step s (Stmt-F.Postfix name ss op at semicolon) = finds_no_signal s (simple_name name)
stmt_step s (Stmt-F.Prefix op at name ss semicolon) = finds_no_signal s (simple_name name)
stmt_step s (Stmt-F.Empty semicolon) = true

abbrev pub stmt_local : Signals → Stmt → Bool
stmt_local s = fold-Stmt Bool Bool Bool Bool item_step case_step (stmt_step s) else_step

abbrev pub item_local : Signals → BlockItem → Bool
item_local s = fold-BlockItem Bool Bool Bool Bool item_step case_step (stmt_step s) else_step

abbrev pub case_local : Signals → CaseItem → Bool
case_local s = fold-CaseItem Bool Bool Bool Bool item_step case_step (stmt_step s) else_step

abbrev pub else_local : Signals → Else → Bool
else_local s = fold-Else Bool Bool Bool Bool item_step case_step (stmt_step s) else_step

abbrev pub items_local : Signals → List BlockItem → Bool
items_local s is = all (map (item_local s) is)
