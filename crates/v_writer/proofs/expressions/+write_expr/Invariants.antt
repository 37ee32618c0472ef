use Rattle.std.proofs.Common.{◌≡◌, drop, map}
use Rattle.v_writer.specs.Layout.{listed, in_turn, sel_layout, expr_layout}
use Rattle.v_writer.specs.Sheets.{set}
use Rattle.v_writer.proofs.Sheets.{separated}
use Rattle.v_writer.proofs.expressions.+write_expr.Given as goal

abbrev pub invariant-write_sels-loop-sel : goal.invariant-write_sels-loop-sel
invariant-write_sels-loop-sel l = set l.page (in_turn (map sel_layout (drop l.sel-index l.sels))) ≡ set l.fn.page (in_turn (map sel_layout l.sels))

abbrev pub invariant-write_list-loop-expr : goal.invariant-write_list-loop-expr
invariant-write_list-loop-expr l =
    set l.page (separated l.first (map expr_layout (drop l.expr-index l.exprs))) ≡ set l.fn.page (listed (map expr_layout l.exprs))
