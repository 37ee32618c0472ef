use Rattle.std.proofs.Common.{◌≡◌, drop, map}
use Rattle.v_writer.specs.Layout.{lines, placed, stmt_layout, case_layout}
use Rattle.v_writer.specs.Margins.{levels}
use Rattle.v_writer.specs.Sheets.{set}
use Rattle.v_writer.proofs.statements.+write_stmt.Given as goal

abbrev pub invariant-write_lines-loop-stmt : goal.invariant-write_lines-loop-stmt
invariant-write_lines-loop-stmt l =
    set l.page (lines (levels l.margin) (placed (levels l.margin) (map stmt_layout (drop l.stmt-index l.stmts))))
    ≡ set l.fn.page (lines (levels l.margin) (placed (levels l.margin) (map stmt_layout l.stmts)))

abbrev pub invariant-write_items-loop-item : goal.invariant-write_items-loop-item
invariant-write_items-loop-item l =
    set l.page (lines (levels l.margin) (placed (levels l.margin) (map case_layout (drop l.item-index l.items))))
    ≡ set l.fn.page (lines (levels l.margin) (placed (levels l.margin) (map case_layout l.items)))
