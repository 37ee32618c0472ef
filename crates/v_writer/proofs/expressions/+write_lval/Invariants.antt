use Rattle.std.proofs.Common.{◌≡◌, drop, map}
use Rattle.v_writer.specs.Layout.{listed, lval_layout}
use Rattle.v_writer.specs.Sheets.{set}
use Rattle.v_writer.proofs.Sheets.{separated}
use Rattle.v_writer.proofs.expressions.+write_lval.Given as goal

abbrev pub invariant-write_lvals-loop-lval : goal.invariant-write_lvals-loop-lval
invariant-write_lvals-loop-lval l =
    set l.page (separated l.first (map lval_layout (drop l.lval-index l.lvals))) ≡ set l.fn.page (listed (map lval_layout l.lvals))
