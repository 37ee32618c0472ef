use Rattle.std.proofs.Common.{◌≡◌, ◌<◌, ℕ, Some, [], length, slice_get, get_or}
use Rattle.ll_engine.specs.declared.derive.Target.TheVariants.{Head}
use Rattle.ll_engine.specs.declared.table.Row.{Row}
use Rattle.ll_engine.specs.Marks.{AreMarks}
use Rattle.ll_engine.specs.Rules.{start_rules}
use Rattle.ll_engine.proofs.facts.reaches.Given as goal

abbrev pub invariant-loop-row : goal.invariant-loop-row
invariant-loop-row l = record {
  long : length l.all ≡ l.row-index;
  each : (i : ℕ) (row : Row) → slice_get l.rows i ≡ Some row → i < length l.all
      → AreMarks (start_rules l.blank (Head row.head) l.rows) (get_or l.all i []);
}
