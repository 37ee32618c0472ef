use Rattle.std.proofs.Common.{◌≡◌, ℕ, ◌≤◌, drop, length}
use Rattle.expr_type.specs.Routines.{named_at}
use Rattle.source_routines.specs.Texts.{texts, routine_in}
use Rattle.source_routines.proofs.routine_table.table_of.Given as goal

abbrev pub invariant-loop-at : goal.invariant-loop-at
invariant-loop-at l = record {
  named : (q : ℕ) → routine_in l.table q ≡ named_at q (texts (drop l.at l.list));
  within : l.at ≤ length l.list;
}

abbrev pub decreases-loop-at : goal.decreases-loop-at
decreases-loop-at l = l.at
