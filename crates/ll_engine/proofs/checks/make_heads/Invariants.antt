use Rattle.std.proofs.Common.{◌≡◌, ℕ, Some, length, slice_get}
use Rattle.ll_engine.specs.Facts.{head_of}
use Rattle.ll_engine.specs.declared.tables.Head.{Head}
use Rattle.ll_engine.proofs.checks.make_heads.Given as goal

abbrev pub invariant-loop-number : goal.invariant-loop-number
invariant-loop-number l = record {
  long : length l.heads ≡ l.number;
  each : (h : ℕ) (x : Head) → slice_get l.heads h ≡ Some x → x ≡ head_of l.rows l.facts h;
}
