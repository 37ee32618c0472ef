use Rattle.std.proofs.Common.{◌≡◌, true, drop}
use Rattle.eval_forms.specs.Callees.{formals_in}
use Rattle.expr_flows.specs.Full.{all_full}
use Rattle.stmt_flows.specs.Full.{written_starts}
use Rattle.full_calls.proofs.stmts.are_locals_full.Given as goal

abbrev pub invariant-loop-l : goal.invariant-loop-l
invariant-loop-l l = all_full (formals_in l.functions) (written_starts (drop l.l-index l.ls)) ≡ true → all_full (formals_in l.functions) (written_starts l.ls) ≡ true
