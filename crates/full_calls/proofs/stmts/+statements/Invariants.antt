use Rattle.std.proofs.Common.{◌≡◌, true, drop}
use Rattle.eval_forms.specs.Callees.{formals_in}
use Rattle.stmt_flows.specs.Full.{stmts_full, items_full}
use Rattle.full_calls.proofs.stmts.+statements.Given as goal

abbrev pub invariant-are_stmts_full-loop-s : goal.invariant-are_stmts_full-loop-s
invariant-are_stmts_full-loop-s l = stmts_full (formals_in l.functions) (drop l.s-index l.ss) ≡ true → stmts_full (formals_in l.functions) l.ss ≡ true

abbrev pub invariant-are_items_full-loop-item : goal.invariant-are_items_full-loop-item
invariant-are_items_full-loop-item l = items_full (formals_in l.functions) (drop l.item-index l.items) ≡ true → items_full (formals_in l.functions) l.items ≡ true
