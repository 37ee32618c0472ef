use Rattle.std.proofs.Common.{◌≡◌, true, map, drop}
use Rattle.eval_forms.specs.Callees.{formals_in}
use Rattle.expr_flows.specs.Full.{every}
use Rattle.unroll_laws.specs.Passing.{all_pass_few, item_passes_few}
use Rattle.process_cases.proofs.passing.+passing.Given as goal

abbrev pub invariant-all_pass_few-loop-s : goal.invariant-all_pass_few-loop-s
invariant-all_pass_few-loop-s l = all_pass_few (formals_in l.functions) (drop l.s-index l.ss) ≡ true → all_pass_few (formals_in l.functions) l.ss ≡ true

abbrev pub invariant-items_pass_few-loop-item : goal.invariant-items_pass_few-loop-item
invariant-items_pass_few-loop-item l = every (map (item_passes_few (formals_in l.functions)) (drop l.item-index l.items)) ≡ true → every (map (item_passes_few (formals_in l.functions)) l.items) ≡ true
