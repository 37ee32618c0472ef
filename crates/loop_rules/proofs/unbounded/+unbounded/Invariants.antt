use Rattle.std.proofs.Common.{◌≡◌, ◌+◌, ◌*◌, ◌≤◌, true, map, drop, flat_map}
use Rattle.sv_types.specs.Meanings.{total}
use Rattle.sv_types.specs.Surroundings.{Sight}
use Rattle.eval_forms.specs.Callees.{formals_in}
use Rattle.eval_stmts.specs.Limits.{AllStmtsFit, AllItemsFit}
use Rattle.eval_stmts.proofs.Sizes.{nodes, item_nodes, perhaps_nodes}
use Rattle.stmt_flows.specs.Full.{stmts_full, items_full}
use Rattle.least_breaks.specs.Least.{least_from}
use Rattle.loop_laws.specs.Walks.{bodies}
use Rattle.bound_values.specs.Looks.{SureAs}
use Rattle.loop_rules.specs.Counted.{unbounded_in}
use Rattle.loop_rules.proofs.unbounded.+unbounded.Given as goal

abbrev pub decreases-least_of_stmt : goal.decreases-least_of_stmt
decreases-least_of_stmt l = 4 * nodes l.s.now + 1

abbrev pub decreases-least_of_all : goal.decreases-least_of_all
decreases-least_of_all l = 4 * total (map nodes l.ss.now) + 2

abbrev pub decreases-least_of_items : goal.decreases-least_of_items
decreases-least_of_items l = 4 * total (map item_nodes l.items.now) + 2

abbrev pub decreases-least_of_other : goal.decreases-least_of_other
decreases-least_of_other l = 4 * perhaps_nodes l.s.now + 2

abbrev pub decreases-least_of_loop : goal.decreases-least_of_loop
decreases-least_of_loop l = 4 * nodes l.body.now + 3

abbrev pub invariant-least_of_all-loop-s : goal.invariant-least_of_all-loop-s
invariant-least_of_all-loop-s l =
    let rest = drop l.s-index l.ss in
    let fs = formals_in l.known.functions.now in
    record {
      few : total (map nodes rest) ≤ total (map nodes l.ss);
      fits : AllStmtsFit rest fs (λ n. true);
      full : stmts_full fs rest ≡ true;
      same : (h : Sight) → SureAs l.known.variables.now h → least_from l.so_far (flat_map (unbounded_in fs h) rest) ≡ least_from l.fn.least (flat_map (unbounded_in fs h) l.ss);
    }

abbrev pub invariant-least_of_items-loop-item : goal.invariant-least_of_items-loop-item
invariant-least_of_items-loop-item l =
    let rest = drop l.item-index l.items in
    let fs = formals_in l.known.functions.now in
    record {
      few : total (map item_nodes rest) ≤ total (map item_nodes l.items);
      fits : AllItemsFit rest fs (λ n. true);
      full : items_full fs rest ≡ true;
      same : (h : Sight) → SureAs l.known.variables.now h → least_from l.so_far (flat_map (unbounded_in fs h) (bodies rest)) ≡ least_from l.fn.least (flat_map (unbounded_in fs h) (bodies l.items));
    }
