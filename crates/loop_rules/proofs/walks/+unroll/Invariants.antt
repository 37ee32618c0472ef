use Rattle.std.proofs.Common.{◌≡◌, ◌+◌, ◌*◌, ◌≤◌, true, map, drop}
use Rattle.sv_types.specs.Meanings.{total}
use Rattle.eval_forms.specs.Callees.{formals_in}
use Rattle.eval_stmts.specs.Limits.{AllStmtsFit, AllItemsFit}
use Rattle.eval_stmts.proofs.Sizes.{nodes, item_nodes, perhaps_nodes}
use Rattle.expr_flows.specs.Known.{sight, sight_in}
use Rattle.stmt_flows.specs.Full.{stmts_full, items_full}
use Rattle.design_breaks.specs.Unrolling as U
use Rattle.loop_laws.specs.Walks.{bodies, walk_all, unrolls_of}
use Rattle.loop_rules.specs.Counted.{control_at}
use Rattle.loop_rules.proofs.Turning.{BodyLeft}
use Rattle.loop_rules.proofs.walks.+unroll.Given as goal

abbrev pub decreases-unroll : goal.decreases-unroll
decreases-unroll l = 8 * nodes l.s.now + 1

abbrev pub decreases-unroll_all : goal.decreases-unroll_all
decreases-unroll_all l = 8 * total (map nodes l.ss.now) + 2

abbrev pub decreases-unroll_items : goal.decreases-unroll_items
decreases-unroll_items l = 8 * total (map item_nodes l.items.now) + 2

abbrev pub decreases-unroll_other : goal.decreases-unroll_other
decreases-unroll_other l = 8 * perhaps_nodes l.s.now + 2

abbrev pub decreases-unroll_made : goal.decreases-unroll_made
decreases-unroll_made l = 8 * (total (map nodes l.before.now) + perhaps_nodes l.body.now) + 4

abbrev pub decreases-unroll_before : goal.decreases-unroll_before
decreases-unroll_before l = 8 * total (map nodes l.before.now) + 3

abbrev pub decreases-unroll_loop : goal.decreases-unroll_loop
decreases-unroll_loop l = 8 * nodes l.body.now + 7

abbrev pub decreases-unroll_open : goal.decreases-unroll_open
decreases-unroll_open l = 8 * nodes l.body.now + 6

abbrev pub decreases-unroll_entered : goal.decreases-unroll_entered
decreases-unroll_entered l = 8 * nodes l.body.now + 5

abbrev pub decreases-unroll_turns : goal.decreases-unroll_turns
decreases-unroll_turns l = 8 * nodes l.body.now + 4

abbrev pub invariant-unroll_all-loop-s : goal.invariant-unroll_all-loop-s
invariant-unroll_all-loop-s l =
    let rest = drop l.s-index l.ss in
    let fs = formals_in l.known.functions.now in
    record {
      few : total (map nodes rest) ≤ total (map nodes l.ss);
      fits : AllStmtsFit rest fs (λ n. true);
      full : stmts_full fs rest ≡ true;
      same : walk_all fs rest (sight l.known) l.now ≡ walk_all fs l.ss (sight l.known) l.fn.so_far;
    }

abbrev pub invariant-unroll_items-loop-item : goal.invariant-unroll_items-loop-item
invariant-unroll_items-loop-item l =
    let rest = drop l.item-index l.items in
    let fs = formals_in l.known.functions.now in
    record {
      few : total (map item_nodes rest) ≤ total (map item_nodes l.items);
      fits : AllItemsFit rest fs (λ n. true);
      full : items_full fs rest ≡ true;
      same : walk_all fs (bodies rest) (sight l.known) l.now ≡ walk_all fs (bodies l.items) (sight l.known) l.fn.so_far;
    }

-- so many turns are left, which end
abbrev pub invariant-unroll_turns-loop-turn : goal.invariant-unroll_turns-loop-turn
invariant-unroll_turns-loop-turn l =
    let c = control_at l.at l.control in
    let F = unrolls_of (formals_in l.known.functions.now) l.body in
    BodyLeft l._turn c F (sight_in l.known.functions.now l.locals.items l.known.variables.now) l.now (U.turns 65536 c F (sight l.known) l.fn.so_far)
