use Rattle.std.proofs.Common.{◌≡◌, ◌+◌, ◌*◌, ◌≤◌, ◌-◌, map, drop}
use Rattle.sv_types.specs.Meanings.{total}
use Rattle.sv_types.specs.Statements.{doing}
use Rattle.eval_parts.specs.Steps.{is_held}
use Rattle.eval_exprs.specs.Held.{formals}
use Rattle.eval_stmts.specs.Limits.{AllStmtsFit}
use Rattle.eval_stmts.specs.Stepping.{Resumes, step_of}
use Rattle.eval_stmts.proofs.Sizes.{nodes, item_nodes, perhaps_nodes}
use Rattle.eval_runs.specs.Forms.{body_step}
use Rattle.eval_runs.proofs.Steps.{rest_of}
use Rattle.eval_runs.proofs.statements.+run.Given as goal

abbrev pub decreases-run : goal.decreases-run
decreases-run g l = 5 * nodes l.s.now

abbrev pub decreases-run_perhaps : goal.decreases-run_perhaps
decreases-run_perhaps g l = 5 * perhaps_nodes l.s.now + 1

abbrev pub decreases-run_if : goal.decreases-run_if
decreases-run_if g l = 5 * (nodes l.body.now + perhaps_nodes l.other.now) + 2

abbrev pub decreases-run_case : goal.decreases-run_case
decreases-run_case g l = 5 * (total (map item_nodes l.items.now) + perhaps_nodes l.other.now) + 2

abbrev pub decreases-run_scope : goal.decreases-run_scope
decreases-run_scope g l = 5 * total (map nodes l.body.now) + 2

abbrev pub decreases-run_all : goal.decreases-run_all
decreases-run_all g l = 5 * total (map nodes l.body.now) + 1

abbrev pub decreases-run_loop : goal.decreases-run_loop
decreases-run_loop g l = 5 * nodes l.body.now + 2

abbrev pub decreases-run_turn : goal.decreases-run_turn
decreases-run_turn g l = 5 * nodes l.body.now + 1

abbrev pub decreases-run_uncounted : goal.decreases-run_uncounted
decreases-run_uncounted g l = 5 * total (map nodes l.body.now) + 3

abbrev pub decreases-run_made : goal.decreases-run_made
decreases-run_made g l = 5 * (total (map nodes l.before.now) + perhaps_nodes l.body.now) + 4

abbrev pub invariant-run_all-loop-s : goal.invariant-run_all-loop-s
invariant-run_all-loop-s g l =
    let ss = drop l.s-index l.body in
    record {
      fits : AllStmtsFit ss (formals l.scope) (is_held l.env.signals.items);
      few : total (map nodes ss) ≤ total (map nodes l.body);
      left : Resumes l.scope (body_step ss) (body_step l.body) l.initial.env l.env;
    }

abbrev pub invariant-run_loop-loop-turn : goal.invariant-run_loop-loop-turn
invariant-run_loop-loop-turn g l =
    let body = step_of (doing l.body) in
    record {
      held : is_held l.env.signals.items ≡ is_held l.initial.env.signals.items;
      left : Resumes l.scope (rest_of l.control body (65536 - l._turn)) (rest_of l.control body 65536) l.initial.env l.env;
    }
