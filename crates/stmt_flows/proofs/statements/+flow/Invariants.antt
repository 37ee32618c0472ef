use Rattle.std.proofs.Common.{◌+◌, ◌*◌, map}
use Rattle.sv_types.specs.Meanings.{total}
use Rattle.eval_stmts.proofs.Sizes.{nodes, item_nodes, perhaps_nodes}
use Rattle.stmt_flows.proofs.statements.+flow.Given as goal

abbrev pub decreases-stmt_flow : goal.decreases-stmt_flow
decreases-stmt_flow l = 100 * nodes l.s.now

abbrev pub decreases-perhaps_flow : goal.decreases-perhaps_flow
decreases-perhaps_flow l = 100 * perhaps_nodes l.s.now + 1

abbrev pub decreases-if_flow : goal.decreases-if_flow
decreases-if_flow l = 100 * (nodes l.body.now + perhaps_nodes l.other.now) + 2

abbrev pub decreases-all_flows : goal.decreases-all_flows
decreases-all_flows l = 100 * total (map nodes l.body.now) + 1

abbrev pub decreases-items_flow : goal.decreases-items_flow
decreases-items_flow l = 100 * total (map item_nodes l.items.now) + 1

abbrev pub decreases-case_branches : goal.decreases-case_branches
decreases-case_branches l = 100 * (total (map item_nodes l.items.now) + perhaps_nodes l.other.now) + 2

abbrev pub decreases-made_body : goal.decreases-made_body
decreases-made_body l = 100 * (total (map nodes l.before.now) + perhaps_nodes l.body.now) + 2

abbrev pub decreases-tested_turn : goal.decreases-tested_turn
decreases-tested_turn l = 100 * nodes l.body.now + 1

abbrev pub decreases-one_turn : goal.decreases-one_turn
decreases-one_turn l = 100 * nodes l.body.now + 2

abbrev pub decreases-some_turns : goal.decreases-some_turns
decreases-some_turns l = 100 * nodes l.body.now + 3 + l.doublings

abbrev pub decreases-entered_turns : goal.decreases-entered_turns
decreases-entered_turns l = 100 * nodes l.body.now + 20

abbrev pub decreases-loop_flow : goal.decreases-loop_flow
decreases-loop_flow l = 100 * nodes l.body.now + 21
