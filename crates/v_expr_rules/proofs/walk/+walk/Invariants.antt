use Rattle.std.proofs.Common.{◌≡◌, drop, map}
use Rattle.v_scopes.specs.Env.{found}
use Rattle.v_expr_rules.specs.Seen.{no_items, no_sels}
use Rattle.v_expr_rules.specs.Walks.{list_from, sels_from, expr_seen, sel_seen}
use Rattle.v_expr_rules.proofs.walk.+walk.Given as goal

abbrev pub invariant-list_seen-loop-i : goal.invariant-list_seen-loop-i
invariant-list_seen-loop-i l =
    list_from (map expr_seen (drop l.i l.exprs)) (found l.scope) l.items l.inputs l.start l.i l.list
    ≡ list_from (map expr_seen l.fn.exprs) (found l.fn.scope) l.fn.items l.fn.inputs l.fn.start 0 no_items

abbrev pub invariant-sels_seen-loop-sel : goal.invariant-sels_seen-loop-sel
invariant-sels_seen-loop-sel l =
    sels_from (map sel_seen (drop l.sel-index l.sels)) (found l.scope) l.items l.start l.seen
    ≡ sels_from (map sel_seen l.fn.sels) (found l.fn.scope) l.fn.items l.fn.start no_sels
