use Rattle.std.proofs.Common.{◌≡◌, drop, map}
use Rattle.v_scopes.specs.Env.{found}
use Rattle.v_stmt_rules.specs.Targets.{no_parts, parts_from, target_seen}
use Rattle.v_stmt_rules.proofs.targets.+targets.Given as goal

abbrev pub invariant-parts_seen-loop-i : goal.invariant-parts_seen-loop-i
invariant-parts_seen-loop-i l =
    parts_from (map target_seen (drop l.i l.parts)) (found l.scope) l.items l.start l.i l.seen
    ≡ parts_from (map target_seen l.fn.parts) (found l.fn.scope) l.fn.items l.fn.start 0 no_parts
