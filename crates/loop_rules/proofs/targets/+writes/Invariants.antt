use Rattle.std.proofs.Common.{◌≡◌, ◌+◌, ◌*◌, ◌≤◌, map, drop, flat_map}
use Rattle.sv_types.specs.Meanings.{total}
use Rattle.eval_forms.specs.Callees.{formals_in}
use Rattle.eval_stmts.proofs.Sizes.{nodes, item_nodes, perhaps_nodes}
use Rattle.loop_laws.specs.Walks.{bodies}
use Rattle.loop_rules.specs.Targets.{names, targets_of}
use Rattle.loop_rules.proofs.targets.+writes.Given as goal

abbrev pub decreases-writes : goal.decreases-writes
decreases-writes l = 4 * nodes l.s.now + 1

abbrev pub decreases-some_write : goal.decreases-some_write
decreases-some_write l = 4 * total (map nodes l.ss.now) + 2

abbrev pub decreases-items_write : goal.decreases-items_write
decreases-items_write l = 4 * total (map item_nodes l.items.now) + 2

abbrev pub decreases-perhaps_writes : goal.decreases-perhaps_writes
decreases-perhaps_writes l = 4 * perhaps_nodes l.s.now + 2

abbrev pub invariant-some_write-loop-s : goal.invariant-some_write-loop-s
invariant-some_write-loop-s l =
    let rest = drop l.s-index l.ss in
    let fs = formals_in l.functions in
    record {
      few : total (map nodes rest) ≤ total (map nodes l.ss);
      same : names l.number (flat_map (targets_of fs) rest) ≡ names l.number (flat_map (targets_of fs) l.ss);
    }

abbrev pub invariant-items_write-loop-item : goal.invariant-items_write-loop-item
invariant-items_write-loop-item l =
    let rest = drop l.item-index l.items in
    let fs = formals_in l.functions in
    record {
      few : total (map item_nodes rest) ≤ total (map item_nodes l.items);
      same : names l.number (flat_map (targets_of fs) (bodies rest)) ≡ names l.number (flat_map (targets_of fs) (bodies l.items));
    }
