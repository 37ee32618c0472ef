use Rattle.std.proofs.Common.{rules, ◌≤◌, suc, length}
use Rattle.v_reads.specs.Reads.{at_depth}
use Rattle.v_reads.proofs.Rounds.{rows-none, row-pushed, count-pushed, rows-read}
use Rattle.v_reads.proofs.functions.one_deeper.Goals as goal

pub loop-i-init : goal.loop-i-init
loop-i-init c =
    let s = at_depth (suc c.args.scope.depth) c.args.scope in
    record { rows = rows-none s c.new-lists.result c.new-lists.ensures; count = search rules }

pub loop-i-preserved : goal.loop-i-preserved
loop-i-preserved c =
    let s = at_depth (suc c.args.scope.depth) c.args.scope in
    let before = c.loop-i.invariant in
    let more = c.in_ok-push.ensures.ok in
    record {
      rows = row-pushed s c.loop-i.i c.loop-i.lists c.push.new.self _ before.rows before.count c.in_ok-function_reads_at.ensures more;
      count = count-pushed c.loop-i.lists c.push.new.self _ c.loop-i.i more before.count;
    }

pub returns : goal.returns
returns c =
    let s = at_depth (suc c.args.scope.depth) c.args.scope in
    let long : length c.args.scope.module.now.items.now ≤ length c.loop-i.lists = search rules in
    rows-read s c.loop-i.lists c.loop-i.invariant.rows long
