use Rattle.std.proofs.Common.{◌≤◌, ◌-◌, inl, inr, length, arith}
use Rattle.sv_types.specs.Layouts.{width_of}
use Rattle.eval_parts.proofs.Members.{struct-narrow}
use Rattle.function_breaks.proofs.Listing.{members-next, members-end}
use Rattle.function_breaks.proofs.results.members.Goals as goal
use Rattle.function_breaks.proofs.results.members.Goals.{then-loop-k-test+else-k-spots, else-loop-k-test}

pub width-requires : goal.width-requires
width-requires c =
    let m = c.index-members-members.result in
    let low : width_of m.of ≤ 4194304 = (let n = struct-narrow c.args.members.now (length c.args.members.now - 1 - c.loop-k.k) m (omega arith) c.index-members-members.is in omega (arith, n, c.requires.narrow)) in
    low

pub overflow_add-low : goal.overflow_add-low
overflow_add-low c =
    let m = c.index-members-members.result in
    let n = struct-narrow c.args.members.now (length c.args.members.now - 1 - c.loop-k.k) m (omega arith) c.index-members-members.is in
    omega (arith, n, c.requires.narrow, c.width.ensures.bits)

pub loop-k-preserved : goal.loop-k-preserved
loop-k-preserved c = record {
  low = omega (arith, c.min-high.ensures);
  uses =
      members-next c.loop-k.uses c.push.new.self _ c.args.members.now c.args.spots.now c.args.end c.loop-k.low c.loop-k.k c.min-high.result c.width.result c.index-members-members.result
      c.index-spots-spots.result c.local_use.result c.in_ok-push.ensures.ok c.local_use.ensures c.min-high.ensures c.width.ensures.bits (omega arith) (omega arith) c.index-members-members.is c.index-spots-spots.is
      c.loop-k.invariant.uses;
}

pub returns : goal.returns
returns c =
    elim c.loop-k-test.branch [
      | then-loop-k-test+else-k-spots w ↦ members-end c.loop-k.uses _ c.args.members.now c.args.spots.now c.args.end c.loop-k.low c.loop-k.k (inr (omega arith)) c.loop-k.invariant.uses
      | else-loop-k-test w ↦ members-end c.loop-k.uses _ c.args.members.now c.args.spots.now c.args.end c.loop-k.low c.loop-k.k (inl (omega arith)) c.loop-k.invariant.uses
    ]
