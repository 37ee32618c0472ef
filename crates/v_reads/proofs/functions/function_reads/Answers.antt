use Rattle.std.proofs.Common.{rules, ◌≡◌, suc, ap, ◌∙◌, arith}
use Rattle.std.specs.Prelude.{slice_get}
use Rattle.v_reads.specs.Reads.{is_among, or_none, FunctionsRead, at_depth}
use Rattle.v_reads.proofs.Rounds.{none-read, settled, one-more, all-rounds}
use Rattle.v_reads.proofs.functions.function_reads.Goals as goal

pub loop-depth-init : goal.loop-depth-init
loop-depth-init c = none-read c.args.scope c.new-lists.result c.new-lists.ensures

pub one_deeper-requires : goal.one_deeper-requires
one_deeper-requires c = record { right = λ i n. ap (λ l. is_among (or_none (slice_get l i)) n) c.as_slice.ensures ∙ c.loop-depth.invariant.right i n }

pub loop-depth-preserved : goal.loop-depth-preserved
loop-depth-preserved c =
    let g : FunctionsRead (at_depth (suc c.loop-depth.depth) c.args.scope) c.in_ok-deeper.deeper = record { right = c.in_ok-deeper.ensures.right } in
    one-more c.args.scope c.loop-depth.depth c.in_ok-deeper.deeper g

pub returns-then-is_same : goal.returns-then-is_same
returns-then-is_same c =
    let g : FunctionsRead (at_depth (suc c.loop-depth.depth) c.args.scope) c.in_ok-deeper.deeper = record { right = c.in_ok-deeper.ensures.right } in
    let same : c.in_ok-deeper.deeper ≡ c.loop-depth.lists = search rules in
    settled c.args.scope c.loop-depth.depth c.loop-depth.lists c.in_ok-deeper.deeper (omega arith) c.loop-depth.invariant g same

pub returns : goal.returns
returns c = let last : c.loop-depth.depth ≡ c.args.scope.depth = search rules in all-rounds c.args.scope c.loop-depth.depth c.loop-depth.lists last c.loop-depth.invariant
