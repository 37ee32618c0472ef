use Rattle.std.proofs.Common.{[], arith}
use Rattle.std.proofs.lemmas.List.{ext_get_or}
use Rattle.round_runner.proofs.Compared.{same_size, same_width, first}
use Rattle.round_runner.proofs.stores.first_change.Goals as goal

pub first_difference-requires : goal.first_difference-requires
first_difference-requires c =
    same_width c.args.old.now c.args.new.now c.loop-n.n c.index-old-n.result c.index-new-n.result c.as_slice.result.now c.as_slice-in-loop-n.result.now c.requires (omega arith)
    c.index-old-n.is c.index-new-n.is c.as_slice.ensures c.as_slice-in-loop-n.ensures

pub returns-in-Some : goal.returns-in-Some
returns-in-Some c =
    first c.args.old.now c.args.new.now c.loop-n.n c.in-Some.field-0 c.index-old-n.result c.index-new-n.result c.as_slice.result.now c.as_slice-in-loop-n.result.now c.requires (omega arith)
    c.index-old-n.is c.index-new-n.is c.as_slice.ensures c.as_slice-in-loop-n.ensures c.in-Some.ensures c.loop-n.invariant

pub returns : goal.returns
returns c = ext_get_or [] c.args.old.now c.args.new.now (same_size c.args.old.now c.args.new.now c.requires) (λ k h. c.loop-n.invariant k (omega arith))
