use Rattle.std.proofs.Common.{◌≡◌, length}
use Rattle.stmt_types.specs.Blocks.{built_of, built_on, open_block}
use Rattle.stmt_types.proofs.blocks.block_of.Given as goal

-- the parts that are left with what is made of those behind them
abbrev pub invariant-loop-part : goal.invariant-loop-part
invariant-loop-part l = built_on l.rest.items (open_block l.under) ≡ built_of l.fn.parts.items

abbrev pub decreases-loop-part : goal.decreases-loop-part
decreases-loop-part l = length l.rest.items
