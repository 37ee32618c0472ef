use Rattle.std.proofs.Common.{◌≡◌, ◌≤◌, length, drop}
use Rattle.v_scopes.specs.Env.{found, Within}
use Rattle.v_block_names.specs.Blocks.{locals_given}
use Rattle.v_block_names.proofs.declares.declare_locals.Given as goal

abbrev pub invariant-loop-at : goal.invariant-loop-at
invariant-loop-at l =
    (l.at ≤ length l.locals) × (found l.scope ≡ locals_given (drop l.at l.locals) (found l.fn.scope)) × Within l.fn.scope l.scope

abbrev pub decreases-loop-at : goal.decreases-loop-at
decreases-loop-at l = l.at
