use Rattle.std.proofs.Common.{◌≡◌, ◌+◌, ◌≤◌, drop}
use Rattle.sv_build.specs.Attributes as means
use Rattle.sv_build.proofs.attributes.count_closings.Given as goal

abbrev pub invariant-loop-token : goal.invariant-loop-token
invariant-loop-token l = (l.closings + means.closings (drop l.token-index l.tokens) ≡ means.closings l.tokens) × (l.closings ≤ l.token-index)
