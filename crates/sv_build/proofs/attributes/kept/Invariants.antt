use Rattle.std.proofs.Common.{◌≡◌, ◌++◌, reverse, vec_len}
use Rattle.sv_build.specs.Attributes as means
use Rattle.sv_build.proofs.attributes.kept.Given as goal

abbrev pub invariant-loop-token : goal.invariant-loop-token
invariant-loop-token l = (l.kept ++ means.kept l.inside (reverse l.coming.items) ≡ means.without_attributes (reverse l.fn.tokens.items)) × (l.left ≡ means.closings (reverse l.coming.items))

abbrev pub decreases-loop-token : goal.decreases-loop-token
decreases-loop-token l = vec_len l.coming
