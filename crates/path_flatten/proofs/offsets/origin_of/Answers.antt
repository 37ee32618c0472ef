use Rattle.std.proofs.Common.{rules, ◌∙◌}
use Rattle.std.proofs.lemmas.Int.{to_z-of_z}
use mir.Val.{SFits}
use mir.Syntax.{w128}
use Rattle.sv_types.specs.Layouts.{layout}
use Rattle.path_flatten.proofs.Beginning.{origin-is}
use Rattle.path_flatten.proofs.offsets.origin_of.Goals as goal

pub returns-clause-value : goal.returns-clause-value
returns-clause-value c =
    let fits : SFits w128 c.origin_in.result = search rules in
    to_z-of_z w128 c.origin_in.result fits ∙ c.origin_in.ensures.value
    ∙ origin-is (layout c.args.of.now) c.bounds_of-bounds.result.left c.bounds_of-bounds.result.right c.args.up c.args.n c.bounds_of-bounds.ensures.left c.bounds_of-bounds.ensures.right
