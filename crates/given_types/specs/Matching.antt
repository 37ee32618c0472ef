-- Members whose types match.
use Rattle.std.specs.Prelude.{Bool}
use Rattle.sv_types.specs.declared.types.SvType.{SvType}
use Rattle.sv_types.specs.declared.types.Member.{Member, fold-Member}
use Rattle.pattern_fit.specs.Same.{same_member}
use Rattle.expr_type.specs.Shapes.{match_step}

abbrev pub matching_member : Member → SvType → Bool
matching_member = fold-Member (SvType → Bool) (SvType → Bool) match_step same_member
