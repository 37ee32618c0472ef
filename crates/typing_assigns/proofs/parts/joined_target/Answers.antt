use Rattle.std.proofs.Common.{sym, subst}
use Rattle.operand_types.specs.Allowed.{AllNarrow}
use Rattle.typing_assigns.proofs.Joining.{narrow-parts}
use Rattle.typing_assigns.proofs.parts.joined_target.Goals as goal

pub concat_of-requires : goal.concat_of-requires
concat_of-requires g c = subst AllNarrow (sym c.in_ok-exprs.ensures.exprs) (narrow-parts c.args.parts.items c.requires)
