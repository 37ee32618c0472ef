use Rattle.std.proofs.Common.{◌∙◌, arith}
use Rattle.eval_parts.specs.Places.{window_of}
use Rattle.eval_parts.proofs.Members.{union-part}
use Rattle.eval_parts.proofs.fields.union_member.Goals as goal

pub returns-clause-window : goal.returns-clause-window
returns-clause-window c =
    c.part_of.ensures.window ∙ union-part c.args.members.now c.args.k c.width.result c.index-members-k.result (window_of c.args.path) (omega arith) c.index-members-k.is c.width.ensures.bits
