use Rattle.std.proofs.Common.{get_or, refl, arith}
use Rattle.std.proofs.lemmas.Option.{slice_get-get_or}
use Rattle.eval_parts.proofs.targets.member_type.Goals as goal

pub returns-then-i-members : goal.returns-then-i-members
returns-then-i-members c =
    let ms = c.args.members.now in
    (get_or ms c.args.i c.index-members-i.result, slice_get-get_or ms c.args.i c.index-members-i.result (omega arith), refl)
