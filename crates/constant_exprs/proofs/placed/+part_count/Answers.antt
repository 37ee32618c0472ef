use Rattle.std.proofs.Common.{subst}
use Rattle.constant_exprs.specs.Placed.{CountsMembers}
use Rattle.constant_exprs.proofs.Counting.{count-Struct, count-Union}
use Rattle.constant_exprs.proofs.placed.+part_count.Goals as goal

pub returns-in-Struct : goal.returns-in-Struct
returns-in-Struct t c =
    count-Struct c.args.t.now c.in-Struct.id c.in-Struct.packed c.in-Struct.signed c.in-Struct.members c.member_count.result c.in-Struct.is
    (subst (λ ms. CountsMembers ms c.member_count.result) c.as_slice.ensures c.member_count.ensures)

pub returns-in-Union : goal.returns-in-Union
returns-in-Union t c =
    count-Union c.args.t.now c.in-Union.id c.in-Union.signed c.in-Union.members c.member_count-in-Union.result c.in-Union.is
    (subst (λ ms. CountsMembers ms c.member_count-in-Union.result) c.as_slice-in-Union.ensures c.member_count-in-Union.ensures)
