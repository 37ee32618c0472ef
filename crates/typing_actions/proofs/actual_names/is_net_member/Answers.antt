use Rattle.std.proofs.Common.{◌∙◌}
use Rattle.typing_actions.proofs.ActualNaming.{of-index, of-member, of-part}
use Rattle.typing_actions.proofs.actual_names.is_net_member.Goals as goal

pub returns-in-Member : goal.returns-in-Member
returns-in-Member g c =
    let k = g.S.Names.context c.args.names.now in
    c.is_net_member.ensures ∙ of-member k c.args.interface c.args.selects.now c.select-item.result c.in-Member.dot c.in-Member.name c.in-len1-up.len_at_least c.select-item.is c.in-Member.is

pub returns-in-Index : goal.returns-in-Index
returns-in-Index g c =
    let k = g.S.Names.context c.args.names.now in
    of-index k c.args.interface c.args.selects.now c.select-item.result c.in-Index.opening c.in-Index.index c.in-Index.closing c.in-len1-up.len_at_least c.select-item.is c.in-Index.is

pub returns-in-Part : goal.returns-in-Part
returns-in-Part g c =
    let k = g.S.Names.context c.args.names.now in
    of-part k c.args.interface c.args.selects.now c.select-item.result c.in-Part.opening c.in-Part.left c.in-Part.operator c.in-Part.at c.in-Part.right c.in-Part.closing c.in-len1-up.len_at_least c.select-item.is c.in-Part.is
