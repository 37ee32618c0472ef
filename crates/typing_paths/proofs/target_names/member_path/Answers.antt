use Rattle.expr_type.specs.Typings.{rule}
use Rattle.typing_steps.proofs.Combining.{rule-types}
use Rattle.typing_paths.specs.Names.{member_target_of}
use Rattle.typing_paths.proofs.TargetNaming.{by-member, can-behind}
use Rattle.typing_paths.proofs.target_names.member_path.Goals as goal

pub returns-in-Member-clause-value : goal.returns-in-Member-clause-value
returns-in-Member-clause-value g c =
    let k = g.S.Names.context c.args.names.now in
    let found = member_target_of k c.args.in_statement c.args.first c.args.interface c.in-Member.name in
    let fs = c.args.known.now.functions in
    by-member k c.args.in_statement c.args.first c.args.interface c.args.selects.now c.select-item.result c.in-Member.dot c.in-Member.name c.path.result fs c.path.new.known.functions
    c.in-len1-up.len_at_least c.select-item.is c.in-Member.is
    (c.path.ensures.value (rule found) fs (rule-types c.member_target-from.result found fs c.member_target-from.ensures.value))

pub path-requires-clause-can : goal.path-requires-clause-can
path-requires-clause-can g c = can-behind _ _ _ _ _ _ _ c.args.selects.now c.select-item.result c.in-len1-up.len_at_least c.select-item.is c.requires.can
