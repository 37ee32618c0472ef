use Rattle.std.proofs.Common.{◌≡◌, rules}
use Rattle.std.specs.Prelude.{Err}
use Rattle.expr_type.specs.declared.halt.Halt.TheVariants as H
use Rattle.typing_scopes.specs.Scopes.{context_of}
use Rattle.typing_declarations.proofs.FieldJoining.{member-breaks, member-quiet}
use Rattle.typing_declarations.proofs.members.member_of.Goals as goal

pub returns-in-Err-Breaks-clause-value : goal.returns-in-Err-Breaks-clause-value
returns-in-Err-Breaks-clause-value g c x fs p =
    let is : c.args.found ≡ Err (H.Breaks c.in-Err-Breaks.at c.in-Err-Breaks.rule) = search rules in
    member-breaks (context_of g.B.Names.context c.args.names.now) c.args.inside_packed x c.args.list.now fs c.args.known.now.functions c.args.known.now.functions
    c.args.found c.in-Err-Breaks.at c.in-Err-Breaks.rule is p

pub returns-in-Err-Quiet-clause-value : goal.returns-in-Err-Quiet-clause-value
returns-in-Err-Quiet-clause-value g c x fs p =
    let is : c.args.found ≡ Err H.Quiet = search rules in
    member-quiet (context_of g.B.Names.context c.args.names.now) c.args.inside_packed x c.args.list.now fs c.args.known.now.functions c.named_fields-fields.new.known.functions
    c.args.found c.named_fields-fields.result c.behind_quiet.result is c.behind_quiet.ensures p c.named_fields-fields.ensures.value
