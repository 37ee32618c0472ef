use Rattle.std.proofs.Common.{sym, ◌∙◌}
use Rattle.sv_types.specs.declared.statement.Outcome.TheVariants.{Normal}
use Rattle.proc_rules.proofs.Tokens.{complete-none}
use Rattle.proc_rules.proofs.bits.left_token.Goals as goal

pub returns-then-is_complete : goal.returns-then-is_complete
returns-then-is_complete c = complete-none c.args.design.now c.args.p.now (sym (c.is_complete.ensures c.args.design.now) ∙ c.if-is_complete.true)

pub left_out-requires : goal.left_out-requires
left_out-requires c = record { known = c.requires.flow.sets Normal }

pub returns : goal.returns
returns c =
    c.in_ok-least.ensures c.args.design.now c.args.p.now c.requires.limits c.requires.widths c.requires.flow c.requires.unrolls
    (sym (c.is_complete.ensures c.args.design.now) ∙ c.if-is_complete.false)
