use Rattle.std.proofs.Common.{sym, ◌∙◌}
use Rattle.loop_rules.proofs.Finding.{broken-none, sound}
use Rattle.loop_rules.proofs.design_bodies.found_of.Goals as goal

pub flow_in-requires-clause-unrolls : goal.flow_in-requires-clause-unrolls
flow_in-requires-clause-unrolls c = sound c.args.design.now c.args.s.now c.args.loops c.requires.loops (sym c.is_broken.ensures ∙ c.if-is_broken.false)

pub returns-then-is_broken : goal.returns-then-is_broken
returns-then-is_broken c = broken-none c.args.design.now c.args.s.now c.args.loops c.requires.loops (sym c.is_broken.ensures ∙ c.if-is_broken.true)
