use Rattle.std.proofs.Common.{sym, ◌∙◌}
use Rattle.sv_lexer.specs.Spans.{ends_line}
use Rattle.sv_lexer.proofs.Scans.{until-step}
use Rattle.sv_lexer.proofs.comments.line_rest.Goals as goal

pub loop-at-preserved : goal.loop-at-preserved
loop-at-preserved c = until-step ends_line _ _ _ c.loop-at-test.true c.split_at.ensures.back (sym c.ends_line.ensures ∙ c.if-ends_line.false) c.loop-at.invariant
