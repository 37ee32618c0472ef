use Rattle.std.proofs.Common.{sym, ◌∙◌}
use Rattle.sv_lexer.specs.Spans.{closes_comment}
use Rattle.sv_lexer.proofs.Scans.{until-step}
use Rattle.sv_lexer.proofs.comments.before_close.Goals as goal

pub loop-at-preserved : goal.loop-at-preserved
loop-at-preserved c = until-step closes_comment _ _ _ c.loop-at-test.true c.split_at.ensures.back (sym c.starts_with.ensures.value ∙ c.if-starts_with.false) c.loop-at.invariant
