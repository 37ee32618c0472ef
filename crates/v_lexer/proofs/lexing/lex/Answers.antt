use Rattle.std.proofs.Common.{arith}
use Rattle.v_lexer.proofs.Tokens.{step}
use Rattle.v_lexer.proofs.lexing.lex.Goals as goal

pub loop-at-preserved : goal.loop-at-preserved
loop-at-preserved c = record {
  value = step c.loop-at.at c.in_ok-at.field-0 c.args.bytes.now _ c.in_ok-piece.piece _ _ _ c.loop-at-test.true c.split_at.ensures.back c.in_ok-piece.ensures.value c.in_ok-at.ensures.pushed c.in_ok-at.ensures.size c.loop-at.invariant.value;
  within = omega (arith, c.in_ok-at.ensures.size, c.in_ok-piece.ensures.within, c.split_at.ensures.back_len);
}
