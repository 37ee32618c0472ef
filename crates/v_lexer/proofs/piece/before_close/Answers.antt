use Rattle.std.proofs.Common.{ap, ◌∙◌, sym, codes, drop, arith}
use Rattle.v_tree.specs.Tokens.{begins}
use Rattle.v_lexer.proofs.Scans.{until-step, until-stops}
use Rattle.v_lexer.proofs.piece.before_close.Goals as goal

pub returns-then-begins-clause-value : goal.returns-then-begins-clause-value
returns-then-begins-clause-value c =
    let stops = until-stops (begins (codes "*/")) (drop c.loop-at.at c.args.bytes.now) (ap (begins (codes "*/")) (sym c.split_at.ensures.back) ∙ sym c.begins.ensures ∙ c.if-begins.true) in
    omega (arith, stops, c.loop-at.invariant)

pub loop-at-preserved : goal.loop-at-preserved
loop-at-preserved c = until-step (begins (codes "*/")) _ _ _ c.loop-at-test.true c.split_at.ensures.back (sym c.begins.ensures ∙ c.if-begins.false) c.loop-at.invariant
