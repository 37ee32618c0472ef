use Rattle.std.proofs.Common.{arith, ap, ◌∙◌, min, drop, ◌+◌}
use Rattle.std.specs.Str.Parse.{digits_value_after}
use Rattle.v_lexer.proofs.Decimals.{digit-at, digit-goes}
use Rattle.v_lexer.proofs.numbers.decimal.Goals as goal

pub loop-digit-preserved : goal.loop-digit-preserved
loop-digit-preserved c = record {
  value = ap (λ v. min (digits_value_after 10 v (drop (c.loop-digit.digit-index + 1) c.args.digits.now)) 4294967296) c.min-value.ensures
      ∙ digit-goes c.args.digits.now c.loop-digit.digit-index c.loop-digit.value c.from.result _ c.loop-digit-test.true (digit-at c.args.digits.now c.loop-digit.digit-index c.requires c.loop-digit-test.true) c.from.ensures c.loop-digit.invariant.value;
  small = omega (arith, c.min-value.ensures);
}
