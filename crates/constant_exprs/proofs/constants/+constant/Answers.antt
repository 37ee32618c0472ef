use Rattle.std.proofs.Common.{◌+◌, drop, false, true, refl, arith}
use Rattle.sv_types.specs.Expressions.{meaning}
use Rattle.constant_exprs.specs.Constants.{AllConstantIf, meanings, choice_meanings, alternatives}
use Rattle.constant_exprs.proofs.Lists.{one-more, one-not, all-more, not-all}
use Rattle.constant_exprs.proofs.Walks as W
use Rattle.constant_exprs.proofs.constants.+constant.Goals as goal

-- several expressions
pub are_constant-is_constant-requires : goal.are_constant-is_constant-requires
are_constant-is_constant-requires t c = let n = W.one-node c.args.es.now c.loop-e.e-index c.e-item.result (omega arith) c.e-item.is in omega (arith, c.decreases, n)

pub are_constant-returns-then-not-is_constant : goal.are_constant-returns-then-not-is_constant
are_constant-returns-then-not-is_constant t c =
    W.here (λ xs. AllConstantIf false (meanings xs)) c.args.es.now c.loop-e.e-index c.e-item.result (omega arith) c.e-item.is
    (one-not (meaning c.e-item.result) (meanings (drop (c.loop-e.e-index + 1) c.args.es.now)) c.if-not-is_constant.ensures) (c.loop-e.invariant false)

pub are_constant-loop-e-preserved : goal.are_constant-loop-e-preserved
are_constant-loop-e-preserved t c = λ b.
    W.next (λ xs. AllConstantIf b (meanings xs)) c.args.es.now c.loop-e.e-index c.e-item.result (omega arith) c.e-item.is
    (λ r. one-more b (meaning c.e-item.result) (meanings (drop (c.loop-e.e-index + 1) c.args.es.now)) c.if-not-is_constant.ensures r) (c.loop-e.invariant b)

pub are_constant-returns : goal.are_constant-returns
are_constant-returns t c = W.done (λ xs. AllConstantIf true (meanings xs)) c.args.es.now c.loop-e.e-index (omega arith) refl (c.loop-e.invariant true)

-- what a value may be
pub choices_constant-choice_constant-requires : goal.choices_constant-choice_constant-requires
choices_constant-choice_constant-requires t c = let n = W.one-choice c.args.choices.now c.loop-choice.choice-index c.choice-item.result (omega arith) c.choice-item.is in omega (arith, c.decreases, n)

pub choices_constant-returns-then-not-choice_constant : goal.choices_constant-returns-then-not-choice_constant
choices_constant-returns-then-not-choice_constant t c =
    W.here (λ xs. AllConstantIf false (alternatives xs)) c.args.choices.now c.loop-choice.choice-index c.choice-item.result (omega arith) c.choice-item.is
    (not-all (choice_meanings c.choice-item.result) (alternatives (drop (c.loop-choice.choice-index + 1) c.args.choices.now)) c.if-not-choice_constant.ensures) (c.loop-choice.invariant false)

pub choices_constant-loop-choice-preserved : goal.choices_constant-loop-choice-preserved
choices_constant-loop-choice-preserved t c = λ b.
    W.next (λ xs. AllConstantIf b (alternatives xs)) c.args.choices.now c.loop-choice.choice-index c.choice-item.result (omega arith) c.choice-item.is
    (λ r. all-more b (choice_meanings c.choice-item.result) (alternatives (drop (c.loop-choice.choice-index + 1) c.args.choices.now)) c.if-not-choice_constant.ensures r) (c.loop-choice.invariant b)

pub choices_constant-returns : goal.choices_constant-returns
choices_constant-returns t c = W.done (λ xs. AllConstantIf true (alternatives xs)) c.args.choices.now c.loop-choice.choice-index (omega arith) refl (c.loop-choice.invariant true)
