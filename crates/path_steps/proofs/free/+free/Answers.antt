use Rattle.std.proofs.Common.{refl, arith}
use Rattle.expr_fits.proofs.Walks as W
use Rattle.path_steps.specs.Free.{AllFree, AllChoicesFree}
use Rattle.path_steps.proofs.free.+free.Goals as goal

-- several expressions
pub are_free-loop-e-preserved : goal.are_free-loop-e-preserved
are_free-loop-e-preserved t c =
    W.next AllFree c.args.es.now c.loop-e.e-index c.e-item.result (omega arith) c.e-item.is (λ r. (c.if-not-is_free.ensures refl, r)) c.loop-e.invariant

pub are_free-is_free-requires : goal.are_free-is_free-requires
are_free-is_free-requires t c = let n = W.one-node c.args.es.now c.loop-e.e-index c.e-item.result (omega arith) c.e-item.is in omega (arith, c.decreases, n)

-- what a value may be
pub choices_free-loop-choice-preserved : goal.choices_free-loop-choice-preserved
choices_free-loop-choice-preserved t c =
    W.next AllChoicesFree c.args.choices.now c.loop-choice.choice-index c.choice-item.result (omega arith) c.choice-item.is (λ r. (c.if-not-choice_free.ensures refl, r)) c.loop-choice.invariant

pub choices_free-choice_free-requires : goal.choices_free-choice_free-requires
choices_free-choice_free-requires t c = let n = W.one-choice c.args.choices.now c.loop-choice.choice-index c.choice-item.result (omega arith) c.choice-item.is in omega (arith, c.decreases, n)
