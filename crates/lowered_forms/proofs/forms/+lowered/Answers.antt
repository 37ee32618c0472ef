use Rattle.std.proofs.Common.{refl, arith}
use Rattle.expr_fits.proofs.Walks as W
use Rattle.lowered_forms.specs.Inner.{AllLowered, AllChoicesLowered}
use Rattle.lowered_forms.proofs.forms.+lowered.Goals as goal

-- several expressions
pub all_lowered-loop-e-preserved : goal.all_lowered-loop-e-preserved
all_lowered-loop-e-preserved t c =
    W.next AllLowered c.args.es.now c.loop-e.e-index c.e-item.result (omega arith) c.e-item.is (λ r. (c.if-not-is_lowered.ensures refl, r)) c.loop-e.invariant

pub all_lowered-is_lowered-requires : goal.all_lowered-is_lowered-requires
all_lowered-is_lowered-requires t c = let n = W.one-node c.args.es.now c.loop-e.e-index c.e-item.result (omega arith) c.e-item.is in omega (arith, c.decreases, n)

-- what a value may be
pub choices_lowered-loop-choice-preserved : goal.choices_lowered-loop-choice-preserved
choices_lowered-loop-choice-preserved t c =
    W.next AllChoicesLowered c.args.choices.now c.loop-choice.choice-index c.choice-item.result (omega arith) c.choice-item.is (λ r. (c.if-not-choice_lowered.ensures refl, r)) c.loop-choice.invariant

pub choices_lowered-choice_lowered-requires : goal.choices_lowered-choice_lowered-requires
choices_lowered-choice_lowered-requires t c = let n = W.one-choice c.args.choices.now c.loop-choice.choice-index c.choice-item.result (omega arith) c.choice-item.is in omega (arith, c.decreases, n)
