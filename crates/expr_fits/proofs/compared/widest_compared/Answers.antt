use Rattle.std.proofs.Common.{arith}
use Rattle.expr_fits.proofs.Choices as C
use Rattle.expr_fits.proofs.compared.widest_compared.Goals as goal

pub beside-requires : goal.beside-requires
beside-requires c = (C.narrow-next c.args.choices.now c.loop-choice.choice-index c.choice-item.result (omega arith) c.choice-item.is c.loop-choice.invariant.narrow).0

pub loop-choice-preserved : goal.loop-choice-preserved
loop-choice-preserved c =
    let cs = c.args.choices.now in
    let i = c.loop-choice.choice-index in
    let x = c.choice-item.result in
    record {
      narrow = (C.narrow-next cs i x (omega arith) c.choice-item.is c.loop-choice.invariant.narrow).1;
      width = C.width-next c.args.bits c.loop-choice.widest c.max-widest.result c.beside.result cs i x (omega arith) c.choice-item.is c.max-widest.ensures c.beside.ensures c.loop-choice.invariant.width;
    }

pub returns : goal.returns
returns c = C.width-done c.args.bits c.loop-choice.widest c.args.choices.now c.loop-choice.choice-index (omega arith) c.loop-choice.invariant.width
