use Rattle.const_eval.proofs.Tops as T
use Rattle.const_eval.proofs.numbers.near_number.Goals as goal

pub returns-then-not-is_near : goal.returns-then-not-is_near
returns-then-not-is_near c = T.far-number c.args.signed c.loop-i.i c.args.v.now _ c.loop-i.invariant.value c.if-not-is_near.ensures
