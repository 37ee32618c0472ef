use Rattle.std.proofs.Common.{arith, refl}
use Rattle.path_flatten.proofs.Helping.{found-at, yes-by}
use Rattle.path_flatten.proofs.helpers.is_among.Goals as goal

pub returns-then-is_same : goal.returns-then-is_same
returns-then-is_same c =
    (λ t. found-at c.args.helpers.now c.loop-other.other-index _ c.args.h (omega arith) (yes-by c.is_same.result _ c.if-is_same.true c.is_same.ensures), λ m. refl)
