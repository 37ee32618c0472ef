use Rattle.std.proofs.Common.{◌∙◌, ap}
use Rattle.b4_core.specs.Vectors.{digits}
use Rattle.v_meaning.specs.Values as T
use Rattle.path_flatten.proofs.numbers.number.Goals as goal

pub returns : goal.returns
returns c = c.literal-made.ensures ∙ ap T.literal c.in_ok-bits.ensures ∙ ap (λ k. T.literal (digits c.args.width k)) c.from.ensures
