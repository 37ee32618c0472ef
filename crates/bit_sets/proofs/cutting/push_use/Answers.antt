use Rattle.std.proofs.Common.{◌∙◌, ap}
use Rattle.bit_sets.specs.Sets.{tokens_at}
use Rattle.bit_sets.proofs.Laws as L
use Rattle.bit_sets.proofs.cutting.push_use.Goals as goal

pub returns-in_ok-push : goal.returns-in_ok-push
returns-in_ok-push c = λ n. ap (λ us. tokens_at us n) c.in_ok-push.ensures.ok ∙ L.tokens-pushed c.args.to.now _ n
