use Rattle.std.proofs.Common.{◌∙◌}
use Rattle.std.proofs.lemmas.Result.{IfOk-weaker}
use Rattle.name_maps.proofs.Maps.{one-local-at, local-absent}
use Rattle.name_maps.proofs.named.local_text.Goals as goal

pub returns-in-Some : goal.returns-in-Some
returns-in-Some c = IfOk-weaker c.copy.result _ _ (λ t is one. is ∙ one-local-at c.args.names.now c.args.n c.in-Some.at c.index-names-at.result one c.in-Some.ensures.0 (c.in-Some.ensures.1 _)) c.copy.ensures

pub returns-in-None : goal.returns-in-None
returns-in-None c = λ one. c.new.ensures ∙ local-absent c.args.names.now c.args.n c.in-None.ensures
