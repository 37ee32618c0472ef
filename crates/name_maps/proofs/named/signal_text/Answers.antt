use Rattle.std.proofs.Common.{◌∙◌}
use Rattle.std.proofs.lemmas.Result.{IfOk-weaker}
use Rattle.name_maps.proofs.Maps.{one-signal-at, signal-absent}
use Rattle.name_maps.proofs.named.signal_text.Goals as goal

pub returns-in-Some : goal.returns-in-Some
returns-in-Some c = IfOk-weaker c.copy.result _ _ (λ t is one. is ∙ (one-signal-at c.args.names.now c.args.n c.in-Some.at c.index-names-at.result one c.in-Some.ensures.0 (c.in-Some.ensures.1 _)).0) c.copy.ensures

pub returns-in-None : goal.returns-in-None
returns-in-None c = λ one. c.new.ensures ∙ (signal-absent c.args.names.now c.args.n c.in-None.ensures).0
