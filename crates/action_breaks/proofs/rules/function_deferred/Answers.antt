use Rattle.action_breaks.proofs.rules.function_deferred.Goals as goal

pub returns : goal.returns
returns c = λ d same. (c.misuse_of.ensures d same).later
