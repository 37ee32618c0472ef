use Rattle.std.proofs.Common.{◌∙◌, true≢false}
use Rattle.target_walk.proofs.Owning.{none-lowered}
use Rattle.target_walk.proofs.never.with_names.Goals as goal

pub returns-then-any_lowered-clause-bare : goal.returns-then-any_lowered-clause-bare
returns-then-any_lowered-clause-bare c = λ fixed. absurd (true≢false (c.if-any_lowered.ensures ∙ none-lowered c.args.indices.now fixed))
