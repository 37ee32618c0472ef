use Rattle.std.proofs.Common.{◌∙◌}
use Rattle.path_reads.proofs.Running.{keeps-bits}
use Rattle.path_reads.proofs.stored.is_four_state.Goals as goal

pub returns : goal.returns
returns c = λ all. keeps-bits c.args.of.now c.as_slice.result.now (c.as_slice.ensures ∙ c.in_ok-marks.ensures) (c.are_all.ensures.all all)
