use Rattle.sv2v_top.proofs.Checks.{is-bytes}
use Rattle.sv2v_top.proofs.elab_build.is_top.Goals as goal

pub returns : goal.returns
returns c = is-bytes _ _ _ c.is.ensures
