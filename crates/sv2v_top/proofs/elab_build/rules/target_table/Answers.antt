use Rattle.std.proofs.Common.{[]}
use Rattle.sv2v_top.proofs.elab_build.rules.target_table.Goals as goal

pub returns : goal.returns
returns c = c.in_ok-add_targets.ensures [] c.new-names.ensures
