use Rattle.std.proofs.Common.{◌+◌, ◌*◌}
use Rattle.eval_parts.proofs.Nodes.{nodes}
use Rattle.element_paths.proofs.alone.+alone.Given as goal

abbrev pub decreases-alone_path : goal.decreases-alone_path
decreases-alone_path l = 3 * nodes l.e.now + 1

abbrev pub decreases-alone_form : goal.decreases-alone_form
decreases-alone_form l = 3 * nodes l.e.now

abbrev pub decreases-alone_box : goal.decreases-alone_box
decreases-alone_box l = 3 * nodes l.e.now + 2
