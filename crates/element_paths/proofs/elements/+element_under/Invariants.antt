use Rattle.eval_parts.proofs.Nodes.{nodes}
use Rattle.element_paths.proofs.elements.+element_under.Given as goal

abbrev pub decreases-element_under : goal.decreases-element_under
decreases-element_under l = nodes l.e.now
