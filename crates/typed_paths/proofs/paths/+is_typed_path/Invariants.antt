use Rattle.eval_parts.proofs.Nodes.{nodes}
use Rattle.typed_paths.proofs.paths.+is_typed_path.Given as goal

abbrev pub decreases-is_typed_path : goal.decreases-is_typed_path
decreases-is_typed_path l = nodes l.e.now
