use Rattle.v_tree.proofs.HelperNames.{helper_names}
use Rattle.v_tree.proofs.names.helper_names_differ.Goals as goal

pub returns : goal.returns
returns c = helper_names
