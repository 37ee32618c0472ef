use Rattle.typing_assigns.proofs.Enums.{narrow-stream}
use Rattle.typing_assigns.proofs.giving.given_to_path.Goals as goal

pub given-requires : goal.given-requires
given-requires g c = narrow-stream c.args.o c.requires
