use Rattle.v_hangs.proofs.Processes.{writes_only_uses}
use Rattle.v_hangs.proofs.laws.writes_only_uses.Goals as goal

pub returns : goal.returns
returns c = writes_only_uses
