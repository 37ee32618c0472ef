use Rattle.ll_engine.proofs.Laws.{fronts_begin}
use Rattle.ll_engine.proofs.ll1.Ll1.has_fronts.Goals as goal

pub returns : goal.returns
returns c = fronts_begin c.args.self.now
