use Rattle.v_parse.proofs.Walking.{begins}
use Rattle.v_parse.proofs.walk.parts_part.Goals as goal

pub loop-walk-init : goal.loop-walk-init
loop-walk-init c = begins c.args.tokens.now c.args.row c.args.kids c.started.result c.new.result c.started.ensures c.new.ensures
