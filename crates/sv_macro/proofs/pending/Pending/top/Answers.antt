use Rattle.sv_macro.proofs.Topmost.{topmost}
use Rattle.sv_macro.proofs.pending.Pending.top.Goals as goal

pub returns : goal.returns
returns c = rw (← c.self.view_is) (topmost c.self.inside.items _ c.top.ensures c.self.invariant)
