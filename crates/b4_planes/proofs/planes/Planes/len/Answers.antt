use Rattle.std.proofs.Common.{length, ap, sym, ◌∙◌}
use Rattle.b4_planes.proofs.PlaneBits.{length-vector}
use Rattle.b4_planes.proofs.planes.Planes.len.Goals as goal

pub returns : goal.returns
returns c = sym (length-vector _ _ _ c.self.invariant) ∙ ap length c.self.view_is
