use Rattle.std.proofs.Common.{◌≡◌, ◌++◌, map, drop}
use Rattle.comb_order.specs.Bits as spec
use Rattle.comb_order.proofs.bits.kept_uses.Given as goal

abbrev pub invariant-loop-u : goal.invariant-loop-u
invariant-loop-u l = l.all ++ map (spec.kept_use l.widths) (drop l.u-index l.uses) ≡ map (spec.kept_use l.widths) l.uses
