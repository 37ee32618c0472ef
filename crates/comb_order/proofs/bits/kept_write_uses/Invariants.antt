use Rattle.std.proofs.Common.{◌≡◌, ◌++◌, map, drop}
use Rattle.flow_sets.specs.declared.uses.Write.{Write}
use Rattle.comb_order.specs.Bits as spec
use Rattle.comb_order.proofs.bits.kept_write_uses.Given as goal

abbrev pub invariant-loop-w : goal.invariant-loop-w
invariant-loop-w l = l.all ++ map (λ (w : Write). spec.kept_use l.widths w.of) (drop l.w-index l.writes) ≡ map (λ (w : Write). spec.kept_use l.widths w.of) l.writes
