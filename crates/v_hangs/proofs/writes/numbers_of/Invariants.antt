use Rattle.std.proofs.Common.{◌≡◌, ◌++◌, drop, map}
use Rattle.v_writes.specs.declared.targets.Written.{Written}
use Rattle.v_hangs.proofs.writes.numbers_of.Given as goal

abbrev pub invariant-loop-write : goal.invariant-loop-write
invariant-loop-write l = l.numbers ++ map (λ (w : Written). w.number) (drop l.write-index l.writes) ≡ map (λ (w : Written). w.number) l.fn.writes
