use Rattle.std.proofs.Common.{◌≡◌, map, drop}
use Rattle.sv_types.specs.declared.types.Member.{Member}
use Rattle.pattern_fit.specs.Fits.{covers, behind}
use Rattle.pattern_fit.proofs.fitting.cover_members.Given as goal

abbrev pub invariant-loop-n : goal.invariant-loop-n
invariant-loop-n l =
    behind l.items.items (covers l.rest l.numbers l.n (map (λ (m : Member). m.of) (drop l.n l.members))) ≡ covers l.rest l.numbers 0 (map (λ (m : Member). m.of) l.members)
