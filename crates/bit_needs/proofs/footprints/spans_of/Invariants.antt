use Rattle.std.proofs.Common.{◌≡◌, ◌++◌, drop}
use Rattle.bit_needs.specs.Uses.{spans_in}
use Rattle.bit_needs.proofs.footprints.spans_of.Given as goal

abbrev pub invariant-loop-u : goal.invariant-loop-u
invariant-loop-u l = l.spans ++ spans_in (drop l.u-index l.uses) ≡ spans_in l.uses
