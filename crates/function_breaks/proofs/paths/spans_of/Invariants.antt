use Rattle.std.proofs.Common.{◌≡◌, ◌++◌, drop}
use Rattle.function_breaks.specs.Early as E
use Rattle.function_breaks.proofs.paths.spans_of.Given as goal

abbrev pub invariant-loop-u : goal.invariant-loop-u
invariant-loop-u l = l.spans ++ E.spans_of (drop l.u-index l.uses) ≡ E.spans_of l.uses
