use Rattle.bit_tokens.specs.Tokens.{Inside}
use Rattle.bit_tokens.proofs.Least.{LeastUpTo}
use Rattle.bit_tokens.proofs.least_inside.Given as goal

abbrev pub invariant-loop-u : goal.invariant-loop-u
invariant-loop-u l = LeastUpTo (Inside l.set) l.uses l.u-index l.least
