use Rattle.bit_tokens.specs.Tokens.{HasSome}
use Rattle.bit_tokens.proofs.Least.{LeastUpTo}
use Rattle.bit_tokens.proofs.least_token.Given as goal

abbrev pub invariant-loop-u : goal.invariant-loop-u
invariant-loop-u l = LeastUpTo HasSome l.uses l.u-index l.least
