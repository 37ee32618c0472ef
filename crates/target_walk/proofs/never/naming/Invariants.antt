use Rattle.std.proofs.Common.{drop}
use Rattle.v_meaning.specs.Values.{meaning}
use Rattle.target_walk.proofs.Mentions.{Naming}
use Rattle.target_walk.proofs.never.naming.Given as goal

abbrev pub invariant-loop-given : goal.invariant-loop-given
invariant-loop-given l = Naming (meaning l.guard) (drop l.given-index l.indices) l.indices
