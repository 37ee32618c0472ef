use Rattle.std.proofs.Common.{List, ◌++◌, drop}
use Rattle.target_flatten.specs.declared.writes.Write.{Write}
use Rattle.memory_targets.specs.Pieces.{AllInWord}
use Rattle.memory_targets.proofs.targets.each_in_word.Given as goal

abbrev pub invariant-loop-write : goal.invariant-loop-write
invariant-loop-write l = (rest : List Write) → AllInWord l.word (drop l.write-index l.writes) rest → AllInWord l.word l.writes (l.made ++ rest)
