use Rattle.std.proofs.Common.{◌≡◌, map, take}
use Rattle.v_tree.specs.Rows.{part_of}
use Rattle.v_tree.proofs.reader.parts.Given as goal

abbrev pub invariant-loop-word : goal.invariant-loop-word
invariant-loop-word l = l.parts ≡ map (λ word. part_of word.now) (take l.word-index l.words)
