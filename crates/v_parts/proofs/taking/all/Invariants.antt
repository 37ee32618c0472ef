use Rattle.std.proofs.Common.{◌≡◌, ◌++◌, reverse, length}
use Rattle.v_tree.specs.Parts.{all_of}
use Rattle.v_parts.proofs.taking.all.Given as goal

abbrev pub invariant-loop-part : goal.invariant-loop-part
invariant-loop-part g l = l.values ++ all_of g.K.Kind.value (reverse l.parts) ≡ all_of g.K.Kind.value l.fn.parts

abbrev pub decreases-loop-part : goal.decreases-loop-part
decreases-loop-part g l = length l.parts
