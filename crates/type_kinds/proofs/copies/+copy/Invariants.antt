use Rattle.std.proofs.Common.{◌≡◌, ◌++◌, drop}
use Rattle.type_kinds.proofs.copies.+copy.Given as goal

abbrev pub invariant-copy_members-loop-member : goal.invariant-copy_members-loop-member
invariant-copy_members-loop-member l = l.made ++ drop l.member-index l.members ≡ l.members
