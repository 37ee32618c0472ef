use Rattle.std.proofs.Common.{◌≡◌, ◌++◌, drop}
use Rattle.type_kinds.proofs.copies.copy_names.Given as goal

abbrev pub invariant-loop-name : goal.invariant-loop-name
invariant-loop-name l = l.made ++ drop l.name-index l.names ≡ l.names
