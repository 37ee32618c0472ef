use Rattle.std.proofs.Common.{◌≡◌, ℕ, ◌++◌, List, drop}
use Rattle.package_scope.specs.Index.{number_in}
use Rattle.package_scope.specs.Packages.{holders_in, holders_from, of_number}
use Rattle.package_scope.proofs.packages.holders_of.Given as goal

abbrev pub invariant-loop-declaration : goal.invariant-loop-declaration
invariant-loop-declaration l = (q : List ℕ) → of_number (holders_in l.holders) (number_in l.names q) ++ holders_from q (drop l.declaration-index l.list) ≡ holders_from q l.list
