use Rattle.std.proofs.Common.{◌≡◌, ℕ, ◌++◌, drop}
use Rattle.std.specs.Prelude.{filter}
use Rattle.package_scope.specs.Index.{wildcards_in}
use Rattle.package_scope.specs.Lookup.{stands_in}
use Rattle.package_scope.proofs.wildcards.wildcards_of.Given as goal

abbrev pub invariant-loop-import : goal.invariant-loop-import
invariant-loop-import l = (s : ℕ) → wildcards_in l.wildcards s ++ filter (stands_in s) (drop l.import-index l.list) ≡ filter (stands_in s) l.list
