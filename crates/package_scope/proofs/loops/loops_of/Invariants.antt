use Rattle.std.proofs.Common.{◌≡◌, ℕ, ◌++◌, drop}
use Rattle.std.specs.Prelude.{filter}
use Rattle.package_scope.specs.Finding.{loops_in, is_loop_of}
use Rattle.package_scope.proofs.loops.loops_of.Given as goal

abbrev pub invariant-loop-run : goal.invariant-loop-run
invariant-loop-run l = (s : ℕ) → loops_in l.loops s ++ filter (is_loop_of s) (drop l.run-index l.list) ≡ filter (is_loop_of s) l.list
