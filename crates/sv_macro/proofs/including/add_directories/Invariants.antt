use Rattle.std.proofs.Common.{◌≡◌, ◌++◌, map, drop}
use Rattle.sv_macro.specs.Including.{in_directory}
use Rattle.sv_macro.proofs.including.add_directories.Given as goal

abbrev pub invariant-loop-directory : goal.invariant-loop-directory
invariant-loop-directory l = l.paths ++ map (in_directory l.path) (drop l.directory-index l.directories) ≡ l.initial.paths ++ map (in_directory l.path) l.directories
