use Rattle.std.proofs.Common.{◌≡◌, ℕ, List, drop, Some}
use Rattle.sv_source.specs.Loading.{Contents}
use Rattle.sv_macro.specs.Including.{first_held, Tried}
use Rattle.sv_preproc.proofs.loading.load_first.Given as goal

abbrev pub invariant-loop-path : goal.invariant-loop-path
invariant-loop-path g l = record {
  same : g.F.Files.contents l.files ≡ g.F.Files.contents l.initial.files;
  level : g.F.Files.faults l.files ≡ g.F.Files.faults l.initial.files;
  first : (contents : Contents) → g.F.Files.contents l.initial.files ≡ Some contents → first_held contents (drop l.path-index l.paths) ≡ first_held contents l.paths;
  tried : (contents : Contents) → g.F.Files.contents l.initial.files ≡ Some contents → (path : List ℕ) → Tried contents (drop l.path-index l.paths) path → Tried contents l.paths path;
}
