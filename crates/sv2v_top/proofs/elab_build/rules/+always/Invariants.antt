use Rattle.std.proofs.Common.{◌≡◌, ◌++◌, map, drop}
use Rattle.sv2v_top.specs.source.Statements.{parts, sequence}
use Rattle.sv2v_top.proofs.elab_build.rules.+always.Given as goal

abbrev pub invariant-add_always_all-loop-stmt : goal.invariant-add_always_all-loop-stmt
invariant-add_always_all-loop-stmt l = l.to ++ (sequence (map parts (drop l.stmt-index l.statements))).always ≡ l.initial.to ++ (sequence (map parts l.statements)).always
