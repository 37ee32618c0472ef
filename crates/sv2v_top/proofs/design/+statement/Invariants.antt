use Rattle.std.proofs.Common.{◌≡◌, ◌++◌, List, ℕ, map, drop}
use Rattle.sv2v_top.specs.source.Lookup.{Numbers}
use Rattle.sv2v_top.specs.source.Elaboration.{stmt_of}
use Rattle.sv2v_top.proofs.design.+statement.Given as goal

abbrev pub invariant-statements-loop-stmt : goal.invariant-statements-loop-stmt
invariant-statements-loop-stmt l = (ns : List (List ℕ)) → Numbers l.names ns → l.statements ++ map (stmt_of ns l.later) (drop l.stmt-index l.list) ≡ map (stmt_of ns l.later) l.list
