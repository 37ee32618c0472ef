use Rattle.std.proofs.Common.{◌≡◌, ◌++◌, map, drop}
use Rattle.sv2v_top.specs.source.Statements.{parts, sequence}
use Rattle.sv2v_top.proofs.uses.Found.+add.Given as goal

abbrev pub invariant-add_stmts-loop-stmt : goal.invariant-add_stmts-loop-stmt
invariant-add_stmts-loop-stmt l = record {
  names : l.self.names ++ (sequence (map parts (drop l.stmt-index l.statements))).names ≡ l.initial.self.names ++ (sequence (map parts l.statements)).names;
  literals : l.self.literals ++ (sequence (map parts (drop l.stmt-index l.statements))).literals ≡ l.initial.self.literals ++ (sequence (map parts l.statements)).literals;
}
