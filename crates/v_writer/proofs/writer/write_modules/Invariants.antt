use Rattle.std.proofs.Common.{◌≡◌, drop, map}
use Rattle.v_writer.specs.Layout.{in_turn, module_line}
use Rattle.v_writer.specs.Sheets.{set}
use Rattle.v_writer.proofs.writer.write_modules.Given as goal

abbrev pub invariant-loop-m : goal.invariant-loop-m
invariant-loop-m l = set l.page (in_turn (map module_line (drop l.m-index l.modules))) ≡ set l.fn.page (in_turn (map module_line l.modules))
