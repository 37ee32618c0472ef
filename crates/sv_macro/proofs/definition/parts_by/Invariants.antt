use Rattle.std.proofs.Common.{◌≡◌, ◌++◌, map, drop}
use Rattle.sv_macro.specs.Macros.{part_by}
use Rattle.sv_macro.specs.Tables.{numbers_in}
use Rattle.sv_macro.proofs.definition.parts_by.Given as goal

abbrev pub invariant-loop-token : goal.invariant-loop-token
invariant-loop-token l = l.parts ++ map (part_by (numbers_in l.numbers)) (drop l.token-index l.body) ≡ map (part_by (numbers_in l.numbers)) l.body
