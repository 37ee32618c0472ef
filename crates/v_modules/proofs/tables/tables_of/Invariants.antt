use Rattle.std.proofs.Common.{◌≡◌, ◌++◌, map, drop}
use Rattle.v_modules.specs.Tables.{items_of, items_in, NamesStandOnce}
use Rattle.v_modules.proofs.tables.tables_of.Given as goal

abbrev pub invariant-loop-module : goal.invariant-loop-module
invariant-loop-module l =
    (map items_of l.tables ++ map items_in (drop l.module-index l.modules) ≡ map items_in l.fn.modules)
    × NamesStandOnce (drop l.module-index l.modules)
