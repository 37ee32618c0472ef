-- What the tables of macros and of formals stand for.
use Rattle.std.specs.Prelude.{ℕ, List, Option}
use Rattle.std.specs.Str.{bytes_eq}
use Rattle.indexmap.specs.IndexMap as map
use Rattle.sv_macro.specs.Macros.{Macros}
use Rattle.sv_macro.specs.declared.table.Table.{Table}
use Rattle.sv_macro.specs.declared.formals.FormalNumbers.{FormalNumbers}

-- the number that each name has
abbrev pub numbers_in : FormalNumbers → List ℕ → Option ℕ
numbers_in table = λ name. map.get bytes_eq table.numbers name

-- what each name stands for in the table
abbrev pub macros_in : Table → Macros
macros_in table = λ name. map.get bytes_eq table.macros name
