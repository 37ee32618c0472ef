-- Which names a table has as taken.
use Rattle.std.specs.Str.{bytes_eq}
use Rattle.indexmap.specs.IndexMap as map
use Rattle.v_tree.specs.Printing.{Taken}
use Rattle.v_tree.specs.declared.plain.Takings.{Takings}

abbrev pub taken_in : Takings → Taken
taken_in t = λ name. map.get bytes_eq t.names name
