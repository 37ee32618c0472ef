-- Parts of statements in which each concatenation, replication and stream has a part.
use Rattle.std.specs.Prelude.{Bool, Option}
use Rattle.std.specs.Option.{option_map}
use Rattle.sv_tree.specs.declared.expressions.Expr.{Expr}
use Rattle.typing_walks.specs.Written.{if_there, is_written}

-- an expression that may be left out
abbrev pub written_if : Option Expr → Bool
written_if e = if_there (option_map is_written e)
