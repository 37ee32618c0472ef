-- Parts of statements that may be left out or stand in a row.
use Rattle.std.specs.Prelude.{Bool, List, map, Option}
use Rattle.std.specs.Option.{option_map}
use Rattle.sv_tree.specs.declared.statements.CaseItem.{CaseItem}
use Rattle.sv_tree.specs.declared.statements.Else.{Else}
use Rattle.sv_types.specs.declared.statement.Stmt as R
use Rattle.expr_type.specs.Names.{Context}
use Rattle.expr_type.specs.Statements.{else_if}
use Rattle.expr_type.specs.Typings.{Typing}
use Rattle.typing_stmt_parts.specs.Meanings.{else_meaning}
use Rattle.stmt_laws.specs.Written.{case_written, else_written}
use Rattle.typing_walks.specs.Written.{all, if_there}

abbrev pub cases_written : List CaseItem → Bool
cases_written cs = all (map case_written cs)

abbrev pub else_if_written : Option Else → Bool
else_if_written o = if_there (option_map else_written o)

-- what stands behind `else`
abbrev pub else_of : Context → Option Else → Typing (Option R.Stmt)
else_of k o = else_if k (option_map else_meaning o)
