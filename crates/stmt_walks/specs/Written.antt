-- Targets in which each concatenation and stream has a part, as those that are read from a text.
use Rattle.std.specs.Prelude.{Bool, ◌&&◌, map}
use Rattle.std.specs.Option.{option_map}
use Rattle.sv_tree.specs.declared.statements.Lvalue.{Lvalue, Lvalue-F, fold-Lvalue}
use Rattle.typing_walks.specs.Written.{all, some_and_all, if_there, select_written, slice_written}

abbrev pub lvalue_step : Lvalue-F Bool → Bool
lvalue_step (Lvalue-F.Name name selects) = all (map select_written selects)
lvalue_step (Lvalue-F.Concatenation opening targets closing) = some_and_all targets
lvalue_step (Lvalue-F.Stream opening operator at size inner_opening targets inner_closing closing) = if_there (option_map slice_written size) && some_and_all targets

abbrev pub lvalue_written : Lvalue → Bool
lvalue_written = fold-Lvalue Bool lvalue_step
