-- What a select path stands on.
use Rattle.std.specs.Prelude.{List, ◌++◌}
use Rattle.sv_types.specs.Meanings as S
use Rattle.sv_types.specs.Paths.{names_of_root}

-- what a path stands on and its indices name
abbrev pub stand_names : S.Meaning → List S.Named
stand_names e = names_of_root e.root e.names ++ e.index_names
