-- Members that are found.
use Rattle.std.specs.Prelude.{Option, Some, None}
use Rattle.expr_type.specs.Selects.{Place}
use Rattle.select_types.specs.declared.members.Found.{Found}

abbrev pub place : Option Found → Option Place
place None = None
place (Some m) = Some (record { number = m.number; of = m.of })
