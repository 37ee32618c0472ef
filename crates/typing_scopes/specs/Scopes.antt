-- What names stand for in scopes that stand in one another, as the code has it.
use Rattle.std.specs.Prelude.{List, [], ◌++◌, map, Option, Some, None}
use Rattle.std.specs.Borrow.{Bor}
use Rattle.std.specs.Option.{option_copied}
use Rattle.sv_types.specs.declared.frame.ParamType.{ParamType}
use Rattle.sv_types.specs.declared.frame.ParamValue.{ParamValue}
use Rattle.expr_type.specs.Names.{Context, with_values, with_types, with_locals}
use Rattle.expr_type.specs.Statements as S
use Rattle.frame_things.specs.declared.things.NamedLocal.{NamedLocal}
use Rattle.frame_things.specs.Finding.{local_id}
use Rattle.typing_scopes.specs.declared.declared.Declared.{Declared}
use Rattle.typing_scopes.specs.declared.level.Level.{Level, Level-F, fold-Level, out-Level}
use Rattle.typing_scopes.specs.declared.scope.Scope.{Scope}

-- what declarations bring in
abbrev pub means : Declared → S.Declared
means d = record { values = d.values; types = d.types; ids = map local_id d.ids; locals = d.locals }

-- what is declared in a scope and those around it
pub record Lists : Type 0 where
  pub values : List ParamValue
  pub types : List ParamType
  pub locals : List NamedLocal

abbrev pub around : Option (Bor Lists) → Lists
around None = record { values = []; types = []; locals = [] }
around (Some r) = r.now

-- before what is declared in those around it
abbrev pub level_step : Level-F Lists → Lists
level_step l = let a = around l.outer in record { values = l.values ++ a.values; types = l.types ++ a.types; locals = l.locals ++ a.locals }

abbrev pub lists : Level → Lists
lists = fold-Level Lists level_step

-- where a scope's text stands, behind what is declared
abbrev pub in_lists : Lists → Context → Context
in_lists l k = with_locals (map local_id l.locals) (with_types l.types (with_values l.values k))

abbrev pub context_of : {B : Type 0} → (B → Context) → Scope B → Context
context_of of s = record (in_lists (lists s.level) (of s.base.now)) { result = option_copied s.result }

-- the values that were added to a scope, and none of those around it
abbrev pub own_values : {B : Type 0} → Scope B → List ParamValue
own_values s = (out-Level s.level).values
