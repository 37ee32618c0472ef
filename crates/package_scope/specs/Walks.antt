-- Walks from a scope outwards, and along names of types.
use Rattle.std.specs.Prelude.{ℕ, zero, suc, Bool, true, false, ◌||◌, ◌&&◌, ◌==◌, nat_lt, cond, List, filter, Option, Some, None}
use Rattle.std.specs.List.{list_any}
use Rattle.sv_source.specs.declared.token.Token.{Token}
use Rattle.name_events.specs.declared.events.Declared.{Declared}
use Rattle.name_events.specs.declared.events.Declared.TheVariants as W
use Rattle.name_events.specs.declared.events.Packedness.{Packedness}
use Rattle.name_events.specs.declared.events.Packedness.TheVariants as P
use Rattle.package_scope.specs.declared.table.Declaration.{Declaration}
use Rattle.package_scope.specs.declared.table.LoopRun.{LoopRun}
use Rattle.package_scope.specs.declared.table.Table.{Table}
use Rattle.package_scope.specs.Finding.{is_loop_of}
use Rattle.package_scope.specs.Rules.{is_same_declaration, declaration_at, unpacked}
use Rattle.package_scope.specs.Tables.{outer}

-- whether the name of a loop is that of a declaration, or finds it
abbrev pub is_of : List Token → Table → Declaration → ℕ → Bool
is_of ts t d name = (d.at == name) || is_same_declaration d (declaration_at ts t name)

-- whether a loop gives a declaration a value at a token, wherever it stands
abbrev pub gives_value : List Token → Table → ℕ → Declaration → LoopRun → Bool
gives_value ts t at d l = nat_lt l.last at && is_of ts t d l.name

-- whether a loop of a scope or of one around it does
abbrev pub valued : (LoopRun → Bool) → Table → ℕ → ℕ → Bool
valued p t zero s = false
valued p t (suc more) s = list_any p (filter (is_loop_of s) t.loops) || cond (s == 0) false (valued p t more (outer t.scopes s))

-- what a declaration of a type's name says of its type
abbrev pub packedness_of : Declared → Option Packedness
packedness_of (W.TypeName p) = Some p
packedness_of _ = None

abbrev pub packedness_in : Option Declaration → Option Packedness
packedness_in None = None
packedness_in (Some d) = packedness_of d.how

abbrev pub unpacked_as : List Token → Table → ℕ → Option Packedness → Bool
unpacked_as ts t more None = false
unpacked_as ts t more (Some P.Packed) = false
unpacked_as ts t more (Some P.Unpacked) = true
unpacked_as ts t more (Some (P.AsNamed of)) = unpacked ts t more (declaration_at ts t of)
