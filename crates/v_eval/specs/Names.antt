-- What names stand for, as the code has them.
use Rattle.std.specs.Prelude.{ℕ, ◌+◌, cond, List, [], ◌∷◌, ◌++◌, map, Option, Some, None}
use Rattle.std.specs.Str.{bytes_eq}
use Rattle.v_tree.specs.Names.{Name}
use Rattle.v_meaning.specs.Scopes as S
use Rattle.v_eval.specs.declared.paths.Named.{Named}
use Rattle.v_eval.specs.declared.modules.Local.{Local}
use Rattle.v_eval.specs.declared.modules.Signal.{Signal}
use Rattle.v_eval.specs.declared.scopes.Scope.{Scope}
use Rattle.v_eval.specs.Paths.{unnamed}

-- a name's declaration without the name
abbrev pub nameless : S.Named → S.Named
nameless n = record n { name = [] }

abbrev pub of_local : Local → Named
of_local l = record { number = S.local_number l.number; left = l.left; last = None }

abbrev pub of_signal : ℕ → Signal → Named
of_signal first s = record { number = first + s.place; left = s.left; last = s.last }

abbrev pub local_found : List Local → Name → Option Named
local_found [] name = None
local_found (l ∷ ls) name = cond (bytes_eq l.name name) (Some (of_local l)) (local_found ls name)

abbrev pub signal_found : ℕ → Option Signal → Option Named
signal_found first None = None
signal_found first (Some s) = Some (of_signal first s)

abbrev pub local_named : Local → S.Named
local_named l = record (unnamed (of_local l)) { name = l.name }

abbrev pub signal_named : ℕ → (Name × Signal) → S.Named
signal_named first p = record (unnamed (of_signal first p.1)) { name = p.0 }

abbrev pub names_of : Scope → List S.Named
names_of s = map local_named s.locals.now ++ map (signal_named s.first) s.module.now.signals.entries
