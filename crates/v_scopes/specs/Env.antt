-- What names stand for in a place, and what stands for them again behind it.
use Rattle.std.specs.Prelude.{◌≡◌, List, [], ◌∷◌, ◌++◌, Option, Some, None, if◌then◌else◌}
use Rattle.std.specs.Str.{bytes_eq}
use Rattle.indexmap.specs.IndexMap as map
use Rattle.v_tree.specs.Names.{Name}
use Rattle.v_scopes.specs.declared.entry.Entry.{Entry}
use Rattle.v_scopes.specs.declared.scope.Hidden.{Hidden}
use Rattle.v_scopes.specs.declared.scope.Scope.{Scope}

abbrev pub Env : Type 0
Env = Name → Option Entry

abbrev pub of_slot : Option (Option Entry) → Option Entry
of_slot None = None
of_slot (Some entry) = entry

abbrev pub found : Scope → Env
found s = λ name. of_slot (map.get bytes_eq s.names name)

abbrev pub hidden_in : Scope → List Hidden
hidden_in s = s.hidden

-- one name stands for this
abbrev pub given : Env → Name → Option Entry → Env
given env name entry = λ n. if bytes_eq name n then entry else env n

-- what the name stands for
abbrev pub before : Env → Name → Hidden
before env name = record { name = name; entry = env name }

-- what was hidden stands again, the last first
abbrev pub undone : List Hidden → Env → Env
undone [] env = env
undone (h ∷ hs) env = given (undone hs env) h.name h.entry

-- the second place has the names of the first and further ones that hide some
pub record Within (outer inner : Scope) : Type 0 where
  pub names : List Hidden
  pub further : hidden_in inner ≡ hidden_in outer ++ names
  pub back : undone names (found inner) ≡ found outer
