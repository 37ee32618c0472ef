-- The modules of a design by their names, and their ports.
use Rattle.std.specs.Prelude.{◌≡◌, ℕ, suc, List, [], ◌∷◌, ◌++◌, map, Option, Some, None, slice_get, if◌then◌else◌}
use Rattle.std.specs.Str.{bytes_eq}
use Rattle.indexmap.specs.IndexMap as map_of
use Rattle.v_tree.specs.Names.{Name}
use Rattle.v_tree.specs.declared.items.VModule.{VModule}
use Rattle.v_scopes.specs.Env.{Env, found}
use Rattle.v_scopes.specs.declared.scope.Scope.{Scope}
use Rattle.v_stmt_rules.specs.Stmts.{nothing}
use Rattle.v_rules.specs.ModuleNames.{ports_given}
use Rattle.v_rules.specs.declared.modules.Modules.{Modules}

abbrev pub Numbers : Type 0
Numbers = Name → Option ℕ

abbrev pub numbers_in : Modules → Numbers
numbers_in t = λ name. map_of.get bytes_eq t.numbers name

abbrev pub ports_in : Modules → List Env
ports_in t = map found t.ports

abbrev pub no_numbers : Numbers
no_numbers = λ name. None

abbrev pub number_given : Numbers → Name → ℕ → Numbers
number_given ns name number = λ n. if bytes_eq name n then Some number else ns n

-- of two with one name the first one counts
abbrev pub numbers_from : ℕ → List VModule → Numbers → Numbers
numbers_from number [] ns = ns
numbers_from number (m ∷ ms) ns = number_given (numbers_from (suc number) ms ns) m.name number

abbrev pub ports_added : List VModule → List Env → List Env
ports_added [] es = es
ports_added (m ∷ ms) es = ports_added ms (es ++ (ports_given m.items nothing ∷ []))

pub record Tables (t : Modules) (ms : List VModule) : Type 0 where
  pub numbers : numbers_in t ≡ numbers_from 0 ms no_numbers
  pub ports : ports_in t ≡ ports_added ms []

-- the ports of the module with a name
abbrev pub at_number : List Env → Option ℕ → Option Env
at_number es None = None
at_number es (Some n) = slice_get es n

abbrev pub found_ports : Option Scope → Option Env
found_ports None = None
found_ports (Some s) = Some (found s)
