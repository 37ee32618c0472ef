-- What is kept beside the table of a text: what the use at each token finds, and the loops of each scope.
use Rattle.std.specs.Prelude.{◌≡◌, ℕ, Bool, nat_eq, List, [], ◌∷◌, ◌++◌, filter, Option, Some, None, if◌then◌else◌}
use Rattle.indexmap.specs.IndexMap as map
use Rattle.sv_source.specs.declared.token.Token.{Token}
use Rattle.package_scope.specs.declared.found_uses.FoundUses.{FoundUses}
use Rattle.package_scope.specs.declared.loops.Loops.{Loops}
use Rattle.package_scope.specs.declared.table.Declaration.{Declaration}
use Rattle.package_scope.specs.declared.table.Found.{Found}
use Rattle.package_scope.specs.declared.table.LoopRun.{LoopRun}
use Rattle.package_scope.specs.declared.table.Table.{Table}
use Rattle.package_scope.specs.declared.table.Use.{Use}
use Rattle.package_scope.specs.Rules.{finds, use_at, declared_by, number_of}

-- what the first use at a token finds
abbrev pub use_found : List Token → Table → Option Use → Option Found
use_found ts t None = None
use_found ts t (Some u) = Some (finds ts t u)

abbrev pub found_at : List Token → Table → List Use → ℕ → Option Found
found_at ts t us at = use_found ts t (use_at at us)

abbrev pub found_in : FoundUses → ℕ → Option Found
found_in x = λ q. map.get nat_eq x.found q

abbrev pub put_found : (ℕ → Option Found) → ℕ → Found → ℕ → Option Found
put_found found at f = λ q. if nat_eq at q then Some f else found q

-- the declaration that was found
abbrev pub declared_at : Table → Option Found → Option Declaration
declared_at t None = None
declared_at t (Some f) = declared_by t f

abbrev pub numbered_at : Option Found → Option ℕ
numbered_at None = None
numbered_at (Some f) = number_of f

-- the loops of a scope
abbrev pub is_loop_of : ℕ → LoopRun → Bool
is_loop_of s l = nat_eq l.scope s

abbrev pub list_or_none : Option (List LoopRun) → List LoopRun
list_or_none None = []
list_or_none (Some ls) = ls

abbrev pub loops_in : Loops → ℕ → List LoopRun
loops_in x = λ s. list_or_none (map.get nat_eq x.lists s)

abbrev pub with_loop : (ℕ → List LoopRun) → LoopRun → ℕ → List LoopRun
with_loop lists l = λ s. if nat_eq l.scope s then lists l.scope ++ l ∷ [] else lists s

-- It is that of the table.
pub record Kept (ts : List Token) (t : Table) (x : FoundUses) (y : Loops) : Type 0 where
  pub found : (at : ℕ) → found_in x at ≡ found_at ts t t.uses at
  pub loops : (s : ℕ) → loops_in y s ≡ filter (is_loop_of s) t.loops
