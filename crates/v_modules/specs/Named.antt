-- The signals of a module by their names.
use Rattle.std.specs.Prelude.{◌≡◌, ℕ, false, List, [], ◌∷◌, length, map}
use Rattle.indexmap.specs.IndexMap.{IndexMap}
use Rattle.v_tree.specs.Names.{Name, among}
use Rattle.v_meaning.specs.Scopes.{Named}
use Rattle.v_meaning.specs.Modules as M
use Rattle.v_eval.specs.declared.modules.Signal.{Signal}

-- a signal with a number
abbrev pub named_of : ℕ → M.Signal → Named
named_of n s = record { name = s.name; number = n; width = s.width; words = s.words }

abbrev pub names_of_signals : List M.Signal → List Name
names_of_signals ss = map (λ (s : M.Signal). s.name) ss

-- the names of these signals are none of those
abbrev pub AllNew : List Name → List M.Signal → Type 0
AllNew names [] = Unit {0}
AllNew names (s ∷ ss) = (among names s.name ≡ false) × AllNew names ss

abbrev pub counted : {S : Type 0} → IndexMap Name Signal S → ℕ
counted m = length m.entries
