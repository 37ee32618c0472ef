-- The index of a table: names as numbers, and what a scope has under the number of a name.
use Rattle.std.specs.Prelude.{◌≡◌, ℕ, Bool, ◌&&◌, List, [], ◌∷◌, Option, Some, None, nat_eq, position, filter, ◌++◌, if◌then◌else◌}
use Rattle.std.specs.Str.{bytes_eq}
use Rattle.indexmap.specs.IndexMap as map
use Rattle.package_scope.specs.declared.index.Index.{Index}
use Rattle.package_scope.specs.declared.names.Names.{Names}
use Rattle.package_scope.specs.declared.names.Slots.{Slots}
use Rattle.package_scope.specs.declared.table.Declaration.{Declaration}
use Rattle.package_scope.specs.declared.table.Table.{Table}
use Rattle.package_scope.specs.declared.table.WildcardImport.{WildcardImport}
use Rattle.package_scope.specs.declared.wildcards.Wildcards.{Wildcards}
use Rattle.package_scope.specs.Lookup.{or_later, is_named, is_everywhere, first_from, everywhere_from, import_from, stands_in}

-- the number of a name is its place among the names
abbrev pub number_in : Names → List ℕ → Option ℕ
number_in x name = position (bytes_eq name) x.names.keys

abbrev pub same_slot : ℕ × ℕ → ℕ × ℕ → Bool
same_slot x y = nat_eq x.0 y.0 && nat_eq x.1 y.1

abbrev pub slots_in : Slots → ℕ × ℕ → Option ℕ
slots_in x = λ q. map.get same_slot x.slots q

abbrev pub put_slot : (ℕ × ℕ → Option ℕ) → ℕ → ℕ → ℕ → ℕ × ℕ → Option ℕ
put_slot slots scope number value = λ q. if same_slot (scope, number) q then Some value else slots q

-- what a scope has under a name
abbrev pub under_number : (ℕ × ℕ → Option ℕ) → ℕ → Option ℕ → Option ℕ
under_number slots s None = None
under_number slots s (Some n) = slots (s, n)

abbrev pub under : Names → Slots → ℕ → List ℕ → Option ℕ
under names slots s name = under_number (slots_in slots) s (number_in names name)

-- one more thing under a name
abbrev pub puts : Names → Slots → Slots → ℕ → List ℕ → ℕ → Type 0
puts names before after scope name value =
    (s : ℕ) (q : List ℕ) → under names after s q ≡ or_later (nat_eq scope s && bytes_eq name q) value (under names before s q)

abbrev pub puts_everywhere : Names → Slots → Slots → Declaration → ℕ → Type 0
puts_everywhere names before after d value =
    (s : ℕ) (q : List ℕ) → under names after s q ≡ or_later (is_named s q d && is_everywhere d.what) value (under names before s q)

-- the imports of all names in each scope
abbrev pub list_or_none : Option (List WildcardImport) → List WildcardImport
list_or_none None = []
list_or_none (Some is) = is

abbrev pub wildcards_in : Wildcards → ℕ → List WildcardImport
wildcards_in x = λ s. list_or_none (map.get nat_eq x.lists s)

abbrev pub with_wildcard : (ℕ → List WildcardImport) → WildcardImport → ℕ → List WildcardImport
with_wildcard lists i = λ s. if nat_eq i.scope s then lists i.scope ++ i ∷ [] else lists s

-- The index says of each name in each scope what the table says.
pub record Indexed (t : Table) (x : Index) : Type 0 where
  pub first : (s : ℕ) (name : List ℕ) → under x.names x.first s name ≡ first_from 0 s name t.declared
  pub everywhere : (s : ℕ) (name : List ℕ) → under x.names x.everywhere s name ≡ everywhere_from 0 s name t.declared
  pub wildcards : (s : ℕ) → wildcards_in x.wildcards s ≡ filter (stands_in s) t.wildcards
  pub imports : (s : ℕ) (name : List ℕ) → under x.names x.imports s name ≡ import_from 0 s name t.named
