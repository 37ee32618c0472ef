-- What the imports of all names in a scope bring, package by package: each package that declares the name, from the earliest
-- import of all its names there on.
use Rattle.std.specs.Prelude.{◌≡◌, ℕ, Bool, true, false, ◌&&◌, nat_eq, cond, List, [], ◌∷◌, ◌++◌, Option, Some, None, if◌then◌else◌}
use Rattle.std.specs.Str.{bytes_eq}
use Rattle.indexmap.specs.IndexMap as map
use Rattle.package_scope.specs.declared.names.Names.{Names}
use Rattle.package_scope.specs.declared.names.Slots.{Slots}
use Rattle.package_scope.specs.declared.packages.Holders.{Holders}
use Rattle.package_scope.specs.declared.packages.Packages.{Packages}
use Rattle.package_scope.specs.declared.table.Declaration.{Declaration}
use Rattle.package_scope.specs.declared.table.Found.{Found}
use Rattle.package_scope.specs.declared.table.Found.TheVariants.{Decl, Absent, Twice}
use Rattle.package_scope.specs.declared.table.Table.{Table}
use Rattle.package_scope.specs.declared.table.WildcardImport.{WildcardImport}
use Rattle.package_scope.specs.Earliest.{is_before, sooner}
use Rattle.package_scope.specs.Index.{number_in, slots_in}
use Rattle.package_scope.specs.Lookup.{own, package_scope, stands_in, brought, both}

-- the earliest import of all names of a package in a scope
abbrev pub same_scope : Option ℕ → ℕ → Bool
same_scope None p = false
same_scope (Some q) p = nat_eq q p

abbrev pub brings_from : Table → ℕ → ℕ → WildcardImport → Bool
brings_from t s p i = stands_in s i && same_scope (package_scope t i.source i.source_at) p

abbrev pub start_if : Bool → ℕ → Option ℕ → Option ℕ
start_if false at later = later
start_if true at later = Some (sooner at later)

abbrev pub start_from : Table → ℕ → ℕ → List WildcardImport → Option ℕ
start_from t s p [] = None
start_from t s p (i ∷ is) = start_if (brings_from t s p i) i.at (start_from t s p is)

abbrev pub puts_start : Table → Slots → Slots → WildcardImport → Type 0
puts_start t before after i = (s p : ℕ) → slots_in after (s, p) ≡ start_if (brings_from t s p i) i.at (slots_in before (s, p))

-- the scopes that declare a name
abbrev pub holders_from : List ℕ → List Declaration → List ℕ
holders_from name [] = []
holders_from name (d ∷ ds) = cond (bytes_eq d.name name) (d.scope ∷ holders_from name ds) (holders_from name ds)

abbrev pub list_or_none : Option (List ℕ) → List ℕ
list_or_none None = []
list_or_none (Some ps) = ps

abbrev pub holders_in : Holders → ℕ → List ℕ
holders_in x = λ n. list_or_none (map.get nat_eq x.lists n)

abbrev pub with_holder : (ℕ → List ℕ) → ℕ → ℕ → ℕ → List ℕ
with_holder lists n s = λ m. if nat_eq n m then lists n ++ s ∷ [] else lists m

abbrev pub of_number : (ℕ → List ℕ) → Option ℕ → List ℕ
of_number lists None = []
of_number lists (Some n) = lists n

abbrev pub holders_under : Names → Holders → List ℕ → List ℕ
holders_under names x name = of_number (holders_in x) (number_in names name)

-- what they bring together
abbrev pub is_twice : Found → Bool
is_twice Twice = true
is_twice Absent = false
is_twice (Decl n) = false

abbrev pub held : Table → ℕ → List ℕ → ℕ → ℕ → Found
held t s name at p = brought (is_before (start_from t s p t.wildcards) at) (own t p name at)

abbrev pub all_held : Table → ℕ → List ℕ → ℕ → List ℕ → Found
all_held t s name at [] = Absent
all_held t s name at (p ∷ ps) = both (held t s name at p) (all_held t s name at ps)

-- It is that of the table.
pub record ArePackages (t : Table) (names : Names) (x : Packages) : Type 0 where
  pub starts : (s p : ℕ) → slots_in x.starts (s, p) ≡ start_from t s p t.wildcards
  pub holders : (name : List ℕ) → holders_under names x.holders name ≡ holders_from name t.declared
