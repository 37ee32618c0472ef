-- What a name stands for at a token of a scope (IEEE 1800-2017 clauses 23.9 and 26.3).
use Rattle.std.specs.Prelude.{ℕ, zero, suc, Bool, true, false, ◌&&◌, ◌||◌, nat_eq, nat_lt, List, [], ◌∷◌, length, filter, Option, Some, None, slice_get}
use Rattle.std.specs.Str.{bytes_eq}
use Rattle.package_scope.specs.declared.table.DeclKind.{DeclKind}
use Rattle.package_scope.specs.declared.table.DeclKind.TheVariants as K
use Rattle.package_scope.specs.declared.table.Declaration.{Declaration}
use Rattle.package_scope.specs.declared.table.Found.{Found}
use Rattle.package_scope.specs.declared.table.Found.TheVariants.{Decl, Absent, Twice}
use Rattle.package_scope.specs.declared.table.NamedImport.{NamedImport}
use Rattle.package_scope.specs.declared.table.Table.{Table}
use Rattle.package_scope.specs.declared.table.WildcardImport.{WildcardImport}
use Rattle.package_scope.specs.Tables.{outer}

-- Functions, tasks, modules and interfaces are visible everywhere in their scope, every other name behind its declarator.
abbrev pub is_everywhere : DeclKind → Bool
is_everywhere K.Function = true
is_everywhere K.Module = true
is_everywhere K.Interface = true
is_everywhere _ = false

abbrev pub is_visible : ℕ → Declaration → Bool
is_visible at d = is_everywhere d.what || nat_lt d.last at

abbrev pub is_named : ℕ → List ℕ → Declaration → Bool
is_named s name d = nat_eq d.scope s && bytes_eq d.name name

-- The number of the first declaration of a name in a scope, and of the first that is visible everywhere.
abbrev pub or_later : Bool → ℕ → Option ℕ → Option ℕ
or_later true n later = Some n
or_later false n later = later

abbrev pub first_from : ℕ → ℕ → List ℕ → List Declaration → Option ℕ
first_from n s name [] = None
first_from n s name (d ∷ ds) = or_later (is_named s name d) n (first_from (suc n) s name ds)

abbrev pub everywhere_from : ℕ → ℕ → List ℕ → List Declaration → Option ℕ
everywhere_from n s name [] = None
everywhere_from n s name (d ∷ ds) = or_later (is_named s name d && is_everywhere d.what) n (everywhere_from (suc n) s name ds)

-- The declaration of a name in a scope that is visible at a token: the first one, or where that isn't visible yet the first
-- that is visible everywhere.
abbrev pub visible_in : Option Declaration → ℕ → Bool
visible_in None at = false
visible_in (Some d) at = is_visible at d

abbrev pub or_everywhere : Table → ℕ → Option ℕ → Option ℕ → Option ℕ
or_everywhere t at None other = other
or_everywhere t at (Some n) other = or_later (visible_in (slice_get t.declared n) at) n other

abbrev pub own : Table → ℕ → List ℕ → ℕ → Option ℕ
own t s name at = or_everywhere t at (first_from 0 s name t.declared) (everywhere_from 0 s name t.declared)

-- Packages stand in the compilation unit, and are looked for there alone.
abbrev pub scope_if_package : DeclKind → ℕ → Option ℕ
scope_if_package K.Package s = Some s
scope_if_package _ s = None

abbrev pub package_in : Option Declaration → Option ℕ
package_in None = None
package_in (Some d) = scope_if_package d.what d.inner

abbrev pub package_found : Table → Option ℕ → Option ℕ
package_found t None = None
package_found t (Some n) = package_in (slice_get t.declared n)

abbrev pub package_scope : Table → List ℕ → ℕ → Option ℕ
package_scope t name at = package_found t (own t 0 name at)

-- a name of a package is one that it declares itself
abbrev pub in_scope_of : Table → Option ℕ → List ℕ → ℕ → Option ℕ
in_scope_of t None name at = None
in_scope_of t (Some s) name at = own t s name at

abbrev pub in_package : Table → List ℕ → ℕ → List ℕ → ℕ → Option ℕ
in_package t holder holder_at name at = in_scope_of t (package_scope t holder holder_at) name at

-- The number of the first import of a name in a scope, and what it brings behind it.
abbrev pub imports_it : ℕ → List ℕ → NamedImport → Bool
imports_it s name i = nat_eq i.scope s && bytes_eq i.name name

abbrev pub import_from : ℕ → ℕ → List ℕ → List NamedImport → Option ℕ
import_from n s name [] = None
import_from n s name (i ∷ is) = or_later (imports_it s name i) n (import_from (suc n) s name is)

abbrev pub unless_before : Bool → Option ℕ → Option ℕ
unless_before false n = None
unless_before true n = n

abbrev pub imported_by : Table → ℕ → Option NamedImport → Option ℕ
imported_by t at None = None
imported_by t at (Some i) = unless_before (nat_lt i.at at) (in_package t i.source i.source_at i.name i.at)

abbrev pub import_found : Table → ℕ → Option ℕ → Option ℕ
import_found t at None = None
import_found t at (Some n) = imported_by t at (slice_get t.named n)

abbrev pub by_import : Table → ℕ → List ℕ → ℕ → Option ℕ
by_import t s name at = import_found t at (import_from 0 s name t.named)

-- All imports of all names together bring one declaration, none, or two.
abbrev pub found : Option ℕ → Found
found None = Absent
found (Some n) = Decl n

abbrev pub same_or_twice : Bool → ℕ → Found
same_or_twice true n = Decl n
same_or_twice false n = Twice

abbrev pub both : Found → Found → Found
both Absent f = f
both Twice f = Twice
both (Decl n) Absent = Decl n
both (Decl n) Twice = Twice
both (Decl n) (Decl m) = same_or_twice (nat_eq n m) n

abbrev pub brought : Bool → Option ℕ → Found
brought false n = Absent
brought true n = found n

abbrev pub brings : Table → List ℕ → ℕ → WildcardImport → Found
brings t name at i = brought (nat_lt i.at at) (in_package t i.source i.source_at name at)

abbrev pub all_bring : Table → List ℕ → ℕ → List WildcardImport → Found
all_bring t name at [] = Absent
all_bring t name at (i ∷ is) = both (brings t name at i) (all_bring t name at is)

abbrev pub stands_in : ℕ → WildcardImport → Bool
stands_in s i = nat_eq i.scope s

abbrev pub by_wildcards : Table → ℕ → List ℕ → ℕ → Found
by_wildcards t s name at = all_bring t name at (filter (stands_in s) t.wildcards)

-- In a scope a declaration counts first, then an import of the name, then the imports of all names.
abbrev pub or_wildcards : Option ℕ → Found → Found
or_wildcards None wild = wild
or_wildcards (Some n) wild = Decl n

abbrev pub or_import : Option ℕ → Option ℕ → Option ℕ
or_import None other = other
or_import (Some n) other = Some n

abbrev pub in_scope : Table → ℕ → List ℕ → ℕ → Found
in_scope t s name at = or_wildcards (or_import (own t s name at) (by_import t s name at)) (by_wildcards t s name at)

-- from the innermost scope outwards, through at most so many
abbrev pub or_outer : Found → Found → Found
or_outer Absent f = f
or_outer (Decl n) f = Decl n
or_outer Twice f = Twice

abbrev pub unless_last : Bool → Found → Found
unless_last true f = Absent
unless_last false f = f

abbrev pub outwards : Table → ℕ → ℕ → List ℕ → ℕ → Found
outwards t zero s name at = Absent
outwards t (suc more) s name at =
    or_outer (in_scope t s name at) (unless_last (nat_eq s 0) (outwards t more (outer t.scopes s) name at))

-- What a name stands for at a token of a scope.
abbrev pub means : Table → ℕ → List ℕ → ℕ → Found
means t s name at = outwards t (length t.scopes) s name at
