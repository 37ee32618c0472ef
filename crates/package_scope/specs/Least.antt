-- The least break of several lists.
use Rattle.std.specs.Prelude.{ℕ, suc, cond, List, [], ◌∷◌, Option, Some, None, is_some}
use Rattle.sv_source.specs.declared.token.Token.{Token}
use Rattle.package_scope.specs.declared.breaks.Break.{Break}
use Rattle.package_scope.specs.declared.table.Table.{Table}
use Rattle.package_scope.specs.Lookup.{own, package_found}
use Rattle.package_scope.specs.Rules.{breaks_at, breaks_if, lesser, least, is_kept}
use Rattle.package_scope.specs.Tables.{word}

abbrev pub joined : Option Break → Option Break → Option Break
joined None o = o
joined (Some a) o = lesser a o

-- the least break of each thing, joined with one that is known
abbrev pub least_over : {A : Type 0} → (A → List Break) → Option Break → List A → Option Break
least_over f known [] = known
least_over f known (x ∷ xs) = least_over f (joined known (least (f x))) xs

abbrev pub least_kept : Option Break → ℕ → List Token → Option Break
least_kept known at [] = known
least_kept known at (k ∷ ks) = least_kept (joined known (least (breaks_if (is_kept k) 404 at))) (suc at) ks

-- the break of a package's name, or what stands behind it
abbrev pub package_or : Table → ℕ → Option Break → Option ℕ → Option Break
package_or t holder behind None = least (breaks_at 401 holder)
package_or t holder behind (Some n) = cond (is_some (package_found t (Some n))) behind (least (breaks_at 404 holder))

abbrev pub package_least : List Token → Table → ℕ → Option Break → Option Break
package_least ts t holder behind = package_or t holder behind (own t 0 (word ts holder) holder)
