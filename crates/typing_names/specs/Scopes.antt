-- Which scope holds each token, and which use stands at it, as the code has them.
use Rattle.std.specs.Prelude.{◌≡◌, ◌<◌, ℕ, cond, List, length, slice_index, slice_get, Option, Some, None}
use Rattle.package_scope.specs.declared.table.Declaration.{Declaration}
use Rattle.package_scope.specs.declared.table.Scope.{Scope}
use Rattle.package_scope.specs.declared.table.Table.{Table}
use Rattle.package_scope.specs.declared.table.Use.{Use}
use Rattle.sv_tree.specs.declared.units.SourceTree.{SourceTree}
use Rattle.expr_type.specs.Names.{RoutineText}
use Rattle.expr_type.specs.Routines.{routines, named_at}
use Rattle.package_scope.specs.Innermost.{holds, last_holder}

-- the tokens that a scope holds have its number, the others what they had
abbrev pub Paints : Scope → ℕ → List ℕ → List ℕ → Type 0
Paints s number before after = (q : ℕ) → q < length before → slice_index after q ≡ cond (holds q s) number (slice_index before q)

-- each token that is there has the number of its innermost scope
abbrev pub AreInnermost : List Scope → List ℕ → Type 0
AreInnermost ss scopes = (q : ℕ) → q < length scopes → slice_index scopes q ≡ last_holder 0 0 q ss

-- the token at which a use or the name of a declaration stands
abbrev pub use_number : Use → ℕ
use_number u = u.at

abbrev pub declaration_number : Declaration → ℕ
declaration_number d = d.at

-- the function or task with a declaration
abbrev pub routine_text : SourceTree → Table → ℕ → Option RoutineText
routine_text tree t n = elim (slice_get t.declared n) [ None ↦ None | Some d ↦ named_at d.at (routines tree) ]
