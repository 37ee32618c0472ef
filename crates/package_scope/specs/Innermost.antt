-- The innermost scope that holds a token. A scope lies within the one around it and has a greater number, so it is the last one
-- that holds the token.
use Rattle.std.specs.Prelude.{ℕ, suc, Bool, ◌&&◌, nat_le, cond, List, [], ◌∷◌}
use Rattle.package_scope.specs.declared.table.Scope.{Scope}
use Rattle.package_scope.specs.declared.table.Table.{Table}

abbrev pub holds : ℕ → Scope → Bool
holds at s = nat_le s.first at && nat_le at s.last

abbrev pub last_holder : ℕ → ℕ → ℕ → List Scope → ℕ
last_holder known n at [] = known
last_holder known n at (s ∷ ss) = last_holder (cond (holds at s) n known) (suc n) at ss

abbrev pub scope_at : Table → ℕ → ℕ
scope_at t at = last_holder 0 0 at t.scopes
