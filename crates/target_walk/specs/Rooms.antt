-- How many bits the offsets of a select path need.
use Rattle.std.specs.Prelude.{◌≡◌, ⊤, ℕ, ◌+◌, ◌≤◌, ℤ, unsigned_abs, Bool, true, false, List}
use Rattle.row_machine.specs.Valuation.{Valuation}
use Rattle.sv_types.specs.declared.expression.Expr.{Expr}
use Rattle.sv_types.specs.Layouts.{Layout}
use Rattle.sv_types.specs.Surroundings.{Around}
use Rattle.v_meaning.specs.Scopes.{Scope}
use Rattle.eval_parts.specs.declared.layouts.Bounds.{Bounds}
use Rattle.target_flatten.specs.Spots.{HasRoom}
use Rattle.target_walk.specs.declared.given.Given.{Given}
use Rattle.target_walk.specs.declared.given.Given.TheVariants as G
use Rattle.target_walk.specs.Walking.{Walked, Indexed}

-- an index of a part-select is known
abbrev pub IsWhole : Bool → Type 0
IsWhole true = ⊥
IsWhole false = ⊤

abbrev pub IsKnownIn : Bool → Given → Type 0
IsKnownIn part (G.Known k) = ⊤
IsKnownIn part (G.Lowered x d) = IsWhole part

-- the same of select paths, whatever room offsets have
abbrev pub Followed : ℕ → Around → Scope → Valuation → Expr → List Given → Bool → Type 0
Followed = Walked (λ part g of. IsKnownIn part g)

-- so many bits have room for an index that is moved by at most n more
abbrev pub GivesRoom : Bounds → Given → ℕ → ℕ → Type 0
GivesRoom b (G.Known k) n r = ⊤
GivesRoom b (G.Lowered x d) n r = (of : Layout) (w : ℕ) (f : ℤ) → b.left ≡ of.left → b.right ≡ of.right → r ≤ w → unsigned_abs f ≤ unsigned_abs d + n → HasRoom w x of f

-- so many bits have room for all indices of a path
abbrev pub MakesRoom : Expr → List Given → ℕ → Type 0
MakesRoom e gs r = (w bits : ℕ) (a : Around) (sc : Scope) (v : Valuation) (part : Bool) → r ≤ w → Followed bits a sc v e gs part → Indexed w bits a sc v e gs part
