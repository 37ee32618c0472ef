-- What a tree keeps that is valued.
use Rattle.std.specs.Prelude.{◌≡◌, ◌<◌, ◌≤◌, ⊤, ℕ, Bool, List, [], ◌∷◌}
use Rattle.sv_types.specs.declared.expression.Expr.{Expr}
use Rattle.sv_types.specs.Expressions.{meaning}
use Rattle.sv_types.specs.declared.statement.Function.{Function}
use Rattle.sv_types.specs.Surroundings.{Parameter}
use Rattle.sv_types.specs.Functions.{callees}
use Rattle.sv_types.specs.Meanings.{Meaning, wide}
use Rattle.sv_types.specs.Operators.{assigned_width}

-- the formals of each function
abbrev pub formals_of : List Function → ℕ → List Parameter
formals_of fs n = (callees fs n).formals

-- An expression that is valued at a width, for the formals of functions: its types are those that the rules give, no type
-- has more than 2^22 bits, arithmetic has at most 128 and an index at most 64.
pub record Fits (m : Meaning) (fs : ℕ → List Parameter) (w : ℕ) : Type 0 where
  pub some : 0 < w
  pub typed : m.misfits ≡ 0
  pub narrow : m.widest ≤ 4194304
  pub arithmetic : m.arithmetic fs w ≤ 128
  pub indexing : m.indexing ≤ 64

-- one that is valued alone
abbrev pub FitsAlone : Meaning → (ℕ → List Parameter) → Type 0
FitsAlone m fs = Fits m fs (wide m)

-- all of these, each alone
abbrev pub AllFit : List Expr → (ℕ → List Parameter) → Type 0
AllFit [] fs = ⊤
AllFit (e ∷ es) fs = FitsAlone (meaning e) fs × AllFit es fs

-- what is assigned to places with these marks
abbrev pub AllFitAt : List (List Bool) → List Expr → (ℕ → List Parameter) → Type 0
AllFitAt [] es fs = ⊤
AllFitAt (p ∷ ps) [] fs = ⊤
AllFitAt (p ∷ ps) (e ∷ es) fs = Fits (meaning e) fs (assigned_width p (meaning e)) × AllFitAt ps es fs
