-- Functions behind others, and what is known of them.
use Rattle.std.specs.Prelude.{◌≡◌, ℕ, if◌then◌else◌, List, Option, Some, None, slice_get}
use Rattle.sv_types.specs.declared.statement.Function.{Function}
use Rattle.expr_type.specs.Functions.{known_from}
use Rattle.function_places.specs.Places.{Declared, same_declared}

-- where a function is declared
abbrev pub declared_of : Function → Declared
declared_of f = (f.instance, f.spot.at, f.path)

-- what is found first
abbrev pub or_else : {A : Type 0} → Option A → Option A → Option A
or_else (Some x) y = Some x
or_else None y = y

-- a place, at one declaration alone
abbrev pub place_if : Declared → ℕ → Declared → Option ℕ
place_if declared place d = if same_declared declared d then Some place else None

-- the first function that is declared there stands at this place
pub record IsFound (n : ℕ) (d : Declared) (fs : List Function) : Type 0 where
  pub of : Function
  pub known : slice_get fs n ≡ Some of
  pub first : known_from 0 d.0 d.1 d.2 fs ≡ Some (record { place = n; of = of })
