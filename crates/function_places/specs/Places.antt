-- At which place of a list a function stands by where it is declared.
use Rattle.std.specs.Prelude.{ℕ, Bool, ◌&&◌, nat_eq, if◌then◌else◌, List, Option, Some, None}
use Rattle.std.specs.Option.{option_map}
use Rattle.std.specs.Str.{bytes_eq}
use Rattle.indexmap.specs.IndexMap as map
use Rattle.expr_type.specs.SvTypes.{Function}
use Rattle.expr_type.specs.Names.{Called}
use Rattle.expr_type.specs.Functions.{known_from}
use Rattle.function_places.specs.declared.places.FunctionPlaces.{FunctionPlaces}

-- the instance, the token of the name, and the path
abbrev pub Declared : Type 0
Declared = ℕ × ℕ × List ℕ

abbrev pub same_declared : Declared → Declared → Bool
same_declared x y = (nat_eq x.0 y.0 && nat_eq x.1 y.1) && bytes_eq x.2 y.2

abbrev pub places_in : FunctionPlaces → Declared → Option ℕ
places_in x = λ d. map.get same_declared x.places d

abbrev pub put_place : (Declared → Option ℕ) → Declared → ℕ → Declared → Option ℕ
put_place places declared place = λ d. if same_declared declared d then Some place else places d

abbrev pub without_place : (Declared → Option ℕ) → Declared → Declared → Option ℕ
without_place places declared = λ d. if same_declared declared d then None else places d

-- the place of the first function of a list that is declared there
abbrev pub place_of : Called → ℕ
place_of c = c.place

abbrev pub first_place : Declared → List Function → Option ℕ
first_place d fs = option_map place_of (known_from 0 d.0 d.1 d.2 fs)
