-- Functions that are known, the last of which is taken away.
use Rattle.std.specs.Prelude.{◌≡◌, List, [], ◌∷◌, ◌++◌}
use Rattle.sv_types.specs.declared.statement.Function.{Function}
use Rattle.expr_type.specs.Uses.{stream_marks}
use Rattle.function_places.specs.Places.{Declared, places_in, first_place}
use Rattle.known_functions.specs.Behind.{declared_of}
use Rattle.typing_parts.specs.declared.known.Known.{Known}

-- each mark says whether its function holds a stream, and each function is found by where it is declared
pub record IsIndexed (k : Known) : Type 0 where
  pub marked : k.marks ≡ stream_marks k.functions
  pub placed : (d : Declared) → places_in k.places d ≡ first_place d k.functions

-- these are all but the last one
pub record IsRest (fs rest : List Function) : Type 0 where
  pub last : Function
  pub behind : fs ≡ rest ++ last ∷ []

-- these are all but the last one, which is declared there
pub record IsOneLess (fs rest : List Function) (d : Declared) : Type 0 where
  pub last : Function
  pub behind : fs ≡ rest ++ last ∷ []
  pub at : d ≡ declared_of last
