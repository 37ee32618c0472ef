-- How an assignment goes on.
use Rattle.std.specs.Prelude.{◌≡◌, ℕ, List, Option, Result, Ok, Err}
use Rattle.sv_types.specs.Surroundings.{Around, Tally}
use Rattle.sv_types.specs.Meanings.{Meaning}
use Rattle.sv_types.specs.Operators.{places_all}
use Rattle.eval_parts.specs.declared.halt.Halt.{Halt}
use Rattle.eval_parts.specs.Answers.{Halts}
use Rattle.eval_parts.specs.Surroundings.{running}

-- valuing the indices of a target goes on to its end
pub record PlacesRun (ms : List Meaning) (a : Around) (start : Option ℕ) : Type 0 where
  pub left : Option ℕ
  pub is : places_all ms a (running start) ≡ running left

-- what valuing them gives
abbrev pub PlacesGive : {T : Type 0} → Result T Halt → List Meaning → Around → Option ℕ → Option ℕ → Type 0
PlacesGive (Ok x) ms a old new = places_all ms a (running old) ≡ running new
PlacesGive (Err h) ms a old new = Halts h (places_all ms a (running old))

-- what can only want memory
abbrev pub WantsMemory : {T : Type 0} → Result T Halt → Type 0 → Type 0
WantsMemory (Ok x) made = made
WantsMemory (Err h) made = (t : Tally) → Halts h t
