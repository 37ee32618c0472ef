-- The refusal of an expansion is the least break of the first state at which a rule is broken.
use Rattle.std.specs.Prelude.{◌≡◌, ℕ, List, [], ◌∷◌, Option}
use Rattle.sv_source.specs.Loading.{Contents}
use Rattle.sv_source.specs.declared.token.Token.{Token}
use Rattle.sv_source.specs.declared.refusal.Refusal.{Refusal}
use Rattle.sv_macro.specs.Including.{Held}
use Rattle.sv_macro.specs.Lists.{taken}
use Rattle.sv_macro.specs.declared.coming.Coming.{Coming}
use Rattle.sv_preproc.specs.declared.settings.Settings.{Settings}
use Rattle.sv_preproc.specs.declared.turn.Search.{Search}
use Rattle.sv_preproc.specs.States as step
use Rattle.sv_preproc.specs.States.{State, Step}
use Rattle.sv_preproc.specs.Searches.{finished, stopped, Finds, found}
use Rattle.sv_preproc.specs.Runs.{start}
use Rattle.sv_preproc.specs.Breaks.{Breaks, IsLeast}
use Rattle.sv_preproc.specs.Leads.{Use, Doing, steps, expands, call_of, argument_in, next, given, with_argument, body_of, Leads}
use Rattle.sv_preproc.specs.Relation.{LeadsTo}

-- the expansion comes to this step
pub data Passes (set : Settings) (told : Option Contents) : Doing → Step → Type 0 where
  here : (st : Step) → Passes set told (steps st) st
  goes : (s : State) (st : Step) → Passes set told (steps (next set s)) st → Passes set told (steps (step.goes s)) st
  gives : (t : Token) (s : State) (st : Step) → Passes set told (steps (given s t)) st → Passes set told (steps (step.gives t s)) st
  takes : (used : Token) (s : State) (st : Step) → Passes set told (expands (call_of used s) s (taken [] s.coming).arguments) st → Passes set told (steps (step.takes used s)) st
  argument : (u : Use) (s : State) (first : List Coming) (others : List (List Coming)) (st : Step)
      → Passes set told (steps (next set (argument_in s first))) st → Passes set told (expands u s (first ∷ others)) st
  behind : (u : Use) (s t : State) (first : List Coming) (others : List (List Coming)) (st : Step)
      → Leads set told (steps (next set (argument_in s first))) (finished t)
      → Passes set told (expands (with_argument u t.delivered) t others) st → Passes set told (expands u s (first ∷ others)) st
  body : (u : Use) (s : State) (st : Step) → Passes set told (steps (body_of u s)) st → Passes set told (expands u s []) st
  looks : (search : Search) (s : State) (held : Option Held) (st : Step) → Finds told search.paths held
      → Passes set told (steps (found search s held)) st → Passes set told (steps (step.looks search s)) st

-- where the refusal stands: at a state, of which it is the least break; at a token that is delivered, a body that is
-- placed or a file that is looked for
pub data BrokenFrom (set : Settings) (told : Option Contents) (d : Doing) (r : Refusal) (names : List (List ℕ)) : Type 0 where
  at_state : (s : State) → Passes set told d (next set s) → IsLeast s r → BrokenFrom set told d r names
  at_delivery : (t : Token) (s : State) → Passes set told d (step.gives t s) → given s t ≡ step.breaks r names → BrokenFrom set told d r names
  at_body : (u : Use) (s : State) → Passes set told d (body_of u s) → body_of u s ≡ step.breaks r names → BrokenFrom set told d r names
  at_search : (search : Search) (s : State) (held : Option Held) → Passes set told d (step.looks search s) → Finds told search.paths held
      → found search s held ≡ step.breaks r names → BrokenFrom set told d r names

abbrev pub BrokenAt : Settings → Option Contents → Refusal → List (List ℕ) → Type 0
BrokenAt set told = BrokenFrom set told (steps (next set (start set)))

pub record FirstBreak (set : Settings) (told : Option Contents) : Type 0 where
  -- a state that the expansion comes to at which a rule is broken is its last, and the least break at it is the refusal
  pub stops : (s : State) (other : Refusal) → Passes set told (steps (next set (start set))) (next set s) → Breaks s other
      → (r : Refusal) × (names : List (List ℕ)) × IsLeast s r × LeadsTo set told (stopped r names)
  pub is : (r : Refusal) (names : List (List ℕ)) → LeadsTo set told (stopped r names) → BrokenAt set told r names

abbrev pub FirstIsAnswered : Type 0
FirstIsAnswered = (set : Settings) (told : Option Contents) → FirstBreak set told
