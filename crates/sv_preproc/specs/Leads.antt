-- The expansion as a relation (IEEE 1800-2017 clause 22): what comes of each kind of step. Its state is what comes, the
-- macros, the open files with their conditionals and the tokens that were delivered, and what is counted. The arguments of
-- a call are expanded by the relation itself.
use Rattle.std.specs.Prelude.{ℕ, ◌≡◌, Bool, true, List, [], ◌∷◌, ◌++◌, Option, Some, if◌then◌else◌}
use Rattle.sv_source.specs.Loading.{Contents}
use Rattle.sv_source.specs.declared.token.Token.{Token}
use Rattle.sv_source.specs.declared.refusal.Refusal.{Refusal}
use Rattle.sv_macro.specs.Including.{Held, Tried}
use Rattle.sv_macro.specs.Lists.{taken}
use Rattle.sv_macro.specs.declared.coming.Coming.{Coming}
use Rattle.sv_preproc.specs.declared.settings.Settings.{Settings}
use Rattle.sv_preproc.specs.declared.turn.Search.{Search}
use Rattle.sv_preproc.specs.States as step
use Rattle.sv_preproc.specs.States.{State, Step}
use Rattle.sv_preproc.specs.Uses as uses
use Rattle.sv_preproc.specs.Expansion as spec
use Rattle.sv_preproc.specs.Searches.{Ending, finished, stopped, failed, Finds, found}

-- a call of a macro with formals: the token that uses the macro, the arguments that are expanded, and the text that holds
-- the call: what comes in it behind the list, whether it is an argument itself, and what it has delivered
pub record Use : Type 0 where
  pub used : Token
  pub arguments : List (List Token)
  pub behind : List Coming
  pub inside : Bool
  pub delivered : List Token

-- what an expansion is at: a step, or the arguments of a call that aren't expanded yet, behind those that are
pub data Doing : Type 0 where
  steps : Step → Doing
  expands : Use → State → List (List Coming) → Doing

-- the call is taken whole from the text that holds it
abbrev pub call_of : Token → State → Use
call_of used s = record { used = used; arguments = []; behind = (taken [] s.coming).behind; inside = s.inside; delivered = s.delivered }

-- an argument is a text of its own: where nothing of it comes it is done, and what it delivers isn't counted
abbrev pub argument_in : State → List Coming → State
argument_in s argument = record s { coming = argument; inside = true; delivered = [] }

abbrev pub next_in : Settings → State → List Coming → Step
next_in set s [] = if s.inside then step.done s else spec.step set s
next_in set s (item ∷ coming) = spec.step set s

abbrev pub next : Settings → State → Step
next set s = next_in set s s.coming

abbrev pub given : State → Token → Step
given s t = if s.inside then step.goes (record s { delivered = s.delivered ++ t ∷ [] }) else uses.delivered s t

abbrev pub with_argument : Use → List Token → Use
with_argument u argument = record u { arguments = u.arguments ++ argument ∷ [] }

-- the body is placed before what is behind the call
abbrev pub body_of : Use → State → Step
body_of u s = uses.expanded (record s { coming = u.behind; inside = u.inside; delivered = u.delivered }) u.used u.arguments

-- what an expansion leads to, by what its searches find
pub data Leads (set : Settings) (told : Option Contents) : Doing → Ending → Type 0 where
  -- what comes has its effect
  goes : (s : State) (e : Ending) → Leads set told (steps (next set s)) e → Leads set told (steps (step.goes s)) e
  -- a token that has no meaning for the expansion is delivered
  gives : (t : Token) (s : State) (e : Ending) → Leads set told (steps (given s t)) e → Leads set told (steps (step.gives t s)) e
  -- a use of a macro with formals: its arguments are expanded, from left to right, and then its body is placed
  takes : (used : Token) (s : State) (e : Ending) → Leads set told (expands (call_of used s) s (taken [] s.coming).arguments) e
      → Leads set told (steps (step.takes used s)) e
  argument : (u : Use) (s t : State) (first : List Coming) (others : List (List Coming)) (e : Ending)
      → Leads set told (steps (next set (argument_in s first))) (finished t)
      → Leads set told (expands (with_argument u t.delivered) t others) e
      → Leads set told (expands u s (first ∷ others)) e
  breaks_in : (u : Use) (s : State) (first : List Coming) (others : List (List Coming)) (r : Refusal) (names : List (List ℕ))
      → Leads set told (steps (next set (argument_in s first))) (stopped r names)
      → Leads set told (expands u s (first ∷ others)) (stopped r names)
  body : (u : Use) (s : State) (e : Ending) → Leads set told (steps (body_of u s)) e → Leads set told (expands u s []) e
  -- a file is looked for, and comes next where it is found; its load may fail
  looks : (search : Search) (s : State) (held : Option Held) (e : Ending) → Finds told search.paths held
      → Leads set told (steps (found search s held)) e → Leads set told (steps (step.looks search s)) e
  fails : (search : Search) (s : State) (path : List ℕ) → ((contents : Contents) → told ≡ Some contents → Tried contents search.paths path)
      → Leads set told (steps (step.looks search s)) (failed path)
  -- nothing comes
  done : (s : State) → Leads set told (steps (step.done s)) (finished s)
  -- a rule is broken
  breaks : (r : Refusal) (names : List (List ℕ)) → Leads set told (steps (step.breaks r names)) (stopped r names)
