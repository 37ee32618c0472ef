-- The expansion, a move at a time (IEEE 1800-2017 clause 22): the arguments of a call are expanded in place, from left to
-- right, once the call was taken whole, and then its body is placed.
use Rattle.std.specs.Prelude.{◌≡◌, ℕ, ◌==◌, Bool, true, false, List, [], ◌∷◌, ◌++◌, Option, Some}
use Rattle.sv_source.specs.declared.token.Token.{Token}
use Rattle.sv_source.specs.declared.refusal.Refusal.{Refusal}
use Rattle.sv_macro.specs.Brackets.{sign_of, brackets_behind}
use Rattle.sv_macro.specs.declared.brackets.Bracket.{Bracket}
use Rattle.sv_macro.specs.declared.brackets.Bracket.TheVariants.{Round, Square, Curly}
use Rattle.sv_macro.specs.declared.brackets.Sign.{Sign}
use Rattle.sv_macro.specs.declared.brackets.Sign.TheVariants.{Opens, Closes, ClosesStar, Comma, Other}
use Rattle.sv_preproc.specs.declared.settings.Settings.{Settings}
use Rattle.sv_preproc.specs.declared.state.Call.{Call}
use Rattle.sv_preproc.specs.declared.turn.Search.{Search}
use Rattle.sv_preproc.specs.States as spec
use Rattle.sv_preproc.specs.States.{State, Step}
use Rattle.sv_preproc.specs.Uses as uses
use Rattle.sv_preproc.specs.Expansion.{step}
use Rattle.sv_source.specs.Loading.{Contents}
use Rattle.sv_macro.specs.Including.{Held, Tried}
use Rattle.sv_preproc.specs.Searches.{Ending, finished, stopped, failed, Finds, found}

-- the state, and the calls whose arguments are read, the innermost first
pub record Machine : Type 0 where
  pub state : State
  pub calls : List Call

pub data Move : Type 0 where
  goes : Machine → Move
  looks : Search → Machine → Move
  done : Machine → Move
  breaks : Refusal → List (List ℕ) → Move

abbrev pub is_open : List Call → Bool
is_open [] = false
is_open (call ∷ calls) = true

abbrev pub machine : State → List Call → Machine
machine s calls = record { state = s; calls = calls }

-- with calls that are read
abbrev pub reading : State → List Call → Machine
reading s calls = machine (record s { inside = is_open calls }) calls

-- what comes of a step that neither gives a token nor takes a list
abbrev pub plain : List Call → Step → Move
plain calls (spec.goes s) = goes (machine s calls)
plain calls (spec.gives t s) = goes (machine s calls)
plain calls (spec.takes t s) = goes (machine s calls)
plain calls (spec.looks search s) = looks search (machine s calls)
plain calls (spec.done s) = done (machine s calls)
plain calls (spec.breaks r names) = breaks r names

-- a call has all its arguments
abbrev pub call_complete : State → Call → List Call → Move
call_complete s call calls = plain calls (uses.expanded (record s { inside = is_open calls }) call.used (call.arguments ++ call.argument ∷ []))

abbrev pub call_goes_on : State → Call → List Call → Token → Move
call_goes_on s call calls t =
    goes (reading s ((record call { argument = call.argument ++ t ∷ []; brackets = brackets_behind (sign_of t) call.brackets }) ∷ calls))

abbrev pub argument_ends : State → Call → List Call → Move
argument_ends s call calls = goes (reading s ((record call { arguments = call.arguments ++ call.argument ∷ []; argument = [] }) ∷ calls))

-- a token of the innermost call
abbrev pub outside_brackets : State → Call → List Call → Token → Sign → Move
outside_brackets s call calls t Comma = argument_ends s call calls
outside_brackets s call calls t (Closes Round) = call_complete s call calls
outside_brackets s call calls t (Closes Square) = call_goes_on s call calls t
outside_brackets s call calls t (Closes Curly) = call_goes_on s call calls t
outside_brackets s call calls t (Opens b) = call_goes_on s call calls t
outside_brackets s call calls t ClosesStar = call_goes_on s call calls t
outside_brackets s call calls t Other = call_goes_on s call calls t

abbrev pub in_brackets : State → Call → List Call → Token → List Bracket → Move
in_brackets s call calls t [] = outside_brackets s call calls t (sign_of t)
in_brackets s call calls t (b ∷ bs) = call_goes_on s call calls t

abbrev pub in_call : State → Call → List Call → Token → Move
in_call s call calls t = in_brackets s call calls t call.brackets

-- a token is given on: to the argument that is read, which what a body inside it gives doesn't split, or at the end
abbrev pub into_argument : State → Call → List Call → Token → Move
into_argument s call calls t = goes (reading s ((record call { argument = call.argument ++ t ∷ [] }) ∷ calls))

abbrev pub given_to : State → Token → List Call → Move
given_to s t [] = plain [] (uses.delivered s t)
given_to s t (call ∷ calls) = elim (call.level == s.uses) [ true ↦ in_call s call calls t | false ↦ into_argument s call calls t ]

-- the arguments of a call are read next
abbrev pub call_begins : State → Token → List Call → Move
call_begins s used calls = goes (reading s ((record { used = used; level = s.uses; brackets = []; arguments = []; argument = [] }) ∷ calls))

abbrev pub acted : List Call → Step → Move
acted calls (spec.goes s) = goes (machine s calls)
acted calls (spec.gives t s) = given_to s t calls
acted calls (spec.takes used s) = call_begins s used calls
acted calls (spec.looks search s) = looks search (machine s calls)
acted calls (spec.done s) = done (machine s calls)
acted calls (spec.breaks r names) = breaks r names

-- one move
abbrev pub move : Settings → Machine → Move
move set m = acted m.calls (step set m.state)

-- a run of the machine comes to an ending, by what its searches find
pub data Runs (set : Settings) (told : Option Contents) : Machine → Ending → Type 0 where
  runs_on : (m n : Machine) (e : Ending) → move set m ≡ goes n → Runs set told n e → Runs set told m e
  ends : (m n : Machine) → move set m ≡ done n → Runs set told m (finished n.state)
  stops : (m : Machine) (r : Refusal) (names : List (List ℕ)) → move set m ≡ breaks r names → Runs set told m (stopped r names)
  loads : (m n o : Machine) (search : Search) (held : Option Held) (e : Ending) → move set m ≡ looks search n → Finds told search.paths held
      → plain n.calls (found search n.state held) ≡ goes o → Runs set told o e → Runs set told m e
  loses : (m n : Machine) (search : Search) (held : Option Held) (r : Refusal) (names : List (List ℕ)) → move set m ≡ looks search n → Finds told search.paths held
      → found search n.state held ≡ spec.breaks r names → Runs set told m (stopped r names)
  fails : (m n : Machine) (search : Search) (path : List ℕ) → move set m ≡ looks search n → ((contents : Contents) → told ≡ Some contents → Tried contents search.paths path)
      → Runs set told m (failed path)
