-- Files that are wanted, and what an expansion ends with.
use Rattle.std.specs.Prelude.{◌≡◌, ℕ, ◌+◌, ◌-◌, nat_lt, min, Bool, true, false, List, [], ◌∷◌, ◌++◌, map, length, slice_get, Option, Some, None, if◌then◌else◌}
use Rattle.sv_source.specs.Loading.{Contents}
use Rattle.sv_source.specs.declared.token.Token.{Token}
use Rattle.sv_source.specs.declared.refusal.Refusal.{Refusal}
use Rattle.sv_lexer.specs.Lexing.{behind_bytes, tokens_of}
use Rattle.sv_macro.specs.Including.{Held, first_held}
use Rattle.sv_macro.specs.declared.coming.Coming.TheVariants.{Raw, FileEnd}
use Rattle.sv_preproc.specs.States.{State, Step, goes, breaks, file_limit, files_limit, broken}
use Rattle.sv_preproc.specs.Expansion.{head_place}
use Rattle.sv_preproc.specs.declared.turn.Search.{Search}

-- the most bytes that the next file may have
abbrev pub room_left : State → ℕ
room_left s = min file_limit (files_limit - s.loaded)

-- the tokens of a file come next, and then its end
abbrev pub opened : Bool → State → Held → State
opened top s held = record s {
  coming = map Raw (tokens_of (length s.names) held.bytes) ++ FileEnd ∷ s.coming;
  files = (record { path = held.path; conditionals = [] }) ∷ s.files;
  names = s.names ++ held.path ∷ [];
  loaded = s.loaded + length held.bytes;
  ending = if top then behind_bytes (head_place s) held.bytes else s.ending;
}

-- a file that is wanted is absent or too long; one of the command line has the next number
abbrev pub lost : ℕ → Search → State → Step
lost rule search s =
    breaks (record { rule = rule; place = search.place; word = search.word }) (if search.top then s.names ++ search.word ∷ [] else s.names)

-- the file that a search finds: it is too long, or files nest too deep, or its tokens come next
abbrev pub found_in : Bool → State → Held → Option Token → Step
found_in top s held (Some t) = broken s 206 t
found_in top s held None = goes (opened top s held)

abbrev pub found : Search → State → Option Held → Step
found search s None = lost 101 search s
found search s (Some held) = elim (nat_lt (room_left s) (length held.bytes)) [ true ↦ lost 102 search s | false ↦ found_in search.top s held search.deep ]

-- what a search finds: where the contents of the files are told, the first of its paths that isn't absent; else a file at
-- one of its paths, or none
pub record Finds (told : Option Contents) (paths : List (List ℕ)) (held : Option Held) : Type 0 where
  pub first : (contents : Contents) → told ≡ Some contents → first_held contents paths ≡ held
  pub listed : (file : Held) → held ≡ Some file → (i : ℕ) × (slice_get paths i ≡ Some file.path)

-- what an expansion ends with: a state at which nothing comes, a broken rule, or the path of a load that fails
pub data Ending : Type 0 where
  finished : State → Ending
  stopped : Refusal → List (List ℕ) → Ending
  failed : List ℕ → Ending
