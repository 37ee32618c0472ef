-- Whole expansions.
use Rattle.std.specs.Prelude.{◌≡◌, ℕ, false, List, [], ◌∷◌, ◌++◌, fold, Option, Some, None, codes}
use Rattle.sv_source.specs.Loading.{Contents}
use Rattle.sv_source.specs.declared.token.Kind.TheVariants.{End}
use Rattle.sv_source.specs.declared.token.Place.{Place}
use Rattle.sv_source.specs.declared.token.Token.{Token}
use Rattle.sv_source.specs.declared.refusal.Refusal.{Refusal}
use Rattle.sv_macro.specs.Macros.{Macros, defined, parts_of}
use Rattle.sv_preproc.specs.declared.settings.Define.{Define}
use Rattle.sv_preproc.specs.declared.settings.Settings.{Settings}
use Rattle.sv_preproc.specs.States.{State}
use Rattle.sv_preproc.specs.Searches.{finished, stopped, failed}
use Rattle.sv_preproc.specs.Machine as mach
use Rattle.sv_preproc.specs.Machine.{machine}

-- what an expansion comes to: tokens, or a broken rule; and the files by the number in a place
pub data Outcome : Type 0 where
  expands : List Token → List (List ℕ) → Outcome
  refused : Refusal → List (List ℕ) → Outcome

-- the end of all files
abbrev pub end_token : Place → Token
end_token place = record { kind = End; text = codes "<end>"; place = place }

-- the macros of the command line
abbrev pub command_macros : List Define → Macros
command_macros defines =
    fold (λ macros d. defined macros d.name (record { arity = None; parts = parts_of [] d.body; busy = false })) (λ _. None) defines

-- before the first file
abbrev pub start : Settings → State
start set = record {
  coming = [];
  macros = command_macros set.defines;
  files = [];
  inside = false;
  uses = 0;
  next = 0;
  names = [];
  loaded = 0;
  spent = 0;
  ending = record { file = 0; line = 1; col = 1 };
  delivered = [];
}

-- the expansion of the settings comes to these tokens; by the files, where their contents are told, else by what its
-- searches find
pub record Expands (set : Settings) (told : Option Contents) (ts : List Token) (names : List (List ℕ)) : Type 0 where
  pub last : State
  pub runs : mach.Runs set told (machine (start set) []) (finished last)
  pub tokens : ts ≡ last.delivered ++ end_token last.ending ∷ []
  pub files : names ≡ last.names

abbrev pub Comes : Settings → Option Contents → Outcome → Type 0
Comes set told (expands ts names) = Expands set told ts names
Comes set told (refused r names) = mach.Runs set told (machine (start set) []) (stopped r names)

-- the expansion looks for a file at this path
abbrev pub LooksAt : Settings → Contents → List ℕ → Type 0
LooksAt set contents path = mach.Runs set (Some contents) (machine (start set) []) (failed path)

-- it comes to one outcome: tokens or a refusal, and not both
pub record HasOutcome (set : Settings) (contents : Contents) : Type 0 where
  pub outcome : Outcome
  pub comes : Comes set (Some contents) outcome
  pub only : (other : Outcome) → Comes set (Some contents) other → other ≡ outcome
