-- That an expansion, a move at a time, is the relation.
use Rattle.std.specs.Prelude.{◌≡◌, ℕ, ◌^◌, ◌≤◌, List, [], ◌∷◌, ◌++◌, length, Option, Some}
use Rattle.sv_source.specs.Loading.{Contents}
use Rattle.sv_preproc.specs.declared.settings.Settings.{Settings}
use Rattle.sv_preproc.specs.States.{State}
use Rattle.sv_preproc.specs.Searches.{Ending, finished, stopped, failed}
use Rattle.sv_preproc.specs.Runs.{Outcome, expands, refused, start, end_token, Comes, LooksAt}
use Rattle.sv_preproc.specs.Leads.{steps, next, Leads}

-- what the relation leads to from before the first file
abbrev pub LeadsTo : Settings → Option Contents → Ending → Type 0
LeadsTo set told e = Leads set told (steps (next set (start set))) e

abbrev pub Leading : Settings → Option Contents → Outcome → Type 0
Leading set told (expands ts names) = (last : State) × LeadsTo set told (finished last) × (ts ≡ last.delivered ++ end_token last.ending ∷ []) × (names ≡ last.names)
Leading set told (refused r names) = LeadsTo set told (stopped r names)

pub record OneRelation (set : Settings) : Type 0 where
  -- what an expansion comes to, by what its searches find, and the paths that it looks at, are those of the relation
  pub leads : (told : Option Contents) (outcome : Outcome) → Comes set told outcome → Leading set told outcome
  pub looks : (contents : Contents) (path : List ℕ) → LooksAt set contents path → LeadsTo set (Some contents) (failed path)
  -- where the contents of the files are told, the relation leads to that outcome and no other
  pub comes : (contents : Contents) (outcome : Outcome) → Leading set (Some contents) outcome → Comes set (Some contents) outcome

abbrev pub IsOneRelation : Type 0
IsOneRelation = (set : Settings) → length set.files ≤ 2 ^ 30 → OneRelation set
