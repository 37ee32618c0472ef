-- What a call of the expansion answers.
use Rattle.std.specs.Prelude.{◌≡◌, ℕ, ◌<◌, ◌≤◌, Bool, true, false, List, length, Option, Some, None, Result, Ok, Err}
use Rattle.sv_source.specs.Faults.{Rose}
use Rattle.sv_source.specs.Loading.{Contents}
use Rattle.sv_source.specs.declared.refusal.Fail.{Fail}
use Rattle.sv_source.specs.declared.refusal.Fail.TheVariants as fail
use Rattle.sv_macro.specs.Including.{Held, Tried}
use Rattle.sv_preproc.specs.States.{State, Step, goes, breaks}
use Rattle.sv_preproc.specs.Machine.{Machine, Runs}
use Rattle.sv_preproc.specs.Searches as runs
use Rattle.sv_preproc.specs.Searches.{Ending, finished, stopped, failed, room_left, opened, found}
use Rattle.sv_preproc.specs.Runs.{expands, refused, Comes, LooksAt}
use Rattle.sv_preproc.specs.Relation.{LeadsTo, Leading}
use Rattle.sv_preproc.specs.declared.settings.Settings.{Settings}
use Rattle.sv_preproc.specs.declared.settings.Expanded.{Expanded}
use Rattle.sv_preproc.specs.declared.settings.ExpandFail.{ExpandFail}
use Rattle.sv_preproc.specs.declared.settings.ExpandFail.TheVariants.{Memory, FileFault, Refused}
use Rattle.sv_preproc.specs.declared.loading.Found.{Found}
use Rattle.sv_preproc.specs.declared.loading.Found.TheVariants.{File, Absent, TooLong}
use Rattle.sv_preproc.specs.declared.turn.Search.{Search}

-- The answer of an expansion: what it comes to, by the files where their contents are told, else by what searches find. A
-- fault is answered for a path that the expansion looks at, where the contents are told; want of memory may come in the
-- place of any answer.
abbrev pub Reaches : Settings → Option Contents → Result Expanded ExpandFail → Type 0
Reaches set told (Ok e) = Comes set told (expands e.tokens e.files)
Reaches set told (Err Memory) = Unit {0}
Reaches set told (Err (FileFault path)) = (contents : Contents) → told ≡ Some contents → LooksAt set contents path
Reaches set told (Err (Refused refusal files)) = Comes set told (refused refusal files)

-- the same by the relation in which arguments are expanded by the relation itself
abbrev pub LeadsBy : Settings → Option Contents → Result Expanded ExpandFail → Type 0
LeadsBy set told (Ok e) = Leading set told (expands e.tokens e.files)
LeadsBy set told (Err Memory) = Unit {0}
LeadsBy set told (Err (FileFault path)) = (contents : Contents) → told ≡ Some contents → LeadsTo set (Some contents) (failed path)
LeadsBy set told (Err (Refused refusal files)) = Leading set told (refused refusal files)

-- a fault is answered only where the count of faults rose; tokens and refusals leave the count as it was, and it never
-- falls
abbrev pub FailCause : ExpandFail → ℕ → ℕ → Type 0
FailCause Memory before now = before ≤ now
FailCause (FileFault path) before now = Rose before now × (before ≤ now)
FailCause (Refused refusal files) before now = now ≡ before

abbrev pub Cause : {A : Type 0} → Result A ExpandFail → ℕ → ℕ → Type 0
Cause (Ok x) before now = now ≡ before
Cause (Err fail) before now = FailCause fail before now

-- what a search among some paths finds
abbrev pub TriedTold : Option Contents → List (List ℕ) → List ℕ → Type 0
TriedTold told paths path = (contents : Contents) → told ≡ Some contents → Tried contents paths path

abbrev pub SearchReaches : Option Contents → List (List ℕ) → ℕ → Result Found ExpandFail → Type 0
SearchReaches told paths limit (Ok (File path bytes)) = runs.Finds told paths (Some (record { path = path; bytes = bytes })) × (length bytes ≤ limit)
SearchReaches told paths limit (Ok Absent) = runs.Finds told paths None
SearchReaches told paths limit (Ok TooLong) = (held : Held) × runs.Finds told paths (Some held) × (limit < length held.bytes)
SearchReaches told paths limit (Err Memory) = Unit {0}
SearchReaches told paths limit (Err (FileFault path)) = TriedTold told paths path
SearchReaches told paths limit (Err (Refused refusal files)) = ⊥

abbrev pub FoundWithin : ℕ → Result Found ExpandFail → Type 0
FoundWithin limit (Ok (File path bytes)) = length bytes ≤ limit
FoundWithin limit _ = Unit {0}

-- a step that is a refusal
abbrev pub Says : ExpandFail → Step → Type 0
Says (Refused refusal files) step = step ≡ breaks refusal files
Says Memory step = ⊥
Says (FileFault path) step = ⊥

-- want of memory, or that refusal
abbrev pub Deep : Result Bool ExpandFail → Step → Type 0
Deep (Ok b) step = Unit {0}
Deep (Err Memory) step = Unit {0}
Deep (Err (FileFault path)) step = ⊥
Deep (Err (Refused refusal files)) step = step ≡ breaks refusal files

-- a step that stopped is answered with these files
abbrev pub Stops : Fail → List (List ℕ) → ExpandFail → Type 0
Stops fail.Memory files result = result ≡ Memory
Stops (fail.Refused refusal) files result = result ≡ Refused refusal files

-- a file was opened, which had room
abbrev pub Opens : Bool → Bool → State → State → Type 0
Opens b top before now = (b ≡ true) × ((held : Held) × (length held.bytes ≤ room_left before) × (now ≡ opened top before held))

-- what is answered where a file is wanted, by what the search finds
abbrev pub LoadReaches : Option Contents → Search → State → State → Result Bool ExpandFail → Type 0
LoadReaches told search before now (Ok b) = (held : Option Held) × runs.Finds told search.paths held × (found search before held ≡ goes now)
LoadReaches told search before now (Err Memory) = Unit {0}
LoadReaches told search before now (Err (FileFault path)) = TriedTold told search.paths path
LoadReaches told search before now (Err (Refused refusal files)) = (held : Option Held) × runs.Finds told search.paths held × (found search before held ≡ breaks refusal files)

-- what is answered for a move with its file: what a run comes to from the machine that is left it comes to from the one
-- before
abbrev pub AdvanceReaches : Settings → Option Contents → Machine → Machine → Result Bool ExpandFail → Type 0
AdvanceReaches set told before now (Ok true) = (e : Ending) → Runs set told now e → Runs set told before e
AdvanceReaches set told before now (Ok false) = Runs set told before (finished now.state)
AdvanceReaches set told before now (Err Memory) = Unit {0}
AdvanceReaches set told before now (Err (FileFault path)) = Runs set told before (failed path)
AdvanceReaches set told before now (Err (Refused refusal files)) = Runs set told before (stopped refusal files)
