-- Runs that come to an ending by what their searches find.
use Rattle.std.proofs.Common.{◌≡◌, ℕ, ◌<◌, Bool, true, false, List, [], ◌∷◌, ◌++◌, length, Option, Some, Result, Ok, Err, IfOk, sym, ap, ◌∙◌, subst}
use Rattle.std.specs.Global.{Box}
use Rattle.sv_lexer.proofs.Raw.{tokens_from-count}
use Rattle.sv_source.specs.Loading.{Contents}
use Rattle.sv_source.specs.declared.refusal.Fail.{Fail}
use Rattle.sv_source.specs.declared.refusal.Fail.TheVariants as fail
use Rattle.sv_preproc.specs.States.{State}
use Rattle.sv_preproc.specs.Machine as mach
use Rattle.sv_preproc.specs.Machine.{Machine, Move, machine, plain, move, Runs}
use Rattle.sv_preproc.specs.Searches.{Ending, finished, stopped, failed}
use Rattle.sv_preproc.specs.Runs.{start, end_token}
use Rattle.sv_preproc.specs.Code.{seen, whole, Turns}
use Rattle.sv_preproc.specs.Left.{heft, Ready, Settles}
use Rattle.sv_preproc.specs.Answers.{Cause, Opens, Stops, LoadReaches, AdvanceReaches, Reaches}
use Rattle.sv_preproc.specs.declared.settings.Settings.{Settings}
use Rattle.sv_preproc.specs.declared.settings.Expanded.{Expanded}
use Rattle.sv_preproc.specs.declared.settings.ExpandFail.{ExpandFail}
use Rattle.sv_preproc.specs.declared.settings.ExpandFail.TheVariants.{Memory, FileFault, Refused}
use Rattle.sv_preproc.specs.declared.state.Call.{Call}
use Rattle.sv_preproc.specs.declared.state.State.{State as Held_state}
use Rattle.sv_preproc.specs.declared.turn.Turn.{Turn}
use Rattle.sv_preproc.specs.declared.turn.Turn.TheVariants.{Go, Look, Done}
use Rattle.sv_preproc.specs.declared.turn.Search.{Search}
use Rattle.sv_preproc.proofs.Weights.{Waits}
use Rattle.sv_preproc.proofs.StepFalls.{opened_falls}
use Rattle.sv_preproc.proofs.MoveFalls.{Less, Lighter, behind_lighter, move_less}

module _ (set : Settings) (told : Option Contents) where
  pub goes_reach : (m n : Machine) → move set m ≡ mach.goes n → AdvanceReaches set told m n (Ok true)
  goes_reach m n e = λ end c. mach.runs_on m n end e c

  pub done_reach : (m n : Machine) → move set m ≡ mach.done n → AdvanceReaches set told m n (Ok false)
  done_reach m n e = mach.ends m n e

  pub looks_reach : (m n : Machine) (now : State) (search : Search) (result : Result Bool ExpandFail) → move set m ≡ mach.looks search n → IfOk result (λ b. Opens b search.top n.state now) →
      LoadReaches told search n.state now result → AdvanceReaches set told m (machine now n.calls) result
  looks_reach m n now search (Ok true) e opens l = λ end c. mach.loads m n (machine now n.calls) search l.0 end e l.1 (ap (plain n.calls) l.2) c
  looks_reach m n now search (Ok false) e opens l = absurd (let no : false ≡ true = opens.0 in cc)
  looks_reach m n now search (Err Memory) e opens l = tt
  looks_reach m n now search (Err (FileFault path)) e opens l = mach.fails m n search path e l
  looks_reach m n now search (Err (Refused r names)) e opens l = mach.loses m n search l.0 r names e l.1 l.2

-- the move of an answer
pub go_of : (mv : Move) (now : Held_state) (result : Result Turn Fail) (turn : Turn) → result ≡ Ok turn → turn ≡ Go → Turns mv now result → mv ≡ mach.goes (whole now)
go_of mv now result turn e f t = (let P : Result Turn Fail → Type 0 = Turns mv now in subst P (e ∙ ap Ok f) t)

pub look_of : (mv : Move) (now : Held_state) (result : Result Turn Fail) (turn : Turn) (held : Box Search) (search : Search) → result ≡ Ok turn → turn ≡ Look held → search ≡ held.value → Turns mv now result → mv ≡ mach.looks search (whole now)
look_of mv now result turn held search e f is t =
    let P : Result Turn Fail → Type 0 = Turns mv now in
    subst P (e ∙ ap Ok f) t ∙ ap (λ (q : Search). mach.looks q (whole now)) (sym is)

pub done_of : (mv : Move) (now : Held_state) (result : Result Turn Fail) (turn : Turn) → result ≡ Ok turn → turn ≡ Done → Turns mv now result → mv ≡ mach.done (whole now)
done_of mv now result turn e f t = (let P : Result Turn Fail → Type 0 = Turns mv now in subst P (e ∙ ap Ok f) t)

pub fail_of : (mv : Move) (now : Held_state) (result : Result Turn Fail) (fail : Fail) → result ≡ Err fail → Turns mv now result → Turns mv now (Err fail)
fail_of mv now result fail e t = (let P : Result Turn Fail → Type 0 = Turns mv now in subst P e t)

-- less is left
pub goes_settles : (set : Settings) (m n : Machine) → Ready (length set.files) m → move set m ≡ mach.goes n → Settles (length set.files) m n (Ok true)
goes_settles set m n r e = (let l : Lighter (length set.files) (heft (length set.files) m) n = subst (Less (length set.files) (heft (length set.files) m)) e (move_less set m r) in (l.ready, l.less))

pub looks_waits : (set : Settings) (m n : Machine) (search : Search) → Ready (length set.files) m → move set m ≡ mach.looks search n → Waits (length set.files) (length n.calls) (heft (length set.files) m) n.state
looks_waits set m n search r e = subst (Less (length set.files) (heft (length set.files) m)) e (move_less set m r)

pub opens_settles : (set : Settings) (m n : Machine) (now : State) (top : Bool) (result : Result Bool ExpandFail) → Waits (length set.files) (length n.calls) (heft (length set.files) m) n.state →
    IfOk result (λ b. Opens b top n.state now) → Settles (length set.files) m (machine now n.calls) result
opens_settles set m n now top (Ok true) w o =
    let b = opened_falls (length set.files) (length n.calls) (heft (length set.files) m) top n.state o.1.0 (tokens_from-count 0 (record { file = length n.state.names; line = 1; col = 1 }) o.1.0.bytes) o.1.1 w in
    let l : Lighter (length set.files) (heft (length set.files) m) (machine now n.calls) =
    subst (λ (s : State). Lighter (length set.files) (heft (length set.files) m) (machine s n.calls)) (sym o.1.2) (behind_lighter (length set.files) (heft (length set.files) m) _ n.calls b) in
    (l.ready, l.less)
opens_settles set m n now top (Ok false) w o = tt
opens_settles set m n now top (Err fail) w o = tt

-- what a run comes to from this machine, the expansion comes to
abbrev pub ReachesFrom : Settings → Option Contents → Machine → Type 0
ReachesFrom set told m = (e : Ending) → Runs set told m e → Runs set told (machine (start set) []) e

pub reaches_first : (set : Settings) (told : Option Contents) (m : Machine) → m ≡ machine (start set) [] → ReachesFrom set told m
reaches_first set told m e = (let P : Machine → Type 0 = ReachesFrom set told in subst P (sym e) (λ o c. c))

-- the same of an answer that is known
pub advance_at : (set : Settings) (before told : Option Contents) (m now : Machine) (result known : Result Bool ExpandFail) → before ≡ told → result ≡ known → AdvanceReaches set before m now result → AdvanceReaches set told m now known
advance_at set before told m now result known e is a =
    let P : Option Contents → Type 0 = λ x. AdvanceReaches set x m now result in
    let Q : Result Bool ExpandFail → Type 0 = AdvanceReaches set told m now in
    subst Q is (subst P e a)

pub reaches_next : (set : Settings) (told : Option Contents) (m now : Machine) → ReachesFrom set told m → AdvanceReaches set told m now (Ok true) → ReachesFrom set told now
reaches_next set told m now r a = λ o c. r o (a o c)

-- what a move that stops answers, and the last one
fault_told : (set : Settings) (told : Option Contents) (path : List ℕ) → Runs set told (machine (start set) []) (failed path) → (contents : Contents) → told ≡ Some contents → Runs set (Some contents) (machine (start set) []) (failed path)
fault_told set told path r contents e = (let P : Option Contents → Type 0 = λ x. Runs set x (machine (start set) []) (failed path) in subst P e r)

pub stops_at : (set : Settings) (told : Option Contents) (m now : Machine) (fail : ExpandFail) → ReachesFrom set told m → AdvanceReaches set told m now (Err fail) → Reaches set told (Err fail)
stops_at set told m now Memory r a = tt
stops_at set told m now (FileFault path) r a = fault_told set told path (r (failed path) a)
stops_at set told m now (Refused refusal names) r a = r (stopped refusal names) a

pub done_at : (set : Settings) (told : Option Contents) (m now : Machine) (e : Expanded) → ReachesFrom set told m → AdvanceReaches set told m now (Ok false) →
    e.tokens ≡ now.state.delivered ++ end_token now.state.ending ∷ [] → e.files ≡ now.state.names → Reaches set told (Ok e)
done_at set told m now e r a tokens files = record { last = now.state; runs = r (finished now.state) a; tokens = tokens; files = files }

pub settled_at : (count : ℕ) (m now : Machine) (result : Result Bool ExpandFail) → result ≡ Ok true → Settles count m now result → Ready count now × (heft count now < heft count m)
settled_at count m now result e a = (let P : Result Bool ExpandFail → Type 0 = Settles count m now in subst P e a)

pub level_at : (result : Result Bool ExpandFail) (before now : ℕ) → result ≡ Ok true → Cause result before now → now ≡ before
level_at result before now e a = (let P : Result Bool ExpandFail → Type 0 = λ r. Cause r before now in subst P e a)

-- the same of the program's states
with_calls : (now : State) (a b : List Call) → a ≡ b → machine now a ≡ machine now b
with_calls now a b e = λ i. machine now (e i)

pub opens_found : (set : Settings) (m : Machine) (next now : Held_state) (top : Bool) (result : Result Bool ExpandFail) → Waits (length set.files) (length next.calls) (heft (length set.files) m) (seen next) →
    IfOk result (λ b. Opens b top (seen next) (seen now)) → IfOk result (λ b. now.calls ≡ next.calls) → Settles (length set.files) m (whole now) result
opens_found set m next now top (Ok b) w o e =
    let P : Machine → Type 0 = λ n. Settles (length set.files) m n (Ok b) in
    subst P (with_calls (seen now) next.calls now.calls (sym e)) (opens_settles set m (whole next) (seen now) top (Ok b) w o)
opens_found set m next now top (Err fail) w o e = tt

pub found_reach : (set : Settings) (told : Option Contents) (m : Machine) (next now : Held_state) (search : Search) (result : Result Bool ExpandFail) → move set m ≡ mach.looks search (whole next) →
    IfOk result (λ b. Opens b search.top (seen next) (seen now)) → LoadReaches told search (seen next) (seen now) result → IfOk result (λ b. now.calls ≡ next.calls) → AdvanceReaches set told m (whole now) result
found_reach set told m next now search (Ok b) e o l c =
    let P : Machine → Type 0 = λ n. AdvanceReaches set told m n (Ok b) in
    subst P (with_calls (seen now) next.calls now.calls (sym c)) (looks_reach set told m (whole next) (seen now) search (Ok b) e o l)
found_reach set told m next now search (Err Memory) e o l c = tt
found_reach set told m next now search (Err (FileFault path)) e o l c = mach.fails m (whole next) search path e l
found_reach set told m next now search (Err (Refused r names)) e o l c = mach.loses m (whole next) search l.0 r names e l.1 l.2

pub stopped_reach : (set : Settings) (told : Option Contents) (m : Machine) (next now : Held_state) (fail : Fail) (result : ExpandFail) → Turns (move set m) next (Err fail) → Stops fail next.names result → AdvanceReaches set told m (whole now) (Err result)
stopped_reach set told m next now fail.Memory result t is =
    let P : ExpandFail → Type 0 = λ x. AdvanceReaches set told m (whole now) (Err x) in
    subst P (sym is) tt
stopped_reach set told m next now (fail.Refused r) result t is =
    let P : ExpandFail → Type 0 = λ x. AdvanceReaches set told m (whole now) (Err x) in
    subst P (sym is) (mach.stops m r next.names t)
