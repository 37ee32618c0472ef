-- Each run of the machine ends.
use Rattle.std.proofs.Common.{◌≡◌, ℕ, zero, suc, ◌+◌, ◌^◌, ◌<◌, ◌≤◌, Bool, true, false, nat_lt, [], length, Option, Some, None, refl, ap, subst, arith}
use Rattle.std.proofs.lemmas.Bool.Decides.{nat_tests}
use Rattle.sv_source.specs.Loading.{Contents}
use Rattle.sv_source.specs.declared.token.Token.{Token}
use Rattle.sv_lexer.proofs.Raw.{tokens_from-count}
use Rattle.sv_macro.specs.Including.{Held, first_held}
use Rattle.sv_preproc.specs.States as spec
use Rattle.sv_preproc.specs.States.{State, Step, broken}
use Rattle.sv_preproc.specs.Machine as mach
use Rattle.sv_preproc.specs.Machine.{Machine, Move, machine, move, plain, Runs}
use Rattle.sv_preproc.specs.Searches.{Ending, finished, stopped, failed, room_left, opened, lost, found, found_in}
use Rattle.sv_preproc.specs.Runs.{start}
use Rattle.sv_preproc.specs.Left.{heft, Ready}
use Rattle.sv_preproc.specs.declared.settings.Settings.{Settings}
use Rattle.sv_preproc.specs.declared.turn.Search.{Search}
use Rattle.sv_preproc.proofs.Weights.{Waits}
use Rattle.sv_preproc.proofs.StepFalls.{opened_falls}
use Rattle.sv_preproc.proofs.MoveFalls.{Lighter, Less, behind_lighter, move_less}
use Rattle.sv_preproc.proofs.Searches.{finds_told}

abbrev pub IsOutcome : Ending → Type 0
IsOutcome (finished s) = Unit {0}
IsOutcome (stopped r names) = Unit {0}
IsOutcome (failed path) = ⊥

pub record RunEnds (set : Settings) (contents : Contents) (m : Machine) : Type 0 where
  pub ending : Ending
  pub outcome : IsOutcome ending
  pub runs : Runs set (Some contents) m ending

module _ (set : Settings) (contents : Contents) (w : ℕ) (next : (m : Machine) → Lighter (length set.files) w m → RunEnds set contents m) where
  abbrev Found : Machine → Machine → Search → Step → Type 0
  Found m n search st = found search n.state (first_held contents search.paths) ≡ st → RunEnds set contents m

  by_found : (m n : Machine) (search : Search) → move set m ≡ mach.looks search n → (st : Step) → ((s : State) → st ≡ spec.goes s → Lighter (length set.files) w (machine s n.calls)) →
      ((t : Token) (s : State) → st ≡ spec.gives t s → ⊥) → ((t : Token) (s : State) → st ≡ spec.takes t s → ⊥) → ((q : Search) (s : State) → st ≡ spec.looks q s → ⊥) → ((s : State) → st ≡ spec.done s → ⊥) → Found m n search st
  by_found m n search e (spec.goes s) light a b c d f =
      let r = next (machine s n.calls) (light s refl) in
      record {
        ending = r.ending;
        outcome = r.outcome;
        runs = mach.loads m n (machine s n.calls) search (first_held contents search.paths) r.ending e (finds_told contents search.paths (first_held contents search.paths) refl) (ap (plain n.calls) f) r.runs;
      }
  by_found m n search e (spec.gives t s) light a b c d f = absurd (a t s refl)
  by_found m n search e (spec.takes t s) light a b c d f = absurd (b t s refl)
  by_found m n search e (spec.looks q s) light a b c d f = absurd (c q s refl)
  by_found m n search e (spec.done s) light a b c d f = absurd (d s refl)
  by_found m n search e (spec.breaks r names) light a b c d f =
      record { ending = stopped r names; outcome = tt; runs = mach.loses m n search (first_held contents search.paths) r names e (finds_told contents search.paths (first_held contents search.paths) refl) f }

  ends_deep : (m n : Machine) (search : Search) → move set m ≡ mach.looks search n → (held : Held) (deep : Option Token) → length held.bytes ≤ room_left n.state → Waits (length set.files) (length n.calls) w n.state →
      Found m n search (found_in search.top n.state held deep)
  ends_deep m n search e held (Some t) fits i f = by_found m n search e (broken n.state 206 t) (λ s no. absurd (let x = no in cc)) (λ t s no. cc) (λ t s no. cc) (λ q s no. cc) (λ s no. cc) f
  ends_deep m n search e held None fits i f = by_found m n search e (spec.goes (opened search.top n.state held))
      (λ s same. let is : opened search.top n.state held ≡ s = cc in let P : State → Type 0 = λ s. Lighter (length set.files) w (machine s n.calls) in
      subst P is (behind_lighter (length set.files) w _ n.calls (opened_falls (length set.files) (length n.calls) w search.top n.state held (tokens_from-count 0 (record { file = length n.state.names; line = 1; col = 1 }) held.bytes) fits i)))
      (λ t s no. cc) (λ t s no. cc) (λ q s no. cc) (λ s no. cc) f

  ends_opened : (m n : Machine) (search : Search) → move set m ≡ mach.looks search n → (held : Held) (long : Bool) → nat_lt (room_left n.state) (length held.bytes) ≡ long → Waits (length set.files) (length n.calls) w n.state →
      Found m n search (elim long as (λ _. Step) [ true ↦ lost 102 search n.state | false ↦ found_in search.top n.state held search.deep ])
  ends_opened m n search e held true l i f = by_found m n search e (lost 102 search n.state) (λ s no. absurd (let x = no in cc)) (λ t s no. cc) (λ t s no. cc) (λ q s no. cc) (λ s no. cc) f
  ends_opened m n search e held false l i f =
      let fits : length held.bytes ≤ room_left n.state = grind (arith, nat_tests) in
      ends_deep m n search e held search.deep fits i f

  ends_found : (m n : Machine) (search : Search) → move set m ≡ mach.looks search n → (held : Option Held) → Waits (length set.files) (length n.calls) w n.state → Found m n search (found search n.state held)
  ends_found m n search e None i f = by_found m n search e (lost 101 search n.state) (λ s no. absurd (let x = no in cc)) (λ t s no. cc) (λ t s no. cc) (λ q s no. cc) (λ s no. cc) f
  ends_found m n search e (Some held) i f = ends_opened m n search e held (nat_lt (room_left n.state) (length held.bytes)) refl i f

  ends_move : (m : Machine) (mv : Move) → move set m ≡ mv → Less (length set.files) w mv → RunEnds set contents m
  ends_move m (mach.goes n) e l = (let r = next n l in record { ending = r.ending; outcome = r.outcome; runs = mach.runs_on m n r.ending e r.runs })
  ends_move m (mach.looks search n) e l = ends_found m n search e (first_held contents search.paths) l refl
  ends_move m (mach.done n) e l = record { ending = finished n.state; outcome = tt; runs = mach.ends m n e }
  ends_move m (mach.breaks r names) e l = record { ending = stopped r names; outcome = tt; runs = mach.stops m r names e }

ends_within : (set : Settings) (contents : Contents) (k : ℕ) (m : Machine) → Ready (length set.files) m → heft (length set.files) m < k → RunEnds set contents m
ends_within set contents zero m r less = absurd (omega arith)
ends_within set contents (suc k) m r less =
    ends_move set contents (heft (length set.files) m) (λ n l. ends_within set contents k n l.ready (omega (arith, l.less, less))) m (move set m) refl (move_less set m r)

pub start_ready : (set : Settings) → length set.files ≤ 2 ^ 30 → Ready (length set.files) (machine (start set) [])
start_ready set few = record { spent = omega arith; loaded = omega arith; uses = omega (arith, few); names = omega (arith, few) }

pub run_ends : (set : Settings) → length set.files ≤ 2 ^ 30 → (contents : Contents) → RunEnds set contents (machine (start set) [])
run_ends set few contents = ends_within set contents (heft (length set.files) (machine (start set) []) + 1) (machine (start set) []) (start_ready set few) (omega arith)
