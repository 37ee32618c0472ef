-- What each move of an expansion keeps holds where it ends: also of the files that it looks for and of the rule that it
-- breaks.
use Rattle.std.proofs.Common.{◌≡◌, ℕ, Bool, true, false, nat_lt, List, length, Option, Some, None, subst, refl}
use Rattle.sv_source.specs.Loading.{Contents}
use Rattle.sv_source.specs.declared.token.Token.{Token}
use Rattle.sv_source.specs.declared.refusal.Refusal.{Refusal}
use Rattle.sv_macro.specs.Including.{Held}
use Rattle.sv_preproc.specs.States.{State, Step}
use Rattle.sv_preproc.specs.Machine as mach
use Rattle.sv_preproc.specs.Machine.{Machine, Move, machine, plain, move, Runs}
use Rattle.sv_preproc.specs.Searches.{Ending, finished, stopped, failed, room_left, opened, lost, found, found_in}
use Rattle.sv_preproc.specs.declared.settings.Settings.{Settings}
use Rattle.sv_preproc.specs.declared.turn.Search.{Search}

-- what is kept: of a machine, of a search and the machine that waits for it, of the last state, and of a refusal
pub record Keeps : Type 1 where
  pub going : Machine → Type 0
  pub waiting : Search → Machine → Type 0
  pub finished : State → Type 0
  pub broken : Refusal → List (List ℕ) → Type 0

abbrev pub MoveTells : Keeps → Move → Type 0
MoveTells K (mach.goes m) = K.going m
MoveTells K (mach.looks search m) = K.waiting search m
MoveTells K (mach.done m) = K.finished m.state
MoveTells K (mach.breaks r names) = K.broken r names

abbrev pub EndingTells : Keeps → Ending → Type 0
EndingTells K (finished s) = K.finished s
EndingTells K (stopped r names) = K.broken r names
EndingTells K (failed path) = Unit {0}

module _ (K : Keeps)
    (opens : (search : Search) (m : Machine) (held : Held) → K.waiting search m → K.going (machine (opened search.top m.state held) m.calls))
    (loses : (rule : ℕ) (search : Search) (m : Machine) → K.waiting search m → MoveTells K (plain m.calls (lost rule search m.state)))
    (deep : (search : Search) (m : Machine) (t : Token) → search.deep ≡ Some t → K.waiting search m → K.broken (record { rule = 206; place = t.place; word = t.text }) m.state.names) where
  deep_tells : (search : Search) (m : Machine) (held : Held) (t : Option Token) → search.deep ≡ t → K.waiting search m → MoveTells K (plain m.calls (found_in search.top m.state held t))
  deep_tells search m held (Some t) e w = deep search m t e w
  deep_tells search m held None e w = opens search m held w

  room_tells : (search : Search) (m : Machine) (held : Held) (long : Bool) → K.waiting search m →
      MoveTells K (plain m.calls (elim long as (λ _. Step) [ true ↦ lost 102 search m.state | false ↦ found_in search.top m.state held search.deep ]))
  room_tells search m held true w = loses 102 search m w
  room_tells search m held false w = deep_tells search m held search.deep refl w

  found_tells : (search : Search) (m : Machine) (held : Option Held) → K.waiting search m → MoveTells K (plain m.calls (found search m.state held))
  found_tells search m None w = loses 101 search m w
  found_tells search m (Some held) w = room_tells search m held (nat_lt (room_left m.state) (length held.bytes)) w

  pub through : (set : Settings) (told : Option Contents) → ((m : Machine) → K.going m → MoveTells K (move set m)) →
      (m : Machine) (e : Ending) → Runs set told m e → K.going m → EndingTells K e
  through set told moves _ _ (mach.runs_on m n e is r) k = through set told moves n e r (subst (MoveTells K) is (moves m k))
  through set told moves _ _ (mach.ends m n is) k = subst (MoveTells K) is (moves m k)
  through set told moves _ _ (mach.stops m r names is) k = subst (MoveTells K) is (moves m k)
  through set told moves _ _ (mach.loads m n o search held e is finds opened r) k =
      let w : K.waiting search n = subst (MoveTells K) is (moves m k) in
      through set told moves o e r (subst (MoveTells K) opened (found_tells search n held w))
  through set told moves _ _ (mach.loses m n search held r names is finds lost) k =
      let w : K.waiting search n = subst (MoveTells K) is (moves m k) in
      let P : Step → Type 0 = λ st. MoveTells K (plain n.calls st) in
      subst P lost (found_tells search n held w)
  through set told moves _ _ (mach.fails m n search path is tried) k = tt
