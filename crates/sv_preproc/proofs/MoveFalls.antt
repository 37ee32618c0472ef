-- Each move leaves less to do.
use Rattle.std.proofs.Common.{ℕ, ◌+◌, ◌<◌, ◌==◌, Bool, true, false, List, [], ◌∷◌, ◌++◌, length, refl, arith}
use Rattle.sv_source.specs.declared.token.Token.{Token}
use Rattle.sv_macro.specs.Brackets.{sign_of}
use Rattle.sv_macro.specs.declared.brackets.Bracket.{Bracket}
use Rattle.sv_macro.specs.declared.brackets.Bracket.TheVariants.{Round, Square, Curly}
use Rattle.sv_macro.specs.declared.brackets.Sign.{Sign}
use Rattle.sv_macro.specs.declared.brackets.Sign.TheVariants.{Opens, Closes, ClosesStar, Comma, Other}
use Rattle.sv_preproc.specs.declared.settings.Settings.{Settings}
use Rattle.sv_preproc.specs.declared.state.Call.{Call}
use Rattle.sv_preproc.specs.States as spec
use Rattle.sv_preproc.specs.States.{State, Step}
use Rattle.sv_preproc.specs.Machine as mach
use Rattle.sv_preproc.specs.Machine.{Machine, Move, machine, reading, is_open, plain, acted, given_to, in_call, in_brackets, outside_brackets, move}
use Rattle.sv_preproc.specs.Expansion.{step}
use Rattle.sv_preproc.specs.Left.{heft, Ready}
use Rattle.sv_preproc.proofs.Weights.{Within, Behind, Waits, Falls}
use Rattle.sv_preproc.proofs.Falls.{delivered_falls, expanded_falls}
use Rattle.sv_preproc.proofs.StepFalls.{step_falls}

pub record Lighter (count w : ℕ) (m : Machine) : Type 0 where
  pub ready : Ready count m
  pub less : heft count m < w

abbrev pub Less : ℕ → ℕ → Move → Type 0
Less count w (mach.goes m) = Lighter count w m
Less count w (mach.looks search m) = Waits count (length m.calls) w m.state
Less count w (mach.done m) = Unit {0}
Less count w (mach.breaks r names) = Unit {0}

pub behind_lighter : (count w : ℕ) (s : State) (calls : List Call) → Behind count (length calls) w s → Lighter count w (machine s calls)
behind_lighter count w s calls b = record { ready = record { spent = b.spent; loaded = b.loaded; uses = b.uses; names = b.names }; less = b.less }

within_lighter : (count w : ℕ) (s : State) (calls : List Call) → Within count (length calls) w s → Lighter count w (machine s calls)
within_lighter count w s calls i = record {
  ready = record { spent = i.spent; loaded = i.loaded; uses = omega (arith, i.uses, i.less); names = omega (arith, i.names, i.less) };
  less = i.less;
}

waits_lighter : (count w : ℕ) (s : State) (calls : List Call) → Waits count (length calls) w s → Lighter count w (machine s calls)
waits_lighter count w s calls i = record {
  ready = record { spent = i.spent; loaded = i.loaded; uses = omega (arith, i.uses, i.less); names = omega (arith, i.names, i.less) };
  less = omega (arith, i.less);
}

plain_less : (count w : ℕ) (calls : List Call) (st : Step) → Falls count (length calls) w st → Less count w (plain calls st)
plain_less count w calls (spec.goes s) f = behind_lighter count w s calls f
plain_less count w calls (spec.gives t s) f = within_lighter count w s calls f
plain_less count w calls (spec.takes t s) f = waits_lighter count w s calls f
plain_less count w calls (spec.looks search s) f = f
plain_less count w calls (spec.done s) f = tt
plain_less count w calls (spec.breaks r names) f = tt

-- as many calls are read as before
same_calls : (count w : ℕ) (s : State) (call : Call) (rest : List Call) → Within count (length rest + 1) w s → Lighter count w (reading s (call ∷ rest))
same_calls count w s call rest i = record {
  ready = record { spent = i.spent; loaded = i.loaded; uses = omega (arith, i.uses, i.less); names = omega (arith, i.names, i.less) };
  less = omega (arith, i.less);
}

complete_less : (count w : ℕ) (s : State) (call : Call) (rest : List Call) → Within count (length rest + 1) w s → Less count w (mach.call_complete s call rest)
complete_less count w s call rest i = plain_less count w rest _ (expanded_falls count (length rest) w (record s { inside = is_open rest }) call.used (call.arguments ++ call.argument ∷ [])
    (record { spent = i.spent; loaded = i.loaded; less = omega (arith, i.less); uses = i.uses; names = i.names }))

outside_less : (count w : ℕ) (s : State) (call : Call) (rest : List Call) (t : Token) (sign : Sign) → Within count (length rest + 1) w s → Less count w (outside_brackets s call rest t sign)
outside_less count w s call rest t Comma i = same_calls count w s _ rest i
outside_less count w s call rest t (Closes Round) i = complete_less count w s call rest i
outside_less count w s call rest t (Closes Square) i = same_calls count w s _ rest i
outside_less count w s call rest t (Closes Curly) i = same_calls count w s _ rest i
outside_less count w s call rest t (Opens b) i = same_calls count w s _ rest i
outside_less count w s call rest t ClosesStar i = same_calls count w s _ rest i
outside_less count w s call rest t Other i = same_calls count w s _ rest i

brackets_less : (count w : ℕ) (s : State) (call : Call) (rest : List Call) (t : Token) (brackets : List Bracket) → Within count (length rest + 1) w s → Less count w (in_brackets s call rest t brackets)
brackets_less count w s call rest t [] i = outside_less count w s call rest t (sign_of t) i
brackets_less count w s call rest t (b ∷ bs) i = same_calls count w s _ rest i

by_level : (count w : ℕ) (level : Bool) (x y : Move) → Less count w x → Less count w y → Less count w (elim level as (λ _. Move) [ true ↦ x | false ↦ y ])
by_level count w true x y p q = p
by_level count w false x y p q = q

given_less : (count w : ℕ) (s : State) (t : Token) (calls : List Call) → Within count (length calls) w s → Less count w (given_to s t calls)
given_less count w s t [] i = plain_less count w [] _ (delivered_falls count 0 w s t i)
given_less count w s t (call ∷ rest) i =
    let j : Within count (length rest + 1) w s = record { spent = i.spent; loaded = i.loaded; less = omega (arith, i.less); uses = i.uses; names = i.names } in
    by_level count w (call.level == s.uses) _ _ (brackets_less count w s call rest t call.brackets j) (same_calls count w s _ rest j)

acted_less : (count w : ℕ) (calls : List Call) (st : Step) → Falls count (length calls) w st → Less count w (acted calls st)
acted_less count w calls (spec.goes s) f = behind_lighter count w s calls f
acted_less count w calls (spec.gives t s) f = given_less count w s t calls f
acted_less count w calls (spec.takes t s) f = record {
  ready = record { spent = f.spent; loaded = f.loaded; uses = omega (arith, f.uses, f.less); names = omega (arith, f.names, f.less) };
  less = omega (arith, f.less);
}
acted_less count w calls (spec.looks search s) f = f
acted_less count w calls (spec.done s) f = tt
acted_less count w calls (spec.breaks r names) f = tt

pub move_less : (set : Settings) (m : Machine) → Ready (length set.files) m → Less (length set.files) (heft (length set.files) m) (move set m)
move_less set m r = acted_less (length set.files) (heft (length set.files) m) m.calls (step set m.state)
    (step_falls (length m.calls) (heft (length set.files) m) set m.state (record { spent = r.spent; loaded = r.loaded; is = refl; uses = r.uses; names = r.names }))
