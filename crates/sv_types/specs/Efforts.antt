-- What of a run statements take: how many statements run, and what stops them. A run that stopped goes no further.
use Rattle.std.specs.Prelude.{ℕ, zero, suc, Bool, true, false, cond, List, [], ◌∷◌, Option, Some, None}
use Rattle.std.specs.List.{list_any}
use Rattle.b4_core.specs.declared.bit.Bit4.{Bit4}
use Rattle.sv_types.specs.declared.statement.Outcome.{Outcome}
use Rattle.sv_types.specs.declared.statement.Outcome.TheVariants.{Normal, Break, Continue, Return}
use Rattle.sv_types.specs.declared.statement.Way.{Way}
use Rattle.sv_types.specs.declared.statement.Way.TheVariants as W
use Rattle.sv_types.specs.Surroundings.{Around, Parameter, Tally, Stop, stopped, counted, onward}
use Rattle.sv_types.specs.Meanings.{Meaning}
use Rattle.sv_types.specs.Operators.{places_all}
use Rattle.sv_types.specs.Runs.{State, Run, Selector, current, is_normal, is_true, matches, set_variable, most_turns, all_taken_in, copy_out, copied_out}

abbrev pub Effort : Type 0
Effort = Around → State → Tally → Tally

-- what a statement does, and what it takes
pub record Step : Type 0 where
  pub run : Run
  pub effort : Effort

abbrev pub no_effort : Effort
no_effort a s t = t

-- one of the statements that are counted
abbrev pub statement : Effort → Effort
statement e a s t = onward (e a s) (counted t)

abbrev pub one_of : Bool → Effort → Effort → Effort
one_of true e o = e
one_of false e o = o

abbrev pub in_turn : List Step → Effort
in_turn [] a s t = t
in_turn (d ∷ ds) a s t = one_of (is_normal s.outcome) (λ b u v. onward (in_turn ds b (d.run b u)) (d.effort b u v)) no_effort a s t

-- the indices of all parts of the target, and then the value
abbrev pub assign : List Meaning → Meaning → Effort
assign to value a s t = let e = current a s in onward (value.values e) (places_all to e t)

abbrev pub branch : Meaning → Effort → Effort → Effort
branch on body other a s t =
    let e = current a s in
    onward (one_of (is_true on e) body other a s) (on.values e t)

-- the values of an item, until one matches
abbrev pub tried : Selector → List Meaning → Around → Tally → Tally
tried on [] a t = t
tried on (m ∷ ms) a t = onward (λ u. let rest = tried on ms a u in cond (matches on a m) u rest) (m.values a t)

pub record ItemEffort : Type 0 where
  pub values : List Meaning
  pub effort : Effort

abbrev pub first_match : Selector → List ItemEffort → Effort → Effort
first_match on [] other a s t = other a s t
first_match on (i ∷ is) other a s t =
    let e = current a s in
    onward (one_of (list_any (matches on e) i.values) i.effort (first_match on is other) a s) (tried on i.values e t)

abbrev pub select : (Around → Selector) → Meaning → List ItemEffort → Effort → Effort
select selector on is other a s t =
    let e = current a s in
    onward (first_match (selector e) is other a s) (on.values e t)

abbrev pub start : Option Meaning → Effort
start None a s t = t
start (Some m) a s t = m.values (current a s) t

abbrev pub after_turn : Outcome → Effort → Effort
after_turn Normal next a s t = next a s t
after_turn Continue next a s t = next a (record s { outcome = Normal }) t
after_turn Break next a s t = t
after_turn Return next a s t = t

-- a loop that wants one turn more than there may be stops
unfoldable pub turns : ℕ → Meaning → Step → Step → Effort
turns zero test body step a s t =
    let e = current a s in
    onward (λ u. cond (is_true test e) (stopped Stop.Turns u) u) (test.values e t)
turns (suc n) test body step a s t =
    let e = current a s in
    let next = λ (b : Around) (u : State) (v : Tally). onward (turns n test body step b (step.run b u)) (step.effort b u v) in
    let turn = λ (b : Around) (u : State) (v : Tally). let after = body.run b u in onward (after_turn after.outcome next b after) (body.effort b u v) in
    onward (one_of (is_true test e) turn no_effort a s) (test.values e t)

abbrev pub set_variable_step : ℕ → List Bool → Meaning → Step
set_variable_step n two_state m = record { run = set_variable n two_state m; effort = λ a s t. m.values (current a s) t }

abbrev pub loop : ℕ → Meaning → Meaning → Meaning → Step → Effort
loop n first test step body a s t =
    let marks = first.of.two_state in
    onward (turns most_turns test body (set_variable_step n marks step) a (set_variable n marks first a s)) (first.values (current a s) t)

abbrev pub takes_in : Way → Meaning → Around → Tally → Tally
takes_in W.Input m a t = m.values a t
takes_in W.Output m a t = t
takes_in W.Inout m a t = m.values a t

abbrev pub all_take_in : List Parameter → List Meaning → Around → Tally → Tally
all_take_in [] ms a t = t
all_take_in (p ∷ ps) [] a t = t
all_take_in (p ∷ ps) (m ∷ ms) a t = onward (all_take_in ps ms a) (takes_in p.way m a t)

abbrev pub places_out : Way → Meaning → Around → Tally → Tally
places_out W.Input m a t = t
places_out W.Output m a t = m.places a t
places_out W.Inout m a t = m.places a t

abbrev pub copies_out : List Parameter → List Meaning → List (List Bit4) → Effort
copies_out [] ms vs a s t = t
copies_out (p ∷ ps) [] vs a s t = t
copies_out (p ∷ ps) (m ∷ ms) [] a s t = t
copies_out (p ∷ ps) (m ∷ ms) (v ∷ vs) a s t =
    onward (copies_out ps ms vs a (copied_out p.way (copy_out p m v) a s)) (places_out p.way m (current a s) t)

abbrev pub call_routine : ℕ → List Meaning → Effort
call_routine f ms a s t =
    let callee = a.callee f in
    let e = current a s in
    let inputs = all_taken_in callee.formals ms e in
    onward (copies_out callee.formals ms (callee.run inputs).finals a s) (onward (callee.effort inputs) (all_take_in callee.formals ms e t))

-- statements that don't count
abbrev pub uncounted : Effort → Effort
uncounted e a s t =
    let after = e a s (record { left = None; stop = t.stop }) in
    record { left = t.left; stop = after.stop }
