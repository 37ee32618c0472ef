-- What statements do (IEEE 1800-2017 clauses 9.3.1, 10.4, 12 and 13). A run goes over a fixed valuation, with what it has
-- written so far.
use Rattle.std.specs.Prelude.{ℕ, zero, suc, ◌-◌, max, Bool, true, false, ◌&&◌, ◌||◌, not, cond, List, [], ◌∷◌, length, drop, zip, Option, Some, None}
use Rattle.std.specs.List.{list_any, list_all}
use Rattle.b4_core.specs.declared.bit.Bit4.{Bit4}
use Rattle.b4_core.specs.declared.bit.Bit4.TheVariants.{Zero, One, X, Z}
use Rattle.b4_core.specs.Bits.{known4, is_one, same4}
use Rattle.b4_core.specs.Vectors.{ext}
use Rattle.picks.specs.RowMachine.{Changes, put}
use Rattle.picks.specs.RowMachine.{then_changes}
use Rattle.sv_types.specs.declared.statement.CaseKind.{CaseKind}
use Rattle.sv_types.specs.declared.statement.CaseKind.TheVariants as K
use Rattle.sv_types.specs.declared.statement.Outcome.{Outcome}
use Rattle.sv_types.specs.declared.statement.Outcome.TheVariants.{Normal, Break, Continue, Return}
use Rattle.sv_types.specs.declared.statement.Way.{Way}
use Rattle.sv_types.specs.declared.statement.Way.TheVariants as W
use Rattle.sv_types.specs.Layouts.{default_bits}
use Rattle.sv_types.specs.Windows.{whole, written}
use Rattle.sv_types.specs.Surroundings.{Around, Parameter, local_number}
use Rattle.sv_types.specs.Meanings.{Meaning, wide, signed, alone}
use Rattle.sv_types.specs.Operators.{truth, width_of_all, puts_all, assigned_to}

-- What a run has written by blocking assignments, what is pending of its nonblocking ones, and how it ends.
pub record State : Type 0 where
  pub written : Changes
  pub pending : Changes
  pub outcome : Outcome

abbrev pub Run : Type 0
Run = Around → State → State

-- what signals and locals hold at some point of a run
abbrev pub current : Around → State → Around
current a s = record a { now = put s.written a.now }

abbrev pub is_normal : Outcome → Bool
is_normal Normal = true
is_normal Break = false
is_normal Continue = false
is_normal Return = false

abbrev pub idle : Run
idle a s = s

-- one of two
abbrev pub one_of : Bool → Run → Run → Run
one_of true r o = r
one_of false r o = o

-- one after the other, until one doesn't end normally
abbrev pub in_turn : List Run → Run
in_turn [] a s = s
in_turn (r ∷ rs) a s = one_of (is_normal s.outcome) (λ b u. in_turn rs b (r b u)) idle a s

-- `break`, `continue` and `return`
abbrev pub jump : Outcome → Run
jump o a s = record s { outcome = o }

abbrev pub assign_now : Changes → State → State
assign_now c s = record s { written = then_changes s.written c }

abbrev pub assign_later : Changes → State → State
assign_later c s = record s { pending = then_changes s.pending c }

-- what an assignment gives to all parts of its target together; a stream as target takes the bits from the top
abbrev pub value_given : List Meaning → Meaning → Around → List Bit4
value_given to value a =
    let n = width_of_all to in
    cond (list_any (λ (m : Meaning). m.streams) to) (drop (wide value - n) (alone value a)) (value.given n a)

-- what it changes; the indices of all parts are valued before the first part is written
abbrev pub changes_of : List Meaning → Meaning → Around → Changes
changes_of to value a = puts_all to a (value_given to value a)

abbrev pub assign : Bool → List Meaning → Meaning → Run
assign false to value a s = assign_now (changes_of to value (current a s)) s
assign true to value a s = assign_later (changes_of to value (current a s)) s

-- a condition is true where a bit of it is 1
abbrev pub is_true : Meaning → Around → Bool
is_true m a = is_one (truth m a)

abbrev pub branch : Meaning → Run → Run → Run
branch on body other a s = one_of (is_true on (current a s)) body other a s

-- whether a place of a selector and one of an item match (clause 12.5.1)
abbrev pub is_z : Bit4 → Bool
is_z Zero = false
is_z One = false
is_z X = false
is_z Z = true

abbrev pub match4 : CaseKind → Bit4 → Bit4 → Bool
match4 K.Plain p q = same4 p q
match4 K.Z p q = same4 p q || (is_z p || is_z q)
match4 K.X p q = same4 p q || not (known4 p && known4 q)

abbrev pub agree : CaseKind → List Bit4 → List Bit4 → Bool
agree kind u v = list_all (λ p. match4 kind p.0 p.1) (zip u v)

-- a selector as it is compared: how, at which width and sign, and its value
pub record Selector : Type 0 where
  pub kind : CaseKind
  pub width : ℕ
  pub signed : Bool
  pub value : List Bit4

abbrev pub matches : Selector → Around → Meaning → Bool
matches on a m = agree on.kind on.value (m.value on.width on.signed a)

-- an item of a `case`: its values and what it runs
pub record ItemRun : Type 0 where
  pub values : List Meaning
  pub run : Run

-- the first item of which a value matches
abbrev pub first_match : Selector → List ItemRun → Run → Run
first_match on [] other a u = other a u
first_match on (i ∷ is) other a u = one_of (list_any (matches on (current a u)) i.values) i.run (first_match on is other) a u

-- the selector and all items have the largest width, and a sign only if all have one
abbrev pub widest_of : List Meaning → ℕ
widest_of [] = 0
widest_of (m ∷ ms) = max (wide m) (widest_of ms)

abbrev pub all_signed : List Meaning → Bool
all_signed ms = list_all signed ms

abbrev pub selector : CaseKind → Meaning → List Meaning → Around → Selector
selector kind on values a =
    let w = widest_of (on ∷ values) in
    let s = all_signed (on ∷ values) in
    record { kind = kind; width = w; signed = s; value = on.value w s a }

abbrev pub select : CaseKind → Meaning → List Meaning → List ItemRun → Run → Run
select kind on values is other a u = first_match (selector kind on values (current a u)) is other a u

-- writes all bits of a local
abbrev pub set_local : ℕ → List Bool → List Bit4 → Changes
set_local n two_state v = written (local_number n) (whole (length two_state)) v

-- what a local starts with
abbrev pub start_of : List Bool → Option Meaning → Around → List Bit4
start_of two_state None a = default_bits two_state
start_of two_state (Some m) a = assigned_to two_state m a

-- a local starts anew each time
abbrev pub start : ℕ → List Bool → Option Meaning → Run
start n two_state first a s = assign_now (set_local n two_state (start_of two_state first (current a s))) s

-- an assignment to the variable of a loop, which has the type of its first value
abbrev pub set_variable : ℕ → List Bool → Meaning → Run
set_variable n two_state m a s = assign_now (set_local n two_state (assigned_to two_state m (current a s))) s

-- what follows a turn: a `break` ends the loop, and a `return` the function
abbrev pub after_turn : Outcome → Run → Run
after_turn Normal next a s = next a s
after_turn Continue next a s = next a (record s { outcome = Normal })
after_turn Break next a s = record s { outcome = Normal }
after_turn Return next a s = s

-- the turns of a loop, which are at most so many
unfoldable pub turns : ℕ → Meaning → Run → Run → Run
turns zero test body step a s = s
turns (suc n) test body step a s =
    one_of (is_true test (current a s))
    (λ b u. let after = body b u in after_turn after.outcome (λ c v. turns n test body step c (step c v)) b after) idle a s

-- no loop makes more turns
abbrev pub most_turns : ℕ
most_turns = 65536

abbrev pub loop : ℕ → Meaning → Meaning → Meaning → Run → Run
loop n first test step body a s =
    let marks = first.of.two_state in
    turns most_turns test body (set_variable n marks step) a (set_variable n marks first a s)

-- what is passed to a formal: an actual, or the default where it is an output
abbrev pub taken_in : Way → List Bool → Meaning → Around → List Bit4
taken_in W.Input two_state m a = assigned_to two_state m a
taken_in W.Output two_state m a = default_bits two_state
taken_in W.Inout two_state m a = assigned_to two_state m a

abbrev pub all_taken_in : List Parameter → List Meaning → Around → List (List Bit4)
all_taken_in [] ms a = []
all_taken_in (p ∷ ps) [] a = []
all_taken_in (p ∷ ps) (m ∷ ms) a = taken_in p.way p.two_state m a ∷ all_taken_in ps ms a

-- the formal's last value is assigned to the actual
abbrev pub copy_out : Parameter → Meaning → List Bit4 → Run
copy_out p m v a s = assign_now (m.puts (current a s) (ext (wide m) p.signed v)) s

abbrev pub copied_out : Way → Run → Run
copied_out W.Input r = idle
copied_out W.Output r = r
copied_out W.Inout r = r

abbrev pub copies_out : List Parameter → List Meaning → List (List Bit4) → Run
copies_out [] ms vs a s = s
copies_out (p ∷ ps) [] vs a s = s
copies_out (p ∷ ps) (m ∷ ms) [] a s = s
copies_out (p ∷ ps) (m ∷ ms) (v ∷ vs) a s = copies_out ps ms vs a (copied_out p.way (copy_out p m v) a s)

-- A call of a task or void function (clause 13.5): the inputs are passed, the body runs in locals of its own, and the
-- outputs are assigned in the order of the formals.
abbrev pub call_routine : ℕ → List Meaning → Run
call_routine f ms a s =
    let callee = a.callee f in
    copies_out callee.formals ms (callee.run (all_taken_in callee.formals ms (current a s))).finals a s
