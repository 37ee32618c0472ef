-- Writes, and what they make of a state of a run.
use Rattle.std.proofs.Common.{◌≡◌, ℕ, ◌^◌, ◌<◌, Bool, true, cond, arith, List, [], ◌∷◌, ◌++◌, length, replicate, get_or, set, Option, Some, None, refl, ap, sym, ◌∙◌, subst}
use Rattle.std.specs.Prelude.{Result, Ok, Err, IfOk}
use Rattle.std.proofs.Math.Path.{fun_ext}
use Rattle.std.proofs.lemmas.Bool.Decides.{nat_tests}
use Rattle.b4_core.specs.declared.bit.Bit4.{Bit4}
use Rattle.row_machine.specs.Valuation.{Valuation, Changes, put, changed}
use Rattle.row_machine.specs.Steps.{unchanged, then_changes, later_or}
use Rattle.sv_types.specs.declared.statement.Outcome.{Outcome}
use Rattle.sv_types.specs.Surroundings.{Around}
use Rattle.b4_core.specs.declared.bit.Bit4.TheVariants.{X}
use Rattle.eval_exprs.specs.Picks.{Window, whole, written}
use Rattle.sv_types.specs.declared.expression.Expr.{Expr}
use Rattle.sv_types.specs.declared.statement.Local.{Local}
use Rattle.sv_types.specs.declared.statement.Outcome.TheVariants.{Normal}
use Rattle.sv_types.specs.Layouts.{stored, stored_bit, default_bits}
use Rattle.sv_types.specs.Surroundings.{Tally, local_number, is_signal}
use Rattle.sv_types.specs.Meanings.{Meaning, written_at}
use Rattle.sv_types.specs.Operators.{assigned_to}
use Rattle.sv_types.specs.Expressions.{meaning}
use Rattle.sv_types.specs.Runs.{State, current, assign_now, assign_later, set_local, start}
use Rattle.sv_types.specs.Efforts as E
use Rattle.sv_types.specs.Efforts.{Step}
use Rattle.sv_types.specs.Statements.{initial_of, marks_of}
use Rattle.eval_parts.specs.declared.paths.Root.TheVariants as P
use Rattle.eval_parts.specs.Places.{window_of, number_of}
use Rattle.eval_parts.specs.Surroundings.{running}
use Rattle.eval_store.specs.Writes.{Slot, SlotWritten, SignalWritten, LocalWritten}
use Rattle.eval_store.proofs.Storing.{signal-written, held-there, get-any}
use Rattle.eval_parts.specs.Steps.{is_held, can_read}
use Rattle.eval_parts.specs.Surroundings.{now_of}
use Rattle.eval_exprs.specs.declared.held.Scope.{Scope}
use Rattle.eval_exprs.specs.Held.{callees_in}
use Rattle.eval_stmts.specs.declared.env.Env.{Env}
use Rattle.eval_stmts.specs.declared.env.Update.{Update}
use Rattle.eval_stmts.specs.Environments.{standing, update_of, updates, SameSlots, Written, Pends}
use Rattle.eval_stmts.specs.Stepping.{IsAt, Does, start_step}
use Rattle.eval_stmts.proofs.Chains.{same-at}

later-changed : (c d : Option Bit4) (b : Bit4) → changed (later_or d c) b ≡ changed d (changed c b)
later-changed c None b = refl
later-changed c (Some x) b = refl

pub put-then : (c d : Changes) (v : Valuation) → put (then_changes c d) v ≡ put d (put c v)
put-then c d v = fun_ext (λ q. later-changed (c q) (d q) (v q))

later-none : (c : Option Bit4) → later_or c None ≡ c
later-none None = refl
later-none (Some b) = refl

pub then-nothing : (c : Changes) → then_changes unchanged c ≡ c
then-nothing c = fun_ext (λ q. later-none (c q))

later-assoc : (c d e : Option Bit4) → later_or (later_or e d) c ≡ later_or e (later_or d c)
later-assoc c d None = refl
later-assoc c d (Some b) = refl

pub then-assoc : (c d e : Changes) → then_changes c (then_changes d e) ≡ then_changes (then_changes c d) e
then-assoc c d e = fun_ext (λ q. later-assoc (c q) (d q) (e q))

pub updates-append : (us vs : List Update) → updates (us ++ vs) ≡ then_changes (updates us) (updates vs)
updates-append [] vs = sym (then-nothing (updates vs))
updates-append (u ∷ us) vs = ap (then_changes (update_of u)) (updates-append us vs) ∙ then-assoc (update_of u) (updates us) (updates vs)

-- a state after a blocking assignment
pub wrote : (sc : Scope) (old new : Env) (c : Changes) (a : Around) (s : State) (o : Outcome) → Written old new c → IsAt sc old a s o → IsAt sc new a (assign_now c s) o
wrote sc old new c a s o w i =
    let by : Valuation → (ℕ → Bool) → Around = λ v h. record { now = v; holds = h; callee = callees_in sc } in
    record {
      now = ap (λ v. by v (is_held new.signals.items)) w.now ∙ ap (by (put c (now_of old.signals.items old.locals.items))) w.holds
          ∙ ap (λ (b : Around). record b { now = put c b.now }) i.now
          ∙ ap (λ v. record a { now = v }) (sym (put-then s.written c a.now));
      pending = ap updates w.pending ∙ i.pending;
      outcome = i.outcome;
    }

-- and after a nonblocking one
pub waits : (sc : Scope) (old new : Env) (c : Changes) (a : Around) (s : State) (o : Outcome) → Pends old new c → IsAt sc old a s o → IsAt sc new a (assign_later c s) o
waits sc old new c a s o w i =
    let by : List _ → List _ → Around = λ ss ls. record { now = now_of ss ls; holds = is_held ss; callee = callees_in sc } in
    record {
      now = ap (λ ss. by ss new.locals.items) w.signals ∙ ap (by old.signals.items) w.locals ∙ i.now;
      pending = w.pending ∙ ap (λ d. then_changes d c) i.pending;
      outcome = i.outcome;
    }

-- a signal that can be written is held
pub signal-held : (u : Update) (n : ℕ) (ss : List Slot) → u.to.root ≡ P.Signal n → n < 2 ^ 32 → can_read (number_of u.to.root) (is_held ss) ≡ true → is_held ss n ≡ true
signal-held u n ss is below h =
    let low : is_signal n ≡ true = grind (arith, nat_tests) in
    sym (ap (λ b. cond b (is_held ss n) true) low) ∙ subst (λ r. can_read (number_of r) (is_held ss) ≡ true) is h

-- what is written of slots
pub slot-writes : (ss : List Slot) (n : ℕ) (x slot : Slot) (path : Window) (bits : List Bit4) → n < 2 ^ 32 → is_held ss n ≡ true → x ≡ get_or ss n x → SlotWritten x slot path bits → SignalWritten ss (set ss n slot) n path bits
slot-writes ss n x slot path bits low held is w =
    signal-written ss n slot path bits low (held-there ss n held) held (subst (λ y. SlotWritten y slot path bits) (is ∙ get-any ss n x None (held-there ss n held)) w)

pub signal-now : (u : Update) (n : ℕ) (ss new ls : List Slot) → u.to.root ≡ P.Signal n → SignalWritten ss new n (window_of u.to.window) u.bits → now_of new ls ≡ put (update_of u) (now_of ss ls)
signal-now u n ss new ls is w = w.now ls ∙ ap (λ r. put (written_at (number_of r) (window_of u.to.window) u.bits) (now_of ss ls)) (sym is)

pub signals-held : (n : ℕ) (ss new : List Slot) (path : Window) (bits : List Bit4) → SignalWritten ss new n path bits → is_held new ≡ is_held ss
signals-held n ss new path bits w = fun_ext w.held

pub local-now : (u : Update) (n : ℕ) (ss ls new : List Slot) → u.to.root ≡ P.Local n → LocalWritten ls new n (window_of u.to.window) u.bits → now_of ss new ≡ put (update_of u) (now_of ss ls)
local-now u n ss ls new is w = w.now ss ∙ ap (λ r. put (written_at (number_of r) (window_of u.to.window) u.bits) (now_of ss ls)) (sym is)

pub whole-now : (n w : ℕ) (marks : List Bool) (path : Window) (bits : List Bit4) (ss ls new : List Slot) → path ≡ whole w → w ≡ length marks → LocalWritten ls new n path bits → now_of ss new ≡ put (set_local n marks bits) (now_of ss ls)
whole-now n w marks path bits ss ls new is long wrote = wrote.now ss ∙ ap (λ p. put (written (local_number n) p bits) (now_of ss ls)) (is ∙ ap whole long)

-- x in each bit, as it is stored
pub all-default : (marks : List Bool) → stored marks (replicate (length marks) X) ≡ default_bits marks
all-default [] = refl
all-default (b ∷ marks) = ap (λ bs. stored_bit b X ∷ bs) (all-default marks)

-- a local that is set
abbrev pub set_step : ℕ → List Bool → (Around → List Bit4) → (Around → Tally → Tally) → Step
set_step n marks value effort = record { run = λ a s. assign_now (set_local n marks (value (current a s))) s; effort = λ a s t. effort (current a s) t }

pub sets : (sc : Scope) (n : ℕ) (marks : List Bool) (value : Around → List Bit4) (effort : Around → Tally → Tally) (old mid new : Env) (bits : List Bit4) → SameSlots old mid → bits ≡ value (standing sc old)
    → effort (standing sc old) (running old.budget) ≡ running mid.budget → Written mid new (set_local n marks bits) → Does sc (set_step n marks value effort) old new Normal
sets sc n marks value effort old mid new bits same is ran w = record {
  holds = w.holds ∙ ap is_held same.signals;
  at = λ a s i. record {
    is = subst (λ v. IsAt sc new a (assign_now (set_local n marks v) s) Normal) (is ∙ ap value i.now) (wrote sc mid new (set_local n marks bits) a s Normal w (same-at sc old mid a s Normal same i));
    effort = ap (λ b. effort b (running old.budget)) (sym i.now) ∙ ran ∙ ap running (sym w.budget);
  };
}

abbrev meant : Option Expr → Option Meaning
meant None = None
meant (Some e) = Some (meaning e)

abbrev start_by : ℕ → List Bool → Option Meaning → Step
start_by n marks first = record { run = start n marks first; effort = E.start first }

meant-is : (l : Local) (o : Option Expr) → l.initial ≡ o → initial_of l ≡ meant o
meant-is l o is = by l.initial o is
  where
    by : (x o : Option Expr) → x ≡ o → (elim x as (λ y. Option Meaning) [ None ↦ None | Some e ↦ Some (meaning e) ]) ≡ meant o
    by x None is = ap (λ (x : Option Expr). elim x as (λ y. Option Meaning) [ None ↦ None | Some e ↦ Some (meaning e) ]) is
    by x (Some e) is = ap (λ (x : Option Expr). elim x as (λ y. Option Meaning) [ None ↦ None | Some e ↦ Some (meaning e) ]) is

pub starts-empty : (sc : Scope) (l : Local) (old new : Env) (bits : List Bit4) → l.initial ≡ None → bits ≡ default_bits (marks_of l) → Written old new (set_local l.number (marks_of l) bits) → Does sc (start_step l) old new Normal
starts-empty sc l old new bits none is w =
    subst (λ o. Does sc (start_by l.number (marks_of l) o) old new Normal) (sym (meant-is l None none))
    (sets sc l.number (marks_of l) (λ a. default_bits (marks_of l)) (λ a t. t) old old new bits (record { signals = refl; locals = refl; pending = refl }) is refl w)

pub starts-with : (sc : Scope) (l : Local) (e : Expr) (old mid new : Env) (bits : List Bit4) → l.initial ≡ Some e → SameSlots old mid → bits ≡ assigned_to (marks_of l) (meaning e) (standing sc old)
    → (meaning e).values (standing sc old) (running old.budget) ≡ running mid.budget → Written mid new (set_local l.number (marks_of l) bits) → Does sc (start_step l) old new Normal
starts-with sc l e old mid new bits some same is ran w =
    subst (λ o. Does sc (start_by l.number (marks_of l) o) old new Normal) (sym (meant-is l (Some e) some))
    (sets sc l.number (marks_of l) (λ a. assigned_to (marks_of l) (meaning e) a) (λ a t. (meaning e).values a t) old mid new bits same is ran w)

pub if-ok : {T E : Type 0} {P Q : T → Type 0} → ((v : T) → P v → Q v) → (r : Result T E) → IfOk r P → IfOk r Q
if-ok f (Ok v) h = f v h
if-ok f (Err e) h = tt
