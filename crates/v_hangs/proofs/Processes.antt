-- On which signals processes hang, and which they write.
use Rattle.std.proofs.Common.{◌≡◌, ℕ, ◌+◌, ◌≤◌, ◌==◌, Bool, true, false, ◌&&◌, ◌||◌, not, pos, ◌-ℤ◌, List, [], ◌∷◌, Some, None, refl, sym, ap, ◌∙◌, true≢false, arith}
use Rattle.std.specs.Prelude.{cond, nat_le, nat_lt, slice_index_or}
use Rattle.std.specs.Str.{bytes_eq}
use Rattle.b4_core.specs.declared.bit.Bit4.{Bit4}
use Rattle.b4_core.specs.declared.bit.Bit4.TheVariants.{X}
use Rattle.b4_core.specs.Vectors.{ext}
use Rattle.row_machine.specs.Valuation.{Place, Valuation}
use Rattle.std.proofs.lemmas.Bool.Decides.{nat_tests}
use Rattle.picks.specs.Windows.{whole, within, at_least_0}
use Rattle.v_tree.specs.Names.{Name}
use Rattle.v_meaning.specs.Scopes.{Named, Scope, Use, named, all_bits, is_signal}
use Rattle.v_meaning.specs.Values.{meaning}
use Rattle.v_meaning.specs.Runs.{State, begun}
use Rattle.v_meaning.specs.Statements.{target}
use Rattle.v_meaning.specs.Modules.{scope_of, port_target, port_value}
use Rattle.v_footprints.specs.Footprints.{uses, reached, Alike, ValueHangs, TargetHangs, FunctionsHang, RunHangs, Sized, TargetWrites, RunWrites}
use Rattle.v_footprints.proofs.Uses.{alike-at, vector-alike}
use Rattle.v_footprints.proofs.Values.{expressions_hang}
use Rattle.v_footprints.proofs.Runs.{targets_hang, statements_hang, assignment-hangs}
use Rattle.v_footprints.proofs.Calls.{modules_hang}
use Rattle.v_footprints.proofs.Writes.{targets_write, statements_write, assignment-writes}
use Rattle.v_processes.specs.declared.process.Does.{Does}
use Rattle.v_processes.specs.declared.process.Does.TheVariants as D
use Rattle.v_processes.specs.Processes.{does_in, port_named}
use Rattle.v_steps.specs.Steps.{ran}
use Rattle.v_stores.specs.Waits.{is_named, place}
use Rattle.v_hangs.specs.Hangs.{SameSignals, PortIsSignal}
use Rattle.v_hangs.specs.Laws.{LocalsDontCount, HangsOnReads, WritesOnlyUses}
use Rattle.v_hangs.proofs.Same.{ValueSame, TargetSame, RunSame, FunctionsSame, vector-same}
use Rattle.v_hangs.proofs.Values.{expressions-same}
use Rattle.v_hangs.proofs.Runs.{targets-same, assignment-same, branch-same}
use Rattle.v_hangs.proofs.Calls.{module-low, module-functions}

-- ports
into-same : (port : Named) (sc : Scope) → TargetSame (port_target port) sc
into-same port sc = record { same = λ v w a bits. refl }

from-same : (port : Named) (sc : Scope) → is_signal port.number ≡ true → ValueSame (port_value port) sc
from-same port sc h = record { same = λ v w a n s. ap (ext n s) (vector-same v w port.number (all_bits port) (λ k l. a.signals.same (place port.number k) h)) }

into-hangs : (port : Named) (sc : Scope) → TargetHangs (port_target port) sc
into-hangs port sc = record { same = λ v w a bits. refl }

from-hangs : (port : Named) (sc : Scope) → ValueHangs (port_value port) sc
from-hangs port sc = record { same = λ v w a n s. ap (ext n s) (vector-alike v w port.number (alike-at _ v w a) (all_bits port)) }

-- what a process does
does-same : (d : Does) (sc : Scope) → PortIsSignal d → FunctionsSame sc → RunSame (does_in d sc).does sc
does-same (D.Assign to value) sc p f = assignment-same false (target to.now) (meaning value.now) sc (targets-same to.now sc f) (expressions-same value.now sc f)
does-same (D.Star body) sc p f = branch-same body.now sc f
does-same (D.Edges edges body) sc p f = branch-same body.now sc f
does-same (D.Into port value) sc p f = assignment-same false (port_target (port_named port)) (meaning value.now) sc (into-same (port_named port) sc) (expressions-same value.now sc f)
does-same (D.From to port) sc p f = assignment-same false (target to) (port_value (port_named port)) sc (targets-same to sc f) (from-same (port_named port) sc p)

does-hangs : (d : Does) (sc : Scope) → FunctionsHang sc → RunHangs (does_in d sc).does sc
does-hangs (D.Assign to value) sc f = assignment-hangs false (target to.now) (meaning value.now) sc (targets_hang to.now sc f) (expressions_hang value.now sc f)
does-hangs (D.Star body) sc f = statements_hang body.now sc f
does-hangs (D.Edges edges body) sc f = statements_hang body.now sc f
does-hangs (D.Into port value) sc f = assignment-hangs false (port_target (port_named port)) (meaning value.now) sc (into-hangs (port_named port) sc) (expressions_hang value.now sc f)
does-hangs (D.From to port) sc f = assignment-hangs false (target to) (port_value (port_named port)) sc (targets_hang to sc f) (from-hangs (port_named port) sc)

its-scope : (d : Does) (sc : Scope) → (does_in d sc).scope ≡ sc
its-scope (D.Assign to value) sc = refl
its-scope (D.Star body) sc = refl
its-scope (D.Edges edges body) sc = refl
its-scope (D.Into port value) sc = refl
its-scope (D.From to port) sc = refl

ran-in : (d : Does) (sc : Scope) (v : Valuation) → ran (does_in d sc) v ≡ (does_in d sc).does.run sc v begun
ran-in d sc v = ap (λ (s : Scope). (does_in d sc).does.run s v begun) (its-scope d sc)

-- what a valuation holds in locals doesn't count
pub locals_dont_count : LocalsDontCount
locals_dont_count d first items few port v w same =
    let sc = scope_of first items in
    let low = module-low first items few in
    ran-in d sc v
    ∙ (does-same d sc port (module-functions first items few)).same v w begun (record { signals = same; names = λ name k l. same.same (place (named sc.names name).number k) (low.low name) })
    ∙ sym (ran-in d sc w)

-- only what it reads of signals does
abbrev on-signals : Valuation → Valuation
on-signals v q = cond (is_signal q.signal) (v q) X

on-signals-same : (v : Valuation) → SameSignals v (on-signals v)
on-signals-same v = record { same = λ q e. sym (ap (λ b. cond b (v q) X) e) }

read-alike : (us : List Use) (ns : List ℕ) (v w : Valuation) → ((n : ℕ) → is_signal n ≡ true → uses us n ≡ true → is_named ns n ≡ true) → ((q : Place) → is_named ns q.signal ≡ true → v q ≡ w q)
    → Alike us (on-signals v) (on-signals w)
read-alike us ns v w listed h = record { same = λ q e. by q (is_signal q.signal) refl e }
  where
    by : (q : Place) (b : Bool) → is_signal q.signal ≡ b → (not b || uses us q.signal) ≡ true → cond b (v q) X ≡ cond b (w q) X
    by q true is e = h q (listed q.signal is e)
    by q false is e = refl

both-true : (a b : Bool) → a ≡ true → b ≡ true → (a && b) ≡ true
both-true true b f g = g
both-true false b f g = absurd (true≢false (sym f))

pub hangs_on_reads : HangsOnReads
hangs_on_reads d first items few port ns listed = record {
  same = λ v w h.
      let sc = scope_of first items in
      let hangs = does-hangs d sc (modules_hang first items) in
      locals_dont_count d first items few port v (on-signals v) (on-signals-same v)
      ∙ ran-in d sc (on-signals v)
      ∙ hangs.same (on-signals v) (on-signals w) (read-alike ((does_in d sc).does.reads sc) ns v w (λ n is u. listed.same n ∙ both-true (is_signal n) (uses ((does_in d sc).does.reads sc) n) is u) h) begun
      ∙ sym (ran-in d sc (on-signals w))
      ∙ sym (locals_dont_count d first items few port w (on-signals w) (on-signals-same w));
}

-- all bits of all names
abbrev total : List Named → ℕ
total [] = 0
total (n ∷ ns) = all_bits n + total ns

all-sized : (ns : List Named) (name : Name) → all_bits (named ns name) ≤ total ns
all-sized [] name = omega arith
all-sized (n ∷ ns) name = by (bytes_eq n.name name) (all-sized ns name)
  where
    by : (b : Bool) → all_bits (named ns name) ≤ total ns → all_bits (cond b n (named ns name)) ≤ all_bits n + total ns
    by true go = omega arith
    by false go = omega (arith, go)

sized : (sc : Scope) (k : ℕ) → Sized (λ n. total sc.names + k) sc
sized sc k = record { sized = λ name e. (let h = all-sized sc.names name in omega (arith, h)) }

reaches : (a b k width : ℕ) → ((a == b) && (nat_le 0 k && nat_lt k width)) ≡ true → (((b == a) || false) && nat_lt k width) ≡ true
reaches a b k width h = grind (arith, nat_tests)

wider : (k a b : ℕ) → a ≤ b → nat_lt k b ≡ false → nat_lt k a ≡ false
wider k a b h e = grind (arith, nat_tests)

into-writes : (size : ℕ) (port : Named) (sc : Scope) → all_bits port ≤ size → TargetWrites (λ n. size) (port_target port) sc
into-writes size port sc h = record { none = λ v bits q s r. by bits q r ((q.signal == port.number) && within (whole (all_bits port)) q.bit) refl }
  where
    less : (a : Bool) (k width most : ℕ) → width ≤ most → (a && nat_lt k most) ≡ false → (a && nat_lt k width) ≡ false
    less true k width most l e = wider k width most l e
    less false k width most l e = refl

    by : (bits : List Bit4) (q : Place) → reached (λ n. size) (record { number = port.number; low = 0; high = all_bits port } ∷ []) q ≡ false → (b : Bool) → ((q.signal == port.number) && within (whole (all_bits port)) q.bit) ≡ b
        → cond b (Some (slice_index_or bits (at_least_0 (pos q.bit -ℤ pos 0)) X)) None ≡ None
    by bits q r true e = absurd (true≢false (sym (reaches q.signal port.number q.bit (all_bits port) e) ∙ less ((port.number == q.signal) || false) q.bit (all_bits port) size h r))
    by bits q r false e = refl

-- the bits of the port that a process writes
abbrev port_bits : Does → ℕ
port_bits (D.Assign to value) = 0
port_bits (D.Star body) = 0
port_bits (D.Edges edges body) = 0
port_bits (D.Into port value) = port.bits
port_bits (D.From to port) = 0

abbrev size_in : Does → Scope → ℕ → ℕ
size_in d sc n = total sc.names + port_bits d

does-writes : (d : Does) (sc : Scope) → RunWrites (size_in d sc) (does_in d sc).does sc
does-writes (D.Assign to value) sc = assignment-writes _ false (target to.now) (meaning value.now) sc (targets_write _ to.now sc (sized sc 0))
does-writes (D.Star body) sc = statements_write _ body.now sc (sized sc 0)
does-writes (D.Edges edges body) sc = statements_write _ body.now sc (sized sc 0)
does-writes (D.Into port value) sc = assignment-writes _ false (port_target (port_named port)) (meaning value.now) sc (into-writes (total sc.names + port.bits) (port_named port) sc (omega arith))
does-writes (D.From to port) sc = assignment-writes _ false (target to) (port_value (port_named port)) sc (targets_write _ to sc (sized sc 0))

pub writes_only_uses : WritesOnlyUses
writes_only_uses d sc us ns same listed = record { none = λ v q e. by v q e (is_signal q.signal) refl }
  where
    unused : (q : Place) → is_signal q.signal ≡ true → is_named ns q.signal ≡ false → (b : Bool) → uses us q.signal ≡ b → (b && nat_lt q.bit (size_in d sc q.signal)) ≡ false
    unused q is e true u = absurd (true≢false (sym (listed.same q.signal ∙ both-true (is_signal q.signal) (uses us q.signal) is u) ∙ e))
    unused q is e false u = refl

    by : (v : Valuation) (q : Place) → is_named ns q.signal ≡ false → (b : Bool) → is_signal q.signal ≡ b → cond b ((ran (does_in d sc) v).written q) None ≡ None
    by v q e true is = ap (λ (s : State). s.written q) (ran-in d sc v) ∙ (does-writes d sc).now v begun q is (ap (λ l. reached (size_in d sc) l q) (sym same) ∙ unused q is e (uses us q.signal) refl)
    by v q e false is = refl
