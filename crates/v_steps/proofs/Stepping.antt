-- Runs of processes, and what they put over stores.
use Rattle.std.proofs.Common.{◌≡◌, ℕ, zero, suc, ◌-◌, ◌^◌, ◌≤◌, Bool, true, false, cond, List, [], ◌∷◌, length, get_or, refl, arith, ap, sym, ◌∙◌, subst}
use Rattle.std.proofs.Math.Path.{fun_ext}
use Rattle.std.proofs.lemmas.Bool.Decides.{nat_tests}
use Rattle.std.proofs.lemmas.List.{length-map}
use Rattle.b4_core.specs.declared.bit.Bit4.{Bit4}
use Rattle.b4_core.specs.declared.bit.Bit4.TheVariants.{X}
use Rattle.picks.specs.Windows.{whole}
use Rattle.row_machine.specs.Valuation.{Place, Valuation, Changes, put}
use Rattle.row_machine.specs.Steps.{unchanged}
use Rattle.round_runner.specs.Stores as R
use Rattle.v_tree.specs.declared.expressions.VExpr.{VExpr}
use Rattle.v_tree.specs.declared.items.VItem.{VItem}
use Rattle.v_tree.specs.declared.statements.VBranch.{VBranch}
use Rattle.v_tree.specs.declared.statements.VLval.{VLval}
use Rattle.v_meaning.specs.Scopes as S
use Rattle.v_meaning.specs.Scopes.{Named, is_signal}
use Rattle.v_meaning.specs.Values.{Meaning, meaning, given}
use Rattle.v_meaning.specs.Runs.{State, begun}
use Rattle.v_meaning.specs.Statements.{Target, assignment, target, doing_of, changes_of as assigned_changes}
use Rattle.v_meaning.specs.Machine.{to_signals}
use Rattle.v_meaning.specs.Functions.{callees_within}
use Rattle.v_meaning.specs.Modules.{scope_of, functions, signals, numbered, port_target, port_value}
use Rattle.v_eval.specs.Holding.{slot_of, holding}
use Rattle.v_exec.specs.declared.processes.Ran.{Ran}
use Rattle.v_exec.specs.Inside.{NamesFit}
use Rattle.v_exec.specs.Modules.{scope_in, signals_in, HasRun}
use Rattle.v_exec.proofs.Staying.{written-inside, none-inside, assign-inside}
use Rattle.v_modules.specs.declared.table.Table.{Table}
use Rattle.v_modules.specs.Tables.{items_of}
use Rattle.v_run.specs.declared.pieces.Piece.{Piece}
use Rattle.v_run.specs.Changes.{changes_of, widths, AllNear, Within}
use Rattle.v_run.proofs.Changed.{none-first}
use Rattle.v_processes.specs.declared.process.Does.{Does}
use Rattle.v_processes.specs.declared.process.Port.{Port}
use Rattle.v_processes.specs.Processes.{does_in, port_named}
use Rattle.v_steps.specs.Steps.{ran, Comes, DoesFit, DoesNarrow, PortFits}

-- below 2^32 signals there is nothing that is numbered from 2^32 on
no-vector : (vs : List (List Bit4)) (n : ℕ) → length vs ≤ n → slot_of vs n ≡ []
no-vector [] n h = refl
no-vector (v ∷ vs) zero h = absurd (omega (arith, h))
no-vector (v ∷ vs) (suc n) h = no-vector vs n (omega (arith, h))

pub same-held : (vs : List (List Bit4)) → length vs ≤ 2 ^ 32 → holding vs [] [] ≡ R.holding vs
same-held vs few = fun_ext (λ q. by q (is_signal q.signal) refl)
  where
    by : (q : Place) (b : Bool) → is_signal q.signal ≡ b → holding vs [] [] q ≡ R.holding vs q
    by q true is = ap (λ b. get_or (cond b (slot_of vs q.signal) (slot_of [] (q.signal - 2 ^ 32))) q.bit X) is
    by q false is =
        let behind : 2 ^ 32 ≤ q.signal = grind (arith, nat_tests) in
        ap (λ b. get_or (cond b (slot_of vs q.signal) (slot_of [] (q.signal - 2 ^ 32))) q.bit X) is
        ∙ sym (ap (λ (bs : List Bit4). get_or bs q.bit X) (no-vector vs q.signal (omega (arith, few, behind))))

-- what names stand for in an instance, by the table of its module
abbrev scope_with : List Named → ℕ → List VItem → S.Scope
scope_with ns depth items = record { names = ns; next = 0; callee = callees_within depth ns (functions items) }

pub same-scope : (t : Table) (first : ℕ) → scope_in first t.functions t.names ≡ scope_of first (items_of t)
same-scope t first =
    ap (λ ns. scope_with ns t.functions (items_of t)) (t.named first) ∙ ap (λ k. scope_with (numbered first (signals (items_of t))) k (items_of t)) t.counted

-- an assignment that is made at once
now-written : (t : Target) (m : Meaning) (sc : S.Scope) (v : Valuation) → assigned_changes t m sc v ≡ ((assignment false t m).run sc v begun).written
unfolding assignment
now-written t m sc v = sym (none-first (assigned_changes t m sc v))

none-pending : (t : Target) (m : Meaning) (sc : S.Scope) (v : Valuation) → unchanged ≡ ((assignment false t m).run sc v begun).pending
unfolding assignment
none-pending t m sc v = refl

at-once : (Fits : List ℕ → Type 0) (t : Target) (m : Meaning) (sc : S.Scope) (v : Valuation) (ps : List Piece) (r : Ran) → r.written ≡ ps → r.pending ≡ [] → changes_of ps ≡ ((assignment false t m).run sc v begun).written → AllNear ps
    → ((ws : List ℕ) → Fits ws → Within ws ((assignment false t m).run sc v begun).written) → Comes Fits ((assignment false t m).run sc v begun) r
at-once Fits t m sc v ps r same none is near inside = record {
  written = ap changes_of same ∙ is;
  pending = ap changes_of none ∙ none-pending t m sc v;
  near_written = subst AllNear (sym same) near;
  near_pending = subst AllNear (sym none) tt;
  inside_written = λ ws fit. subst (Within ws) (sym (ap changes_of same ∙ is)) (inside ws fit);
  inside_pending = λ ws fit. subst (Within ws) (sym (ap changes_of none)) (none-inside ws);
}

pub assigned : (ns : List Named) (to : VLval) (e : VExpr) (sc : S.Scope) (v : Valuation) (ps : List Piece) (r : Ran) → ns ≡ sc.names → r.written ≡ ps → r.pending ≡ []
    → changes_of ps ≡ ((assignment false (target to) (meaning e)).run sc v begun).written → AllNear ps → Comes (λ ws. NamesFit ws ns) ((assignment false (target to) (meaning e)).run sc v begun) r
assigned ns to e sc v ps r names same none is near =
    at-once (λ ws. NamesFit ws ns) (target to) (meaning e) sc v ps r same none is near (λ ws fit. assign-inside ws to (meaning e) sc v (subst (NamesFit ws) names fit))

pub come-from : (ns : List Named) (to : VLval) (p : Port) (sc : S.Scope) (v : Valuation) (ps : List Piece) (r : Ran) → ns ≡ sc.names → r.written ≡ ps → r.pending ≡ []
    → changes_of ps ≡ assigned_changes (target to) (port_value (port_named p)) sc v → AllNear ps → Comes (λ ws. NamesFit ws ns) ((assignment false (target to) (port_value (port_named p))).run sc v begun) r
come-from ns to p sc v ps r names same none is near =
    let m = port_value (port_named p) in
    at-once (λ ws. NamesFit ws ns) (target to) m sc v ps r same none (is ∙ now-written (target to) m sc v) near (λ ws fit. assign-inside ws to m sc v (subst (NamesFit ws) names fit))

pub gone-into : (p : Port) (e : VExpr) (sc : S.Scope) (v : Valuation) (ps : List Piece) (r : Ran) → r.written ≡ ps → r.pending ≡ [] → changes_of ps ≡ assigned_changes (port_target (port_named p)) (meaning e) sc v → AllNear ps
    → Comes (PortFits p) ((assignment false (port_target (port_named p)) (meaning e)).run sc v begun) r
gone-into p e sc v ps r same none is near =
    let t = port_target (port_named p) in
    at-once (PortFits p) t (meaning e) sc v ps r same none (is ∙ now-written t (meaning e) sc v) near
    (λ ws fit. subst (Within ws) (now-written t (meaning e) sc v) (written-inside ws p.number (whole p.bits) (given (meaning e) p.bits sc v) fit))

pub has-run : (ns : List Named) (b : VBranch) (sc : S.Scope) (v : Valuation) (r : Ran) → ns ≡ sc.names → HasRun (doing_of b) sc v r → Comes (λ ws. NamesFit ws ns) ((doing_of b).run sc v begun) r
has-run ns b sc v r names h = record {
  written = h.written;
  pending = h.pending;
  near_written = h.near_written;
  near_pending = h.near_pending;
  inside_written = λ ws fit. h.inside_written ws (subst (NamesFit ws) names fit);
  inside_pending = λ ws fit. h.inside_pending ws (subst (NamesFit ws) names fit);
}

pub ruleset running = (assigned, come-from, gone-into, has-run)

-- what a run has written, put over a store
as-long : (before after : List (List Bit4)) → widths after ≡ widths before → length after ≡ length before
as-long before after same = sym (length-map after (λ (v : List Bit4). length v)) ∙ ap length same ∙ length-map before (λ (v : List Bit4). length v)

over : (c d : Changes) (held before after : List (List Bit4)) → length before ≤ 2 ^ 32 → widths after ≡ widths before → c ≡ d → holding after [] [] ≡ put (to_signals c) (holding before [] []) → R.Changed (to_signals d) before after
over c d held before after few same is values =
    let long = as-long before after same in
    record {
      values =
          sym (same-held after (omega (arith, few, long))) ∙ values ∙ ap (λ x. put (to_signals x) (holding before [] [])) is ∙ ap (put (to_signals d)) (same-held before few);
      shape = same;
    }

come-to : (t : Table) (first : ℕ) (d : Does) (held : List (List Bit4)) → length held ≤ 2 ^ 32
    → ran (does_in d (scope_in first t.functions t.names)) (holding held [] []) ≡ ran (does_in d (scope_of first (items_of t))) (R.holding held)
come-to t first d held few = ap (λ sc. ran (does_in d sc) (holding held [] [])) (same-scope t first) ∙ ap (ran (does_in d (scope_of first (items_of t)))) (same-held held few)

pub written-over : (t : Table) (first : ℕ) (d : Does) (held before after : List (List Bit4)) (r : Ran) → length held ≤ 2 ^ 32 → length before ≤ 2 ^ 32 → DoesFit d (scope_of first (items_of t)).names (widths before)
    → Comes (DoesFit d (signals_in first t.names)) (ran (does_in d (scope_in first t.functions t.names)) (holding held [] [])) r → widths after ≡ widths before
    → (Within (widths before) (changes_of r.written) → holding after [] [] ≡ put (to_signals (changes_of r.written)) (holding before [] []))
    → R.Changed (to_signals (ran (does_in d (scope_of first (items_of t))) (R.holding held)).written) before after
written-over t first d held before after r few_held few fit h same values =
    over (changes_of r.written) (ran (does_in d (scope_of first (items_of t))) (R.holding held)).written held before after few same (h.written ∙ ap (λ (s : State). s.written) (come-to t first d held few_held))
    (values (h.inside_written (widths before) (subst (λ ns. DoesFit d ns (widths before)) (sym (t.named first)) fit)))

pub pending-over : (t : Table) (first : ℕ) (d : Does) (held before after : List (List Bit4)) (r : Ran) → length held ≤ 2 ^ 32 → length before ≤ 2 ^ 32 → DoesFit d (scope_of first (items_of t)).names (widths before)
    → Comes (DoesFit d (signals_in first t.names)) (ran (does_in d (scope_in first t.functions t.names)) (holding held [] [])) r → widths after ≡ widths before
    → (Within (widths before) (changes_of r.pending) → holding after [] [] ≡ put (to_signals (changes_of r.pending)) (holding before [] []))
    → R.Changed (to_signals (ran (does_in d (scope_of first (items_of t))) (R.holding held)).pending) before after
pending-over t first d held before after r few_held few fit h same values =
    over (changes_of r.pending) (ran (does_in d (scope_of first (items_of t))) (R.holding held)).pending held before after few same (h.pending ∙ ap (λ (s : State). s.pending) (come-to t first d held few_held))
    (values (h.inside_pending (widths before) (subst (λ ns. DoesFit d ns (widths before)) (sym (t.named first)) fit)))

pub narrow-here : (t : Table) (first : ℕ) (d : Does) → DoesNarrow d (scope_of first (items_of t)) → DoesNarrow d (scope_in first t.functions t.names)
narrow-here t first d h = subst (DoesNarrow d) (sym (same-scope t first)) h

pub ruleset stepping = (written-over, pending-over, narrow-here)
