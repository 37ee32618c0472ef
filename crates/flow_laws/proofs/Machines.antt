-- Runs of processes, and the machine of a design.
use Rattle.std.proofs.Common.{◌≡◌, ◌⊎◌, inl, inr, ℕ, zero, suc, Bool, true, false, ◌&&◌, ◌||◌, not, cond, List, [], ◌∷◌, ◌++◌, map, flat_map, filter, length, Option, Some, None, refl, ap, sym, ◌∙◌, subst}
use Rattle.std.specs.Prelude.{slice_get}
use Rattle.std.proofs.lemmas.Bool.{not-true, false≢true, and_parts, or_cases}
use Rattle.b4_core.specs.declared.bit.Bit4.{Bit4}
use Rattle.b4_core.specs.declared.bit.Bit4.TheVariants.{X}
use Rattle.row_machine.specs.Valuation.{Place, Valuation, Changes, Member, is_place, has, OneWriter}
use Rattle.row_machine.specs.Machine as M
use Rattle.row_machine.specs.Steps.{unchanged}
use Rattle.row_machine.specs.Order.{Honest, WellWritten, Free, Sound}
use Rattle.row_machine.specs.Trace.{OneTrace}
use Rattle.row_machine.proofs.Laws as Laws
use Rattle.row_machine.proofs.Basics.{is_place-true}
use Rattle.sv_types.specs.declared.design.ProcessKind.{ProcessKind}
use Rattle.sv_types.specs.declared.design.ProcessKind.TheVariants.{Continuous, Link, Comb, Latch, Star, Edges}
use Rattle.sv_types.specs.declared.design.Process.{Process}
use Rattle.sv_types.specs.declared.design.Design.{Design}
use Rattle.sv_types.specs.declared.statement.Function.{Function}
use Rattle.sv_types.specs.declared.statement.Outcome.TheVariants.{Normal}
use Rattle.sv_types.specs.declared.statement.Stmt.{Stmt}
use Rattle.sv_types.specs.Surroundings.{Around, Callee, is_signal}
use Rattle.sv_types.specs.Runs.{State}
use Rattle.sv_types.specs.Flows.{Flow, covered, uses_of}
use Rattle.sv_types.specs.Statements.{doing}
use Rattle.sv_types.specs.Functions.{parameters, callee_of, not_run, callee_or_absent, callees_within}
use Rattle.sv_types.specs.Machine.{Parts, parts, ProcessMeaning, process_meaning, places, names_of, unseen, unwritten, ran, to_signals, comb, comb_of, edge_of_kind, machine}
use Rattle.flow_laws.specs.Runs.{Variables, is_above, is_beyond, some_token, Starts, Conforms, Apart}
use Rattle.flow_laws.specs.Statements.{GivesFinals}
use Rattle.flow_laws.specs.Processes.{waits_for_edges, flow_of, Unrolls, RunsWithin, Ordered}
use Rattle.flow_laws.proofs.Conforming.{conforms}
use Rattle.flow_laws.proofs.Early.{early-read}

and-false : (b : Bool) → (b && false) ≡ false
and-false true = refl
and-false false = refl

-- what is in a list and passes the test is in what the test keeps
has-filter : (f : Place → Bool) (ps : List Place) (q : Place) → has (filter f ps) q ≡ (has ps q && f q)
unfolding has
has-filter f [] q = refl
has-filter f (p ∷ ps) q = pick (is_place p q) refl (f p) refl (has-filter f ps q)
  where
    pick : (b : Bool) → is_place p q ≡ b → (c : Bool) → f p ≡ c → has (filter f ps) q ≡ (has ps q && f q)
        → has (cond c (p ∷ filter f ps) (filter f ps)) q ≡ ((b || has ps q) && f q)
    pick true e true g more = ap (λ b. b || has (filter f ps) q) e ∙ sym g ∙ ap f (is_place-true p q e)
    pick true e false g more =
        let none : f q ≡ false = sym (ap f (is_place-true p q e)) ∙ g in
        more ∙ ap (λ b. has ps q && b) none ∙ and-false (has ps q) ∙ sym none
    pick false e true g more = ap (λ b. b || has (filter f ps) q) e ∙ more
    pick false e false g more = more

-- a bit that isn't in what a test keeps of all bits, but is there, fails the test
not-kept : (f : Place → Bool) (ps : List Place) (q : Place) → (f q ≡ true → has ps q ≡ true) → has (filter f ps) q ≡ false → f q ≡ false
not-kept f ps q there none = by (f q) refl
  where
    by : (b : Bool) → f q ≡ b → b ≡ false
    by true is = sym (sym none ∙ has-filter f ps q ∙ ap (λ b. b && f q) (there is) ∙ is)
    by false is = refl

module _ (d : Parts) where
  abbrev around_of : Valuation → Around
  around_of v = record { now = unwritten v; holds = λ n. true; callee = d.callee }

  abbrev first : State
  first = record { written = unchanged; pending = unchanged; outcome = Normal }

  begins : (vars : Variables) (v : Valuation) → Starts vars (unseen d) (around_of v) first
  begins vars v = record {
    normal = refl;
    seen = record { sure = λ n j is. absurd (false≢true is); callee = refl };
    beyond = λ q is. ap (λ b. cond b (v q) X) (not-true (is_signal q.signal) (and_parts (not (is_signal q.signal)) (is_above (vars q.signal) q.bit) is).0);
  }

  same-now : (v u : Valuation) (q : Place) → (is_signal q.signal ≡ true → v q ≡ u q) → unwritten v q ≡ unwritten u q
  same-now v u q h = by (is_signal q.signal) refl
    where
      by : (b : Bool) → is_signal q.signal ≡ b → cond b (v q) X ≡ cond b (u q) X
      by true is = h is
      by false is = refl

  pub runs-within : GivesFinals (unseen d) → (s : Stmt) → Unrolls d s → RunsWithin d (doing s) (flow_of d s)
  runs-within finals s t = record {
    ends = λ v. c.ends (around_of v) first (begins t.variables v);
    within = λ v q h. c.within (around_of v) first (begins t.variables v) q h;
    later = λ v q h. c.later (around_of v) first (begins t.variables v) q h;
    sure = λ v q h. c.sure (around_of v) first (begins t.variables v) q h;
    same = λ v u h. c.same (around_of v) (around_of u) first first (begins t.variables v) (begins t.variables u) (record { written = λ q. refl; pending = λ q. refl; outcome = refl })
        (λ q is. absurd (false≢true is)) (λ q early. same-now v u q (λ signal. h q signal early));
  }
    where
      apart : Apart t.variables (unseen d) (flow_of d s)
      apart q is = by (or_cases (is_beyond t.variables q) false is)
        where
          by : (is_beyond t.variables q ≡ true) ⊎ (false ≡ true) → covered (uses_of (flow_of d s).writes) q ≡ false
          by (inl beyond) = t.within q beyond
          by (inr none) = absurd (false≢true none)

      c : Conforms t.variables (unseen d) (doing s).run (flow_of d s)
      c = conforms t.variables s t.has (unseen d) finals t.bounded apart

  -- what a run on a valuation changes of signals, where it changes no bit but those that are kept of all
  signals-within : (f : Place → Bool) (c : Changes) → ((q : Place) → is_signal q.signal ≡ true → f q ≡ true → has (places d) q ≡ true) → ((q : Place) → f q ≡ false → c q ≡ None)
      → (q : Place) → has (filter f (places d)) q ≡ false → to_signals c q ≡ None
  signals-within f c there within q none = by (is_signal q.signal) refl
    where
      by : (b : Bool) → is_signal q.signal ≡ b → cond b (c q) None ≡ None
      by true is = within q (not-kept f (places d) q (there q is) none)
      by false is = refl

  comb-honest : GivesFinals (unseen d) → (kind : ProcessKind) (s : Stmt) → Ordered d kind s → waits_for_edges kind ≡ false → (from_zero : Bool) (waits_for : List Place) → Honest (comb d from_zero waits_for (doing s))
  comb-honest finals kind s o no_edges from_zero waits_for = record {
    by_reads = λ v u agree q. ap (λ x. cond (is_signal q.signal) x None) ((r.same v u (λ k signal early. agree k (is-read k signal early))).written q);
    within = λ v q none. signals-within (covered (uses_of f.writes)) (ran d (doing s) v).written o.writes (λ k h. r.within v k h) q none;
  }
    where
      f : Flow
      f = flow_of d s

      r : RunsWithin d (doing s) f
      r = runs-within finals s o.unrolls

      not-written : (k : Place) → is_signal k.signal ≡ true → some_token (f.early k) ≡ true → (b : Bool) → covered (uses_of f.writes) k ≡ b → not b ≡ true
      not-written k signal early true is = absurd (false≢true (sym (o.not_early no_edges k signal is) ∙ early))
      not-written k signal early false is = refl

      is-read : (k : Place) → is_signal k.signal ≡ true → some_token (f.early k) ≡ true → has (comb d from_zero waits_for (doing s)).reads k ≡ true
      is-read k signal early =
          let read = early-read k s (unseen d) early in
          has-filter (λ p. covered f.reads p && not (covered (uses_of f.writes) p)) (places d) k
          ∙ ap (λ b. b && (covered f.reads k && not (covered (uses_of f.writes) k))) (o.reads k signal read)
          ∙ ap (λ b. b && not (covered (uses_of f.writes) k)) read ∙ not-written k signal early (covered (uses_of f.writes) k) refl

  edge-within : GivesFinals (unseen d) → (kind : ProcessKind) (s : Stmt) → Ordered d kind s → (v : Valuation) (q : Place) → (has (filter (covered (uses_of (flow_of d s).later)) (places d)) q ≡ false) → to_signals (ran d (doing s) v).pending q ≡ None
  edge-within finals kind s o v q none =
      signals-within (covered (uses_of (flow_of d s).later)) (ran d (doing s) v).pending o.later (λ k h. (runs-within finals s o.unrolls).later v k h) q none

  one-honest : GivesFinals (unseen d) → (kind : ProcessKind) (s : Stmt) → Ordered d kind s → waits_for_edges kind ≡ false → (from_zero : Bool) (waits_for : List Place) (p : M.Process) → Member (comb d from_zero waits_for (doing s) ∷ []) p → Honest p
  one-honest finals kind s o no_edges from_zero waits_for p (inl is) = subst Honest (sym is) (comb-honest finals kind s o no_edges from_zero waits_for)
  one-honest finals kind s o no_edges from_zero waits_for p (inr m) = elim m [ ]

  pub combs-honest : GivesFinals (unseen d) → (kind : ProcessKind) (s : Stmt) → Ordered d kind s → (p : M.Process) → Member (comb_of d (doing s) kind) p → Honest p
  combs-honest finals Continuous s o p m = one-honest finals Continuous s o refl true [] p m
  combs-honest finals (Link port) s o p m = one-honest finals (Link port) s o refl true [] p m
  combs-honest finals Comb s o p m = one-honest finals Comb s o refl true [] p m
  combs-honest finals Latch s o p m = one-honest finals Latch s o refl true [] p m
  combs-honest finals Star s o p m = one-honest finals Star s o refl false (names_of d (doing s)) p m
  combs-honest finals (Edges es) s o p m = elim m [ ]

  pub edges-within : GivesFinals (unseen d) → (kind : ProcessKind) (s : Stmt) → Ordered d kind s → (p : M.EdgeProcess) → Member (edge_of_kind d (doing s) kind) p → (v : Valuation) (q : Place) → has p.writes q ≡ false
      → p.updates v q ≡ None
  edges-within finals Continuous s o p m = elim m [ ]
  edges-within finals (Link port) s o p m = elim m [ ]
  edges-within finals Comb s o p m = elim m [ ]
  edges-within finals Latch s o p m = elim m [ ]
  edges-within finals Star s o p m = elim m [ ]
  edges-within finals (Edges es) s o p (inl is) =
      subst (λ (e : M.EdgeProcess). (v : Valuation) (q : Place) → has e.writes q ≡ false → e.updates v q ≡ None) (sym is) (λ v q none. edge-within finals (Edges es) s o v q none)
  edges-within finals (Edges es) s o p (inr m) = elim m [ ]

-- the functions of a design give each of their formals a last value
map-long : {A B : Type 0} (f : A → B) (xs : List A) → length (map f xs) ≡ length xs
map-long f [] = refl
map-long f (x ∷ xs) = ap suc (map-long f xs)

abbrev Finals : Callee → Type 0
Finals c = (vs : List (List Bit4)) → length (c.run vs).finals ≡ length c.formals

finals-by : (c : Function → Callee) → ((f : Function) → Finals (c f)) → (o : Option Function) → Finals (callee_or_absent c o)
finals-by c h None = λ vs. refl
finals-by c h (Some f) = h f

finals-within : (depth : ℕ) (fs : List Function) (n : ℕ) → Finals (callees_within depth fs n)
unfolding callees_within
finals-within zero fs n = finals-by not_run (λ f vs. map-long _ (parameters f)) (slice_get fs n)
finals-within (suc depth) fs n = finals-by (callee_of (callees_within depth fs)) (λ f vs. map-long _ (parameters f)) (slice_get fs n)

-- what the processes of a design make
member-parts : {A : Type 0} (xs ys : List A) (z : A) → Member (xs ++ ys) z → Member xs z ⊎ Member ys z
member-parts [] ys z m = inr m
member-parts (x ∷ xs) ys z (inl is) = inl (inl is)
member-parts (x ∷ xs) ys z (inr m) = elim (member-parts xs ys z m) [ inl h ↦ inl (inr h) | inr h ↦ inr h ]

pub record Made {A : Type 0} (make : Process → List A) (ps : List Process) (x : A) : Type 0 where
  pub process : Process
  pub member : Member ps process
  pub made : Member (make process) x

made-of : {A : Type 0} (make : ProcessMeaning → List A) (ps : List Process) (x : A) → Member (flat_map make (map process_meaning ps)) x → Made (λ p. make (process_meaning p)) ps x
made-of make [] x m = elim m [ ]
made-of make (p ∷ ps) x m = elim (member-parts (make (process_meaning p)) (flat_map make (map process_meaning ps)) x m) [
  | inl h ↦ record { process = p; member = inl refl; made = h }
  | inr h ↦ (let r = made-of make ps x h in record { process = r.process; member = inr r.member; made = r.made })
]

pub well-written : (d : Design) → ((p : Process) → Member d.processes p → Ordered (parts d) p.kind p.body)
    → OneWriter (λ (p : M.Process). p.writes) (machine d).combs → OneWriter (λ (p : M.EdgeProcess). p.writes) (machine d).edges → WellWritten (machine d)
well-written d ordered combs edges = record {
  honest = λ p m.
      let r = made-of (λ (x : ProcessMeaning). comb_of (parts d) x.does x.kind) d.processes p m in
      combs-honest (parts d) finals r.process.kind r.process.body (ordered r.process r.member) p r.made;
  one_writer = combs;
  edges_within = λ p m v q none.
      let r = made-of (λ (x : ProcessMeaning). edge_of_kind (parts d) x.does x.kind) d.processes p m in
      edges-within (parts d) finals r.process.kind r.process.body (ordered r.process r.member) p r.made v q none;
  edges_one_writer = edges;
}
  where
    finals : GivesFinals (unseen (parts d))
    finals f vs = finals-within (length d.functions) d.functions f vs

pub has-one-trace : (d : Design) → ((p : Process) → Member d.processes p → Ordered (parts d) p.kind p.body)
    → OneWriter (λ (p : M.Process). p.writes) (machine d).combs → OneWriter (λ (p : M.EdgeProcess). p.writes) (machine d).edges
    → ((p : M.Process) → Member (machine d).combs p → Free (machine d).combs p) → Sound (machine d) × ((rows : List Valuation) → OneTrace (machine d) rows)
has-one-trace d ordered combs edges free = (sound, λ rows. Laws.one_trace (machine d) sound rows)
  where
    sound : Sound (machine d)
    sound = record { well_written = well-written d ordered combs edges; all_free = free }
