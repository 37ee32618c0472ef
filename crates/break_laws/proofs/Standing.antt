-- Designs that break none of the rules.
use Rattle.std.proofs.Common.{◌≡◌, inl, inr, ℕ, zero, suc, ◌+◌, Bool, true, false, ◌&&◌, cond, List, [], ◌∷◌, ◌++◌, flat_map, length, Option, Some, None, refl, ap, sym, ◌∙◌, subst, arith}
use Rattle.std.specs.Prelude.{slice_get}
use Rattle.std.proofs.lemmas.Bool.{and_parts, and_from}
use Rattle.row_machine.specs.Valuation.{Member}
use Rattle.row_machine.specs.Machine as M
use Rattle.row_machine.proofs.Laws as Laws
use Rattle.sv_types.specs.declared.design.Design.{Design}
use Rattle.sv_types.specs.declared.design.Process.{Process}
use Rattle.sv_types.specs.declared.design.ProcessKind.{ProcessKind}
use Rattle.sv_types.specs.declared.design.ProcessKind.TheVariants.{Continuous, Link, Comb, Latch, Star, Edges}
use Rattle.sv_types.specs.declared.statement.Function.{Function}
use Rattle.sv_types.specs.declared.statement.Stmt.{Stmt}
use Rattle.sv_types.specs.Surroundings.{Callee}
use Rattle.sv_types.specs.Functions.{parameters, callee_of, not_run, callee_or_absent, callees_within}
use Rattle.sv_types.specs.Statements.{doing}
use Rattle.sv_types.specs.Machine.{parts, unseen, ProcessMeaning, comb_of, machine}
use Rattle.flow_laws.specs.Processes.{waits_for_edges, Ordered}
use Rattle.flow_laws.proofs.Machines.{has-one-trace}
use Rattle.design_breaks.specs.Actions.{actions}
use Rattle.design_breaks.specs.Memories.{is_edged}
use Rattle.design_breaks.specs.Breaks as B
use Rattle.design_breaks.specs.declared.Break.{Break}
use Rattle.design_breaks.specs.declared.Unrolled.{Unrolled}
use Rattle.design_breaks.specs.Breaks.{breaks, least_of, is_less, formals, unbounded_of, unrolled, unrolls, endless_of, endless_at, is_too_many, is_whole, too_long, only_if, written_twice, read_early, process_breaks, function_breaks, too_wide, numbered, at_each}
use Rattle.break_laws.specs.Shapes.{ShapedProcess, only_those}
use Rattle.break_laws.specs.Laws.{ProcessesAreFree, SomeBreakIsLeast, DesignsHaveOneTrace}
use Rattle.break_laws.proofs.Lists.{none-parts, none-mapped, none-of, there, somewhere}
use Rattle.break_laws.proofs.Bounds.{are-bounded}
use Rattle.break_laws.proofs.Early.{not-early}
use Rattle.break_laws.proofs.Keeping.{keeps-to-bits}
use Rattle.break_laws.proofs.Writers.{one-writer, made-at}

pub are-free : ProcessesAreFree
are-free d none c m = elim (Laws.free_or_stuck (machine d).combs c m).0 [
  | inl is_free ↦ is_free
  | inr stuck ↦ (let r = made-at (λ (x : ProcessMeaning). comb_of (parts d) x.does x.kind) (λ (x : M.Process). x.writes) d.processes c m in
      absurd (none r.process (record { stands = there d.processes r.at r.process r.stands; process = c; is_its = r.made; stuck = stuck })))
]

-- the lesser one of a break and another, if there is another
abbrev lesser : Break → Option Break → Option Break
lesser b o = elim o [ None ↦ Some b | Some c ↦ cond (is_less c b) (Some c) (Some b) ]

pub some-least : SomeBreakIsLeast
some-least [] h = refl
some-least (b ∷ bs) h = by (least_of bs) h
  where
    by : (o : Option Break) → lesser b o ≡ None → b ∷ bs ≡ []
    by None g = cc
    by (Some c) g = one (is_less c b) g
      where
        one : (t : Bool) → cond {A = Option Break} t (Some c) (Some b) ≡ None → b ∷ bs ≡ []
        one true f = cc
        one false f = cc

-- formals, by the list of functions and by what can be called
formals-by : (c : Function → Callee) → ((f : Function) → (c f).formals ≡ parameters f) → (o : Option Function)
    → elim o [ None ↦ [] | Some f ↦ parameters f ] ≡ (callee_or_absent c o).formals
formals-by c h None = refl
formals-by c h (Some f) = sym (h f)

formals-within : (depth : ℕ) (fs : List Function) (n : ℕ) → elim (slice_get fs n) [ None ↦ [] | Some f ↦ parameters f ] ≡ (callees_within depth fs n).formals
unfolding callees_within
formals-within zero fs n = formals-by not_run (λ f. refl) (slice_get fs n)
formals-within (suc depth) fs n = formals-by (callee_of (callees_within depth fs)) (λ f. refl) (slice_get fs n)

module _ (d : Design) where
  in-numbers : {A : Type 0} (k : ℕ) (xs : List A) (n : ℕ) (x : A) → slice_get xs n ≡ Some x → Member (numbered d k xs) (k + n, x)
  in-numbers k [] n x h = cc
  in-numbers k (y ∷ xs) zero x h =
      let same : x ≡ y = cc in
      let at : k + 0 ≡ k = omega arith in
      inl (λ i. (at i, same i))
  in-numbers k (y ∷ xs) (suc n) x h =
      let at : k + suc n ≡ suc k + n = omega arith in
      inr (subst (λ m. Member (numbered d (suc k) xs) (m, x)) (sym at) (in-numbers (suc k) xs n x h))

  -- a statement whose loops break no rule and that isn't too long can be unrolled
  none-first : (ns : List ℕ) (u : Unrolled) → ns ++ endless_at u ≡ [] → (B.is_none ns ≡ true) × (endless_at u ≡ [])
  none-first [] u h = (refl, h)
  none-first (n ∷ ns) u h = cc

  none-known : (ns : List ℕ) → B.is_none ns ≡ true → ns ≡ []
  none-known [] h = refl
  none-known (n ∷ ns) h = cc

  none-found : (left endless : Option ℕ) (at : ℕ) → endless_at (record { left = left; endless = endless }) ≡ [] → only_if (is_too_many (record { left = left; endless = endless })) (at ∷ []) ≡ []
      → is_whole (record { left = left; endless = endless }) ≡ true
  none-found None endless at h g = cc
  none-found (Some n) None at h g = refl
  none-found (Some n) (Some t) at h g = cc

  ends : (u : Unrolled) (at : ℕ) → endless_at u ≡ [] → only_if (is_too_many u) (at ∷ []) ≡ [] → is_whole u ≡ true
  ends u at h g = none-found u.left u.endless at h g

  can-unroll : (s : Stmt) (at : ℕ) → endless_of d s ≡ [] → too_long d s at ≡ [] → unrolls d s ≡ true
  can-unroll s at h g =
      let first = none-first (unbounded_of d s) (unrolled d s) h in
      let few = sym (ap (λ b. only_if (b && is_too_many (unrolled d s)) (at ∷ [])) first.0) ∙ g in
      and_from (B.is_none (unbounded_of d s)) (is_whole (unrolled d s)) first.0 (ends (unrolled d s) at first.1 few)

  -- of a process that breaks no rule
  pub record Keeps (n : ℕ) (p : Process) : Type 0 where
    pub once : written_twice d n p ≡ []
    pub not_early : read_early d p ≡ []
    pub can : unrolls d p.body ≡ true

  none-at : (i rule : ℕ) (ts : List ℕ) (more : List Break) → at_each i rule ts ++ more ≡ [] → (ts ≡ []) × (more ≡ [])
  none-at i rule ts more h =
      let two = none-parts (at_each i rule ts) more h in
      (none-mapped (λ at. record { instance = i; at = at; rule = rule }) ts two.0, two.1)

  pub keeps : breaks d ≡ [] → (n : ℕ) (p : Process) → slice_get d.processes n ≡ Some p → Keeps n p
  keeps none n p h =
      let all = (none-parts (flat_map (process_breaks d) (numbered d 0 d.processes)) (flat_map (function_breaks d) (numbered d 0 d.functions) ++ flat_map (too_wide d) (numbered d 0 d.signals)) none).0 in
      let at : 0 + n ≡ n = omega arith in
      let own = none-of (process_breaks d) (numbered d 0 d.processes) (n, p) (subst (λ m. Member (numbered d 0 d.processes) (m, p)) at (in-numbers 0 d.processes n p h)) all in
      let r601 = none-at p.instance 601 (written_twice d n p ++ B.drives_a_value d p) _ own in
      let r603 = none-at p.instance 603 (B.left_out d p) _ r601.1 in
      let r604 = none-at p.instance 604 (read_early d p ++ B.local_early d p) _ r603.1 in
      let r605 = none-at p.instance 605 (B.at_once d p) _ r604.1 in
      let r606 = none-at p.instance 606 (B.deferred d (is_edged p.kind) p.body) _ r605.1 in
      let r607 = none-at p.instance 607 (B.unfit_edges d p) _ r606.1 in
      let r608 = none-at p.instance 608 (endless_of d p.body) _ r607.1 in
      let r611 = none-at p.instance 611 (B.writes_input d p) _ r608.1 in
      record {
        once = (none-parts (written_twice d n p) (B.drives_a_value d p) r601.0).0;
        not_early = (none-parts (read_early d p) (B.local_early d p) r604.0).0;
        can = can-unroll p.body p.spot.at r608.0 (none-mapped (λ at. record { instance = p.instance; at = at; rule = 703 }) (too_long d p.body p.spot.at) r611.1);
      }

  bounded : (s : Stmt) → unrolls d s ≡ true → (doing s).bounded (unseen (parts d)) ≡ true
  bounded s h =
      let k = unseen (parts d) in
      let same : formals d ≡ (λ n. (k.around.callee n).formals) = λ i n. formals-within (length d.functions) d.functions n i in
      (are-bounded s k).0 (sym (ap (λ fs. (actions s).unbounded fs k) same) ∙ none-known (unbounded_of d s) (and_parts (B.is_none (unbounded_of d s)) (is_whole (unrolled d s)) h).0)

  edged-same : (kind : ProcessKind) → waits_for_edges kind ≡ false → is_edged kind ≡ false
  edged-same Continuous h = refl
  edged-same (Link port) h = refl
  edged-same Comb h = refl
  edged-same Latch h = refl
  edged-same Star h = refl
  edged-same (Edges es) h = h

  ordered : (n : ℕ) (p : Process) → ShapedProcess d p → Keeps n p → Ordered (parts d) p.kind p.body
  ordered n p s k =
      let bits = keeps-to-bits d p s in
      record {
        unrolls = record { variables = only_those s.is_variable s.widths; has = s.has; bounded = bounded p.body k.can; within = bits.within };
        reads = bits.reads;
        writes = bits.writes;
        later = bits.later;
        not_early = λ no_edges q signal written. not-early d p (edged-same p.kind no_edges) k.can k.not_early q (bits.writes q signal written) written;
      }

pub has-trace : DesignsHaveOneTrace
has-trace d s u =
    let none = some-least (breaks d) u.processes in
    let one = one-writer d s.numbers (λ n p h. let k = keeps d none n p h in (k.can, k.once)) in
    has-one-trace d (λ p m. let r = somewhere d.processes p m in ordered d r.0 p (s.processes p m) (keeps d none r.0 p r.1)) one.0 one.1 (are-free d u.order)
