-- What processes may write and mention, as the marks say it.
use Rattle.std.proofs.Common.{◌≡◌, inl, inr, ℕ, zero, suc, ◌/◌, ◌==◌, ◌^◌, ◌<◌, nat_le, nat_lt, Bool, true, false, ◌&&◌, ◌||◌, not, cond, List, [], ◌∷◌, length, map, replicate, Option, Some, None, slice_get, slice_index_or, refl, ap, sym, ◌∙◌, subst, arith}
use Rattle.std.specs.List.{list_any, list_all}
use Rattle.std.proofs.Math.Path.{fun_ext}
use Rattle.std.proofs.lemmas.Bool.{cases_lt, le-ltb, or_parts, false≢true}
use Rattle.std.proofs.lemmas.Bool.Decides.{nat_tests}
use Rattle.std.proofs.lemmas.Nat.{div-mul-add}
use Rattle.sv_types.specs.declared.design.Design.{Design}
use Rattle.sv_types.specs.declared.design.Process.{Process}
use Rattle.sv_types.specs.declared.statement.Function.{Function}
use Rattle.sv_types.specs.Surroundings as S
use Rattle.sv_types.specs.Surroundings.{Callee, Parameter, is_signal}
use Rattle.sv_types.specs.Meanings.{Named}
use Rattle.sv_types.specs.Flows.{covers, covered, uses_of}
use Rattle.sv_types.specs.Functions.{parameters, callee_or_absent, not_run, callee_of, callees_within}
use Rattle.sv_types.specs.Statements.{doing}
use Rattle.sv_types.specs.Machine.{parts, unseen}
use Rattle.flow_sets.specs.declared.found.Found.{Found}
use Rattle.flow_sets.specs.declared.uses.Write.{Write}
use Rattle.flow_sets.specs.Bits.{position, span_of, write_of, AllShort}
use Rattle.flow_sets.proofs.Positions.{short-more}
use Rattle.flow_breaks.specs.Pieces.{IsFoundOf}
use Rattle.flow_targets.specs.Laws.{Spares}
use Rattle.flow_targets.proofs.Sparing.{spares}
use Rattle.design_breaks.specs.Actions.{actions}
use Rattle.design_breaks.specs.Memories.{is_edged, flow, may_write, mentions_whole}
use Rattle.design_breaks.specs.Breaks as B
use Rattle.design_breaks.specs.Breaks.{formals, names_it, is_settled}
use Rattle.memory_breaks.specs.declared.processes.Written.{Written}
use Rattle.memory_breaks.specs.Marks.{Part, marked, writes_marked}
use Rattle.memory_breaks.specs.Processes as W
use Rattle.memory_breaks.proofs.Marking.{Marking, idle, also, same, one-marked, all-marked}
use Rattle.memory_breaks.proofs.Statements.{stmt-names}

-- the formals of a function, however deep calls go
within-zero : (fs : List Function) (n : ℕ) → callees_within zero fs n ≡ callee_or_absent not_run (slice_get fs n)
unfolding callees_within
within-zero fs n = refl

within-suc : (k : ℕ) (fs : List Function) (n : ℕ) → callees_within (suc k) fs n ≡ callee_or_absent (callee_of (callees_within k fs)) (slice_get fs n)
unfolding callees_within
within-suc k fs n = refl

abbrev formals_or_none : Option Function → List Parameter
formals_or_none o = elim o [ None ↦ [] | Some f ↦ parameters f ]

bare-formals : (o : Option Function) → (callee_or_absent not_run o).formals ≡ formals_or_none o
bare-formals None = refl
bare-formals (Some f) = refl

deep-formals : (c : ℕ → Callee) (o : Option Function) → (callee_or_absent (callee_of c) o).formals ≡ formals_or_none o
deep-formals c None = refl
deep-formals c (Some f) = refl

formals-within : (k : ℕ) (fs : List Function) (n : ℕ) → (callees_within k fs n).formals ≡ formals_or_none (slice_get fs n)
formals-within zero fs n = ap (λ (c : Callee). c.formals) (within-zero fs n) ∙ bare-formals (slice_get fs n)
formals-within (suc k) fs n = ap (λ (c : Callee). c.formals) (within-suc k fs n) ∙ deep-formals (callees_within k fs) (slice_get fs n)

-- a list of uses that covers no bit of a signal has none of its bits
no-bits : (q : ℕ) (us : List S.Use) → ((bit : ℕ) → covered us (record { signal = q; bit = bit }) ≡ false) → list_any (λ (u : S.Use). (u.number == q) && nat_lt u.low u.high) us ≡ false
no-bits q [] h = refl
no-bits q (u ∷ us) h = (λ i. here i || no-bits q us (λ bit. (or_parts (covers u (record { signal = q; bit = bit })) (covered us (record { signal = q; bit = bit })) (h bit)).1) i)
  where
    low-in : (n : ℕ) → nat_le n n ≡ true
    low-in n = grind (arith, nat_tests)

    here : ((u.number == q) && nat_lt u.low u.high) ≡ false
    here =
        sym (ap (λ b. (u.number == q) && (b && nat_lt u.low u.high)) (low-in u.low))
        ∙ (or_parts (covers u (record { signal = q; bit = u.low })) (covered us (record { signal = q; bit = u.low })) (h u.low)).0

-- a span that has a bit begins in its signal
begins : (u : S.Use) → u.high < 2 ^ 32 → u.low < u.high → (span_of u).low / 2 ^ 32 ≡ u.number
begins u short some = div-mul-add u.number (2 ^ 32) u.low (omega (arith, short, some))

some-bits : (n low high : ℕ) → nat_lt (position n low) (position n high) ≡ nat_lt low high
some-bits n low high = grind (arith, nat_tests)

and-true : (b : Bool) → (b && true) ≡ b
and-true true = refl
and-true false = refl

and-false : (b : Bool) → (b && false) ≡ false
and-false true = refl
and-false false = refl

-- the two lists of what processes may write are marked each by itself
abbrev pub edged_of : Process → Option Found → Part
edged_of p None u = u
edged_of p (Some f) u = cond (is_edged p.kind) (writes_marked f.later u) u

abbrev pub other_of : Process → Option Found → Part
other_of p None u = u
other_of p (Some f) u = cond (is_edged p.kind) u (writes_marked f.writes u)

abbrev pub all_by : (Process → Option Found → Part) → List Process → List (Option Found) → Part
all_by by [] fs u = u
all_by by (p ∷ ps) [] u = u
all_by by (p ∷ ps) (f ∷ fs) u = all_by by ps fs (by p f u)

one-apart : (p : Process) (f : Option Found) (t : Written) → W.written_by p f t ≡ record { edged = edged_of p f t.edged; other = other_of p f t.other }
one-apart p None t = refl
one-apart p (Some f) t = by (is_edged p.kind)
  where
    by : (b : Bool) → cond {A = Written} b (record { edged = writes_marked f.later t.edged; other = t.other }) (record { edged = t.edged; other = writes_marked f.writes t.other })
        ≡ record { edged = cond b (writes_marked f.later t.edged) t.edged; other = cond b t.other (writes_marked f.writes t.other) }
    by true = refl
    by false = refl

pub all-apart : (ps : List Process) (fs : List (Option Found)) (t : Written) → W.all_written ps fs t ≡ record { edged = all_by edged_of ps fs t.edged; other = all_by other_of ps fs t.other }
all-apart [] fs t = refl
all-apart (p ∷ ps) [] t = refl
all-apart (p ∷ ps) (f ∷ fs) t = ap (W.all_written ps fs) (one-apart p f t) ∙ all-apart ps fs (record { edged = edged_of p f t.edged; other = other_of p f t.other })

pub all-alike : (fns : List Function) (ps : List Process) (fs : List (Option Found)) (u : List Bool) → W.all_unsettled fns ps fs u ≡ all_by (W.unsettled_by fns) ps fs u
all-alike fns [] fs u = refl
all-alike fns (p ∷ ps) [] u = refl
all-alike fns (p ∷ ps) (f ∷ fs) u = all-alike fns ps fs (W.unsettled_by fns p f u)

module _ (d : Design) (q : ℕ) (signal : is_signal q ≡ true) where
  abbrev of_it : S.Use → Bool
  of_it u = (u.number == q) && nat_lt u.low u.high

  formals-are : (λ (f : ℕ). ((unseen (parts d)).around.callee f).formals) ≡ formals d
  formals-are = fun_ext (λ f. formals-within (length d.functions) d.functions f)

  -- a process that doesn't name a signal writes no bit of it
  spared : (p : Process) → names_it d q p ≡ false → (bit : ℕ) → Spares (record { signal = q; bit = bit }) (flow d p)
  spared p h bit =
      spares (record { signal = q; bit = bit }) signal p.body (unseen (parts d))
      (ap (λ fs. list_any (λ (m : ℕ). m == q) ((doing p.body).targets fs)) formals-are ∙ (or_parts (list_any (λ (m : Named). m.number == q) ((doing p.body).names (formals d))) (list_any (λ (m : ℕ). m == q) ((doing p.body).targets (formals d))) h).1)

  not-written : (p : Process) → names_it d q p ≡ false → may_write d q p ≡ false
  not-written p h = by (is_edged p.kind)
    where
      by : (b : Bool) → list_any of_it (cond b (uses_of (flow d p).later) (uses_of (flow d p).writes)) ≡ false
      by true = no-bits q (uses_of (flow d p).later) (λ bit. (spared p h bit).later)
      by false = no-bits q (uses_of (flow d p).writes) (λ bit. (spared p h bit).now)

  -- writes that are found
  one-write : (w : S.Write) → w.of.high < 2 ^ 32 → Marking q (λ u. cond (nat_lt (span_of w.of).low (span_of w.of).high) (marked ((span_of w.of).low / 2 ^ 32) u) u) (of_it w.of)
  one-write w short = elim (cases_lt w.of.low w.of.high) [
    | inl some ↦ (let e = lt-true w.of.low w.of.high some in
        subst (λ b. Marking q (λ u. cond b (marked ((span_of w.of).low / 2 ^ 32) u) u) (of_it w.of)) (sym (some-bits w.of.number w.of.low w.of.high ∙ e))
        (subst (λ n. Marking q (marked n) (of_it w.of)) (sym (begins w.of short some))
        (same q (sym (ap (λ b. (w.of.number == q) && b) e ∙ and-true (w.of.number == q))) (one-marked q w.of.number))))
    | inr none ↦ (let e = le-ltb w.of.low w.of.high none in
        subst (λ b. Marking q (λ u. cond b (marked ((span_of w.of).low / 2 ^ 32) u) u) (of_it w.of)) (sym (some-bits w.of.number w.of.low w.of.high ∙ e))
        (same q (sym (ap (λ b. (w.of.number == q) && b) e ∙ and-false (w.of.number == q))) (idle q)))
  ]
    where
      lt-true : (a b : ℕ) → a < b → nat_lt a b ≡ true
      lt-true a b h = grind (arith, nat_tests, h)

  all-writes : (ws : List S.Write) → AllShort (uses_of ws) → Marking q (writes_marked (map write_of ws)) (list_any of_it (uses_of ws))
  all-writes [] short = idle q
  all-writes (w ∷ ws) short = let more = short-more w.of (uses_of ws) short in also q (one-write w more.0) (all-writes ws more.1)

  found-writes : (rs : List Write) (ws : List S.Write) → rs ≡ map write_of ws → AllShort (uses_of ws) → Marking q (writes_marked rs) (list_any of_it (uses_of ws))
  found-writes rs ws is short = subst (λ (xs : List Write). Marking q (writes_marked xs) (list_any of_it (uses_of ws))) (sym is) (all-writes ws short)

  -- of one process
  abbrev pub settled_by : Process → Bool
  settled_by p = not (names_it d q p) || B.unrolls d p.body

  unnamed : (p : Process) → settled_by p ≡ true → B.unrolls d p.body ≡ false → names_it d q p ≡ false
  unnamed p h none = by (names_it d q p) (sym (ap (λ b. not (names_it d q p) || b) none) ∙ h)
    where
      by : (b : Bool) → (not b || false) ≡ true → b ≡ false
      by true is = absurd (false≢true is)
      by false is = refl

  pub edged-one : (p : Process) (f : Option Found) → settled_by p ≡ true → IsFoundOf d p f → Marking q (edged_of p f) (is_edged p.kind && may_write d q p)
  edged-one p None h none = same q (sym (ap (λ b. is_edged p.kind && b) (not-written p (unnamed p h none)) ∙ and-false (is_edged p.kind))) (idle q)
  edged-one p (Some f) h it = by (is_edged p.kind)
    where
      by : (b : Bool) → Marking q (λ u. cond b (writes_marked f.later u) u) (b && list_any of_it (cond b (uses_of (flow d p).later) (uses_of (flow d p).writes)))
      by true = found-writes f.later (flow d p).later it.1.later.same it.1.later.short
      by false = idle q

  pub other-one : (p : Process) (f : Option Found) → settled_by p ≡ true → IsFoundOf d p f → Marking q (other_of p f) (not (is_edged p.kind) && may_write d q p)
  other-one p None h none = same q (sym (ap (λ b. not (is_edged p.kind) && b) (not-written p (unnamed p h none)) ∙ and-false (not (is_edged p.kind)))) (idle q)
  other-one p (Some f) h it = by (is_edged p.kind)
    where
      by : (b : Bool) → Marking q (λ u. cond b u (writes_marked f.writes u)) (not b && list_any of_it (cond b (uses_of (flow d p).later) (uses_of (flow d p).writes)))
      by true = idle q
      by false = found-writes f.writes (flow d p).writes it.1.writes.same it.1.writes.short

  unsettled-one : (p : Process) (f : Option Found) → IsFoundOf d p f → Marking q (W.unsettled_by d.functions p f) (names_it d q p && not (B.unrolls d p.body))
  unsettled-one p None none = same q (sym (ap (λ b. names_it d q p && not b) none ∙ and-true (names_it d q p))) (stmt-names d q signal p.body)
  unsettled-one p (Some f) it = same q (sym (ap (λ b. names_it d q p && not b) it.0 ∙ and-false (names_it d q p))) (idle q)

  -- of all of them
  abbrev pub AllFound : List Process → List (Option Found) → Type 0
  AllFound ps fs = (k : ℕ) (p : Process) (f : Option Found) → slice_get ps k ≡ Some p → slice_get fs k ≡ Some f → IsFoundOf d p f

  module _ (by : Process → Option Found → Part) (test : Process → Bool) (one : (p : Process) (f : Option Found) → settled_by p ≡ true → IsFoundOf d p f → Marking q (by p f) (test p)) where
    pub of-settled : (ps : List Process) (fs : List (Option Found)) → length fs ≡ length ps → AllFound ps fs → list_all settled_by ps ≡ true → Marking q (all_by by ps fs) (list_any test ps)
    of-settled [] fs long each h = idle q
    of-settled (p ∷ ps) [] long each h = absurd (omega (arith, long))
    of-settled (p ∷ ps) (f ∷ fs) long each h =
        let two = and-parts (settled_by p) (list_all settled_by ps) h in
        also q (one p f two.0 (each zero p f refl refl)) (of-settled ps fs (omega (arith, long)) (λ k. each (suc k)) two.1)
      where
        and-parts : (a b : Bool) → (a && b) ≡ true → (a ≡ true) × (b ≡ true)
        and-parts true b is = (refl, is)
        and-parts false b is = absurd (false≢true is)

  pub of-any : (ps : List Process) (fs : List (Option Found)) → length fs ≡ length ps → AllFound ps fs
      → Marking q (all_by (W.unsettled_by d.functions) ps fs) (list_any (λ (p : Process). names_it d q p && not (B.unrolls d p.body)) ps)
  of-any [] fs long each = idle q
  of-any (p ∷ ps) [] long each = absurd (omega (arith, long))
  of-any (p ∷ ps) (f ∷ fs) long each = also q (unsettled-one p f (each zero p f refl refl)) (of-any ps fs (omega (arith, long)) (λ k. each (suc k)))

  pub settled-is : (ps : List Process) → list_all settled_by ps ≡ not (list_any (λ (p : Process). names_it d q p && not (B.unrolls d p.body)) ps)
  settled-is [] = refl
  settled-is (p ∷ ps) = by (names_it d q p) (B.unrolls d p.body) _ _ (settled-is ps)
    where
      by : (a b c e : Bool) → c ≡ not e → ((not a || b) && c) ≡ not ((a && not b) || e)
      by true true c e is = is
      by true false c e is = refl
      by false b c e is = is

  pub whole-all : (ps : List Process) → Marking q (W.all_whole ps) (list_any (mentions_whole d q) ps)
  whole-all [] = idle q
  whole-all (p ∷ ps) = also q (all-marked q (actions p.body).said.whole) (whole-all ps)

  -- from no marks
  none-marked : (n k : ℕ) → slice_index_or (replicate n false) k false ≡ false
  none-marked zero k = refl
  none-marked (suc n) zero = refl
  none-marked (suc n) (suc k) = none-marked n k

  pub from-none : (n : ℕ) (p : Part) (b : Bool) → q < n → Marking q p b → b ≡ slice_index_or (p (replicate n false)) q false
  from-none n p b h m = sym (m.at (replicate n false) (subst (λ l. q < l) (sym (length-none n)) h) ∙ ap (λ c. c || b) (none-marked n q))
    where
      length-none : (k : ℕ) → length (replicate k false) ≡ k
      length-none zero = refl
      length-none (suc k) = ap suc (length-none k)
