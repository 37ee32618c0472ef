-- The walk finds a spot at each token of an instance's text.
use Rattle.std.proofs.Common.{◌≡◌, inl, inr, ℕ, Bool, true, false, ◌==◌, cond, List, [], ◌∷◌, ◌++◌, map, flat_map, length, ◌≤◌, ◌^◌, Option, Some, None, refl, ap, sym, ◌∙◌, subst}
use Rattle.std.specs.Prelude.{Result, IfOk}
use Rattle.std.proofs.lemmas.Result.{IfOk-weaker}
use Rattle.std.specs.declared.alloc.AllocError.{AllocError}
use Rattle.std.proofs.lemmas.Bool.{eqb-true, eq-eqb, false≢true}
use Rattle.row_machine.specs.Valuation.{Member}
use Rattle.sv_source.specs.declared.token.Spot.{Spot}
use Rattle.sv_source.specs.declared.refusal.Refusal.{Refusal}
use Rattle.sv_types.specs.declared.statement.Formal.{Formal}
use Rattle.sv_types.specs.declared.statement.Function.{Function}
use Rattle.sv_types.specs.declared.statement.FunctionKind.{FunctionKind}
use Rattle.sv_types.specs.declared.statement.FunctionKind.TheVariants.{Plain, Routine, Made}
use Rattle.sv_types.specs.declared.design.Design.{Design}
use Rattle.sv_types.specs.declared.design.EdgeOn.{EdgeOn}
use Rattle.sv_types.specs.declared.design.Process.{Process}
use Rattle.sv_types.specs.declared.design.ProcessKind.{ProcessKind}
use Rattle.sv_types.specs.declared.design.ProcessKind.TheVariants.{Continuous, Link, Comb, Latch, Star, Edges}
use Rattle.sv_types.specs.declared.design.Signal.{Signal}
use Rattle.design_breaks.specs.declared.Break.{Break}
use Rattle.design_breaks.specs.Breaks.{breaks, least_of, is_less}
use Rattle.design_breaks.specs.Spots.{Spots, if_here, kind_spots, process_spots, result_spots, function_spots, stmt_spots, spots_in, IsRefusalOf}
use Rattle.spot_laws.specs.Laws.{StandsIn}
use Rattle.spot_laws.proofs.Breaks.{have-spots}
use Rattle.break_spots.specs.Walk as W
use Rattle.break_spots.specs.Walk.{Walk, look, in_turn, if_so, refusal_at, kind_walk, process_walk, result_walk, function_walk, stmt_walk, design_walk, process_here, function_here, signal_here}
use Rattle.break_spots.proofs.InExprs.{Follows, first_in, first-append, in-both}
use Rattle.break_spots.proofs.InStmts.{in-stmt}

module _ (at : ℕ) where
  in-kind : (kind : ProcessKind) → Follows at (kind_walk at kind) (kind_spots kind)
  in-kind Continuous u = refl
  in-kind (Link port) u = refl
  in-kind Comb u = refl
  in-kind Latch u = refl
  in-kind Star u = refl
  in-kind (Edges es) u = edges es u
    where
      edges : (es : List EdgeOn) → Follows at (W.edges_walk at es) (map (λ (e : EdgeOn). e.spot) es)
      edges [] v = refl
      edges (e ∷ es) v = edges es (look at e.spot v)

  in-process : (p : Process) → Follows at (process_walk at p) (process_spots p)
  in-process p u =
      ap (stmt_walk at p.body) (in-kind p.kind (look at p.spot u))
      ∙ in-stmt at p.body (first_in at (kind_spots p.kind) (look at p.spot u))
      ∙ sym (first-append at (kind_spots p.kind) (stmt_spots p.body) (look at p.spot u))

  in-spots : (ss : Spots) → Follows at (W.spots_walk at ss) ss
  in-spots [] u = refl
  in-spots (s ∷ ss) u = in-spots ss (look at s u)

  in-result : (kind : FunctionKind) → Follows at (result_walk at kind) (result_spots kind)
  in-result Plain u = refl
  in-result Routine u = refl
  in-result (Made ss) u = in-spots ss u

  in-formals : (ps : List Formal) → Follows at (W.formals_walk at ps) (map (λ (p : Formal). p.spot) ps)
  in-formals [] u = refl
  in-formals (p ∷ ps) u = in-formals ps (look at p.spot u)

  in-function : (f : Function) → Follows at (function_walk at f) (function_spots f)
  in-function f u =
      in-both at (result_walk at f.kind) (W.both (W.formals_walk at f.formals) (stmt_walk at f.body)) (result_spots f.kind) (map (λ (p : Formal). p.spot) f.formals ++ stmt_spots f.body) (in-result f.kind)
      (in-both at (W.formals_walk at f.formals) (stmt_walk at f.body) (map (λ (p : Formal). p.spot) f.formals) (stmt_spots f.body) (in-formals f.formals) (in-stmt at f.body)) (look at f.spot u)

  in-if : (b : Bool) (w : Walk) (ss : Spots) → Follows at w ss → Follows at (if_so b w) (cond b ss [])
  in-if true w ss h u = h u
  in-if false w ss h u = refl

  -- all of a list
  in-each : {A : Type 0} (walks : A → Walk) (spots : A → Spots) → ((x : A) → Follows at (walks x) (spots x)) → (xs : List A) → Follows at (in_turn (map walks xs)) (flat_map spots xs)
  in-each walks spots h [] u = refl
  in-each walks spots h (x ∷ xs) u =
      ap (in_turn (map walks xs)) (h x u)
      ∙ in-each walks spots h xs (first_in at (spots x) u)
      ∙ sym (first-append at (spots x) (flat_map spots xs) u)

  in-design : (n : ℕ) (d : Design) → Follows at (design_walk at n d) (spots_in d n)
  in-design n d =
      let processes = in_turn (map (process_here at n) d.processes) in
      let functions = in_turn (map (function_here at n) d.functions) in
      let signals = in_turn (map (signal_here at n) d.signals) in
      let ps = flat_map (λ (p : Process). if_here n p.instance (process_spots p)) d.processes in
      let fs = flat_map (λ (f : Function). if_here n f.instance (function_spots f)) d.functions in
      let ss = flat_map (λ (s : Signal). if_here n s.instance (s.spot ∷ [])) d.signals in
      in-both at processes (W.both functions signals) ps (fs ++ ss)
      (in-each (process_here at n) (λ (p : Process). if_here n p.instance (process_spots p)) (λ p. in-if (n == p.instance) (process_walk at p) (process_spots p) (in-process p)) d.processes)
      (in-both at functions signals fs ss
      (in-each (function_here at n) (λ (f : Function). if_here n f.instance (function_spots f)) (λ f. in-if (n == f.instance) (function_walk at f) (function_spots f) (in-function f)) d.functions)
      (in-each (signal_here at n) (λ (s : Signal). if_here n s.instance (s.spot ∷ [])) (λ s. in-if (n == s.instance) (look at s.spot) (s.spot ∷ []) (λ u. refl)) d.signals))

  -- what is found stands there
  kept : (ss : Spots) (s : Spot) → first_in at ss (Some s) ≡ Some s
  kept [] s = refl
  kept (t ∷ ss) s = kept ss s

  abbrev Found : Spots → Option Spot → Type 0
  Found ss None = (s : Spot) → Member ss s → s.at ≡ at → ⊥
  Found ss (Some s) = Member ss s × (s.at ≡ at)

  found : (ss : Spots) → Found ss (first_in at ss None)
  found [] = λ s m is. elim m [ ]
  found (t ∷ ss) = by (t.at == at) refl (found ss)
    where
      later : (o : Option Spot) → (t.at == at) ≡ false → Found ss o → Found (t ∷ ss) o
      later None other g = λ s m is. elim m [ inl same ↦ false≢true (sym other ∙ eq-eqb t.at at (ap (λ (x : Spot). x.at) (sym same) ∙ is)) | inr more ↦ g s more is ]
      later (Some s) other g = (inr g.0, g.1)

      by : (b : Bool) → (t.at == at) ≡ b → Found ss (first_in at ss None) → Found (t ∷ ss) (first_in at ss (cond b (Some t) None))
      by true is g = subst (λ o. Found (t ∷ ss) o) (sym (kept ss t)) (inl refl, eqb-true t.at at is)
      by false is g = later (first_in at ss None) is g

pub walk-finds : (at n : ℕ) (d : Design) (o : Option Spot) → o ≡ design_walk at n d None → Found at (spots_in d n) o
walk-finds at n d o is = subst (λ x. Found at (spots_in d n) x) (sym (is ∙ in-design at n d None)) (found at (spots_in d n))

-- where a break stands something is found
pub never-none : (d : Design) (n at : ℕ) → StandsIn d n at → None ≡ design_walk at n d None → ⊥
never-none d n at h is = walk-finds at n d None is h.spot h.stands h.at_it

pub refused-at : (d : Design) (b : Break) (s : Spot) (r : Refusal) → Some s ≡ design_walk b.at b.instance d None → r ≡ refusal_at b.rule s → IsRefusalOf d b r
refused-at d b s r is same =
    let f = walk-finds b.at b.instance d (Some s) is in
    record { spot = s; stands = f.0; at = f.1; is = same }

-- the least of some breaks is one of them
pub least-there : (bs : List Break) (b : Break) → least_of bs ≡ Some b → Member bs b
least-there [] b h = cc
least-there (c ∷ bs) b h = by (least_of bs) (least-there bs) h
  where
    of_two : (t : Bool) (e : Break) → cond t (Some e) (Some c) ≡ Some b → Member bs e → Member (c ∷ bs) b
    of_two true e g m = let same : b ≡ e = cc in inr (subst (λ x. Member bs x) (sym same) m)
    of_two false e g m = let same : b ≡ c = cc in inl same

    by : (o : Option Break) → ((e : Break) → o ≡ Some e → Member bs e) → elim o [ None ↦ Some c | Some e ↦ cond (is_less e c) (Some e) (Some c) ] ≡ Some b → Member (c ∷ bs) b
    by None f g = let same : b ≡ c = cc in inl same
    by (Some e) f g = of_two (is_less e c) e g (f e refl)

pub refused-ok : (d : Design) (b : Break) (s : Spot) (r : Result Refusal AllocError) → Some s ≡ design_walk b.at b.instance d None → IfOk r (λ x. x ≡ refusal_at b.rule s) → IfOk r (λ x. IsRefusalOf d b x)
refused-ok d b s r is = IfOk-weaker r (λ x. x ≡ refusal_at b.rule s) (λ x. IsRefusalOf d b x) (λ x same. refused-at d b s x is same)

pub least-stands : (d : Design) → length d.signals ≤ 2 ^ 32 → (b : Break) → least_of (breaks d) ≡ Some b → StandsIn d b.instance b.at
least-stands d few b is = have-spots d few b (least-there (breaks d) b is)
