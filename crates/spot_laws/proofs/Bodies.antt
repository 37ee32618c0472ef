-- The tokens of each rule on a process or function are tokens of it.
use Rattle.std.proofs.Common.{◌≡◌, ℕ, zero, suc, ◌<◌, ◌≤◌, ◌^◌, Bool, true, false, ◌&&◌, ◌||◌, ◌==◌, not, List, [], ◌∷◌, ◌++◌, length, map, flat_map, filter, take, drop, reverse, Option, Some, None, refl, ap, ◌∙◌, arith}
use Rattle.std.specs.Prelude.{nat_lt, nat_le, slice_get}
use Rattle.std.specs.List.{list_any}
use Rattle.std.proofs.lemmas.Bool.{false≢true, and_parts, eqb-true, lt-ltb}
use Rattle.row_machine.specs.Valuation.{Place, Member}
use Rattle.row_machine.proofs.Basics.{member-has}
use Rattle.sv_source.specs.declared.token.Spot.{Spot}
use Rattle.sv_types.specs.declared.statement.Formal.{Formal}
use Rattle.sv_types.specs.declared.statement.Function.{Function}
use Rattle.sv_types.specs.declared.statement.FunctionKind.{FunctionKind}
use Rattle.sv_types.specs.declared.statement.FunctionKind.TheVariants.{Plain, Routine, Made}
use Rattle.sv_types.specs.declared.statement.Outcome.TheVariants.{Normal}
use Rattle.sv_types.specs.declared.statement.Stmt.{Stmt}
use Rattle.sv_types.specs.declared.design.Design.{Design}
use Rattle.sv_types.specs.declared.design.EdgeOn.{EdgeOn}
use Rattle.sv_types.specs.declared.design.Process.{Process}
use Rattle.sv_types.specs.declared.design.ProcessKind.{ProcessKind}
use Rattle.sv_types.specs.declared.design.ProcessKind.TheVariants.{Continuous, Link, Comb, Latch, Star, Edges}
use Rattle.sv_types.specs.declared.design.Signal.{Signal}
use Rattle.sv_types.specs.Surroundings.{Use, is_signal}
use Rattle.sv_types.specs.Flows.{covers, uses_of}
use Rattle.sv_types.specs.Machine.{parts, places, unseen, is_input}
use Rattle.sv_types.proofs.Terms.{Each}
use Rattle.design_breaks.specs.Unrolling.{most_statements}
use Rattle.design_breaks.specs.Actions.{Assignment, Passed, actions}
use Rattle.design_breaks.specs.Memories.{is_edged, flow, writes_of}
use Rattle.design_breaks.specs.Breaks as B
use Rattle.design_breaks.specs.Breaks.{only_if}
use Rattle.design_breaks.specs.Spots.{process_spots, function_spots, kind_spots, result_spots, stmt_spots}
use Rattle.break_laws.proofs.Numbers.{is-a-signal}
use Rattle.spot_laws.proofs.Each.{each-append, each-left, each-right, each-map, each-flat, each-cond, each-only, each-filter, each-member, each-reverse}
use Rattle.spot_laws.proofs.Tells.{AtUse}
use Rattle.spot_laws.proofs.Exprs.{AtSpot}
use Rattle.spot_laws.proofs.Flows.{Shows}
use Rattle.spot_laws.proofs.Stmts.{Speaks, speaks}
use Rattle.spot_laws.proofs.Tokens as T
use Rattle.spot_laws.proofs.Tokens.{AtSignal}

-- an input is a signal
below-length : {A : Type 0} (xs : List A) (n : ℕ) (x : A) → slice_get xs n ≡ Some x → n < length xs
below-length [] n x h = cc
below-length (y ∷ xs) zero x h = omega arith
below-length (y ∷ xs) (suc n) x h = let low = below-length xs n x h in omega (arith, low)

input-is-signal : (d : Design) → length d.signals ≤ 2 ^ 32 → (n : ℕ) → B.is_any_input d n ≡ true → is_signal n ≡ true
input-is-signal d few n h = by (slice_get d.signals n) refl h
  where
    by : (o : Option Signal) → slice_get d.signals n ≡ o → elim o [ None ↦ false | Some s ↦ is_input s.kind ] ≡ true → is_signal n ≡ true
    by None is g = absurd (false≢true g)
    by (Some s) is g = let low = below-length d.signals n s is in lt-ltb n (2 ^ 32) (omega (arith, low, few))

-- statements
module _ (S : ℕ → Type 0) (d : Design) where
  pub endless-stands : (s : Stmt) → Speaks S s → Each S (B.endless_of d s)
  endless-stands s h =
      each-append S (B.unbounded_of d s) (B.endless_at (B.unrolled d s)) (h.says.unbounded (B.formals d) (unseen (parts d)))
      (T.each-endless S (B.unrolled d s) (h.says.unrolls (B.formals d) (unseen (parts d)) (record { left = Some most_statements; endless = None }) tt))

  pub long-stands : (s : Stmt) (at : ℕ) → S at → Each S (B.too_long d s at)
  long-stands s at h = each-only S (B.is_none (B.unbounded_of d s) && B.is_too_many (B.unrolled d s)) (at ∷ []) (λ is. (h, tt))

  pub deferred-stands : (in_edges : Bool) (s : Stmt) → Speaks S s → Each S (B.deferred d in_edges s)
  deferred-stands in_edges s h =
      each-map S (λ (a : Assignment). a.at) (filter (λ (a : Assignment). a.later && (not in_edges || B.names_local d a.to)) (actions s).assigns)
      (each-filter (λ (a : Assignment). S a.at) (λ (a : Assignment). a.later && (not in_edges || B.names_local d a.to)) (actions s).assigns h.says.assigns)

-- processes
module _ (S : ℕ → Type 0) (d : Design) (few : length d.signals ≤ 2 ^ 32) (p : Process) (h : Each (AtSpot S) (process_spots p)) where
  pub body-speaks : Speaks S p.body
  body-speaks = speaks S p.body (each-right (AtSpot S) (kind_spots p.kind) (stmt_spots p.body) h.1)

  shows : Shows S (flow d p)
  shows = body-speaks.does (unseen (parts d))

  pub writes-stand : Each (AtSignal S) (writes_of d p)
  writes-stand = each-cond (AtSignal S) (is_edged p.kind) (uses_of (flow d p).later) (uses_of (flow d p).writes) (T.signal-uses S (flow d p).later shows.later) (T.signal-uses S (flow d p).writes shows.writes)

  pub all-writes-stand : Each (AtUse S) (B.all_writes d p)
  all-writes-stand = each-only (AtUse S) (B.unrolls d p.body) (filter (λ (u : Use). is_signal u.number) (writes_of d p)) (λ is. T.tested S (λ (u : Use). is_signal u.number) (λ u g. g) (writes_of d p) writes-stand)

  pub twice-stand : (n : ℕ) → Each S (B.written_twice d n p)
  twice-stand n =
      T.tokens S (filter (λ w. list_any (B.is_second d p w) (B.other_than d n 0 d.processes)) (B.all_writes d p))
      (each-filter (AtUse S) (λ w. list_any (B.is_second d p w) (B.other_than d n 0 d.processes)) (B.all_writes d p) all-writes-stand)

  pub drives-stand : Each S (B.drives_a_value d p)
  drives-stand =
      let test = λ (w : Use). B.is_declared d w.number && nat_lt w.low w.high in
      each-only S (B.continuous d p.kind) (map (λ (w : Use). w.at) (filter test (B.all_writes d p)))
      (λ is. T.tokens S (filter test (B.all_writes d p)) (each-filter (AtUse S) test (B.all_writes d p) all-writes-stand))

  -- the places of a design are those of signals
  covers-signal : (q : Place) → is_signal q.signal ≡ true → (u : Use) → covers u q ≡ true → is_signal u.number ≡ true
  covers-signal q is u g = ap is_signal (eqb-true u.number q.signal (and_parts (u.number == q.signal) (nat_le u.low q.bit && nat_lt q.bit u.high) g).0) ∙ is

  pub first-stands : (q : Place) → Member (places (parts d)) q → Each S (B.first_write d (flow d p) q)
  first-stands q m =
      T.each-least S d (map (λ (u : Use). u.at) (filter (λ u. covers u q) (uses_of (flow d p).writes)))
      (T.tokens S (filter (λ u. covers u q) (uses_of (flow d p).writes))
      (T.tested S (λ u. covers u q) (covers-signal q (is-a-signal d few q (member-has (places (parts d)) q m))) (uses_of (flow d p).writes) (T.signal-uses S (flow d p).writes shows.writes)))

  pub left-stand : Each S (B.left_out d p)
  left-stand =
      let left = λ (q : Place). only_if ((flow d p).slips Normal q) (B.first_write d (flow d p) q) in
      each-only S (B.unrolls d p.body && not (B.is_complete d p.kind)) (flat_map left (places (parts d)))
      (λ is. each-flat S left (places (parts d))
      (each-member (λ q. Each S (left q)) (places (parts d)) (λ q m. each-only S ((flow d p).slips Normal q) (B.first_write d (flow d p) q) (λ slips. first-stands q m))))

  pub early-stand : Each S (B.read_early d p)
  early-stand =
      let early = λ (q : Place). only_if (list_any (λ u. covers u q) (uses_of (flow d p).writes)) ((flow d p).early q) in
      each-only S (B.unrolls d p.body && not (is_edged p.kind)) (flat_map early (places (parts d)))
      (λ is. each-flat S early (places (parts d))
      (each-member (λ q. Each S (early q)) (places (parts d)) (λ q m. each-only S (list_any (λ u. covers u q) (uses_of (flow d p).writes)) ((flow d p).early q) (λ written. shows.early q))))

  pub local-stand : Each S (B.local_early d p)
  local-stand = each-only S (B.unrolls d p.body) (flow d p).unset (λ is. shows.unset)

  pub once-stand : Each S (B.at_once d p)
  once-stand =
      let test = λ (a : Assignment). not a.later && B.names_signal d a.to in
      let passed = λ (a : Passed). B.names_signal d a.to in
      let assigns = map (λ (a : Assignment). a.at) (filter test (actions p.body).assigns) in
      let passes = map (λ (a : Passed). a.at) (filter passed ((actions p.body).passes (B.formals d))) in
      each-only S (is_edged p.kind) (assigns ++ passes)
      (λ is. each-append S assigns passes
      (each-map S (λ (a : Assignment). a.at) (filter test (actions p.body).assigns) (each-filter (λ (a : Assignment). S a.at) test (actions p.body).assigns body-speaks.says.assigns))
      (each-map S (λ (a : Passed). a.at) (filter passed ((actions p.body).passes (B.formals d)))
      (each-filter (λ (a : Passed). S a.at) passed ((actions p.body).passes (B.formals d)) (body-speaks.says.passes (B.formals d)))))

  pub edges-stand : Each S (B.unfit_edges d p)
  edges-stand = by p.kind (each-left (AtSpot S) (kind_spots p.kind) (stmt_spots p.body) h.1)
    where
      edge : (es : List EdgeOn) → Each (AtSpot S) (map (λ (e : EdgeOn). e.spot) es) → Each (λ (e : EdgeOn). S e.spot.at) es
      edge [] g = tt
      edge (e ∷ es) g = (g.0, edge es g.1)

      unfit : EdgeOn → Bool
      unfit e = not ((B.width_at d e.signal == 1) && B.is_joined d (length d.signals) e.signal)

      by : (kind : ProcessKind) → Each (AtSpot S) (kind_spots kind) → Each S (elim kind [ Edges es ↦ map (λ (e : EdgeOn). e.spot.at) (filter unfit es) | other ↦ [] ])
      by Continuous g = tt
      by (Link port) g = tt
      by Comb g = tt
      by Latch g = tt
      by Star g = tt
      by (Edges es) g = each-map S (λ (e : EdgeOn). e.spot.at) (filter unfit es) (each-filter (λ (e : EdgeOn). S e.spot.at) unfit es (edge es g))

  pub input-stand : Each S (B.writes_input d p)
  input-stand =
      let test = λ (u : Use). B.is_any_input d u.number && (nat_lt u.low u.high && not (B.is_own_link d p.kind u.number)) in
      let us = uses_of (flow d p).writes ++ uses_of (flow d p).later in
      each-only S (B.unrolls d p.body) (map (λ (u : Use). u.at) (filter test us))
      (λ is. T.tokens S (filter test us)
      (T.tested S test (λ u g. input-is-signal d few u.number (and_parts (B.is_any_input d u.number) (nat_lt u.low u.high && not (B.is_own_link d p.kind u.number)) g).0) us
      (each-append (AtSignal S) (uses_of (flow d p).writes) (uses_of (flow d p).later) (T.signal-uses S (flow d p).writes shows.writes) (T.signal-uses S (flow d p).later shows.later))))

-- functions
module _ (S : ℕ → Type 0) (d : Design) (f : Function) (h : Each (AtSpot S) (function_spots f)) where
  pub function-speaks : Speaks S f.body
  function-speaks =
      speaks S f.body (each-right (AtSpot S) (map (λ (p : Formal). p.spot) f.formals) (stmt_spots f.body)
      (each-right (AtSpot S) (result_spots f.kind) (map (λ (p : Formal). p.spot) f.formals ++ stmt_spots f.body) h.1))

  function-shows : Shows S (B.function_flow d f)
  function-shows = function-speaks.does (unseen (parts d))

  abbrev AtOwed : Place × ℕ → Type 0
  AtOwed o = S o.1

  at-places : (qs : List Place) (at : ℕ) → S at → Each AtOwed (map (λ q. (q, at)) qs)
  at-places [] at g = tt
  at-places (q ∷ qs) at g = (g, at-places qs at g)

  at-members : (ws : List ℕ) (ss : List Spot) (qs : List Place) → Each (AtSpot S) ss → Each AtOwed (B.tokens_of_members d ws ss qs)
  at-members [] [] qs g = tt
  at-members (w ∷ ws) [] qs g = tt
  at-members [] (s ∷ ss) qs g = tt
  at-members (w ∷ ws) (s ∷ ss) qs g =
      each-append AtOwed (map (λ q. (q, s.at)) (take w qs)) (B.tokens_of_members d ws ss (drop w qs)) (at-places (take w qs) s.at g.0) (at-members ws ss (drop w qs) g.1)

  formal-tokens : (ps : List Formal) → Each (AtSpot S) (map (λ (p : Formal). p.spot) ps) → Each (λ (p : Formal). S p.spot.at) ps
  formal-tokens [] g = tt
  formal-tokens (p ∷ ps) g = (g.0, formal-tokens ps g.1)

  at-formals : (ps : List Formal) → Each (λ (p : Formal). S p.spot.at) ps → Each AtOwed (flat_map (λ (p : Formal). map (λ q. (q, p.spot.at)) (B.formal_places d p)) ps)
  at-formals [] g = tt
  at-formals (p ∷ ps) g =
      each-append AtOwed (map (λ q. (q, p.spot.at)) (B.formal_places d p)) (flat_map (λ (o : Formal). map (λ q. (q, o.spot.at)) (B.formal_places d o)) ps) (at-places (B.formal_places d p) p.spot.at g.0)
      (at-formals ps g.1)

  pub owed-stand : Each AtOwed (B.owed d f)
  owed-stand = by f.kind (each-left (AtSpot S) (result_spots f.kind) (map (λ (p : Formal). p.spot) f.formals ++ stmt_spots f.body) h.1)
    where
      formals : Each (λ (p : Formal). S p.spot.at) f.formals
      formals =
          formal-tokens f.formals (each-left (AtSpot S) (map (λ (p : Formal). p.spot) f.formals) (stmt_spots f.body)
          (each-right (AtSpot S) (result_spots f.kind) (map (λ (p : Formal). p.spot) f.formals ++ stmt_spots f.body) h.1))

      by : (kind : FunctionKind) → Each (AtSpot S) (result_spots kind) → Each AtOwed (elim kind [
        | Plain ↦ map (λ q. (q, f.spot.at)) (B.result_places d f)
        | Routine ↦ flat_map (λ (p : Formal). map (λ q. (q, p.spot.at)) (B.formal_places d p)) (filter (B.is_output d) f.formals)
        | Made spots ↦ B.tokens_of_members d (B.member_widths d f.of) (reverse spots) (B.result_places d f)
      ])
      by Plain g = at-places (B.result_places d f) f.spot.at h.0
      by Routine g = at-formals (filter (B.is_output d) f.formals) (each-filter (λ (p : Formal). S p.spot.at) (B.is_output d) f.formals formals)
      by (Made spots) g = at-members (B.member_widths d f.of) (reverse spots) (B.result_places d f) (each-reverse (AtSpot S) spots g)

  pub result-stand : Each S (B.result_left_out d f)
  result-stand =
      let slips = λ (o : Place × ℕ). B.slips_out d (B.function_flow d f) o.0 in
      each-only S (B.unrolls d f.body) (map (λ (o : Place × ℕ). o.1) (filter slips (B.owed d f)))
      (λ is. each-map S (λ (o : Place × ℕ). o.1) (filter slips (B.owed d f)) (each-filter AtOwed slips (B.owed d f) owed-stand))

  pub result-early-stand : Each S (B.result_early d f)
  result-early-stand =
      let early = λ (o : Place × ℕ). (B.function_flow d f).early o.0 in
      each-only S (B.unrolls d f.body) ((B.function_flow d f).unset ++ flat_map early (B.owed d f))
      (λ is. each-append S (B.function_flow d f).unset (flat_map early (B.owed d f)) function-shows.unset
      (each-flat S early (B.owed d f) (each-member (λ o. Each S (early o)) (B.owed d f) (λ o m. function-shows.early o.0))))
