-- A small design that breaks no rule, and a loop that does: what the laws ask for can be met.
use Rattle.std.proofs.Common.{◌≡◌, ℕ, ◌==◌, ◌&&◌, ◌||◌, not, inl, inr, length, Bool, true, false, List, [], ◌∷◌, ◌++◌, map, filter, flat_map, None, Some, refl, ap, sym, ◌∙◌, subst, rules, arith}
use Rattle.std.specs.Prelude.{slice_get, nat_lt}
use Rattle.std.specs.List.{list_any}
use Rattle.std.proofs.lemmas.Bool.{and_right, and_from, false≢true}
use Rattle.row_machine.specs.Valuation.{Place, Valuation, Member, has}
use Rattle.row_machine.specs.Places.{places_of}
use Rattle.row_machine.specs.Machine as X
use Rattle.row_machine.specs.Order.{follows, Free, Sound}
use Rattle.row_machine.specs.Stuck.{Stuck}
use Rattle.row_machine.specs.Trace.{OneTrace}
use Rattle.row_machine.proofs.Laws as Laws
use Rattle.sv_source.specs.declared.token.Spot.{Spot}
use Rattle.sv_types.specs.declared.types.SvType.{SvType}
use Rattle.sv_types.specs.declared.types.SvType.TheVariants as T
use Rattle.sv_types.specs.declared.types.SvType as TL
use Rattle.sv_types.specs.declared.types.Value.{Value}
use Rattle.sv_types.specs.declared.expression.Expr.{Expr, roll-Expr}
use Rattle.sv_types.specs.declared.expression.Form.{Form}
use Rattle.sv_types.specs.declared.expression.Form as FL
use Rattle.sv_types.specs.declared.expression.Form.TheVariants as V
use Rattle.sv_types.specs.declared.statement.Stmt.{Stmt}
use Rattle.sv_types.specs.declared.statement.Stmt as SL
use Rattle.sv_types.specs.declared.statement.Stmt.TheVariants as S
use Rattle.sv_types.specs.declared.design.Design.{Design}
use Rattle.sv_types.specs.declared.design.Process.{Process}
use Rattle.sv_types.specs.declared.design.Signal.{Signal}
use Rattle.sv_types.specs.declared.design.ProcessKind.TheVariants as K
use Rattle.sv_types.specs.declared.design.SignalKind.TheVariants as N
use Rattle.sv_types.specs.Layouts.{Layout, layout, width_of, type_step}
use Rattle.sv_types.specs.Expressions.{meaning}
use Rattle.sv_types.specs.Paths as P
use Rattle.sv_types.specs.Surroundings.{Sight, Use, is_signal}
use Rattle.sv_types.specs.Flows.{covers, uses_of}
use Rattle.sv_types.specs.declared.statement.Outcome.TheVariants.{Normal}
use Rattle.sv_types.specs.Machine.{parts, places, unseen, comb, comb_of, machine}
use Rattle.sv_types.specs.Statements as D
use Rattle.sv_types.specs.Statements.{Doing, doing}
use Rattle.sv_types.proofs.DoingLevels as L
use Rattle.design_breaks.specs.Actions as A
use Rattle.design_breaks.specs.Actions.{Actions, actions}
use Rattle.design_breaks.specs.Mentions as M
use Rattle.design_breaks.specs.Memories.{is_unpacked_array, is_memory}
use Rattle.design_breaks.specs.Indices as I
use Rattle.design_breaks.specs.Unrolling as U
use Rattle.design_breaks.specs.declared.Break.{Break}
use Rattle.design_breaks.specs.declared.Unrolled.{Unrolled}
use Rattle.design_breaks.specs.Breaks as B
use Rattle.design_breaks.specs.Breaks.{breaks, least_of}
use Rattle.design_breaks.specs.Circles.{IsStuck}
use Rattle.flow_laws.specs.Runs.{Variables}
use Rattle.flow_laws.specs.Statements.{has_variables, has_width}
use Rattle.break_laws.specs.Widths.{Widths, expr_fits}
use Rattle.break_laws.specs.Shapes.{Shaped, ShapedProcess, only_those, width_at}
use Rattle.break_laws.specs.Laws.{formals_of}
use Rattle.break_laws.proofs.ActionLevels as AL
use Rattle.break_laws.proofs.StmtFitLevels as FS
use Rattle.break_laws.proofs.Bounds.{are-bounded}
use Rattle.break_laws.proofs.Standing.{has-trace}

abbrev bit : SvType
bit = T.Scalar true false

abbrev bit_layout : Layout
bit_layout = type_step (TL.SvType-F.Scalar true false)

layout-bit : layout bit ≡ bit_layout
layout-bit = search (rules, TL.the_lemmas)

out-bit : TL.out-SvType bit ≡ TL.SvType-F.Scalar true false
out-bit = search (rules, TL.the_lemmas)

packed : is_unpacked_array bit ≡ false
packed = rw (out-bit, is_unpacked_array) refl

module _ (here : Spot) (initial : Value) where
  abbrev named : ℕ → Expr
  named n = roll-Expr (record { form = V.Signal n; of = bit; spot = here })

  meaning-named : (n : ℕ) → meaning (named n) ≡ P.signal (layout bit) here.at n
  meaning-named n = search (rules, FL.the_lemmas)

  names : (n : ℕ) → meaning (named n) ≡ P.signal bit_layout here.at n
  names n = meaning-named n ∙ ap (λ l. P.signal l here.at n) layout-bit

  mentions-named : (n : ℕ) → M.mentions (named n) ≡ M.signal n
  mentions-named n = search (rules, FL.the_lemmas)

  -- `assign y = a`, of two signals of one bit
  abbrev body : Stmt
  body = S.Assign (named 1 ∷ []) (named 0) false here

  abbrev does : Doing
  does = D.counted (D.assigning (P.signal bit_layout here.at 1 ∷ []) (P.signal bit_layout here.at 0) false)

  body-does : doing body ≡ does
  body-does = L.doing-Assign (named 1 ∷ []) (named 0) false here ∙ (λ i. D.counted (D.assigning (names 1 i ∷ []) (names 0 i) false))

  abbrev says : Actions
  says = record (A.saying []) {
    assigns = record { at = here.at; later = false; to = (P.signal bit_layout here.at 1).roots ++ [] } ∷ [];
    said = M.all (M.signal 1 ∷ M.signal 0 ∷ []);
    targets = λ fs. (P.signal bit_layout here.at 1).roots ++ [];
    unrolls = λ fs k u. U.counted (λ j v. v) k u;
  }

  long-named : (n : ℕ) → (I.said (named n)).long ≡ I.none
  long-named n = search (rules, FL.the_lemmas)

  body-says : actions body ≡ says
  body-says = AL.actions-Assign (named 1 ∷ []) (named 0) false here
      ∙ (λ i. record (A.saying []) {
        assigns = record { at = here.at; later = false; to = (names 1 i).roots ++ [] } ∷ [];
        said = M.all (mentions-named 1 i ∷ mentions-named 0 i ∷ []);
        targets = λ fs. (names 1 i).roots ++ [];
        unrolls = λ fs. U.counted (λ k u. U.found (I.all (long-named 1 i ∷ long-named 0 i ∷ []) k) u);
      })

  abbrev design : Design
  design = record {
    instances = [];
    signals = record { instance = 1; path = []; of = bit; kind = N.InputNet; initial = initial; declared = false; spot = here }
        ∷ record { instance = 1; path = []; of = bit; kind = N.OutputNet; initial = initial; declared = false; spot = here } ∷ [];
    processes = record { instance = 1; kind = K.Continuous; body = body; spot = here } ∷ [];
    functions = [];
  }

  -- which breaks no rule
  abbrev assignment : Process
  assignment = record { instance = 1; kind = K.Continuous; body = body; spot = here }

  abbrev before : Sight
  before = unseen (parts design)

  abbrev nothing_yet : Unrolled
  nothing_yet = record { left = Some U.most_statements; endless = None }

  abbrev whole : Actions → Bool
  whole a = B.is_none (a.unbounded (B.formals design) before) && B.is_whole (a.unrolls (B.formals design) before nothing_yet)

  abbrev uses : Doing → List Use
  uses w = uses_of (w.flow before).writes

  abbrev own : Actions → Doing → List Use
  own a w = B.only_if (whole a) (filter (λ (u : Use). is_signal u.number) (uses w))

  abbrev bits : List Place
  bits = record { signal = 0; bit = 0 } ∷ record { signal = 1; bit = 0 } ∷ []

  bits-are : places (parts design) ≡ bits
  bits-are = λ i. places_of 0 (length (layout-bit i).two_state) ++ (places_of 1 (length (layout-bit i).two_state) ++ [])

  none-twice : B.written_twice design 0 assignment ≡ []
  unfolding P.signal
  none-twice = λ i. map (λ (u : Use). u.at) (filter (λ u. list_any (B.is_second design assignment u) (B.other_than design 0 0 design.processes)) (own (body-says i) (body-does i)))

  none-driven : B.drives_a_value design assignment ≡ []
  unfolding P.signal
  none-driven = λ i. map (λ (u : Use). u.at) (filter (λ (u : Use). B.is_declared design u.number && nat_lt u.low u.high) (own (body-says i) (body-does i)))

  none-left : B.left_out design assignment ≡ []
  unfolding P.signal
  none-left = λ i. B.only_if (whole (body-says i) && true) (flat_map (λ q. B.only_if (((body-does i).flow before).slips Normal q) (B.first_write design ((body-does i).flow before) q)) (bits-are i))

  none-early : B.read_early design assignment ≡ []
  unfolding P.signal
  none-early = λ i. B.only_if (whole (body-says i) && true) (flat_map (λ q. B.only_if (list_any (λ u. covers u q) (uses (body-does i))) (((body-does i).flow before).early q)) (bits-are i))

  none-unset : B.local_early design assignment ≡ []
  unfolding P.signal
  none-unset = λ i. B.only_if (whole (body-says i)) ((body-does i).flow before).unset

  none-deferred : B.deferred design false body ≡ []
  none-deferred = λ i. map (λ (x : A.Assignment). x.at) (filter (λ (x : A.Assignment). x.later && (true || B.names_local design x.to)) (body-says i).assigns)

  none-endless : B.endless_of design body ≡ []
  none-endless = λ i. (body-says i).unbounded (B.formals design) before ++ B.endless_at ((body-says i).unrolls (B.formals design) before nothing_yet)

  none-input : B.writes_input design assignment ≡ []
  unfolding P.signal
  none-input = λ i. B.only_if (whole (body-says i)) (map (λ (u : Use). u.at)
      (filter (λ (u : Use). B.is_any_input design u.number && (nat_lt u.low u.high && not (B.is_own_link design K.Continuous u.number))) (uses (body-does i) ++ uses_of ((body-does i).flow before).later)))

  none-long : B.too_long design body here.at ≡ []
  none-long = λ i. B.only_if (B.is_none ((body-says i).unbounded (B.formals design) before) && B.is_too_many ((body-says i).unrolls (B.formals design) before nothing_yet)) (here.at ∷ [])

  none-wide : (n : ℕ) (s : Signal) → s.of ≡ bit → B.too_wide design (n, s) ≡ []
  none-wide n s is = by (is_unpacked_array s.of) (ap is_unpacked_array is ∙ packed)
    where
      by : (b : Bool) → b ≡ false
          → B.only_if {A = Break} (b && (nat_lt (B.most_bits design) (width_of s.of) && (B.is_settled design n && not (is_memory design n s)))) (record { instance = s.instance; at = s.spot.at; rule = 701 } ∷ []) ≡ []
      by b h = ap (λ c. B.only_if {A = Break} (c && (nat_lt (B.most_bits design) (width_of s.of) && (B.is_settled design n && not (is_memory design n s)))) (record { instance = s.instance; at = s.spot.at; rule = 701 } ∷ [])) h

  abbrev input_net : Signal
  input_net = record { instance = 1; path = []; of = bit; kind = N.InputNet; initial = initial; declared = false; spot = here }

  abbrev output_net : Signal
  output_net = record { instance = 1; path = []; of = bit; kind = N.OutputNet; initial = initial; declared = false; spot = here }

  none-broken : breaks design ≡ []
  none-broken = λ i.
      ((B.at_each 1 601 (none-twice i ++ none-driven i)
      ++ (B.at_each 1 603 (none-left i)
      ++ (B.at_each 1 604 (none-early i ++ none-unset i)
      ++ (B.at_each 1 605 []
      ++ (B.at_each 1 606 (none-deferred i)
      ++ (B.at_each 1 607 []
      ++ (B.at_each 1 608 (none-endless i)
      ++ (B.at_each 1 611 (none-input i)
      ++ B.at_each 1 703 (none-long i))))))))) ++ [])
      ++ ([] ++ (none-wide 0 input_net refl i ++ (none-wide 1 output_net refl i ++ [])))

  abbrev widths : Widths
  widths n = width_at (slice_get design.signals n)

  one-bit : width_of bit ≡ 1
  one-bit = ap (λ (l : Layout). length l.two_state) layout-bit

  named-fits : (n : ℕ) → widths n ≡ Some (width_of bit) → expr_fits widths (named n) ≡ true
  named-fits n is = fits n ∙ ap (λ w. has_width w (width_of bit)) is ∙ ap (λ w. w == w) one-bit
    where
      fits : (m : ℕ) → expr_fits widths (named m) ≡ has_width (widths m) (width_of bit)
      fits m = search (rules, FL.the_lemmas)

  no-variables : (vars : Variables) → has_variables vars body ≡ true
  no-variables vars = search (rules, SL.the_lemmas)

  -- so it meets what the laws ask for
  process-shaped : ShapedProcess design (record { instance = 1; kind = K.Continuous; body = body; spot = here })
  process-shaped = record {
    widths = widths;
    signals = λ n signal. refl;
    fits = FS.fits-Assign widths (named 1 ∷ []) (named 0) false here
        ∙ and_from _ _ (and_from (expr_fits widths (named 1)) true (named-fits 1 refl) refl) (named-fits 0 refl);
    is_variable = λ n. false;
    has = no-variables (only_those (λ n. false) widths);
  }

  shaped : Shaped design
  shaped = record {
    numbers = omega arith;
    processes = λ p m. elim m [ inl is ↦ subst (ShapedProcess design) (sym is) process-shaped | inr none ↦ elim none [ ] ];
  }

  -- and its one process isn't stuck
  abbrev its : X.Process
  its = comb (parts design) true [] (doing body)

  not-itself : follows its its ≡ false
  unfolding P.signal has
  not-itself = rw (body-does, layout-bit) refl

  is-free : (p : X.Process) → Member (its ∷ []) p → Free (its ∷ []) p
  is-free p m = Laws.independent_are_free (its ∷ []) (λ q r mq mr. ap (λ x. follows x r) (only q mq) ∙ ap (λ x. follows its x) (only r mr) ∙ not-itself) p m
    where
      only : (q : X.Process) → Member (its ∷ []) q → q ≡ its
      only q (inl is) = is
      only q (inr none) = elim none [ ]

  not-stuck : (p : Process) → IsStuck design p → ⊥
  not-stuck p s = by p s.stands s.process s.is_its s.stuck
    where
      by : (q : Process) → Member design.processes q → (c : X.Process) → Member (comb_of (parts design) (doing q.body) q.kind) c → Stuck (its ∷ []) c → ⊥
      by q (inl is) c m stuck =
          let own : Member (its ∷ []) c = subst (λ (x : Process). Member (comb_of (parts design) (doing x.body) x.kind) c) is m in
          (Laws.free_or_stuck (its ∷ []) c own).1 (is-free c own) stuck
      by q (inr none) c m stuck = elim none [ ]

  one-trace : Sound (machine design) × ((rows : List Valuation) → OneTrace (machine design) rows)
  one-trace = has-trace design shaped (record { processes = ap least_of none-broken; order = not-stuck })

  -- an inner loop that has its variable in common with the outer one
  abbrev twice : Expr → Expr → Expr → Expr → Expr → Expr → Stmt → Stmt
  twice f t s f' t' s' inner = S.Loop 0 f t s (S.Loop 0 f' t' s' inner here) here

  broken : (f t s f' t' s' : Expr) (inner : Stmt) (k : Sight) → (actions (twice f t s f' t' s' inner)).unbounded (formals_of k) k ≡ [] → ⊥
  broken f t s f' t' s' inner k none =
      let is = (are-bounded (twice f t s f' t' s' inner) k).0 none in
      let outer = ap (λ (x : Doing). x.bounded k) (L.doing-Loop 0 f t s (S.Loop 0 f' t' s' inner here) here) in
      let whole = ap (λ (x : Doing). (D.looping 0 (meaning f) (meaning t) (meaning s) x).bounded k) (L.doing-Loop 0 f' t' s' inner here) in
      false≢true (sym (and_right _ _ refl) ∙ sym (outer ∙ whole) ∙ is)
