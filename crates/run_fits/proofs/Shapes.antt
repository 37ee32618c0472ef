-- Each statement fits if its parts do.
use Rattle.std.proofs.Common.{◌≡◌, ℕ, ◌+◌, ◌≤◌, max, Bool, true, false, cond, List, [], ◌∷◌, ◌++◌, map, flat_map, Option, Some, None, refl, arith, rules, ap, sym, ◌∙◌, subst}
use Rattle.std.proofs.lemmas.Bool.Decides.{nat_tests}
use Rattle.sv_source.specs.declared.token.Spot.{Spot}
use Rattle.sv_types.specs.declared.expression.Expr.{Expr}
use Rattle.sv_types.specs.declared.statement.CaseKind.{CaseKind}
use Rattle.sv_types.specs.declared.statement.CaseItem.{CaseItem}
use Rattle.sv_types.specs.declared.statement.Local.{Local}
use Rattle.sv_types.specs.declared.statement.Stmt.{Stmt, the_lemmas}
use Rattle.sv_types.specs.declared.statement.Outcome.TheVariants as O
use Rattle.sv_types.specs.declared.statement.Stmt.TheVariants as V
use Rattle.sv_types.specs.Layouts.{Layout}
use Rattle.sv_types.specs.Surroundings.{Parameter, local_number, is_signal}
use Rattle.sv_types.specs.Meanings.{Meaning, most, total, wide}
use Rattle.sv_types.specs.Operators.{assigned_width, width_of_all}
use Rattle.sv_types.specs.Expressions.{meaning}
use Rattle.sv_types.specs.Runs.{widest_of}
use Rattle.sv_types.specs.Statements.{Doing, Item, Limits, doing, counted, scope, branching, selecting, looping, assigning, calling, jumping, limits_at, limits_alone, limits_as_target, no_limits, local_limits, all_limits, none_or, initial_of, marks_of, actual_arithmetic, actual_roots, roots_by_way}
use Rattle.sv_types.proofs.DoingLevels as D
use Rattle.sv_types.proofs.DoingLevels.{item_of, item-of}
use Rattle.sv_types.proofs.Heads.{heads}
use Rattle.eval_parts.specs.Limits.{Fits, AllFit}
use Rattle.eval_runs.specs.EvalStmts.{AllHeld}
use Rattle.eval_runs.specs.EvalStmts.{Keeps, StmtFits, AllStmtsFit, StartFits, AllLocalsFit, PerhapsFits, AllItemsFit, perhaps, widest_place, width_of_locals}
use Rattle.eval_runs.specs.EvalStmts.{AssignFits, CaseFits, AllFitWide, ItemsFitWide, values_of}
use Rattle.eval_runs.proofs.EvalStmtsPlaces as P
use Rattle.eval_runs.proofs.Levels.{perhaps-is, values-are}
use Rattle.eval_parts.specs.Steps.{can_read}
use Rattle.run_fits.proofs.Parts.{held-append}
use Rattle.run_fits.specs.Statements.{StmtIf, StmtsIf, PerhapsIf, AssignIf, PassesIf, Bounds, AllPassed}

-- what a statement keeps, by its form
record FitsAs (d : Doing) (n : ℕ) (fs : ℕ → List Parameter) (h : ℕ → Bool) : Type 0 where
  pub keeps : Keeps d fs
  pub places : n ≤ 4194304
  pub held : AllHeld (d.targets fs) h

by-form : (s f : Stmt) (d : Doing) (n : ℕ) (fs : ℕ → List Parameter) (h : ℕ → Bool) → s ≡ f → doing f ≡ d → widest_place f ≡ n → FitsAs d n fs h → StmtFits s fs h
by-form s f d n fs h is level place g =
    let at = sym (ap doing is ∙ level) in
    record {
      keeps = subst (λ (x : Doing). Keeps x fs) at g.keeps;
      places = subst (λ k. k ≤ 4194304) (sym (ap widest_place is ∙ place)) g.places;
      held = subst (λ (x : Doing). AllHeld (x.targets fs) h) at g.held;
    }

record KeepLimits (l : Limits) (fs : ℕ → List Parameter) : Type 0 where
  pub typed : l.misfits ≡ 0
  pub narrow : l.widest ≤ 4194304
  pub arithmetic : l.arithmetic fs ≤ 128
  pub indexing : l.indexing ≤ 64

fit-limits : (m : Meaning) (fs : ℕ → List Parameter) (w : ℕ) → Fits m fs w → KeepLimits (limits_at w m) fs
fit-limits m fs w f = record { typed = f.typed; narrow = f.narrow; arithmetic = f.arithmetic; indexing = f.indexing }

no-limits : (fs : ℕ → List Parameter) → KeepLimits no_limits fs
no-limits fs = record { typed = refl; narrow = omega arith; arithmetic = omega arith; indexing = omega arith }

add-limits : (x : Limits) (xs : List Limits) (fs : ℕ → List Parameter) → KeepLimits x fs → KeepLimits (all_limits xs) fs → KeepLimits (all_limits (x ∷ xs)) fs
add-limits x xs fs k r = record { typed = omega (arith, k.typed, r.typed); narrow = omega (arith, k.narrow, r.narrow); arithmetic = omega (arith, k.arithmetic, r.arithmetic); indexing = omega (arith, k.indexing, r.indexing) }

-- several statements
record KeepParts (ds : List Doing) (fs : ℕ → List Parameter) (h : ℕ → Bool) : Type 0 where
  pub typed : total (map (λ (d : Doing). d.misfits) ds) ≡ 0
  pub narrow : most (map (λ (d : Doing). d.widest) ds) ≤ 4194304
  pub arithmetic : most (map (λ (d : Doing). d.arithmetic fs) ds) ≤ 128
  pub indexing : most (map (λ (d : Doing). d.indexing) ds) ≤ 64
  pub held : AllHeld (flat_map (λ (d : Doing). d.targets fs) ds) h

no-parts : (fs : ℕ → List Parameter) (h : ℕ → Bool) → KeepParts [] fs h
no-parts fs h = record { typed = refl; narrow = omega arith; arithmetic = omega arith; indexing = omega arith; held = tt }

add-part : (d : Doing) (ds : List Doing) (fs : ℕ → List Parameter) (h : ℕ → Bool) → Keeps d fs → AllHeld (d.targets fs) h → KeepParts ds fs h → KeepParts (d ∷ ds) fs h
add-part d ds fs h k held r = record {
  typed = omega (arith, k.typed, r.typed);
  narrow = omega (arith, k.narrow, r.narrow);
  arithmetic = omega (arith, k.arithmetic, r.arithmetic);
  indexing = omega (arith, k.indexing, r.indexing);
  held = held-append (d.targets fs) (flat_map (λ (x : Doing). x.targets fs) ds) h held r.held;
}

stmts-keep : (ss : List Stmt) (fs : ℕ → List Parameter) (h : ℕ → Bool) → AllStmtsFit ss fs h → KeepParts (map doing ss) fs h
stmts-keep [] fs h f = no-parts fs h
stmts-keep (s ∷ ss) fs h f = add-part (doing s) (map doing ss) fs h f.0.keeps f.0.held (stmts-keep ss fs h f.1)

stmts-places : (ss : List Stmt) (fs : ℕ → List Parameter) (h : ℕ → Bool) → AllStmtsFit ss fs h → most (map widest_place ss) ≤ 4194304
stmts-places [] fs h f = omega arith
stmts-places (s ∷ ss) fs h f = omega (arith, f.0.places, stmts-places ss fs h f.1)

perhaps-keep : (o : Option Stmt) (fs : ℕ → List Parameter) (h : ℕ → Bool) → PerhapsFits o fs h → KeepParts (none_or (perhaps o)) fs h
perhaps-keep None fs h f = no-parts fs h
perhaps-keep (Some s) fs h f = add-part (doing s) [] fs h f.keeps f.held (no-parts fs h)

perhaps-places : (o : Option Stmt) (fs : ℕ → List Parameter) (h : ℕ → Bool) → PerhapsFits o fs h → P.perhaps_place o ≤ 4194304
perhaps-places None fs h f = omega arith
perhaps-places (Some s) fs h f = f.places

-- a statement of these expressions and parts
composed-keeps : (d : Doing) (own : Limits) (ds : List Doing) (fs : ℕ → List Parameter) (h : ℕ → Bool)
    → d.misfits ≡ own.misfits + total (map (λ (x : Doing). x.misfits) ds) → d.widest ≡ max own.widest (most (map (λ (x : Doing). x.widest) ds))
    → d.arithmetic fs ≡ max (own.arithmetic fs) (most (map (λ (x : Doing). x.arithmetic fs) ds)) → d.indexing ≡ max own.indexing (most (map (λ (x : Doing). x.indexing) ds))
    → KeepLimits own fs → KeepParts ds fs h → Keeps d fs
composed-keeps d own ds fs h t n a i k r = record {
  typed = omega (arith, t, k.typed, r.typed);
  narrow = omega (arith, n, k.narrow, r.narrow);
  arithmetic = omega (arith, a, k.arithmetic, r.arithmetic);
  indexing = omega (arith, i, k.indexing, r.indexing);
}

-- blocks
start-keeps : (o : Option Meaning) (marks : List Bool) (fs : ℕ → List Parameter) → StartFits o marks fs
    → KeepLimits (elim o as (λ x. Limits) [ None ↦ no_limits | Some m ↦ limits_at (assigned_width marks m) m ]) fs
start-keeps None marks fs f = no-limits fs
start-keeps (Some m) marks fs f = fit-limits m fs (assigned_width marks m) f

locals-keep : (ls : List Local) (fs : ℕ → List Parameter) → AllLocalsFit ls fs → KeepLimits (all_limits (map local_limits ls)) fs
locals-keep [] fs f = no-limits fs
locals-keep (l ∷ ls) fs f = add-limits (local_limits l) (map local_limits ls) fs (start-keeps (initial_of l) (marks_of l) fs f.0.start) (locals-keep ls fs f.1)

locals-places : (ls : List Local) (fs : ℕ → List Parameter) → AllLocalsFit ls fs → width_of_locals ls ≤ 4194304
locals-places [] fs f = omega arith
locals-places (l ∷ ls) fs f = omega (arith, f.0.narrow, locals-places ls fs f.1)

block-in : (ls : List Local) (ss : List Stmt) (fs : ℕ → List Parameter) (h : ℕ → Bool) → AllLocalsFit ls fs → AllStmtsFit ss fs h
    → FitsAs (counted (scope ls (map doing ss))) (max (width_of_locals ls) (most (map widest_place ss))) fs h
block-in ls ss fs h f g =
    let k = locals-keep ls fs f in
    let r = stmts-keep ss fs h g in
    record {
      keeps = composed-keeps (counted (scope ls (map doing ss))) (all_limits (map local_limits ls)) (map doing ss) fs h refl refl refl refl k r;
      places = omega (arith, locals-places ls fs f, stmts-places ss fs h g);
      held = r.held;
    }

pub block-fits : (r : Bool) (s : Stmt) (ls : List Local) (ss : List Stmt) (fs : ℕ → List Parameter) (h : ℕ → Bool) → s ≡ V.Block ls ss → AllLocalsFit ls fs → StmtsIf r ss fs h → StmtIf r s fs h
block-fits false s ls ss fs h is f g = tt
block-fits true s ls ss fs h is f g = by-form s (V.Block ls ss) _ _ fs h is (D.doing-Block ls ss) (P.place-Block ls ss) (block-in ls ss fs h f g)

-- `if`
if-in : (on : Expr) (body : Stmt) (other : Option Stmt) (fs : ℕ → List Parameter) (h : ℕ → Bool) → Fits (meaning on) fs (wide (meaning on)) → StmtFits body fs h → PerhapsFits other fs h
    → FitsAs (counted (branching (meaning on) (doing body) (perhaps other))) (max (widest_place body) (P.perhaps_place other)) fs h
if-in on body other fs h f g o =
    let r = add-part (doing body) (none_or (perhaps other)) fs h g.keeps g.held (perhaps-keep other fs h o) in
    record {
      keeps = composed-keeps (counted (branching (meaning on) (doing body) (perhaps other))) (limits_alone (meaning on)) (doing body ∷ none_or (perhaps other)) fs h refl refl refl refl (fit-limits (meaning on) fs (wide (meaning on)) f) r;
      places = omega (arith, g.places, perhaps-places other fs h o);
      held = r.held;
    }

pub if-fits : (r : Bool) (s : Stmt) (on : Expr) (body : Stmt) (other : Option Stmt) (fs : ℕ → List Parameter) (h : ℕ → Bool) → s ≡ V.If on body other → Fits (meaning on) fs (wide (meaning on)) → StmtFits body fs h → PerhapsIf r other fs h → StmtIf r s fs h
if-fits false s on body other fs h is f g o = tt
if-fits true s on body other fs h is f g o =
    by-form s (V.If on body other) _ _ fs h is (D.doing-If on body other ∙ ap (λ x. counted (branching (meaning on) (doing body) x)) (perhaps-is other)) (P.place-If on body other) (if-in on body other fs h f g o)

-- `case`
abbrev all_at : ℕ → List Meaning → Limits
all_at w ms = all_limits (map (limits_at w) ms)

wide-keep : (es : List Expr) (ms : List Meaning) (fs : ℕ → List Parameter) (w : ℕ) → AllFitWide es fs w → KeepLimits (all_at w ms) fs → KeepLimits (all_at w (map meaning es ++ ms)) fs
wide-keep [] ms fs w f r = r
wide-keep (e ∷ es) ms fs w f r = add-limits (limits_at w (meaning e)) (map (limits_at w) (map meaning es ++ ms)) fs (fit-limits (meaning e) fs w f.0) (wide-keep es ms fs w f.1 r)

values-keep : (is : List CaseItem) (fs : ℕ → List Parameter) (w : ℕ) → ItemsFitWide is fs w → KeepLimits (all_at w (values_of is)) fs
values-keep [] fs w f = no-limits fs
values-keep (i ∷ is) fs w f = wide-keep i.values (values_of is) fs w f.0 (values-keep is fs w f.1)

abbrev does_of : Item → Doing
does_of i = i.does

bodies-keep : (is : List CaseItem) (rest : List Doing) (fs : ℕ → List Parameter) (h : ℕ → Bool) → AllItemsFit is fs h → KeepParts rest fs h → KeepParts (map does_of (map item_of is) ++ rest) fs h
bodies-keep [] rest fs h f r = r
bodies-keep (i ∷ is) rest fs h f r =
    subst (λ (x : Item). KeepParts (x.does ∷ (map does_of (map item_of is) ++ rest)) fs h) (sym (item-of i)) (add-part (doing i.body) (map does_of (map item_of is) ++ rest) fs h f.0.keeps f.0.held (bodies-keep is rest fs h f.1 r))

items-places : (is : List CaseItem) (fs : ℕ → List Parameter) (h : ℕ → Bool) → AllItemsFit is fs h → most (map P.item_place is) ≤ 4194304
items-places [] fs h f = omega arith
items-places (i ∷ is) fs h f = omega (arith, P.item-place i, f.0.places, items-places is fs h f.1)

case-in : (kind : CaseKind) (on : Expr) (is : List CaseItem) (other : Option Stmt) (vs : List Meaning) (fs : ℕ → List Parameter) (h : ℕ → Bool) → flat_map (λ (i : Item). i.values) (map item_of is) ≡ vs
    → KeepLimits (all_at (widest_of (meaning on ∷ vs)) (meaning on ∷ vs)) fs → KeepParts (map does_of (map item_of is) ++ none_or (perhaps other)) fs h → Keeps (counted (selecting kind (meaning on) (map item_of is) (perhaps other))) fs
case-in kind on is other vs fs h values k r =
    let us = flat_map (λ (i : Item). i.values) (map item_of is) in
    composed-keeps (counted (selecting kind (meaning on) (map item_of is) (perhaps other))) (all_at (widest_of (meaning on ∷ us)) (meaning on ∷ us)) (map does_of (map item_of is) ++ none_or (perhaps other)) fs h refl refl refl refl
    (subst (λ xs. KeepLimits (all_at (widest_of (meaning on ∷ xs)) (meaning on ∷ xs)) fs) (sym values) k) r

pub case-fits : (r : Bool) (s : Stmt) (kind : CaseKind) (on : Expr) (is : List CaseItem) (other : Option Stmt) (fs : ℕ → List Parameter) (h : ℕ → Bool) → s ≡ V.Case kind on is other → CaseFits on is fs → AllItemsFit is fs h → PerhapsIf r other fs h → StmtIf r s fs h
case-fits false s kind on is other fs h at f g o = tt
case-fits true s kind on is other fs h at f g o =
    let w = widest_of (meaning on ∷ values_of is) in
    let k = add-limits (limits_at w (meaning on)) (map (limits_at w) (values_of is)) fs (fit-limits (meaning on) fs w f.selector) (values-keep is fs w f.values) in
    let r = bodies-keep is (none_or (perhaps other)) fs h g (perhaps-keep other fs h o) in
    by-form s (V.Case kind on is other) (counted (selecting kind (meaning on) (map item_of is) (perhaps other))) _ fs h at (D.doing-Case kind on is other ∙ ap (λ x. counted (selecting kind (meaning on) (map item_of is) x)) (perhaps-is other))
    (P.place-Case kind on is other) (record { keeps = case-in kind on is other (values_of is) fs h (values-are is) k r; places = omega (arith, items-places is fs h g, perhaps-places other fs h o); held = r.held })

-- loops
readable-by : (b : Bool) (n : ℕ) (h : Bool) → is_signal (local_number n) ≡ b → cond b h true ≡ true
readable-by true n h is = absurd (grind (arith, nat_tests))
readable-by false n h is = refl

local-readable : (n : ℕ) (h : ℕ → Bool) → can_read (Some (local_number n)) h ≡ true
local-readable n h = readable-by (is_signal (local_number n)) n (h (local_number n)) refl

record LoopBounds (x y z : Meaning) (fs : ℕ → List Parameter) : Type 0 where
  pub first : Fits x fs (assigned_width x.of.two_state x)
  pub test : Fits y fs (wide y)
  pub step : Fits z fs (assigned_width x.of.two_state z)

loop-in : (n : ℕ) (x y z : Meaning) (body : Stmt) (fs : ℕ → List Parameter) (h : ℕ → Bool) → LoopBounds x y z fs → StmtFits body fs h → FitsAs (looping n x y z (doing body)) (widest_place body) fs h
loop-in n x y z body fs h b g = record {
  keeps = record {
    typed = omega (arith, b.first.typed, b.test.typed, b.step.typed, g.keeps.typed);
    narrow = omega (arith, b.first.narrow, b.test.narrow, b.step.narrow, g.keeps.narrow);
    arithmetic = omega (arith, b.first.arithmetic, b.test.arithmetic, b.step.arithmetic, g.keeps.arithmetic);
    indexing = omega (arith, b.first.indexing, b.test.indexing, b.step.indexing, g.keeps.indexing);
  };
  places = g.places;
  held = (local-readable n h, g.held);
}

pub loop-fits : (r : Bool) (s : Stmt) (n : ℕ) (first test step : Expr) (body : Stmt) (spot : Spot) (fs : ℕ → List Parameter) (h : ℕ → Bool) → s ≡ V.Loop n first test step body spot → Bounds first test step fs → StmtIf r body fs h → StmtIf r s fs h
loop-fits false s n first test step body spot fs h is b g = tt
loop-fits true s n first test step body spot fs h is b g =
    let kind = sym (heads first).kind in
    let c : LoopBounds (meaning first) (meaning test) (meaning step) fs = record {
      first = subst (λ (l : Layout). Fits (meaning first) fs (assigned_width l.two_state (meaning first))) kind b.first;
      test = b.test;
      step = subst (λ (l : Layout). Fits (meaning step) fs (assigned_width l.two_state (meaning step))) kind b.step;
    } in
    by-form s (V.Loop n first test step body spot) _ _ fs h is (D.doing-Loop n first test step body spot) (P.place-Loop n first test step body spot) (loop-in n (meaning first) (meaning test) (meaning step) body fs h c g)

-- assignments
targets-keep : (es : List Expr) (fs : ℕ → List Parameter) → AllFit es fs → KeepLimits (all_limits (map limits_as_target (map meaning es))) fs
targets-keep [] fs f = no-limits fs
targets-keep (e ∷ es) fs f =
    add-limits (limits_as_target (meaning e)) (map limits_as_target (map meaning es)) fs (record { typed = f.0.typed; narrow = f.0.narrow; arithmetic = f.0.arithmetic; indexing = f.0.indexing }) (targets-keep es fs f.1)

assign-in : (to : List Expr) (value : Expr) (later : Bool) (fs : ℕ → List Parameter) (h : ℕ → Bool) → AssignFits to value fs h → FitsAs (counted (assigning (map meaning to) (meaning value) later)) (width_of_all (map meaning to)) fs h
assign-in to value later fs h f =
    let k = targets-keep to fs f.targets in
    let v = f.value in
    record {
      keeps = record { typed = omega (arith, k.typed, v.typed); narrow = omega (arith, k.narrow, v.narrow); arithmetic = omega (arith, k.arithmetic, v.arithmetic); indexing = omega (arith, k.indexing, v.indexing) };
      places = f.width;
      held = f.held;
    }

pub assign-fits : (r : Bool) (s : Stmt) (to : List Expr) (value : Expr) (later : Bool) (spot : Spot) (fs : ℕ → List Parameter) (h : ℕ → Bool) → s ≡ V.Assign to value later spot → AssignIf r to value fs h → StmtIf r s fs h
assign-fits false s to value later spot fs h is f = tt
assign-fits true s to value later spot fs h is f =
    by-form s (V.Assign to value later spot) _ _ fs h is (D.doing-Assign to value later spot) (P.place-Assign to value later spot) (assign-in to value later fs h f)

-- calls
record KeepActuals (ps : List Parameter) (es : List Expr) (fs : ℕ → List Parameter) (h : ℕ → Bool) : Type 0 where
  pub typed : (all_limits (map limits_alone (map meaning es))).misfits ≡ 0
  pub narrow : (all_limits (map limits_alone (map meaning es))).widest ≤ 4194304
  pub arithmetic : actual_arithmetic fs ps (map meaning es) ≤ 128
  pub indexing : (all_limits (map limits_alone (map meaning es))).indexing ≤ 64
  pub held : AllHeld (actual_roots ps (map meaning es)) h

actuals-keep : (ps : List Parameter) (es : List Expr) (fs : ℕ → List Parameter) (h : ℕ → Bool) → AllPassed ps es fs h → KeepActuals ps es fs h
actuals-keep [] [] fs h f = record { typed = refl; narrow = omega arith; arithmetic = omega arith; indexing = omega arith; held = tt }
actuals-keep (p ∷ ps) [] fs h f = record { typed = refl; narrow = omega arith; arithmetic = omega arith; indexing = omega arith; held = tt }
actuals-keep [] (e ∷ es) fs h f = absurd f
actuals-keep (p ∷ ps) (e ∷ es) fs h f =
    let r = actuals-keep ps es fs h f.1 in
    let g = f.0.passed in
    record {
      typed = omega (arith, g.typed, r.typed);
      narrow = omega (arith, g.narrow, r.narrow);
      arithmetic = omega (arith, g.arithmetic, r.arithmetic);
      indexing = omega (arith, g.indexing, r.indexing);
      held = held-append (roots_by_way p.way (meaning e)) (actual_roots ps (map meaning es)) h f.0.held r.held;
    }

place-Call : (f : ℕ) (es : List Expr) (spot : Spot) → widest_place (V.Call f es spot) ≡ 0
place-Call f es spot = search (rules, the_lemmas)

place-Break : widest_place V.Break ≡ 0
place-Break = search (rules, the_lemmas)

place-Continue : widest_place V.Continue ≡ 0
place-Continue = search (rules, the_lemmas)

place-Return : widest_place V.Return ≡ 0
place-Return = search (rules, the_lemmas)

call-in : (f : ℕ) (es : List Expr) (fs : ℕ → List Parameter) (h : ℕ → Bool) → AllPassed (fs f) es fs h → FitsAs (counted (calling f (map meaning es))) 0 fs h
call-in f es fs h g =
    let k = actuals-keep (fs f) es fs h g in
    record { keeps = record { typed = omega (arith, k.typed); narrow = omega (arith, k.narrow); arithmetic = k.arithmetic; indexing = omega (arith, k.indexing) }; places = omega arith; held = k.held }

pub call-fits : (r : Bool) (s : Stmt) (f : ℕ) (es : List Expr) (spot : Spot) (ps : List Parameter) (fs : ℕ → List Parameter) (h : ℕ → Bool) → s ≡ V.Call f es spot → ps ≡ fs f → PassesIf r ps es fs h → StmtIf r s fs h
call-fits false s f es spot ps fs h is same g = tt
call-fits true s f es spot ps fs h is same g =
    by-form s (V.Call f es spot) _ _ fs h is (D.doing-Call f es spot) (place-Call f es spot) (call-in f es fs h (subst (λ qs. AllPassed qs es fs h) same g))

-- jumps
jump-in : (d : Doing) (fs : ℕ → List Parameter) (h : ℕ → Bool) → d.misfits ≡ 0 → d.widest ≡ 0 → d.arithmetic fs ≡ 0 → d.indexing ≡ 0 → d.targets fs ≡ [] → FitsAs d 0 fs h
jump-in d fs h t n a i held = record { keeps = record { typed = t; narrow = omega arith; arithmetic = omega arith; indexing = omega arith }; places = omega arith; held = subst (λ xs. AllHeld xs h) (sym held) tt }

pub break-fits : (s : Stmt) (fs : ℕ → List Parameter) (h : ℕ → Bool) → s ≡ V.Break → StmtFits s fs h
break-fits s fs h is = by-form s V.Break _ _ fs h is D.doing-Break place-Break (jump-in (counted (jumping O.Break)) fs h refl refl refl refl refl)

pub continue-fits : (s : Stmt) (fs : ℕ → List Parameter) (h : ℕ → Bool) → s ≡ V.Continue → StmtFits s fs h
continue-fits s fs h is = by-form s V.Continue _ _ fs h is D.doing-Continue place-Continue (jump-in (counted (jumping O.Continue)) fs h refl refl refl refl refl)

pub return-fits : (s : Stmt) (fs : ℕ → List Parameter) (h : ℕ → Bool) → s ≡ V.Return → StmtFits s fs h
return-fits s fs h is = by-form s V.Return _ _ fs h is D.doing-Return place-Return (jump-in (counted (jumping O.Return)) fs h refl refl refl refl refl)

pub ruleset shapes = (block-fits, if-fits, case-fits, loop-fits, assign-fits, call-fits, break-fits, continue-fits, return-fits)
