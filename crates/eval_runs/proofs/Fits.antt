-- The parts of a statement that fits, fit.
use Rattle.std.proofs.Common.{◌≡◌, ℕ, zero, suc, ◌<◌, ◌≤◌, max, Bool, List, [], ◌∷◌, ◌++◌, map, flat_map, length, get_or, Option, Some, None, refl, arith, ap, ◌∙◌, subst}
use Rattle.sv_source.specs.declared.token.Spot.{Spot}
use Rattle.sv_types.specs.declared.expression.Expr.{Expr}
use Rattle.sv_types.specs.declared.statement.CaseKind.{CaseKind}
use Rattle.sv_types.specs.declared.statement.CaseItem.{CaseItem}
use Rattle.sv_types.specs.declared.statement.Local.{Local}
use Rattle.sv_types.specs.declared.statement.Stmt.{Stmt}
use Rattle.sv_types.specs.declared.statement.Stmt.TheVariants as V
use Rattle.sv_types.specs.Layouts.{Layout, layout}
use Rattle.sv_types.specs.Surroundings.{Parameter}
use Rattle.sv_types.specs.Meanings.{Meaning, most, total, wide}
use Rattle.sv_types.specs.Operators.{assigned_width, width_of_all}
use Rattle.sv_types.specs.Expressions.{meaning}
use Rattle.sv_types.specs.Runs.{widest_of}
use Rattle.sv_types.specs.Statements.{Doing, Item, Limits, doing, counted, scope, branching, selecting, looping, assigning, calling, made, limits_at, limits_alone, limits_as_target, all_limits, none_or, actual_arithmetic}
use Rattle.sv_types.proofs.DoingLevels as D
use Rattle.sv_types.proofs.DoingLevels.{item_of, item-of}
use Rattle.sv_types.proofs.Heads.{heads}
use Rattle.eval_parts.specs.Limits.{Fits, FitsAlone, AllFit}
use Rattle.eval_stmts.specs.Environments.{AllHeld}
use Rattle.eval_stmts.specs.Limits.{Keeps, StmtFits, AllStmtsFit, ScopeFits, PerhapsFits, AllItemsFit, perhaps, widest_place, width_of_locals}
use Rattle.eval_stmts.specs.Targets.{AssignFits, RoutineFits, ActualsFit, CaseFits, AllFitWide, ItemsFitWide, values_of}
use Rattle.eval_stmts.proofs.Fitting.{held-left, held-right, fits-at, scope-fits}
use Rattle.eval_stmts.proofs.Places as P
use Rattle.eval_stmts.proofs.Sizes.{nodes, item_nodes, item-nodes}
use Rattle.eval_runs.proofs.Levels.{perhaps-is, values-are}

-- what a statement keeps, by its form
abbrev FitsAs : Doing → ℕ → (ℕ → List Parameter) → (ℕ → Bool) → Type 0
FitsAs d n fs h = Keeps d fs × (n ≤ 4194304) × AllHeld (d.targets fs) h

as-form : (s f : Stmt) (d : Doing) (n : ℕ) (fs : ℕ → List Parameter) (h : ℕ → Bool) → s ≡ f → doing f ≡ d → widest_place f ≡ n → StmtFits s fs h → FitsAs d n fs h
as-form s f d n fs h is level place fit =
    let at = ap doing is ∙ level in
    (subst (λ (x : Doing). Keeps x fs) at fit.keeps, subst (λ k. k ≤ 4194304) (ap widest_place is ∙ place) fit.places, subst (λ (x : Doing). AllHeld (x.targets fs) h) at fit.held)

-- a statement that may be left out, from the sums over what there is
perhaps-fits : (o : Option Stmt) (fs : ℕ → List Parameter) (h : ℕ → Bool) → total (map (λ (d : Doing). d.misfits) (none_or (perhaps o))) ≡ 0 → most (map (λ (d : Doing). d.widest) (none_or (perhaps o))) ≤ 4194304
    → most (map (λ (d : Doing). d.arithmetic fs) (none_or (perhaps o))) ≤ 128 → most (map (λ (d : Doing). d.indexing) (none_or (perhaps o))) ≤ 64 → P.perhaps_place o ≤ 4194304
    → AllHeld (flat_map (λ (d : Doing). d.targets fs) (none_or (perhaps o))) h → PerhapsFits o fs h
perhaps-fits None fs h t n a i p held = tt
perhaps-fits (Some s) fs h t n a i p held = record {
  keeps = record { typed = omega arith; narrow = omega arith; arithmetic = omega arith; indexing = omega arith };
  places = p;
  held = held-left ((doing s).targets fs) [] h held;
}

-- an `if`
pub record IfFits (x : Expr) (s : Stmt) (o : Option Stmt) (fs : ℕ → List Parameter) (h : ℕ → Bool) : Type 0 where
  pub on : FitsAlone (meaning x) fs
  pub body : StmtFits s fs h
  pub other : PerhapsFits o fs h

if-fits-in : (on : Expr) (body : Stmt) (other : Option Stmt) (fs : ℕ → List Parameter) (h : ℕ → Bool)
    → FitsAs (counted (branching (meaning on) (doing body) (perhaps other))) (max (widest_place body) (P.perhaps_place other)) fs h → IfFits on body other fs h
if-fits-in on body other fs h f =
    let k = f.0 in
    record {
      on = fits-at on fs (wide (meaning on)) (omega arith) (omega (arith, k.typed)) (omega (arith, k.narrow)) (omega (arith, k.arithmetic)) (omega (arith, k.indexing));
      body = record {
        keeps = record { typed = omega (arith, k.typed); narrow = omega (arith, k.narrow); arithmetic = omega (arith, k.arithmetic); indexing = omega (arith, k.indexing) };
        places = omega (arith, f.1);
        held = held-left ((doing body).targets fs) (flat_map (λ (d : Doing). d.targets fs) (none_or (perhaps other))) h f.2;
      };
      other = perhaps-fits other fs h (omega (arith, k.typed)) (omega (arith, k.narrow)) (omega (arith, k.arithmetic)) (omega (arith, k.indexing)) (omega (arith, f.1))
          (held-right ((doing body).targets fs) (flat_map (λ (d : Doing). d.targets fs) (none_or (perhaps other))) h f.2);
    }

pub if-fits : (s : Stmt) (on : Expr) (body : Stmt) (other : Option Stmt) (fs : ℕ → List Parameter) (h : ℕ → Bool) → s ≡ V.If on body other → StmtFits s fs h → IfFits on body other fs h
if-fits s on body other fs h is f =
    if-fits-in on body other fs h
    (as-form s (V.If on body other) _ _ fs h is (D.doing-If on body other ∙ ap (λ o. counted (branching (meaning on) (doing body) o)) (perhaps-is other)) (P.place-If on body other) f)

-- a `case`
pub record SelectFits (x : Expr) (is : List CaseItem) (o : Option Stmt) (fs : ℕ → List Parameter) (h : ℕ → Bool) : Type 0 where
  pub on : CaseFits x is fs
  pub items : AllItemsFit is fs h
  pub other : PerhapsFits o fs h

abbrev all_at : ℕ → List Meaning → Limits
all_at w ms = all_limits (map (limits_at w) ms)

record KeepLimits (l : Limits) (fs : ℕ → List Parameter) : Type 0 where
  pub typed : l.misfits ≡ 0
  pub narrow : l.widest ≤ 4194304
  pub arithmetic : l.arithmetic fs ≤ 128
  pub indexing : l.indexing ≤ 64

first-keeps : (m : Meaning) (ms : List Meaning) (w : ℕ) (fs : ℕ → List Parameter) → KeepLimits (all_at w (m ∷ ms)) fs → KeepLimits (limits_at w m) fs
first-keeps m ms w fs k = record { typed = omega (arith, k.typed); narrow = omega (arith, k.narrow); arithmetic = omega (arith, k.arithmetic); indexing = omega (arith, k.indexing) }

rest-keep : (m : Meaning) (ms : List Meaning) (w : ℕ) (fs : ℕ → List Parameter) → KeepLimits (all_at w (m ∷ ms)) fs → KeepLimits (all_at w ms) fs
rest-keep m ms w fs k = record { typed = omega (arith, k.typed); narrow = omega (arith, k.narrow); arithmetic = omega (arith, k.arithmetic); indexing = omega (arith, k.indexing) }

by-limits : (e : Expr) (fs : ℕ → List Parameter) (w : ℕ) → wide (meaning e) ≤ w → KeepLimits (limits_at w (meaning e)) fs → Fits (meaning e) fs w
by-limits e fs w wider k = fits-at e fs w wider k.typed k.narrow k.arithmetic k.indexing

-- the values of one item, in front of others
wide-fit : (es : List Expr) (ms : List Meaning) (w : ℕ) (fs : ℕ → List Parameter) → widest_of (map meaning es ++ ms) ≤ w → KeepLimits (all_at w (map meaning es ++ ms)) fs → AllFitWide es fs w
wide-fit [] ms w fs wider k = tt
wide-fit (e ∷ es) ms w fs wider k =
    (by-limits e fs w (omega (arith, wider)) (first-keeps (meaning e) (map meaning es ++ ms) w fs k), wide-fit es ms w fs (omega (arith, wider)) (rest-keep (meaning e) (map meaning es ++ ms) w fs k))

behind-wide : (es : List Expr) (ms : List Meaning) (w : ℕ) → widest_of (map meaning es ++ ms) ≤ w → widest_of ms ≤ w
behind-wide [] ms w h = h
behind-wide (e ∷ es) ms w h = behind-wide es ms w (omega (arith, h))

behind-keep : (es : List Expr) (ms : List Meaning) (w : ℕ) (fs : ℕ → List Parameter) → KeepLimits (all_at w (map meaning es ++ ms)) fs → KeepLimits (all_at w ms) fs
behind-keep [] ms w fs k = k
behind-keep (e ∷ es) ms w fs k = behind-keep es ms w fs (rest-keep (meaning e) (map meaning es ++ ms) w fs k)

items-wide : (is : List CaseItem) (w : ℕ) (fs : ℕ → List Parameter) → widest_of (values_of is) ≤ w → KeepLimits (all_at w (values_of is)) fs → ItemsFitWide is fs w
items-wide [] w fs wider k = tt
items-wide (i ∷ is) w fs wider k =
    (wide-fit i.values (values_of is) w fs wider k, items-wide is w fs (behind-wide i.values (values_of is) w wider) (behind-keep i.values (values_of is) w fs k))

-- what parts keep, one in front of the others
abbrev does_of : Item → Doing
does_of i = i.does

record KeepParts (ds : List Doing) (fs : ℕ → List Parameter) : Type 0 where
  pub typed : total (map (λ (d : Doing). d.misfits) ds) ≡ 0
  pub narrow : most (map (λ (d : Doing). d.widest) ds) ≤ 4194304
  pub arithmetic : most (map (λ (d : Doing). d.arithmetic fs) ds) ≤ 128
  pub indexing : most (map (λ (d : Doing). d.indexing) ds) ≤ 64

first-part : (d : Doing) (ds : List Doing) (fs : ℕ → List Parameter) → KeepParts (d ∷ ds) fs → Keeps d fs
first-part d ds fs k = record { typed = omega (arith, k.typed); narrow = omega (arith, k.narrow); arithmetic = omega (arith, k.arithmetic); indexing = omega (arith, k.indexing) }

other-parts : (d : Doing) (ds : List Doing) (fs : ℕ → List Parameter) → KeepParts (d ∷ ds) fs → KeepParts ds fs
other-parts d ds fs k = record { typed = omega (arith, k.typed); narrow = omega (arith, k.narrow); arithmetic = omega (arith, k.arithmetic); indexing = omega (arith, k.indexing) }

abbrev bodies : List CaseItem → List Doing
bodies [] = []
bodies (i ∷ is) = doing i.body ∷ bodies is

bodies-are : (is : List CaseItem) → map does_of (map item_of is) ≡ bodies is
bodies-are [] = refl
bodies-are (i ∷ is) = ap (λ (x : Item). x.does ∷ map does_of (map item_of is)) (item-of i) ∙ ap (λ ds. doing i.body ∷ ds) (bodies-are is)

record ItemsKeep (is : List CaseItem) (rest : List Doing) (fs : ℕ → List Parameter) (h : ℕ → Bool) : Type 0 where
  pub parts : KeepParts (bodies is ++ rest) fs
  pub places : most (map P.item_place is) ≤ 4194304
  pub held : AllHeld (flat_map (λ (d : Doing). d.targets fs) (bodies is ++ rest)) h

items-fit : (is : List CaseItem) (rest : List Doing) (fs : ℕ → List Parameter) (h : ℕ → Bool) → ItemsKeep is rest fs h → AllItemsFit is fs h
items-fit [] rest fs h k = tt
items-fit (i ∷ is) rest fs h k =
    let d = doing i.body in
    let ds = bodies is ++ rest in
    let here : P.item_place i ≡ widest_place i.body = P.item-place i in (
      record { keeps = first-part d ds fs k.parts; places = omega (arith, k.places, here); held = held-left (d.targets fs) (flat_map (λ (x : Doing). x.targets fs) ds) h k.held },
      items-fit is rest fs h (record { parts = other-parts d ds fs k.parts; places = omega (arith, k.places); held = held-right (d.targets fs) (flat_map (λ (x : Doing). x.targets fs) ds) h k.held }),
    )

parts-behind : (is : List CaseItem) (rest : List Doing) (fs : ℕ → List Parameter) → KeepParts (bodies is ++ rest) fs → KeepParts rest fs
parts-behind [] rest fs k = k
parts-behind (i ∷ is) rest fs k = parts-behind is rest fs (other-parts (doing i.body) (bodies is ++ rest) fs k)

held-behind : (is : List CaseItem) (rest : List Doing) (fs : ℕ → List Parameter) (h : ℕ → Bool) → AllHeld (flat_map (λ (d : Doing). d.targets fs) (bodies is ++ rest)) h → AllHeld (flat_map (λ (d : Doing). d.targets fs) rest) h
held-behind [] rest fs h a = a
held-behind (i ∷ is) rest fs h a = held-behind is rest fs h (held-right ((doing i.body).targets fs) (flat_map (λ (d : Doing). d.targets fs) (bodies is ++ rest)) h a)

-- a `case` with its values and bodies in lists
abbrev keeps_select : Meaning → List Meaning → List Doing → (ℕ → List Parameter) → (ℕ → Bool) → Type 0
keeps_select m vs ds fs h = KeepLimits (all_at (widest_of (m ∷ vs)) (m ∷ vs)) fs × KeepParts ds fs × AllHeld (flat_map (λ (d : Doing). d.targets fs) ds) h

selecting-keeps : (kind : CaseKind) (m : Meaning) (is : List Item) (other : Option Doing) (fs : ℕ → List Parameter) (h : ℕ → Bool) → Keeps (counted (selecting kind m is other)) fs → AllHeld ((counted (selecting kind m is other)).targets fs) h
    → keeps_select m (flat_map (λ (i : Item). i.values) is) (map does_of is ++ none_or other) fs h
selecting-keeps kind m is other fs h k held = (
  record { typed = omega (arith, k.typed); narrow = omega (arith, k.narrow); arithmetic = omega (arith, k.arithmetic); indexing = omega (arith, k.indexing) },
  record { typed = omega (arith, k.typed); narrow = omega (arith, k.narrow); arithmetic = omega (arith, k.arithmetic); indexing = omega (arith, k.indexing) },
  held,
)

case-fits-in : (on : Expr) (is : List CaseItem) (other : Option Stmt) (fs : ℕ → List Parameter) (h : ℕ → Bool) → max (most (map P.item_place is)) (P.perhaps_place other) ≤ 4194304
    → keeps_select (meaning on) (values_of is) (bodies is ++ none_or (perhaps other)) fs h → SelectFits on is other fs h
case-fits-in on is other fs h p k =
    let m = meaning on in
    let w = widest_of (m ∷ values_of is) in
    let o = none_or (perhaps other) in
    let rest = parts-behind is o fs k.1 in
    record {
      on = record {
        selector = by-limits on fs w (omega arith) (first-keeps m (values_of is) w fs k.0);
        values = items-wide is w fs (omega arith) (rest-keep m (values_of is) w fs k.0);
      };
      items = items-fit is o fs h (record { parts = k.1; places = omega (arith, p); held = k.2 });
      other = perhaps-fits other fs h rest.typed rest.narrow rest.arithmetic rest.indexing (omega (arith, p)) (held-behind is o fs h k.2);
    }

pub case-fits : (s : Stmt) (kind : CaseKind) (on : Expr) (is : List CaseItem) (other : Option Stmt) (fs : ℕ → List Parameter) (h : ℕ → Bool) → s ≡ V.Case kind on is other → StmtFits s fs h → SelectFits on is other fs h
case-fits s kind on is other fs h at f =
    let items = map item_of is in
    let o = none_or (perhaps other) in
    let k = as-form s (V.Case kind on is other) (counted (selecting kind (meaning on) items (perhaps other))) _ fs h at (D.doing-Case kind on is other ∙ ap (λ x. counted (selecting kind (meaning on) items x)) (perhaps-is other)) (P.place-Case kind on is other) f in
    case-fits-in on is other fs h k.1
    (subst (λ vs. keeps_select (meaning on) vs (bodies is ++ o) fs h) (values-are is)
    (subst (λ ds. keeps_select (meaning on) (flat_map (λ (i : Item). i.values) items) (ds ++ o) fs h) (bodies-are is) (selecting-keeps kind (meaning on) items (perhaps other) fs h k.0 k.2)))

-- a loop
pub record LoopFits (x y z : Expr) (s : Stmt) (fs : ℕ → List Parameter) (h : ℕ → Bool) : Type 0 where
  pub first : Fits (meaning x) fs (assigned_width (layout x.of).two_state (meaning x))
  pub test : FitsAlone (meaning y) fs
  pub step : Fits (meaning z) fs (assigned_width (layout x.of).two_state (meaning z))
  pub body : StmtFits s fs h

loop-fits-in : (n : ℕ) (first test step : Expr) (body : Stmt) (fs : ℕ → List Parameter) (h : ℕ → Bool) → FitsAs (looping n (meaning first) (meaning test) (meaning step) (doing body)) (widest_place body) fs h → LoopFits first test step body fs h
loop-fits-in n first test step body fs h f =
    let k = f.0 in
    let x = meaning first in
    let z = meaning step in
    record {
      first = subst (λ (l : Layout). Fits x fs (assigned_width l.two_state x)) (heads first).kind
          (fits-at first fs (assigned_width x.of.two_state x) (omega arith) (omega (arith, k.typed)) (omega (arith, k.narrow)) (omega (arith, k.arithmetic)) (omega (arith, k.indexing)));
      test = fits-at test fs (wide (meaning test)) (omega arith) (omega (arith, k.typed)) (omega (arith, k.narrow)) (omega (arith, k.arithmetic)) (omega (arith, k.indexing));
      step = subst (λ (l : Layout). Fits z fs (assigned_width l.two_state z)) (heads first).kind
          (fits-at step fs (assigned_width x.of.two_state z) (omega arith) (omega (arith, k.typed)) (omega (arith, k.narrow)) (omega (arith, k.arithmetic)) (omega (arith, k.indexing)));
      body = record {
        keeps = record { typed = omega (arith, k.typed); narrow = omega (arith, k.narrow); arithmetic = omega (arith, k.arithmetic); indexing = omega (arith, k.indexing) };
        places = f.1;
        held = f.2.1;
      };
    }

pub loop-fits : (s : Stmt) (n : ℕ) (first test step : Expr) (body : Stmt) (spot : Spot) (fs : ℕ → List Parameter) (h : ℕ → Bool) → s ≡ V.Loop n first test step body spot → StmtFits s fs h → LoopFits first test step body fs h
loop-fits s n first test step body spot fs h is f =
    loop-fits-in n first test step body fs h (as-form s (V.Loop n first test step body spot) _ _ fs h is (D.doing-Loop n first test step body spot) (P.place-Loop n first test step body spot) f)

-- an assignment
targets-fit : (es : List Expr) (fs : ℕ → List Parameter) → KeepLimits (all_limits (map limits_as_target (map meaning es))) fs → AllFit es fs
targets-fit [] fs k = tt
targets-fit (e ∷ es) fs k = (
  fits-at e fs (wide (meaning e)) (omega arith) (omega (arith, k.typed)) (omega (arith, k.narrow)) (omega (arith, k.arithmetic)) (omega (arith, k.indexing)),
  targets-fit es fs (record { typed = omega (arith, k.typed); narrow = omega (arith, k.narrow); arithmetic = omega (arith, k.arithmetic); indexing = omega (arith, k.indexing) }),
)

assign-fits-in : (to : List Expr) (value : Expr) (later : Bool) (fs : ℕ → List Parameter) (h : ℕ → Bool) → FitsAs (counted (assigning (map meaning to) (meaning value) later)) (width_of_all (map meaning to)) fs h → AssignFits to value fs h
assign-fits-in to value later fs h f =
    let k = f.0 in
    let w = max (width_of_all (map meaning to)) (wide (meaning value)) in
    record {
      targets = targets-fit to fs (record { typed = omega (arith, k.typed); narrow = omega (arith, k.narrow); arithmetic = omega (arith, k.arithmetic); indexing = omega (arith, k.indexing) });
      value = fits-at value fs w (omega arith) (omega (arith, k.typed)) (omega (arith, k.narrow)) (omega (arith, k.arithmetic)) (omega (arith, k.indexing));
      width = f.1;
      held = f.2;
    }

pub assign-fits : (s : Stmt) (to : List Expr) (value : Expr) (later : Bool) (spot : Spot) (fs : ℕ → List Parameter) (h : ℕ → Bool) → s ≡ V.Assign to value later spot → StmtFits s fs h → AssignFits to value fs h
assign-fits s to value later spot fs h is f = assign-fits-in to value later fs h (as-form s (V.Assign to value later spot) _ _ fs h is (D.doing-Assign to value later spot) (P.place-Assign to value later spot) f)

-- a call
actuals-fit : (ps : List Parameter) (es : List Expr) (fs : ℕ → List Parameter) → (all_limits (map limits_alone (map meaning es))).misfits ≡ 0 → (all_limits (map limits_alone (map meaning es))).widest ≤ 4194304
    → actual_arithmetic fs ps (map meaning es) ≤ 128 → (all_limits (map limits_alone (map meaning es))).indexing ≤ 64 → ActualsFit ps es fs
actuals-fit [] es fs t n a i = tt
actuals-fit (p ∷ ps) [] fs t n a i = tt
actuals-fit (p ∷ ps) (e ∷ es) fs t n a i = (
  fits-at e fs (assigned_width p.two_state (meaning e)) (omega arith) (omega arith) (omega arith) (omega arith) (omega arith),
  actuals-fit ps es fs (omega arith) (omega arith) (omega arith) (omega arith),
)

call-fits-in : (f : ℕ) (es : List Expr) (fs : ℕ → List Parameter) (h : ℕ → Bool) → FitsAs (counted (calling f (map meaning es))) 0 fs h → RoutineFits f es fs h
call-fits-in f es fs h k = record { actuals = actuals-fit (fs f) es fs (omega (arith, k.0.typed)) (omega (arith, k.0.narrow)) (omega (arith, k.0.arithmetic)) (omega (arith, k.0.indexing)); held = k.2 }

pub call-fits : (s : Stmt) (f : ℕ) (es : List Expr) (spot : Spot) (fs : ℕ → List Parameter) (h : ℕ → Bool) → s ≡ V.Call f es spot → StmtFits s fs h → RoutineFits f es fs h
call-fits s f es spot fs h is k =
    let at = ap doing is ∙ D.doing-Call f es spot in
    call-fits-in f es fs h (subst (λ (x : Doing). Keeps x fs) at k.keeps, omega arith, subst (λ (x : Doing). AllHeld (x.targets fs) h) at k.held)

-- what stands for a replaced call
pub record MadeFits (ls : List Local) (ss : List Stmt) (o : Option Stmt) (fs : ℕ → List Parameter) (h : ℕ → Bool) : Type 0 where
  pub before : ScopeFits ls ss fs h
  pub body : PerhapsFits o fs h

front-fits : (xs ys : List Stmt) (fs : ℕ → List Parameter) (h : ℕ → Bool) → AllStmtsFit (xs ++ ys) fs h → AllStmtsFit xs fs h
front-fits [] ys fs h f = tt
front-fits (x ∷ xs) ys fs h f = (f.0, front-fits xs ys fs h f.1)

back-fits : (xs ys : List Stmt) (fs : ℕ → List Parameter) (h : ℕ → Bool) → AllStmtsFit (xs ++ ys) fs h → AllStmtsFit ys fs h
back-fits [] ys fs h f = f
back-fits (x ∷ xs) ys fs h f = back-fits xs ys fs h f.1

map-back : (xs : List Stmt) (y : Stmt) → map doing xs ++ doing y ∷ [] ≡ map doing (xs ++ y ∷ [])
map-back [] y = refl
map-back (x ∷ xs) y = ap (λ ds. doing x ∷ ds) (map-back xs y)

place-back : (xs : List Stmt) (y : Stmt) → most (map widest_place (xs ++ y ∷ [])) ≡ max (most (map widest_place xs)) (widest_place y)
place-back [] y = omega arith
place-back (x ∷ xs) y = omega (arith, place-back xs y)

made-fits-in : (ls : List Local) (before : List Stmt) (body : Option Stmt) (fs : ℕ → List Parameter) (h : ℕ → Bool)
    → FitsAs (made ls (map doing before) (perhaps body)) (max (width_of_locals ls) (max (most (map widest_place before)) (P.perhaps_place body))) fs h → MadeFits ls before body fs h
made-fits-in ls before None fs h f =
    let k : Keeps (scope ls (map doing before)) fs = record { typed = f.0.typed; narrow = f.0.narrow; arithmetic = f.0.arithmetic; indexing = f.0.indexing } in
    record { before = scope-fits ls before fs h k (omega (arith, f.1)) f.2; body = tt }
made-fits-in ls before (Some s) fs h f =
    let ss = before ++ s ∷ [] in
    let k : Keeps (scope ls (map doing before ++ doing s ∷ [])) fs = record { typed = f.0.typed; narrow = f.0.narrow; arithmetic = f.0.arithmetic; indexing = f.0.indexing } in
    let all = scope-fits ls ss fs h (subst (λ ds. Keeps (scope ls ds) fs) (map-back before s) k) (omega (arith, f.1, place-back before s)) (subst (λ ds. AllHeld ((scope ls ds).targets fs) h) (map-back before s) f.2) in
    record { before = record { locals = all.locals; body = front-fits before (s ∷ []) fs h all.body }; body = (back-fits before (s ∷ []) fs h all.body).0 }

pub made-fits : (s : Stmt) (ls : List Local) (before : List Stmt) (body : Option Stmt) (fs : ℕ → List Parameter) (h : ℕ → Bool) → s ≡ V.Made ls before body → StmtFits s fs h → MadeFits ls before body fs h
made-fits s ls before body fs h is f =
    made-fits-in ls before body fs h
    (as-form s (V.Made ls before body) _ _ fs h is (D.doing-Made ls before body ∙ ap (λ o. made ls (map doing before) o) (perhaps-is body)) (P.place-Made ls before body) f)

-- an item of a `case`
pub item-fits : (is : List CaseItem) (k : ℕ) (x : CaseItem) (fs : ℕ → List Parameter) (h : ℕ → Bool) → k < length is → AllItemsFit is fs h → StmtFits (get_or is k x).body fs h
item-fits [] k x fs h below f = absurd (omega arith)
item-fits (i ∷ is) zero x fs h below f = f.0
item-fits (i ∷ is) (suc k) x fs h below f = item-fits is k x fs h (omega arith) f.1

pub item-less : (is : List CaseItem) (k : ℕ) (x : CaseItem) → k < length is → nodes (get_or is k x).body ≤ total (map item_nodes is)
item-less [] k x below = absurd (omega arith)
item-less (i ∷ is) zero x below = omega (arith, item-nodes i)
item-less (i ∷ is) (suc k) x below = let h = item-less is k x (omega arith) in omega arith
